-- What is known of operations is kept where statements, procs and components are read.
use Rattle.std.proofs.Common.{true, false, List, [], ◌∷◌, Option, Some, None, subst, map}
use Rattle.sr_value.specs.declared.place.Span.{Span}
use Rattle.sr_names.specs.declared.spot.Spot.{Spot}
use Rattle.sr_names.specs.Noted.{Meanings}
use Rattle.sr_names.specs.Spots.{spot_of}
use Rattle.sr_tree.specs.declared.component.ProcItem.{ProcItem}
use Rattle.sr_tree.specs.declared.component.ProcItem.TheVariants as inner
use Rattle.sr_tree.specs.declared.declaration.ConstDecl.{ConstDecl}
use Rattle.sr_tree.specs.declared.declaration.VarDecl.{VarDecl}
use Rattle.sr_tree.specs.declared.name.Name.{Name}
use Rattle.sr_tree.specs.declared.statement.Quantifier.{Quantifier}
use Rattle.sr_tree.specs.declared.statement.Arm.{Arm}
use Rattle.sr_tree.specs.declared.statement.BlockItem.{BlockItem}
use Rattle.sr_tree.specs.declared.statement.BlockItem.TheOpen.{BlockItem-F, Statement-F}
use Rattle.sr_tree.specs.declared.statement.Branch.{Branch}
use Rattle.sr_tree.specs.declared.statement.CoArm.{CoArm}
use Rattle.sr_tree.specs.declared.statement.Statement.{Statement}
use Rattle.sr_types.specs.declared.signature.Param.{Param}
use Rattle.sr_types.specs.declared.ty.Ty.{Ty}
use Rattle.sr_types.specs.declared.ty.Ty.TheVariants as ty
use Rattle.sr_types.specs.declared.typed.Static.TheVariants.{Unknown}
use Rattle.sr_types.specs.Outcomes.{computed}
use Rattle.sr_check_expr.specs.declared.facts.Facts.{Facts}
use Rattle.sr_check_expr.specs.declared.info.Info.TheVariants as info
use Rattle.sr_check_decl.specs.declared.kind.NamedParam.{NamedParam}
use Rattle.sr_check_decl.specs.declared.kind.Signed.{Signed}
use Rattle.sr_check_decl.specs.Constants.{const_of}
use Rattle.sr_check_decl.specs.Declaring.{declare_name, params_declared}
use Rattle.sr_check_decl.specs.Entering.{ops_entered, written_entered}
use Rattle.sr_check_decl.specs.Variables.{variable, vars_type}
use Rattle.sr_check.specs.Components.{returned_declared, signed_declared, quantifiers_formal, proc_item_read, block_read}
use Rattle.sr_check.specs.Contexts.{Context, Steps, with_facts, looping, in_order}
use Rattle.sr_check.specs.Owners.{inner_owned, block_owned}
use Rattle.sr_check.specs.Quantifying.{quantified, quantifiers_known}
use Rattle.sr_check.specs.Services.{operation_named, type_of, names_bound, params_of, returned_bound, returns_of, type_or_none, service_bound}
use Rattle.sr_check.specs.Statements.{ArmSteps, CoArmSteps, arm_context, arms_at, co_arms_at, statement_read, block_item_read, arm_read, branch_read, co_arm_read, const_read, var_read}
use Rattle.sr_tree.proofs.StatementFolds.{ArmNode, BranchNode, ByParts, Claim, CoArmNode, ItemNode, Known, StatementNode, arm_folds, bare_arm, bare_branch, bare_co_arm, bare_item, bare_statement, branch_folds, co_arm_folds, each_arm, each_branch, each_co_arm, each_item, each_statement, from_arm, from_branch, from_co_arm, from_item, from_statement, item_folds, statement_folds}
use Rattle.sr_check.proofs.Each.{Each, each-parts}
use Rattle.sr_check.proofs.Entered.{keeps_written, keeps_ops}
use Rattle.sr_check.proofs.ReadFolds.{reading}
use Rattle.sr_check.proofs.Owners.{Allows, Meets, Sound, sound_with, sound_signatures, sound_vars, sound_ops, sound_sems, sound_params}

module _ (P : Meets) (uses : Meanings) (component : Spot) where
  abbrev pub Holds : Facts → Type 0
  Holds = Sound P uses component

  abbrev pub Keeps : Steps → Type 0
  Keeps steps = (context : Context) → Holds context.facts → Holds (steps context).facts

  value_with : (facts : Facts) (name : Name) (type : Ty) → Holds facts → Holds (declare_name facts name (variable type))
  value_with facts name type h = sound_with P uses component facts (spot_of name.span) (variable type) h tt

  -- ---- declarations

  pub keeps_const : (constant : ConstDecl) (facts : Facts) → Holds facts → Holds (const_read constant facts).facts
  keeps_const constant facts h =
      let after = written_entered constant.ty facts in
      sound_with P uses component after (spot_of constant.name.span) (info.Value (const_of false after constant)) (keeps_written Holds (sound_signatures P uses component) constant.ty facts h) tt

  pub keeps_var : (variables : VarDecl) (facts : Facts) → Holds facts → Holds (var_read variables facts).facts
  keeps_var variables facts h =
      let after = written_entered variables.ty facts in
      sound_vars P uses component (vars_type after variables.ty variables.values) variables.decls after (keeps_written Holds (sound_signatures P uses component) variables.ty facts h)

  -- ---- names that services and quantifiers declare

  keeps_names : (names : List Name) (params : List Param) (facts : Facts) → Holds facts → Holds (names_bound names params facts)
  keeps_names [] params facts h = h
  keeps_names (name ∷ names) [] facts h = keeps_names names [] (declare_name facts name (variable ty.Untyped)) (value_with facts name ty.Untyped h)
  keeps_names (name ∷ names) (param ∷ params) facts h = keeps_names names params (declare_name facts name (variable param.ty)) (value_with facts name param.ty h)

  keeps_returned : (returned : Option Name) (type : Ty) (facts : Facts) → Holds facts → Holds (returned_bound returned type facts)
  keeps_returned None type facts h = h
  keeps_returned (Some name) type facts h = value_with facts name type h

  pub keeps_service : (formals : List Name) (returned : Option Name) (type : Ty) (facts : Facts) → Holds facts → Holds (service_bound formals returned type facts)
  keeps_service formals returned type facts h =
      keeps_returned returned (type_or_none (returns_of facts.signatures type)) (names_bound formals (params_of facts.signatures type) facts) (keeps_names formals (params_of facts.signatures type) facts h)

  keeps_quantified : (facts : Facts) (name : Name) → Holds facts → Holds (quantified facts name)
  keeps_quantified facts name h = sound_with P uses component facts (spot_of name.span) (info.Value (computed ty.Int Unknown)) h tt

  pub keeps_quantifiers : (quantifiers : List Quantifier) (facts : Facts) → Holds facts → Holds (quantifiers_known facts quantifiers)
  keeps_quantifiers [] facts h = h
  keeps_quantifiers (quantifier ∷ more) facts h = keeps_quantifiers more (quantified facts quantifier.name) (keeps_quantified facts quantifier.name h)

  pub keeps_formal_quantifiers : (quantifiers : List Quantifier) (facts : Facts) → Holds facts → Holds (quantifiers_formal quantifiers facts)
  keeps_formal_quantifiers [] facts h = h
  keeps_formal_quantifiers (quantifier ∷ more) facts h = keeps_formal_quantifiers more (declare_name facts quantifier.name (variable ty.Int)) (value_with facts quantifier.name ty.Int h)

  keeps_returned_declared : (returned : Option NamedParam) (facts : Facts) → Holds facts → Holds (returned_declared returned facts)
  keeps_returned_declared None facts h = h
  keeps_returned_declared (Some returned) facts h = sound_with P uses component facts returned.spot (variable returned.ty) h tt

  pub keeps_signed_declared : (signed : Signed) (facts : Facts) → Holds facts → Holds (signed_declared signed facts)
  keeps_signed_declared signed facts h = keeps_returned_declared signed.returned (params_declared signed.params facts) (sound_params P uses component signed.params facts h)

  -- ---- statements

  -- what is known is kept through each tree
  abbrev ArmKeeps : ArmSteps → Type 0
  ArmKeeps arm = (span : Span) → Keeps (arm.steps span)

  abbrev CoArmKeeps : CoArmSteps → Type 0
  CoArmKeeps arm = (span : Span) → Keeps (arm span)

  abbrev kept : Claim
  kept = record {
    item = λ tree. Keeps (block_item_read tree);
    statement = λ tree. Keeps (statement_read tree);
    arm = λ tree. ArmKeeps (arm_read tree);
    branch = λ tree. Keeps (branch_read tree);
    co_arm = λ tree. CoArmKeeps (co_arm_read tree);
  }

  keeps_row : {X : Type 0} (read : X → Steps) (xs : List ((tree : X) × Keeps (read tree))) → Keeps (in_order (map read (map (λ x. x.0) xs)))
  keeps_row read [] context h = h
  keeps_row read (x ∷ xs) context h = keeps_row read xs (with_facts context (read x.0 context).facts) (x.1 context h)

  keeps_arms : (span : Span) (xs : List (Known kept.arm)) → Keeps (in_order (arms_at span (map arm_read (map (λ x. x.0) xs))))
  keeps_arms span [] context h = h
  keeps_arms span (x ∷ xs) context h = keeps_arms span xs (with_facts context ((arm_read x.0).steps span context).facts) (x.1 span context h)

  keeps_co_arms : (span : Span) (xs : List (Known kept.co_arm)) → Keeps (in_order (co_arms_at span (map co_arm_read (map (λ x. x.0) xs))))
  keeps_co_arms span [] context h = h
  keeps_co_arms span (x ∷ xs) context h = keeps_co_arms span xs (with_facts context (co_arm_read x.0 span context).facts) (x.1 span context h)

  item_node : (y : ItemNode kept) → Keeps (from_item reading (bare_item kept y))
  item_node (BlockItem-F.Const constant) context h = keeps_const constant context.facts h
  item_node (BlockItem-F.Var variables) context h = keeps_var variables context.facts h
  item_node (BlockItem-F.Statement statement) context h = statement.1 context h

  statement_node : (y : StatementNode kept) → Keeps (from_statement reading (bare_statement kept y))
  statement_node (Statement-F.If span branches None) context h = keeps_row branch_read branches context h
  statement_node (Statement-F.If span branches (Some items)) context h = keeps_row block_item_read items _ (keeps_row branch_read branches context h)
  statement_node (Statement-F.Do span branches None) context h = keeps_row branch_read branches (looping context) h
  statement_node (Statement-F.Do span branches (Some items)) context h = keeps_row block_item_read items _ (keeps_row branch_read branches (looping context) h)
  statement_node (Statement-F.ForAll span quantifiers block) context h =
      keeps_row block_item_read block (looping (with_facts context (quantifiers_known context.facts quantifiers))) (keeps_quantifiers quantifiers context.facts h)
  statement_node (Statement-F.In span arms None) context h = keeps_arms span arms context h
  statement_node (Statement-F.In span arms (Some items)) context h = keeps_row block_item_read items _ (keeps_arms span arms context h)
  statement_node (Statement-F.Co span arms) context h = keeps_co_arms span arms context h
  statement_node _ context h = h

  arm_node : (y : ArmNode kept) → ArmKeeps (from_arm reading (bare_arm kept y))
  arm_node y span context h =
      let operation = operation_named context.facts y.operation in
      keeps_row block_item_read y.block (arm_context context (spot_of y.operation.span) y.formals y.returned operation) (keeps_service y.formals y.returned (type_of operation) context.facts h)

  branch_node : (y : BranchNode kept) → Keeps (from_branch reading (bare_branch kept y))
  branch_node y context h = keeps_row block_item_read y.block context h

  co_arm_by : (y : CoArmNode kept) (block : Option (List (Known kept.item))) → CoArmKeeps (from_co_arm reading (bare_co_arm kept (record y { block = block })))
  co_arm_by y None span context h = keeps_quantifiers y.quantifiers context.facts h
  co_arm_by y (Some items) span context h =
      keeps_row block_item_read items (looping (with_facts context (quantifiers_known context.facts y.quantifiers))) (keeps_quantifiers y.quantifiers context.facts h)

  co_arm_node : (y : CoArmNode kept) → CoArmKeeps (from_co_arm reading (bare_co_arm kept y))
  co_arm_node y = co_arm_by y y.block

  by_parts : ByParts kept
  by_parts = record {
    item = λ y. subst Keeps (item_folds reading (bare_item kept y)) (item_node y);
    statement = λ y. subst Keeps (statement_folds reading (bare_statement kept y)) (statement_node y);
    arm = λ y. subst ArmKeeps (arm_folds reading (bare_arm kept y)) (arm_node y);
    branch = λ y. subst Keeps (branch_folds reading (bare_branch kept y)) (branch_node y);
    co_arm = λ y. subst CoArmKeeps (co_arm_folds reading (bare_co_arm kept y)) (co_arm_node y);
  }

  pub keeps_statement : (tree : Statement) → Keeps (statement_read tree)
  keeps_statement = each_statement kept by_parts

  pub keeps_block_item : (tree : BlockItem) → Keeps (block_item_read tree)
  keeps_block_item = each_item kept by_parts

  pub keeps_arm : (tree : Arm) (span : Span) → Keeps ((arm_read tree).steps span)
  keeps_arm = each_arm kept by_parts

  pub keeps_branch : (tree : Branch) → Keeps (branch_read tree)
  keeps_branch = each_branch kept by_parts

  pub keeps_co_arm : (tree : CoArm) (span : Span) → Keeps (co_arm_read tree span)
  keeps_co_arm = each_co_arm kept by_parts

  -- ---- items of procs

  pub keeps_inner : (item : ProcItem) → Each (Allows P) (inner_owned component item) → Keeps (proc_item_read item)
  keeps_inner (inner.Const constant) allowed context h = keeps_const constant context.facts h
  keeps_inner (inner.Var variables) allowed context h = keeps_var variables context.facts h
  keeps_inner (inner.Op operations) allowed context h =
      sound_ops P uses component true operations.items (ops_entered operations.items context.facts) allowed (keeps_ops Holds (sound_signatures P uses component) operations.items context.facts h)
  keeps_inner (inner.Sem semaphores) allowed context h = sound_sems P uses component true semaphores.semaphores context.facts allowed h
  keeps_inner (inner.Statement statement) allowed context h = keeps_statement statement context h

  keeps_inners : (items : List ProcItem) → Each (λ item. Each (Allows P) (inner_owned component item)) items → Keeps (block_read items)
  keeps_inners [] allowed context h = h
  keeps_inners (item ∷ items) allowed context h = keeps_inners items allowed.1 (with_facts context (proc_item_read item context).facts) (keeps_inner item allowed.0 context h)

  pub keeps_block : (items : List ProcItem) → Each (Allows P) (block_owned component items) → Keeps (block_read items)
  keeps_block items allowed = keeps_inners items (each-parts (Allows P) (inner_owned component) items allowed)
