-- What declarations keep is kept where statements, procs and components are read.
use Rattle.std.proofs.Common.{List, [], ◌∷◌, Option, Some, None, map, flat_map, subst}
use Rattle.sr_value.specs.declared.place.Span.{Span}
use Rattle.sr_names.specs.declared.spot.Spot.{Spot}
use Rattle.sr_names.specs.Spots.{spot_of}
use Rattle.sr_order.specs.Names.{arm_names, block_item_names, branch_names, co_arm_names, condition_names, expr_names, invocation_names, name_names, names_spans, quantifier_names, statement_names, where_some}
use Rattle.sr_order.specs.Spans.{joined}
use Rattle.sr_tree.specs.declared.statement.Arm.{Arm}
use Rattle.sr_tree.specs.declared.statement.BlockItem.{BlockItem}
use Rattle.sr_tree.specs.declared.statement.BlockItem.TheOpen.{BlockItem-F, Statement-F}
use Rattle.sr_tree.specs.declared.statement.Branch.{Branch}
use Rattle.sr_tree.specs.declared.statement.CoArm.{CoArm}
use Rattle.sr_tree.specs.declared.statement.Statement.{Statement}
use Rattle.sr_check_expr.specs.declared.facts.Facts.{Facts}
use Rattle.sr_check.specs.Contexts.{Context, Steps, with_facts, looping, in_order}
use Rattle.sr_check.specs.Quantifying.{quantifiers_known}
use Rattle.sr_check.specs.Services.{operation_named, type_of}
use Rattle.sr_check.specs.Statements.{arm_context, arms_at, co_arms_at, statement_read, block_item_read, arm_read, branch_read, co_arm_read}
use Rattle.sr_check.proofs.Each.{Each, each-left, each-right}
use Rattle.sr_order.proofs.NameFolds.{naming}
use Rattle.sr_check.proofs.ReadFolds.{reading}
use Rattle.sr_front.proofs.Known.KeptBy.{KeptBy}
use Rattle.sr_front.proofs.Known.KeptNames as names
use Rattle.sr_front.proofs.Known.KeptNames.{Closed}
use Rattle.sr_tree.proofs.StatementFolds.{ArmNode, BranchNode, ByParts, Claim, CoArmNode, ItemNode, Known, StatementNode, arm_folds, bare_arm, bare_branch, bare_co_arm, bare_item, bare_statement, branch_folds, co_arm_folds, each_arm, each_branch, each_co_arm, each_item, each_statement, from_arm, from_branch, from_co_arm, from_item, from_statement, item_folds, statement_folds}

module _ (Q : Facts → Type 0) (Free Fit : Spot → Type 0) (closed : Closed Q Free Fit) where
  abbrev FreeName : Span → Type 0
  FreeName span = Free (spot_of span)

  abbrev AllFree : List Span → Type 0
  AllFree = Each FreeName

  -- what is kept where a construct is read that has these names
  abbrev Keeps : List Span → Steps → Type 0
  Keeps spans steps = AllFree spans → (context : Context) → Q context.facts → Q (steps context).facts

  abbrev ItemKeeps : BlockItem → Type 0
  ItemKeeps tree = Keeps (block_item_names tree) (block_item_read tree)

  abbrev StatementKeeps : Statement → Type 0
  StatementKeeps tree = Keeps (statement_names tree) (statement_read tree)

  abbrev ArmKeeps : Arm → Type 0
  ArmKeeps tree = (span : Span) → Keeps (arm_names tree) ((arm_read tree).steps span)

  abbrev BranchKeeps : Branch → Type 0
  BranchKeeps tree = Keeps (branch_names tree) (branch_read tree)

  abbrev CoArmKeeps : CoArm → Type 0
  CoArmKeeps tree = (span : Span) → Keeps (co_arm_names tree) (co_arm_read tree span)

  abbrev kept : Claim
  kept = record { item = ItemKeeps; statement = StatementKeeps; arm = ArmKeeps; branch = BranchKeeps; co_arm = CoArmKeeps }

  keeps_row : {X : Type 0} (names : X → List Span) (read : X → Steps) (xs : List ((tree : X) × Keeps (names tree) (read tree)))
      → Keeps (joined (map names (map (λ x. x.0) xs))) (in_order (map read (map (λ x. x.0) xs)))
  keeps_row names read [] free context h = h
  keeps_row names read (x ∷ xs) free context h =
      keeps_row names read xs (each-right FreeName (names x.0) _ free) (with_facts context (read x.0 context).facts) (x.1 (each-left FreeName (names x.0) _ free) context h)

  keeps_arms : (span : Span) (xs : List (Known ArmKeeps)) → Keeps (joined (map arm_names (map (λ x. x.0) xs))) (in_order (arms_at span (map arm_read (map (λ x. x.0) xs))))
  keeps_arms span [] free context h = h
  keeps_arms span (x ∷ xs) free context h =
      keeps_arms span xs (each-right FreeName (arm_names x.0) _ free) (with_facts context ((arm_read x.0).steps span context).facts) (x.1 span (each-left FreeName (arm_names x.0) _ free) context h)

  keeps_co_arms : (span : Span) (xs : List (Known CoArmKeeps)) → Keeps (joined (map co_arm_names (map (λ x. x.0) xs))) (in_order (co_arms_at span (map co_arm_read (map (λ x. x.0) xs))))
  keeps_co_arms span [] free context h = h
  keeps_co_arms span (x ∷ xs) free context h =
      keeps_co_arms span xs (each-right FreeName (co_arm_names x.0) _ free) (with_facts context (co_arm_read x.0 span context).facts) (x.1 span (each-left FreeName (co_arm_names x.0) _ free) context h)

  item_node : (y : ItemNode kept) → Keeps (from_item naming (bare_item kept y)) (from_item reading (bare_item kept y))
  item_node (BlockItem-F.Const constant) free context h = names.keeps_const Q Free Fit closed constant context.facts free h
  item_node (BlockItem-F.Var variables) free context h = names.keeps_var Q Free Fit closed variables context.facts free h
  item_node (BlockItem-F.Statement statement) free context h = statement.1 free context h

  statement_node : (y : StatementNode kept) → Keeps (from_statement naming (bare_statement kept y)) (from_statement reading (bare_statement kept y))
  statement_node (Statement-F.If span branches None) free context h =
      keeps_row branch_names branch_read branches (each-left FreeName (joined (map branch_names (map (λ (x : Known BranchKeeps). x.0) branches))) _ free) context h
  statement_node (Statement-F.If span branches (Some items)) free context h =
      keeps_row block_item_names block_item_read items (each-right FreeName (joined (map branch_names (map (λ (x : Known BranchKeeps). x.0) branches))) _ free) _
      (keeps_row branch_names branch_read branches (each-left FreeName (joined (map branch_names (map (λ (x : Known BranchKeeps). x.0) branches))) _ free) context h)
  statement_node (Statement-F.Do span branches None) free context h =
      keeps_row branch_names branch_read branches (each-left FreeName (joined (map branch_names (map (λ (x : Known BranchKeeps). x.0) branches))) _ free) (looping context) h
  statement_node (Statement-F.Do span branches (Some items)) free context h =
      keeps_row block_item_names block_item_read items (each-right FreeName (joined (map branch_names (map (λ (x : Known BranchKeeps). x.0) branches))) _ free) _
      (keeps_row branch_names branch_read branches (each-left FreeName (joined (map branch_names (map (λ (x : Known BranchKeeps). x.0) branches))) _ free) (looping context) h)
  statement_node (Statement-F.ForAll span quantifiers block) free context h =
      keeps_row block_item_names block_item_read block (each-right FreeName (flat_map quantifier_names quantifiers) _ free) (looping (with_facts context (quantifiers_known context.facts quantifiers)))
      (names.keeps_quantifiers Q Free Fit closed quantifiers context.facts (each-left FreeName (flat_map quantifier_names quantifiers) _ free) h)
  statement_node (Statement-F.In span arms None) free context h = keeps_arms span arms (each-left FreeName (joined (map arm_names (map (λ (x : Known ArmKeeps). x.0) arms))) _ free) context h
  statement_node (Statement-F.In span arms (Some items)) free context h =
      keeps_row block_item_names block_item_read items (each-right FreeName (joined (map arm_names (map (λ (x : Known ArmKeeps). x.0) arms))) _ free) _
      (keeps_arms span arms (each-left FreeName (joined (map arm_names (map (λ (x : Known ArmKeeps). x.0) arms))) _ free) context h)
  statement_node (Statement-F.Co span arms) free context h = keeps_co_arms span arms free context h
  statement_node _ free context h = h

  arm_node : (y : ArmNode kept) (span : Span) → Keeps (from_arm naming (bare_arm kept y)) ((from_arm reading (bare_arm kept y)).steps span)
  arm_node y span free context h =
      let operation = operation_named context.facts y.operation in
      let after = each-right FreeName (names_spans y.formals) _ free.1 in
      let block = each-right FreeName (where_some expr_names y.order) _ (each-right FreeName (where_some condition_names y.condition) _ (each-right FreeName (where_some name_names y.returned) _ after)) in
      keeps_row block_item_names block_item_read y.block block (arm_context context (spot_of y.operation.span) y.formals y.returned operation)
      (names.keeps_service Q Free Fit closed y.formals y.returned (type_of operation) context.facts (each-left FreeName (names_spans y.formals) _ free.1) (each-left FreeName (where_some name_names y.returned) _ after) h)

  branch_node : (y : BranchNode kept) → Keeps (from_branch naming (bare_branch kept y)) (from_branch reading (bare_branch kept y))
  branch_node y free context h = keeps_row block_item_names block_item_read y.block (each-right FreeName (expr_names y.guard) _ free) context h

  co_arm_by : (y : CoArmNode kept) (block : Option (List (Known ItemKeeps))) (span : Span)
      → Keeps (from_co_arm naming (bare_co_arm kept (record y { block = block }))) (from_co_arm reading (bare_co_arm kept (record y { block = block })) span)
  co_arm_by y None span free context h = names.keeps_quantifiers Q Free Fit closed y.quantifiers context.facts (each-left FreeName (flat_map quantifier_names y.quantifiers) _ free) h
  co_arm_by y (Some items) span free context h =
      let quantified = flat_map quantifier_names y.quantifiers in
      let after = each-right FreeName (invocation_names y.invocation) _ (each-right FreeName (where_some expr_names y.target) _ (each-right FreeName quantified _ free)) in
      keeps_row block_item_names block_item_read items after (looping (with_facts context (quantifiers_known context.facts y.quantifiers)))
      (names.keeps_quantifiers Q Free Fit closed y.quantifiers context.facts (each-left FreeName quantified _ free) h)

  co_arm_node : (y : CoArmNode kept) (span : Span) → Keeps (from_co_arm naming (bare_co_arm kept y)) (from_co_arm reading (bare_co_arm kept y) span)
  co_arm_node y = co_arm_by y y.block

  by_parts : ByParts kept
  by_parts = record {
    item = λ y. subst (λ t. t) (λ i. Keeps (item_folds naming (bare_item kept y) i) (item_folds reading (bare_item kept y) i)) (item_node y);
    statement = λ y. subst (λ t. t) (λ i. Keeps (statement_folds naming (bare_statement kept y) i) (statement_folds reading (bare_statement kept y) i)) (statement_node y);
    arm = λ y. subst (λ t. t) (λ i. (span : Span) → Keeps (arm_folds naming (bare_arm kept y) i) ((arm_folds reading (bare_arm kept y) i).steps span)) (arm_node y);
    branch = λ y. subst (λ t. t) (λ i. Keeps (branch_folds naming (bare_branch kept y) i) (branch_folds reading (bare_branch kept y) i)) (branch_node y);
    co_arm = λ y. subst (λ t. t) (λ i. (span : Span) → Keeps (co_arm_folds naming (bare_co_arm kept y) i) (co_arm_folds reading (bare_co_arm kept y) i span)) (co_arm_node y);
  }

  pub keeps_statement : (tree : Statement) → StatementKeeps tree
  keeps_statement = each_statement kept by_parts

  pub keeps_block_item : (tree : BlockItem) → ItemKeeps tree
  keeps_block_item = each_item kept by_parts

  pub keeps_arm : (tree : Arm) → ArmKeeps tree
  keeps_arm = each_arm kept by_parts

  pub keeps_branch : (tree : Branch) → BranchKeeps tree
  keeps_branch = each_branch kept by_parts

  pub keeps_co_arm : (tree : CoArm) → CoArmKeeps tree
  keeps_co_arm = each_co_arm kept by_parts

pub closed_by : (Q : Facts → Type 0) (Free Fit : Spot → Type 0) → Closed Q Free Fit → KeptBy Q Free
closed_by Q Free Fit closed = record {
  entered = closed.entered;
  service = λ formals returned type facts free free_returned. names.keeps_service Q Free Fit closed formals returned type facts free free_returned;
  quantifiers = λ quantifiers facts free. names.keeps_quantifiers Q Free Fit closed quantifiers facts free;
  statement = λ tree free context. keeps_statement Q Free Fit closed tree free context;
  block_item = λ tree free context. keeps_block_item Q Free Fit closed tree free context;
  branch = λ tree free context. keeps_branch Q Free Fit closed tree free context;
  arm = λ tree free span context. keeps_arm Q Free Fit closed tree span free context;
  co_arm = λ tree free span context. keeps_co_arm Q Free Fit closed tree span free context;
}
