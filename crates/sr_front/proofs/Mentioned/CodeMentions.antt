-- What code mentions passes a test that the scene passes, and all that the names in the code are in the core.
use Rattle.std.proofs.Common.{Bool, List, [], ◌∷◌, ◌++◌, Option, Some, None, IsTrue, flat_map, map, refl, subst}
use Rattle.std.proofs.lemmas.Bool.{and_from}
use Rattle.std.specs.List.{list_all}
use Rattle.sr_core.specs.declared.statement.Bump.TheVariants.{Increase, Decrease}
use Rattle.sr_core.specs.declared.statement.Action.TheVariants as action
use Rattle.sr_core.specs.declared.statement.Statement.{Statement}
use Rattle.sr_names.specs.Spots.{spot_of}
use Rattle.sr_order.specs.Names.{arm_names, block_item_names, block_names, branch_names, co_arm_names, condition_names, expr_names, invocation_names, item_names, name_names, names_spans, proc_item_names, quantifier_names, spec_item_names, statement_names, where_some}
use Rattle.sr_order.specs.Spans.{joined}
use Rattle.sr_tree.specs.declared.statement.Arm.{Arm as ArmTree}
use Rattle.sr_tree.specs.declared.statement.BlockItem.{BlockItem}
use Rattle.sr_tree.specs.declared.statement.BlockItem.TheOpen.{BlockItem-F, Statement-F}
use Rattle.sr_tree.specs.declared.statement.Branch.{Branch}
use Rattle.sr_tree.specs.declared.statement.CoArm.{CoArm as CoArmTree}
use Rattle.sr_tree.specs.declared.statement.Quantifier.{Quantifier as QuantifierTree}
use Rattle.sr_tree.specs.declared.statement.Statement.{Statement as StatementTree}
use Rattle.sr_value.specs.declared.place.Span.{Span}
use Rattle.sr_check_expr.specs.Meanings.{function_called, meant_by}
use Rattle.sr_tables.specs.Lists.{lists}
use Rattle.sr_tables.specs.Parts.{line_of, spot_named}
use Rattle.sr_lower_expr.specs.declared.scene.Scene.{Scene}
use Rattle.sr_lower_expr.specs.Expressions.{core_create, core_place, core_sending, core_value}
use Rattle.sr_lower_expr.specs.Places.{site_number, operation_expr, own_place}
use Rattle.sr_desugar.specs.Statements.{Block, all_made, block_made, blocks_of, co_call, core_arm, core_block_item, core_branch, core_co_arm, core_statement, forward_of, quantifiers_core, send_of, act}
use Rattle.sr_core.specs.declared.expression.Expr.TheVariants as core
use Rattle.sr_core.specs.declared.statement.Scope.TheVariants.{Own, Shared}
use Rattle.sr_core.specs.declared.statement.Statement.TheVariants.{Fa}
use Rattle.sr_tree.specs.declared.component.Item.{Item}
use Rattle.sr_tree.specs.declared.component.Item.TheVariants as item
use Rattle.sr_tree.specs.declared.component.Process.{Process}
use Rattle.sr_tree.specs.declared.component.ProcItem.{ProcItem}
use Rattle.sr_tree.specs.declared.component.ProcItem.TheVariants as inner
use Rattle.sr_tree.specs.declared.component.SpecItem.{SpecItem}
use Rattle.sr_tree.specs.declared.component.SpecItem.TheVariants as spec
use Rattle.sr_tables.specs.declared.sites.Mention.{Mention}
use Rattle.sr_tables.specs.Sites.{mentions_at, mentions_in, mentions_in_argument}
use Rattle.sr_desugar.specs.Bodies.{all_code, body_made, inner_made, item_output, item_outputs, process_send, process_sends, quantifier_argument, spec_item_core}
use Rattle.sr_desugar.specs.Core.{spec_code}
use Rattle.sr_check.proofs.Each.{each-left, each-right}
use Rattle.sr_lower_expr.proofs.Each.{both_pass, made_passes}
use Rattle.sr_front.specs.Imports.{arguments_mentions}
use Rattle.sr_desugar.proofs.CodeFold.{making}
use Rattle.sr_order.proofs.NameFolds.{naming}
use Rattle.sr_front.proofs.Mentioned.CodeRules.{arm_passes, arm_rule, block_passes, block_rule, branch_passes, branch_rule, co_rule, do_else_rule, do_rule, fa_rule, if_rule, in_rule, one_passes}
use Rattle.sr_front.proofs.Mentioned.MentionRules.{argument_passes, load_rule, rows, val_rule}
use Rattle.sr_front.proofs.Mentioned.Mentions.{Means, NamePasses, NamesPass, operation_expr_passes, own_place_passes}
use Rattle.sr_front.proofs.Mentioned.PartMentions.{act_passes, call_made_passes, co_call_passes, const_passes, create_of, forward_passes, quantifiers_pass, receive_passes, semaphores_pass, send_passes, value_passes, vars_pass, written_passes}
use Rattle.sr_tree.proofs.StatementFolds.{ArmNode, BranchNode, ByParts, Claim, CoArmNode, ItemNode, Known, StatementNode, arm_folds, bare_arm, bare_branch, bare_co_arm, bare_item, bare_statement, branch_folds, co_arm_folds, each_statement, from_arm, from_branch, from_co_arm, from_item, from_statement, item_folds, statement_folds}

abbrev sends_by : Scene → Process → List QuantifierTree → Statement
sends_by scene process [] = act process.span (process_send scene process)
sends_by scene process (quantifier ∷ more) =
    Fa (line_of process.span) (quantifiers_core scene (quantifier ∷ more)) (act process.span (process_send scene process) ∷ [])

module _ (scene : Scene) (test : Mention → Bool) (means : Means scene test) where
  -- ---- what is made of a tree passes

  abbrev Name : Span → Type 0
  Name = NamePasses scene test means

  abbrev Names : List Span → Type 0
  Names = NamesPass scene test means

  abbrev AllOne : Block → Type 0
  AllOne block = IsTrue (list_all (one_passes test) block)

  abbrev ItemGood : BlockItem → Type 0
  ItemGood tree = Names (block_item_names tree) → AllOne (core_block_item scene tree).made

  abbrev StatementGood : StatementTree → Type 0
  StatementGood tree = Names (statement_names tree) → IsTrue (one_passes test (core_statement scene tree).made)

  abbrev ArmGood : ArmTree → Type 0
  ArmGood tree = Names (arm_names tree) → IsTrue (block_passes test (core_arm scene tree).made.block)

  abbrev BranchGood : Branch → Type 0
  BranchGood tree = Names (branch_names tree) → IsTrue (branch_passes test (core_branch scene tree).made)

  abbrev CoArmGood : CoArmTree → Type 0
  CoArmGood tree = Names (co_arm_names tree) → IsTrue (arm_passes test (core_co_arm scene tree).made)

  abbrev good : Claim
  good = record { item = ItemGood; statement = StatementGood; arm = ArmGood; branch = BranchGood; co_arm = CoArmGood }

  -- ---- lists of parts

  abbrev items_names : List (Known ItemGood) → List Span
  items_names items = joined (map block_item_names (map (λ (t : Known ItemGood). t.0) items))

  abbrev branches_names : List (Known BranchGood) → List Span
  branches_names branches = joined (map branch_names (map (λ (t : Known BranchGood). t.0) branches))

  abbrev arms_names : List (Known ArmGood) → List Span
  arms_names arms = joined (map arm_names (map (λ (t : Known ArmGood). t.0) arms))

  items_good : (items : List (Known ItemGood)) → Names (items_names items) → AllOne (lists (all_made (map (core_block_item scene) (map (λ (t : Known ItemGood). t.0) items))))
  items_good [] names = refl
  items_good (item ∷ items) names =
      both_pass (one_passes test) (core_block_item scene item.0).made (lists (all_made (map (core_block_item scene) (map (λ (t : Known ItemGood). t.0) items))))
      (item.1 (each-left Name (block_item_names item.0) _ names)) (items_good items (each-right Name (block_item_names item.0) _ names))

  block_good : (items : List (Known ItemGood)) → Names (items_names items) → IsTrue (block_passes test (block_made (map (core_block_item scene) (map (λ (t : Known ItemGood). t.0) items))).made)
  block_good items names = block_rule test (lists (all_made (map (core_block_item scene) (map (λ (t : Known ItemGood). t.0) items)))) (items_good items names)

  branches_good : (branches : List (Known BranchGood)) → Names (branches_names branches) → IsTrue (list_all (branch_passes test) (all_made (map (core_branch scene) (map (λ (t : Known BranchGood). t.0) branches))))
  branches_good [] names = refl
  branches_good (branch ∷ branches) names = and_from _ _ (branch.1 (each-left Name (branch_names branch.0) _ names)) (branches_good branches (each-right Name (branch_names branch.0) _ names))

  arms_good : (arms : List (Known ArmGood)) → Names (arms_names arms) → IsTrue (list_all (block_passes test) (blocks_of (map (core_arm scene) (map (λ (t : Known ArmGood). t.0) arms))))
  arms_good [] names = refl
  arms_good (arm ∷ arms) names = and_from _ _ (arm.1 (each-left Name (arm_names arm.0) _ names)) (arms_good arms (each-right Name (arm_names arm.0) _ names))

  co_arms_good : (arms : List (Known CoArmGood)) → Names (joined (map co_arm_names (map (λ (t : Known CoArmGood). t.0) arms))) → IsTrue (list_all (arm_passes test) (all_made (map (core_co_arm scene) (map (λ (t : Known CoArmGood). t.0) arms))))
  co_arms_good [] names = refl
  co_arms_good (arm ∷ arms) names = and_from _ _ (arm.1 (each-left Name (co_arm_names arm.0) _ names)) (co_arms_good arms (each-right Name (co_arm_names arm.0) _ names))

  -- ---- each tree, when its parts are so

  item_good : (y : ItemNode good) → Names (from_item naming (bare_item good y)) → AllOne (from_item (making scene) (bare_item good y)).made
  item_good (BlockItem-F.Const constant) names = const_passes scene test means Own constant names
  item_good (BlockItem-F.Var variables) names = vars_pass scene test means Own variables names
  item_good (BlockItem-F.Statement statement) names = and_from _ _ (statement.1 names) refl

  statement_good : (y : StatementNode good) → Names (from_statement naming (bare_statement good y)) → IsTrue (one_passes test (from_statement (making scene) (bare_statement good y)).made)
  statement_good (Statement-F.Skip span) names = act_passes scene test means span action.Skip refl
  statement_good (Statement-F.Exit span) names = act_passes scene test means span action.Exit refl
  statement_good (Statement-F.Next span) names = act_passes scene test means span action.Next refl
  statement_good (Statement-F.Return span) names = act_passes scene test means span action.Return refl
  statement_good (Statement-F.Reply span) names = act_passes scene test means span action.Reply refl
  statement_good (Statement-F.Stop span None) names = act_passes scene test means span (action.Stop None) refl
  statement_good (Statement-F.Stop span (Some status)) names = act_passes scene test means span (action.Stop (Some (core_value scene status))) (value_passes scene test means status names)
  statement_good (Statement-F.Call span with_call invocation) names = call_made_passes scene test means span invocation (function_called scene.facts invocation) names
  statement_good (Statement-F.Send span invocation) names = act_passes scene test means span (send_of scene (core_sending scene invocation)) (send_passes scene test means invocation names)
  statement_good (Statement-F.Forward span invocation) names = act_passes scene test means span (forward_of scene (core_sending scene invocation)) (forward_passes scene test means invocation names)
  statement_good (Statement-F.Receive span operation places) names = receive_passes scene test means span (meant_by scene.facts operation) places names.1
  statement_good (Statement-F.Assign span target value) names =
      act_passes scene test means span (action.Assign (core_place scene target) (core_value scene value))
      (both_pass test (mentions_at (core_place scene target)) (mentions_in (core_value scene value))
      (written_passes scene test means target (each-left Name (expr_names target) _ names)) (value_passes scene test means value (each-right Name (expr_names target) _ names)))
  statement_good (Statement-F.Exchange span left right) names =
      act_passes scene test means span (action.Swap (core_place scene left) (core_place scene right))
      (both_pass test (mentions_at (core_place scene left)) (mentions_at (core_place scene right))
      (written_passes scene test means left (each-left Name (expr_names left) _ names)) (written_passes scene test means right (each-right Name (expr_names left) _ names)))
  statement_good (Statement-F.Increment span target) names = act_passes scene test means span (action.Bump (core_place scene target) Increase) (written_passes scene test means target names)
  statement_good (Statement-F.Decrement span target) names = act_passes scene test means span (action.Bump (core_place scene target) Decrease) (written_passes scene test means target names)
  statement_good (Statement-F.If span branches None) names = if_rule test (line_of span) _ [] (branches_good branches (each-left Name (branches_names branches) [] names)) refl
  statement_good (Statement-F.If span branches (Some otherwise)) names =
      if_rule test (line_of span) _ _ (branches_good branches (each-left Name (branches_names branches) _ names)) (block_good otherwise (each-right Name (branches_names branches) _ names))
  statement_good (Statement-F.Do span branches None) names = do_rule test (line_of span) _ (branches_good branches (each-left Name (branches_names branches) [] names))
  statement_good (Statement-F.Do span branches (Some otherwise)) names =
      do_else_rule test (line_of span) _ _ (branches_good branches (each-left Name (branches_names branches) _ names)) (block_good otherwise (each-right Name (branches_names branches) _ names))
  statement_good (Statement-F.ForAll span quantifiers block) names =
      fa_rule test (line_of span) (quantifiers_core scene quantifiers) _
      (quantifiers_pass scene test means quantifiers (each-left Name (flat_map quantifier_names quantifiers) _ names)) (block_good block (each-right Name (flat_map quantifier_names quantifiers) _ names))
  statement_good (Statement-F.In span arms None) names = in_rule test (line_of span) (site_number scene (spot_of span)) _ [] (arms_good arms (each-left Name (arms_names arms) [] names)) refl
  statement_good (Statement-F.In span arms (Some otherwise)) names =
      in_rule test (line_of span) (site_number scene (spot_of span)) _ _ (arms_good arms (each-left Name (arms_names arms) _ names)) (block_good otherwise (each-right Name (arms_names arms) _ names))
  statement_good (Statement-F.Co span arms) names = co_rule test (line_of span) _ (co_arms_good arms names)
  statement_good (Statement-F.Destroy span target) names = act_passes scene test means span (action.Destroy (core_value scene target)) (value_passes scene test means target names)
  statement_good (Statement-F.Create span create) names = act_passes scene test means span (action.Evaluate (core_create scene create)) (create_of scene test means create names)

  arm_good : (y : ArmNode good) → Names (from_arm naming (bare_arm good y)) → IsTrue (block_passes test (from_arm (making scene) (bare_arm good y)).made.block)
  arm_good y names =
      let after = each-right Name (where_some name_names y.returned) _ (each-right Name (names_spans y.formals) _ names.1) in
      block_good y.block (each-right Name (where_some expr_names y.order) _ (each-right Name (where_some condition_names y.condition) _ after))

  branch_good : (y : BranchNode good) → Names (from_branch naming (bare_branch good y)) → IsTrue (branch_passes test (from_branch (making scene) (bare_branch good y)).made)
  branch_good y names =
      branch_rule test (core_value scene y.guard) _ (value_passes scene test means y.guard (each-left Name (expr_names y.guard) _ names)) (block_good y.block (each-right Name (expr_names y.guard) _ names))

  co_arm_by : (y : CoArmNode good) (block : Option (List (Known ItemGood))) → Names (from_co_arm naming (bare_co_arm good (record y { block = block })))
      → IsTrue (arm_passes test (from_co_arm (making scene) (bare_co_arm good (record y { block = block }))).made)
  co_arm_by y None names =
      let quantified = flat_map quantifier_names y.quantifiers in
      let after = each-right Name quantified _ names in
      let invoked = each-right Name (where_some expr_names y.target) _ after in
      arm_rule test (quantifiers_core scene y.quantifiers) (co_call scene y.target (core_sending scene y.invocation)) []
      (quantifiers_pass scene test means y.quantifiers (each-left Name quantified _ names))
      (co_call_passes scene test means y.target y.invocation (each-left Name (where_some expr_names y.target) _ after) (each-left Name (invocation_names y.invocation) _ invoked)) refl
  co_arm_by y (Some block) names =
      let quantified = flat_map quantifier_names y.quantifiers in
      let after = each-right Name quantified _ names in
      let invoked = each-right Name (where_some expr_names y.target) _ after in
      arm_rule test (quantifiers_core scene y.quantifiers) (co_call scene y.target (core_sending scene y.invocation)) _
      (quantifiers_pass scene test means y.quantifiers (each-left Name quantified _ names))
      (co_call_passes scene test means y.target y.invocation (each-left Name (where_some expr_names y.target) _ after) (each-left Name (invocation_names y.invocation) _ invoked))
      (block_good block (each-right Name (invocation_names y.invocation) _ invoked))

  co_arm_good : (y : CoArmNode good) → Names (from_co_arm naming (bare_co_arm good y)) → IsTrue (arm_passes test (from_co_arm (making scene) (bare_co_arm good y)).made)
  co_arm_good y = co_arm_by y y.block

  -- ---- all trees

  by_parts : ByParts good
  by_parts = record {
    item = λ y. subst (λ t. t) (λ i. Names (item_folds naming (bare_item good y) i) → AllOne (item_folds (making scene) (bare_item good y) i).made) (item_good y);
    statement = λ y. subst (λ t. t) (λ i. Names (statement_folds naming (bare_statement good y) i) → IsTrue (one_passes test (statement_folds (making scene) (bare_statement good y) i).made)) (statement_good y);
    arm = λ y. subst (λ t. t) (λ i. Names (arm_folds naming (bare_arm good y) i) → IsTrue (block_passes test (arm_folds (making scene) (bare_arm good y) i).made.block)) (arm_good y);
    branch = λ y. subst (λ t. t) (λ i. Names (branch_folds naming (bare_branch good y) i) → IsTrue (branch_passes test (branch_folds (making scene) (bare_branch good y) i).made)) (branch_good y);
    co_arm = λ y. subst (λ t. t) (λ i. Names (co_arm_folds naming (bare_co_arm good y) i) → IsTrue (arm_passes test (co_arm_folds (making scene) (bare_co_arm good y) i).made)) (co_arm_good y);
  }

  statement_mentions_pass : (tree : StatementTree) → StatementGood tree
  statement_mentions_pass = each_statement good by_parts

  -- ---- blocks of procs and final code

  inner_passes : (one : ProcItem) → Names (proc_item_names one) → IsTrue (list_all (one_passes test) (inner_made scene one).made)
  inner_passes (inner.Const constant) names = const_passes scene test means Own constant names
  inner_passes (inner.Var variables) names = vars_pass scene test means Own variables names
  inner_passes (inner.Op operations) names = refl
  inner_passes (inner.Sem semaphores) names = semaphores_pass scene test means semaphores.span semaphores.semaphores names
  inner_passes (inner.Statement statement) names = and_from _ _ (statement_mentions_pass statement names) refl

  inners_pass : (block : List ProcItem) → Names (block_names block) → IsTrue (list_all (one_passes test) (lists (all_made (map (inner_made scene) block))))
  inners_pass [] names = refl
  inners_pass (one ∷ block) names =
      both_pass (one_passes test) (inner_made scene one).made (lists (all_made (map (inner_made scene) block)))
      (inner_passes one (each-left Name (proc_item_names one) _ names)) (inners_pass block (each-right Name (proc_item_names one) _ names))

  pub body_passes : (block : List ProcItem) → Names (block_names block) → IsTrue (block_passes test (body_made scene block).made.block)
  body_passes block names = block_rule test (lists (all_made (map (inner_made scene) block))) (inners_pass block names)

  -- ---- initial code

  argument_passes_of : (quantifier : QuantifierTree) → IsTrue (argument_passes test (quantifier_argument scene quantifier))
  argument_passes_of quantifier =
      val_rule test (core.Load (own_place scene (spot_named quantifier.name)))
      (load_rule test (own_place scene (spot_named quantifier.name)) (own_place_passes scene test means (spot_named quantifier.name)))

  process_send_passes : (process : Process) → IsTrue (one_passes test (act process.span (process_send scene process)))
  process_send_passes process =
      act_passes scene test means process.span (process_send scene process)
      (both_pass test (mentions_in (operation_expr scene (spot_named process.name))) (arguments_mentions (map (quantifier_argument scene) process.quantifiers))
      (operation_expr_passes scene test means (spot_named process.name))
      (rows test mentions_in_argument (map (quantifier_argument scene) process.quantifiers) (made_passes (argument_passes test) (quantifier_argument scene) argument_passes_of process.quantifiers)))

  process_sends_pass : (process : Process) → Names (flat_map quantifier_names process.quantifiers) → IsTrue (one_passes test (process_sends scene process))
  process_sends_pass process = by process.quantifiers
    where
      by : (quantifiers : List QuantifierTree) → Names (flat_map quantifier_names quantifiers) → IsTrue (one_passes test (sends_by scene process quantifiers))
      by [] names = process_send_passes process
      by (quantifier ∷ more) names =
          fa_rule test (line_of process.span) (quantifiers_core scene (quantifier ∷ more)) (act process.span (process_send scene process) ∷ [])
          (quantifiers_pass scene test means (quantifier ∷ more) names)
          (block_rule test (act process.span (process_send scene process) ∷ []) (and_from _ _ (process_send_passes process) refl))

  spec_passes : (one : SpecItem) → Names (spec_item_names one) → IsTrue (list_all (one_passes test) (spec_item_core scene one))
  spec_passes (spec.Const constant) names = const_passes scene test means Shared constant names
  spec_passes (spec.Var variables) names = vars_pass scene test means Shared variables names
  spec_passes (spec.Sem semaphores) names = semaphores_pass scene test means semaphores.span semaphores.semaphores names
  spec_passes _ names = refl

  specs_pass : (specs : List SpecItem) → Names (flat_map spec_item_names specs) → IsTrue (list_all (one_passes test) (spec_code scene specs))
  specs_pass [] names = refl
  specs_pass (one ∷ specs) names =
      both_pass (one_passes test) (spec_item_core scene one) (spec_code scene specs)
      (spec_passes one (each-left Name (spec_item_names one) _ names)) (specs_pass specs (each-right Name (spec_item_names one) _ names))

  code_passes : (one : Item) → Names (item_names one) → IsTrue (list_all (one_passes test) (item_output scene one).code)
  code_passes (item.Spec declared) names = spec_passes declared names
  code_passes (item.Process process) names = and_from _ _ (process_sends_pass process (each-left Name (flat_map quantifier_names process.quantifiers) _ names.1)) refl
  code_passes (item.Statement statement) names = and_from _ _ (statement_mentions_pass statement names) refl
  code_passes _ names = refl

  codes_pass : (items : List Item) → Names (flat_map item_names items) → IsTrue (list_all (one_passes test) (all_code (item_outputs scene items)))
  codes_pass [] names = refl
  codes_pass (one ∷ items) names =
      both_pass (one_passes test) (item_output scene one).code (all_code (item_outputs scene items))
      (code_passes one (each-left Name (item_names one) _ names)) (codes_pass items (each-right Name (item_names one) _ names))

  pub initial_passes : (specs : List SpecItem) (items : List Item) → Names (flat_map spec_item_names specs) → Names (flat_map item_names items)
      → IsTrue (block_passes test (spec_code scene specs ++ all_code (item_outputs scene items)))
  initial_passes specs items in_specs in_items =
      block_rule test (spec_code scene specs ++ all_code (item_outputs scene items))
      (both_pass (one_passes test) (spec_code scene specs) (all_code (item_outputs scene items)) (specs_pass specs in_specs) (codes_pass items in_items))
