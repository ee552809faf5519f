-- Where no rule is broken in a statement, what is made of it passes, where its parts do, and so do the sites in it.
use Rattle.std.proofs.Common.{Bool, true, false, List, [], ◌∷◌, ◌++◌, Option, Some, None, map, flat_map, IsTrue, refl, subst, is_some, if◌then◌else◌, append_assoc}
use Rattle.std.proofs.lemmas.Bool.{and_from, and_parts}
use Rattle.std.specs.List.{list_all}
use Rattle.sr_value.specs.declared.place.Span.{Span}
use Rattle.sr_check.proofs.ErrorFree.{error_free_first, error_free_second, rule_met}
use Rattle.sr_check.proofs.Each.{Each, each-left, each-right}
use Rattle.sr_check.specs.Contexts.{Context, Steps, in_order, looping, with_facts}
use Rattle.sr_check.specs.ErrorFree.{ErrorFree}
use Rattle.sr_check.specs.Invoking.{started_found}
use Rattle.sr_check.specs.Quantifying.{expr_with, quantifiers_found, quantifiers_known}
use Rattle.sr_check.specs.Services.{head_found, operation_named, type_of}
use Rattle.sr_check.specs.Statements.{arm_context, arm_read, arms_at, block_item_read, branch_read, co_arm_read, co_arms_at, guards_found, mixture_found, statement_read}
use Rattle.sr_check.specs.Uses.{condition_rule}
use Rattle.sr_check_decl.specs.Entering.{written_entered}
use Rattle.sr_check_expr.specs.declared.facts.Facts.{Facts}
use Rattle.sr_check_expr.specs.Exprs.{infer_expr, infer_invocation}
use Rattle.sr_check_expr.specs.Meanings.{function_called, meant_by}
use Rattle.sr_check_expr.specs.Typings.{valued}
use Rattle.sr_core.specs.declared.statement.Action.{Action}
use Rattle.sr_core.specs.declared.statement.Bump.{Bump}
use Rattle.sr_core.specs.declared.statement.Bump.TheVariants.{Increase, Decrease}
use Rattle.sr_core.specs.declared.statement.Scope.TheVariants as scope
use Rattle.sr_core.specs.declared.statement.Statement.{Statement as CoreStatement}
use Rattle.sr_desugar.specs.Statements.{WithSites, all_made, call_action, co_call, core_arm, core_block_item, core_branch, core_co_arm, core_statement, forward_of, quantifiers_core, send_of, act as core_act, all_sites, alone, arms_of, scope_of_arms}
use Rattle.sr_lower_expr.specs.declared.scene.Scene.{Scene}
use Rattle.sr_lower_expr.specs.Expressions.{core_create, core_place, core_sending, core_value}
use Rattle.sr_lower_expr.specs.Places.{site_number}
use Rattle.sr_names.specs.declared.spot.Spot.{Spot}
use Rattle.sr_names.specs.Spots.{spot_of}
use Rattle.sr_order.specs.Names.{arm_names, block_item_names, branch_names, co_arm_names, condition_names, expr_names, invocation_names, name_names, names_spans, quantifier_names, statement_names, where_some}
use Rattle.sr_order.specs.Spans.{joined}
use Rattle.sr_outline.specs.Numbers.{is_p, wait_operation, arm_in, arm_names as arm_owned, block_item_names as item_owned, branch_in, co_arm_in, co_arm_names as co_arm_owned, item_in, names_in, place_spots, quantifier_names as quantifier_spots, received_names, returned_names, statement_names as statement_owned}
use Rattle.sr_tables.specs.Lists.{lists}
use Rattle.sr_tables.specs.Parts.{line_of, spot_named}
use Rattle.sr_tree.specs.declared.expr.Expr.{Expr}
use Rattle.sr_tree.specs.declared.statement.Arm.{Arm}
use Rattle.sr_tree.specs.declared.statement.BlockItem.{BlockItem}
use Rattle.sr_tree.specs.declared.statement.BlockItem.TheOpen.{BlockItem-F, Statement-F}
use Rattle.sr_tree.specs.declared.statement.Branch.{Branch}
use Rattle.sr_tree.specs.declared.statement.CoArm.{CoArm}
use Rattle.sr_tree.specs.declared.statement.Quantifier.{Quantifier}
use Rattle.sr_tree.specs.declared.statement.Statement.{Statement}
use Rattle.sr_front.proofs.Known.InfosStay.{Reads as ReadsNames, reads_both, reads_nothing}
use Rattle.sr_front.proofs.Known.KeptBy.{Names}
use Rattle.sr_front.proofs.Lists.Placed.{Ending, Placed, const_start, placed_both, placed_first, placed_second, placed_third, reads_arms, reads_co_arms, reads_same, var_start}
use Rattle.sr_front.proofs.Mentioned.ReadsCode.{reads_arm, reads_block_item, reads_branch, reads_co_arm, reads_quantifiers, reads_row, reads_service}
use Rattle.sr_check.specs.Storing.{counter_found, counter_rule, exchange_rule}
use Rattle.sr_core.specs.declared.site.Site.{Site}
use Rattle.sr_lower_expr.proofs.Each.{both_pass}
use Rattle.sr_names.specs.declared.finding.Rule.TheVariants.{BadType}
use Rattle.sr_tree.specs.declared.name.Name.{Name}
use Rattle.sr_types.specs.Storing.{store_rule}
use Rattle.sr_front.proofs.Made.MadeHere.{HeldIn, KeptWhole, MadeParts, quantifiers_pass, with_rule}
use Rattle.sr_front.proofs.Made.MadeTests.{ArmFits, ArmsFit, BlockFits, BlocksFit, BranchFits, BranchesFit, CoArmFits, CoArmsFit, MadeRules, MadeTests, SitesPass, StatementFits}
use Rattle.sr_core.specs.declared.statement.Action.TheVariants as action
use Rattle.sr_desugar.proofs.CodeFold.{making}
use Rattle.sr_order.proofs.NameFolds.{naming}
use Rattle.sr_check.proofs.ReadFolds.{reading}
use Rattle.sr_tree.proofs.StatementFolds.{ArmNode, BranchNode, ByParts, Claim, CoArmNode, Fold, ItemNode, Known, StatementNode, arm_folds, bare_arm, bare_branch, bare_co_arm, bare_item, bare_statement, branch_folds, co_arm_folds, each_statement, from_arm, from_branch, from_co_arm, from_item, from_statement, item_folds, statement_folds}

module _ (scene : Scene) (tests : MadeTests) (rules : MadeRules tests) (H : Facts → Type 0) (Free Own : Spot → Type 0) (kept : KeptWhole H Free) (parts : MadeParts scene tests H Free Own) where
  abbrev FreeName : Span → Type 0
  FreeName span = Free (spot_of span)

  abbrev Here : List Span → Facts → Facts → Type 0
  Here = Placed Free scene.facts

  abbrev Owned : List Spot → Type 0
  Owned = Each Own

  quantifiers_good : (facts : Facts) (quantifiers : List Quantifier) → Here (flat_map quantifier_names quantifiers) facts (quantifiers_known facts quantifiers) → H facts → ErrorFree (quantifiers_found facts quantifiers)
      → IsTrue (list_all tests.quantifier (quantifiers_core scene quantifiers))
  quantifiers_good = quantifiers_pass scene tests rules H Free Own kept parts

  sites_both : (xs ys : List Site) → SitesPass tests xs → SitesPass tests ys → SitesPass tests (xs ++ ys)
  sites_both = both_pass tests.site

  either_fits : (b : Bool) (one other : WithSites CoreStatement) → StatementFits tests one → StatementFits tests other → StatementFits tests (if b then one else other)
  either_fits true one other first second = first
  either_fits false one other first second = second

  -- ---- trees

  -- what is made of a construct that is read, with these names and own spots, passes
  abbrev Fit : {M : Type 0} → (WithSites M → Type 0) → List Span → List Spot → Steps → WithSites M → Type 0
  Fit fits names owned steps made = (context : Context) → Here names context.facts (steps context).facts → Owned owned → H context.facts → ErrorFree (steps context).found → fits made

  abbrev ItemGood : BlockItem → Type 0
  ItemGood tree = Fit (BlockFits tests) (block_item_names tree) (item_in scene.facts tree) (block_item_read tree) (core_block_item scene tree)

  abbrev StatementGood : Statement → Type 0
  StatementGood tree = Fit (StatementFits tests) (statement_names tree) (names_in scene.facts tree) (statement_read tree) (core_statement scene tree)

  abbrev ArmGood : Arm → Type 0
  ArmGood tree = (span : Span) → Fit (ArmFits tests) (arm_names tree) (arm_in scene.facts tree) ((arm_read tree).steps span) (core_arm scene tree)

  abbrev BranchGood : Branch → Type 0
  BranchGood tree = Fit (BranchFits tests) (branch_names tree) (branch_in scene.facts tree) (branch_read tree) (core_branch scene tree)

  abbrev CoArmGood : CoArm → Type 0
  CoArmGood tree = (span : Span) → Fit (CoArmFits tests) (co_arm_names tree) (co_arm_in scene.facts tree) (co_arm_read tree span) (core_co_arm scene tree)

  abbrev good : Claim
  good = record { item = ItemGood; statement = StatementGood; arm = ArmGood; branch = BranchGood; co_arm = CoArmGood }

  abbrev owning : Fold (List Spot) (List Spot) (List Spot) (List Spot) (List Spot)
  owning = record { item = item_owned scene.facts; statement = statement_owned scene.facts; arm = arm_owned; branch = λ branch. lists branch.block; co_arm = co_arm_owned }

  abbrev trees_of_items : List (Known ItemGood) → List BlockItem
  trees_of_items = map (λ (e : Known ItemGood). e.0)

  abbrev trees_of_branches : List (Known BranchGood) → List Branch
  trees_of_branches = map (λ (e : Known BranchGood). e.0)

  abbrev trees_of_arms : List (Known ArmGood) → List Arm
  trees_of_arms = map (λ (e : Known ArmGood). e.0)

  abbrev trees_of_co_arms : List (Known CoArmGood) → List CoArm
  trees_of_co_arms = map (λ (e : Known CoArmGood). e.0)

  abbrev items_read : List BlockItem → Steps
  items_read trees = in_order (map block_item_read trees)

  abbrev branches_read : List Branch → Steps
  branches_read trees = in_order (map branch_read trees)

  abbrev arms_read : Span → List Arm → Steps
  arms_read span trees = in_order (arms_at span (map arm_read trees))

  abbrev co_arms_read : Span → List CoArm → Steps
  co_arms_read span trees = in_order (co_arms_at span (map co_arm_read trees))

  reads_items : (trees : List BlockItem) (context : Context) → ReadsNames (joined (map block_item_names trees)) context.facts (items_read trees context).facts
  reads_items trees context = reads_row block_item_names block_item_read reads_block_item trees context

  reads_branches : (trees : List Branch) (context : Context) → ReadsNames (joined (map branch_names trees)) context.facts (branches_read trees context).facts
  reads_branches trees context = reads_row branch_names branch_read reads_branch trees context

  items_good : (items : List (Known ItemGood)) (context : Context) → Here (joined (map block_item_names (trees_of_items items))) context.facts (items_read (trees_of_items items) context).facts → Owned (lists (map (item_in scene.facts) (trees_of_items items))) → H context.facts
      → ErrorFree (items_read (trees_of_items items) context).found → BlocksFit tests (map (core_block_item scene) (trees_of_items items))
  items_good [] context here own h whole = record { made = refl; sites = refl }
  items_good (item ∷ items) context here own h whole =
      let step = block_item_read item.0 context in
      let next = with_facts context step.facts in
      let trees = trees_of_items items in
      let end = (items_read trees next).facts in
      let both = placed_both Free scene.facts (block_item_names item.0) (joined (map block_item_names trees)) context.facts step.facts end (reads_block_item item.0 context) (reads_items trees next) here in
      let found = error_free_first step.found _ whole in
      let first = item.1 context both.0 (each-left Own (item_in scene.facts item.0) _ own) h found in
      let rest = items_good items next both.1 (each-right Own (item_in scene.facts item.0) _ own) (kept.block_item item.0 both.0.free context h found) (error_free_second step.found _ whole) in
      record {
        made = both_pass tests.one (core_block_item scene item.0).made (lists (all_made (map (core_block_item scene) trees))) first.made rest.made;
        sites = sites_both (core_block_item scene item.0).sites (all_sites (map (core_block_item scene) trees)) first.sites rest.sites;
      }

  branches_good : (branches : List (Known BranchGood)) (context : Context) → Here (joined (map branch_names (trees_of_branches branches))) context.facts (branches_read (trees_of_branches branches) context).facts → Owned (lists (map (branch_in scene.facts) (trees_of_branches branches)))
      → H context.facts → ErrorFree (branches_read (trees_of_branches branches) context).found → BranchesFit tests (map (core_branch scene) (trees_of_branches branches))
  branches_good [] context here own h whole = record { made = refl; sites = refl }
  branches_good (branch ∷ branches) context here own h whole =
      let step = branch_read branch.0 context in
      let next = with_facts context step.facts in
      let trees = trees_of_branches branches in
      let end = (branches_read trees next).facts in
      let both = placed_both Free scene.facts (branch_names branch.0) (joined (map branch_names trees)) context.facts step.facts end (reads_branch branch.0 context) (reads_branches trees next) here in
      let found = error_free_first step.found _ whole in
      let first = branch.1 context both.0 (each-left Own (branch_in scene.facts branch.0) _ own) h found in
      let rest = branches_good branches next both.1 (each-right Own (branch_in scene.facts branch.0) _ own) (kept.branch branch.0 both.0.free context h found) (error_free_second step.found _ whole) in
      record { made = and_from _ _ first.made rest.made; sites = sites_both (core_branch scene branch.0).sites (all_sites (map (core_branch scene) trees)) first.sites rest.sites }

  branches_keep : (branches : List (Known BranchGood)) → Names Free (joined (map branch_names (trees_of_branches branches))) → (context : Context) → H context.facts → ErrorFree (branches_read (trees_of_branches branches) context).found
      → H (branches_read (trees_of_branches branches) context).facts
  branches_keep [] free context h whole = h
  branches_keep (branch ∷ branches) free context h whole =
      let step = branch_read branch.0 context in
      branches_keep branches (each-right FreeName (branch_names branch.0) _ free) (with_facts context step.facts)
      (kept.branch branch.0 (each-left FreeName (branch_names branch.0) _ free) context h (error_free_first step.found _ whole)) (error_free_second step.found _ whole)

  arms_good : (span : Span) (arms : List (Known ArmGood)) (context : Context) → Here (joined (map arm_names (trees_of_arms arms))) context.facts (arms_read span (trees_of_arms arms) context).facts → Owned (lists (map (arm_in scene.facts) (trees_of_arms arms))) → H context.facts
      → ErrorFree (arms_read span (trees_of_arms arms) context).found → ArmsFit tests (map (core_arm scene) (trees_of_arms arms))
  arms_good span [] context here own h whole = record { blocks = refl; arms = refl; sites = refl }
  arms_good span (arm ∷ arms) context here own h whole =
      let step = (arm_read arm.0).steps span context in
      let next = with_facts context step.facts in
      let trees = trees_of_arms arms in
      let end = (arms_read span trees next).facts in
      let both = placed_both Free scene.facts (arm_names arm.0) (joined (map arm_names trees)) context.facts step.facts end (reads_arm arm.0 span context) (reads_arms span trees next) here in
      let found = error_free_first step.found _ whole in
      let first = arm.1 span context both.0 (each-left Own (arm_in scene.facts arm.0) _ own) h found in
      let rest = arms_good span arms next both.1 (each-right Own (arm_in scene.facts arm.0) _ own) (kept.arm arm.0 both.0.free span context h found) (error_free_second step.found _ whole) in
      record {
        blocks = and_from _ _ first.block rest.blocks;
        arms = and_from _ _ first.arm rest.arms;
        sites = sites_both (core_arm scene arm.0).sites (all_sites (map (core_arm scene) trees)) first.sites rest.sites;
      }

  arms_keep : (span : Span) (arms : List (Known ArmGood)) → Names Free (joined (map arm_names (trees_of_arms arms))) → (context : Context) → H context.facts → ErrorFree (arms_read span (trees_of_arms arms) context).found
      → H (arms_read span (trees_of_arms arms) context).facts
  arms_keep span [] free context h whole = h
  arms_keep span (arm ∷ arms) free context h whole =
      let step = (arm_read arm.0).steps span context in
      arms_keep span arms (each-right FreeName (arm_names arm.0) _ free) (with_facts context step.facts)
      (kept.arm arm.0 (each-left FreeName (arm_names arm.0) _ free) span context h (error_free_first step.found _ whole)) (error_free_second step.found _ whole)

  co_arms_good : (span : Span) (arms : List (Known CoArmGood)) (context : Context) → Here (joined (map co_arm_names (trees_of_co_arms arms))) context.facts (co_arms_read span (trees_of_co_arms arms) context).facts → Owned (lists (map (co_arm_in scene.facts) (trees_of_co_arms arms)))
      → H context.facts → ErrorFree (co_arms_read span (trees_of_co_arms arms) context).found → CoArmsFit tests (map (core_co_arm scene) (trees_of_co_arms arms))
  co_arms_good span [] context here own h whole = record { made = refl; sites = refl }
  co_arms_good span (arm ∷ arms) context here own h whole =
      let step = co_arm_read arm.0 span context in
      let next = with_facts context step.facts in
      let trees = trees_of_co_arms arms in
      let end = (co_arms_read span trees next).facts in
      let both = placed_both Free scene.facts (co_arm_names arm.0) (joined (map co_arm_names trees)) context.facts step.facts end (reads_co_arm arm.0 span context) (reads_co_arms span trees next) here in
      let found = error_free_first step.found _ whole in
      let first = arm.1 span context both.0 (each-left Own (co_arm_in scene.facts arm.0) _ own) h found in
      let rest = co_arms_good span arms next both.1 (each-right Own (co_arm_in scene.facts arm.0) _ own) (kept.co_arm arm.0 both.0.free span context h found) (error_free_second step.found _ whole) in
      record { made = and_from _ _ first.made rest.made; sites = sites_both (core_co_arm scene arm.0).sites (all_sites (map (core_co_arm scene) trees)) first.sites rest.sites }

  -- ---- each tree, when its parts are so

  item_good : (y : ItemNode good) → Fit (BlockFits tests) (from_item naming (bare_item good y)) (from_item owning (bare_item good y)) (from_item reading (bare_item good y)) (from_item (making scene) (bare_item good y))
  item_good (BlockItem-F.Const constant) context here own h whole =
      let held : HeldIn scene H (written_entered constant.ty context.facts) = (kept.const_type constant context.facts h whole, const_start Free scene.facts constant context.facts here) in
      record { made = parts.const (written_entered constant.ty context.facts) held false scope.Own constant here.free whole; sites = refl }
  item_good (BlockItem-F.Var variables) context here own h whole =
      let held : HeldIn scene H (written_entered variables.ty context.facts) = (kept.var_type variables context.facts h whole, var_start Free scene.facts variables context.facts here) in
      record { made = parts.var (written_entered variables.ty context.facts) held scope.Own variables here.free whole; sites = refl }
  item_good (BlockItem-F.Statement statement) context here own h whole =
      let one = statement.1 context here own h whole in
      record { made = and_from _ _ one.made refl; sites = one.sites }

  acted : (span : Span) (one : Action) → IsTrue (tests.action one) → StatementFits tests (alone (core_act span one))
  acted span one ok = record { made = rules.act_rule (line_of span) one ok; sites = refl }

  -- a place that is counted up or down
  bumped : (span : Span) (target : Expr) (bump : Bump) (context : Context) → Ending scene.facts context.facts → Names Free (expr_names target) → H context.facts → ErrorFree (counter_found context.facts span target) → StatementFits tests (alone (core_act span (action.Bump (core_place scene target) bump)))
  bumped span target bump context start free h whole =
      let to = infer_expr target context.facts in
      let met = rule_met (counter_rule to.typed_expr.typed) BadType span (error_free_second (valued to) _ whole) in
      acted span (action.Bump (core_place scene target) bump)
      (rules.actions.bumps (core_place scene target) bump (parts.place context.facts (h, start) target free (error_free_first (valued to) _ whole) (and_parts to.typed_expr.typed.is_place _ met).0))

  -- the places of a `receive`
  received : (span : Span) (operation : Name) (places : List Expr) → Owned (received_names scene.facts span operation places) → Owned (place_spots places)
  unfolding received_names
  received span operation places own = each-left Own (place_spots places) _ own

  statement_good : (y : StatementNode good) → Fit (StatementFits tests) (from_statement naming (bare_statement good y)) (from_statement owning (bare_statement good y)) (from_statement reading (bare_statement good y)) (from_statement (making scene) (bare_statement good y))
  statement_good (Statement-F.Skip span) context here own h whole = acted span action.Skip rules.actions.skips
  statement_good (Statement-F.Exit span) context here own h whole = acted span action.Exit rules.actions.exits
  statement_good (Statement-F.Next span) context here own h whole = acted span action.Next rules.actions.nexts
  statement_good (Statement-F.Return span) context here own h whole = acted span action.Return rules.actions.returns
  statement_good (Statement-F.Reply span) context here own h whole = acted span action.Reply rules.actions.replies
  statement_good (Statement-F.Stop span None) context here own h whole = acted span (action.Stop None) (rules.actions.stops None refl)
  statement_good (Statement-F.Stop span (Some status)) context here own h whole =
      acted span (action.Stop (Some (core_value scene status))) (rules.actions.stops (Some (core_value scene status)) (parts.value context.facts (h, here.start) status here.free (error_free_first (valued (infer_expr status context.facts)) _ whole)))
  statement_good (Statement-F.Call span with_call invocation) context here own h whole =
      either_fits (is_p (function_called scene.facts invocation)) _ _ (parts.wait span (wait_operation scene.facts span invocation))
      (acted span (call_action scene invocation (function_called scene.facts invocation)) (parts.call context (h, here.start) span invocation here.free whole))
  statement_good (Statement-F.Send span invocation) context here own h whole =
      acted span (send_of scene (core_sending scene invocation)) (parts.send context.facts (h, here.start) span invocation here.free whole)
  statement_good (Statement-F.Forward span invocation) context here own h whole =
      acted span (forward_of scene (core_sending scene invocation)) (parts.forward context (h, here.start) span invocation here.free whole)
  statement_good (Statement-F.Receive span operation places) context here own h whole =
      parts.receive context (h, here.start) span operation places here.free.1 (received span operation places own) whole
  statement_good (Statement-F.Assign span target source) context here own h whole =
      let to = infer_expr target context.facts in
      let from = infer_expr source context.facts in
      let after = error_free_second (valued to) _ whole in
      let met = rule_met (store_rule to.typed_expr.typed from.typed_expr.typed) BadType span (error_free_second (valued from) _ after) in
      acted span (action.Assign (core_place scene target) (core_value scene source))
      (rules.actions.assigns (core_place scene target) (core_value scene source)
      (parts.place context.facts (h, here.start) target (each-left FreeName (expr_names target) _ here.free) (error_free_first (valued to) _ whole) (and_parts to.typed_expr.typed.is_place _ met).0)
      (parts.value context.facts (h, here.start) source (each-right FreeName (expr_names target) _ here.free) (error_free_first (valued from) _ after)))
  statement_good (Statement-F.Exchange span left right) context here own h whole =
      let one = infer_expr left context.facts in
      let other = infer_expr right context.facts in
      let after = error_free_second (valued one) _ whole in
      let met = rule_met (exchange_rule one.typed_expr.typed other.typed_expr.typed) BadType span (error_free_second (valued other) _ after) in
      let both = and_parts (store_rule one.typed_expr.typed other.typed_expr.typed) _ met in
      acted span (action.Swap (core_place scene left) (core_place scene right))
      (rules.actions.swaps (core_place scene left) (core_place scene right)
      (parts.place context.facts (h, here.start) left (each-left FreeName (expr_names left) _ here.free) (error_free_first (valued one) _ whole) (and_parts one.typed_expr.typed.is_place _ both.0).0)
      (parts.place context.facts (h, here.start) right (each-right FreeName (expr_names left) _ here.free) (error_free_first (valued other) _ after) (and_parts other.typed_expr.typed.is_place _ both.1).0))
  statement_good (Statement-F.Increment span target) context here own h whole = bumped span target Increase context here.start here.free h whole
  statement_good (Statement-F.Decrement span target) context here own h whole = bumped span target Decrease context here.start here.free h whole
  statement_good (Statement-F.If span branches None) context here own h whole =
      let trees = trees_of_branches branches in
      let end = (branches_read trees context).facts in
      let first = placed_first Free scene.facts (joined (map branch_names trees)) [] context.facts end end (reads_branches trees context) (reads_nothing end) here in
      let one = branches_good branches context first (each-left Own (lists (map (branch_in scene.facts) trees)) [] own) h (error_free_first (branches_read trees context).found [] whole) in
      record { made = rules.if_rule (line_of span) _ [] one.made refl; sites = sites_both (all_sites (map (core_branch scene) trees)) [] one.sites refl }
  statement_good (Statement-F.If span branches (Some items)) context here own h whole =
      let trees = trees_of_branches branches in
      let others = trees_of_items items in
      let step = branches_read trees context in
      let next = with_facts context step.facts in
      let end = (items_read others next).facts in
      let both = placed_both Free scene.facts (joined (map branch_names trees)) (joined (map block_item_names others)) context.facts step.facts end (reads_branches trees context) (reads_items others next) here in
      let found = error_free_first step.found _ whole in
      let one = branches_good branches context both.0 (each-left Own (lists (map (branch_in scene.facts) trees)) _ own) h found in
      let rest = items_good items next both.1 (each-right Own (lists (map (branch_in scene.facts) trees)) _ own) (branches_keep branches both.0.free context h found) (error_free_second step.found _ whole) in
      record {
        made = rules.if_rule (line_of span) _ _ one.made rest.made;
        sites = sites_both (all_sites (map (core_branch scene) trees)) (all_sites (map (core_block_item scene) others)) one.sites rest.sites;
      }
  statement_good (Statement-F.Do span branches None) context here own h whole =
      let trees = trees_of_branches branches in
      let end = (branches_read trees (looping context)).facts in
      let first = placed_first Free scene.facts (joined (map branch_names trees)) [] context.facts end end (reads_branches trees (looping context)) (reads_nothing end) here in
      let one = branches_good branches (looping context) first (each-left Own (lists (map (branch_in scene.facts) trees)) [] own) h (error_free_first (branches_read trees (looping context)).found [] whole) in
      record { made = rules.do_rule (line_of span) _ one.made; sites = sites_both (all_sites (map (core_branch scene) trees)) [] one.sites refl }
  statement_good (Statement-F.Do span branches (Some items)) context here own h whole =
      let trees = trees_of_branches branches in
      let others = trees_of_items items in
      let step = branches_read trees (looping context) in
      let next = with_facts (looping context) step.facts in
      let end = (items_read others next).facts in
      let both = placed_both Free scene.facts (joined (map branch_names trees)) (joined (map block_item_names others)) context.facts step.facts end (reads_branches trees (looping context)) (reads_items others next) here in
      let found = error_free_first step.found _ whole in
      let one = branches_good branches (looping context) both.0 (each-left Own (lists (map (branch_in scene.facts) trees)) _ own) h found in
      let rest = items_good items next both.1 (each-right Own (lists (map (branch_in scene.facts) trees)) _ own) (branches_keep branches both.0.free (looping context) h found) (error_free_second step.found _ whole) in
      record {
        made = rules.do_else_rule (line_of span) _ _ one.made rest.made;
        sites = sites_both (all_sites (map (core_branch scene) trees)) (all_sites (map (core_block_item scene) others)) one.sites rest.sites;
      }
  statement_good (Statement-F.ForAll span quantifiers block) context here own h whole =
      let names = flat_map quantifier_names quantifiers in
      let trees = trees_of_items block in
      let known = quantifiers_known context.facts quantifiers in
      let next = looping (with_facts context known) in
      let end = (items_read trees next).facts in
      let both = placed_both Free scene.facts names (joined (map block_item_names trees)) context.facts known end (reads_quantifiers quantifiers context.facts) (reads_items trees next) here in
      let rest = items_good block next both.1 (each-right Own (quantifier_spots quantifiers) _ own) (kept.quantifiers quantifiers context.facts both.0.free h) (error_free_second (quantifiers_found context.facts quantifiers) _ whole) in
      record {
        made = rules.fa_rule (line_of span) (quantifiers_core scene quantifiers) _
            (quantifiers_good context.facts quantifiers both.0 h (error_free_first (quantifiers_found context.facts quantifiers) _ whole)) rest.made;
        sites = rest.sites;
      }
  statement_good (Statement-F.In span arms None) context here own h whole =
      let trees = trees_of_arms arms in
      let end = (arms_read span trees context).facts in
      let found = error_free_second (mixture_found context.facts span (map arm_read trees)) _ whole in
      let first = placed_first Free scene.facts (joined (map arm_names trees)) [] context.facts end end (reads_arms span trees context) (reads_nothing end) here in
      let one = arms_good span arms context first (each-left Own (lists (map (arm_in scene.facts) trees)) [] own) h (error_free_first (arms_read span trees context).found [] found) in
      record {
        made = rules.in_rule (line_of span) (site_number scene (spot_of span)) _ [] one.blocks refl;
        sites = and_from _ _ (rules.site_rule (scope_of_arms (map (core_arm scene) trees)) (arms_of (map (core_arm scene) trees)) false one.arms) (sites_both (all_sites (map (core_arm scene) trees)) [] one.sites refl);
      }
  statement_good (Statement-F.In span arms (Some items)) context here own h whole =
      let trees = trees_of_arms arms in
      let others = trees_of_items items in
      let step = arms_read span trees context in
      let next = with_facts context step.facts in
      let end = (items_read others next).facts in
      let found = error_free_second (mixture_found context.facts span (map arm_read trees)) _ whole in
      let both = placed_both Free scene.facts (joined (map arm_names trees)) (joined (map block_item_names others)) context.facts step.facts end (reads_arms span trees context) (reads_items others next) here in
      let met = error_free_first step.found _ found in
      let one = arms_good span arms context both.0 (each-left Own (lists (map (arm_in scene.facts) trees)) _ own) h met in
      let rest = items_good items next both.1 (each-right Own (lists (map (arm_in scene.facts) trees)) _ own) (arms_keep span arms both.0.free context h met) (error_free_second step.found _ found) in
      record {
        made = rules.in_rule (line_of span) (site_number scene (spot_of span)) _ _ one.blocks rest.made;
        sites = and_from _ _ (rules.site_rule (scope_of_arms (map (core_arm scene) trees)) (arms_of (map (core_arm scene) trees)) true one.arms) (sites_both (all_sites (map (core_arm scene) trees)) (all_sites (map (core_block_item scene) others)) one.sites rest.sites);
      }
  statement_good (Statement-F.Co span arms) context here own h whole =
      let one = co_arms_good span arms context here own h whole in
      record { made = rules.co_rule (line_of span) _ one.made; sites = one.sites }
  statement_good (Statement-F.Destroy span target) context here own h whole =
      acted span (action.Destroy (core_value scene target)) (rules.actions.destroys (core_value scene target) (parts.value context.facts (h, here.start) target here.free (error_free_first (valued (infer_expr target context.facts)) _ whole)))
  statement_good (Statement-F.Create span create) context here own h whole =
      acted span (action.Evaluate (core_create scene create)) (rules.actions.evaluates (core_create scene create) (parts.create context.facts (h, here.start) create here.free whole))

  arm_good : (y : ArmNode good) → (span : Span) → Fit (ArmFits tests) (from_arm naming (bare_arm good y)) (from_arm owning (bare_arm good y)) ((from_arm reading (bare_arm good y)).steps span) (from_arm (making scene) (bare_arm good y))
  arm_good y span context here own h whole =
      let operation = operation_named context.facts y.operation in
      let inner = arm_context context (spot_of y.operation.span) y.formals y.returned operation in
      let head = head_found context.facts context.procs span y.formals (is_some y.returned) operation in
      let after = error_free_second head _ whole in
      let trees = trees_of_items y.block in
      let end = (items_read trees inner).facts in
      let formals = names_spans y.formals in
      let returned = where_some name_names y.returned in
      let condition = where_some condition_names y.condition in
      let order = where_some expr_names y.order in
      let items = joined (map block_item_names trees) in
      let later = condition ++ (order ++ items) in
      let of_items = reads_items trees inner in
      let of_order = reads_both order items inner.facts inner.facts end (reads_same order inner.facts) of_items in
      let of_later = reads_both condition (order ++ items) inner.facts inner.facts end (reads_same condition inner.facts) of_order in
      let service = reads_service y.formals y.returned (type_of operation) context.facts in
      let of_all = subst (λ names. ReadsNames names context.facts end) (append_assoc formals returned later) (reads_both (formals ++ returned) later context.facts inner.facts end service of_later) in
      let named = placed_second Free scene.facts (y.operation.span ∷ []) (formals ++ (returned ++ later)) context.facts context.facts end (reads_same (y.operation.span ∷ []) context.facts) of_all here in
      let guarded = placed_third Free scene.facts formals returned later context.facts inner.facts end service of_later named in
      let ordered = placed_second Free scene.facts condition (order ++ items) inner.facts inner.facts end (reads_same condition inner.facts) of_order guarded in
      let block = placed_second Free scene.facts order items inner.facts inner.facts end (reads_same order inner.facts) of_items ordered in
      let holds = kept.service y.operation y.formals y.returned context.procs span context.facts (each-left FreeName formals _ named.free) (each-left FreeName returned _ (each-right FreeName formals _ named.free)) h (error_free_first head _ whole) in
      let rest = items_good y.block inner block (each-right Own (returned_names y.returned) _ (each-right Own (map spot_named y.formals) _ own)) holds (error_free_second (guards_found inner.facts y.condition y.order) _ after) in
      record {
        block = rules.block_rule (lists (all_made (map (core_block_item scene) trees))) rest.made;
        arm = parts.guards inner.facts (holds, guarded.start) y.condition y.order (each-left FreeName condition _ guarded.free) (each-left FreeName order _ ordered.free) (error_free_first (guards_found inner.facts y.condition y.order) _ after)
            y.span (meant_by scene.facts y.operation) y.formals y.returned;
        sites = rest.sites;
      }

  branch_good : (y : BranchNode good) → Fit (BranchFits tests) (from_branch naming (bare_branch good y)) (from_branch owning (bare_branch good y)) (from_branch reading (bare_branch good y)) (from_branch (making scene) (bare_branch good y))
  branch_good y context here own h whole =
      let trees = trees_of_items y.block in
      let block = placed_second Free scene.facts (expr_names y.guard) (joined (map block_item_names trees)) context.facts context.facts (items_read trees context).facts (reads_same (expr_names y.guard) context.facts) (reads_items trees context) here in
      let rest = items_good y.block context block own h (error_free_second (expr_with condition_rule context.facts y.guard) _ whole) in
      record {
        made = rules.branch_rule (core_value scene y.guard) _
            (with_rule scene tests rules H Free Own kept parts condition_rule context.facts (h, here.start) y.guard (each-left FreeName (expr_names y.guard) _ here.free) (error_free_first (expr_with condition_rule context.facts y.guard) _ whole)) rest.made;
        sites = rest.sites;
      }

  co_arm_by : (y : CoArmNode good) (block : Option (List (Known ItemGood))) (span : Span)
      → Fit (CoArmFits tests) (from_co_arm naming (bare_co_arm good (record y { block = block }))) (from_co_arm owning (bare_co_arm good (record y { block = block }))) ((from_co_arm reading (bare_co_arm good (record y { block = block }))) span) (from_co_arm (making scene) (bare_co_arm good (record y { block = block })))
  co_arm_by y None span context here own h whole =
      let known = quantifiers_known context.facts y.quantifiers in
      let names = flat_map quantifier_names y.quantifiers in
      let target = where_some expr_names y.target in
      let later = target ++ (invocation_names y.invocation ++ []) in
      let first = placed_first Free scene.facts names later context.facts known known (reads_quantifiers y.quantifiers context.facts) (reads_same later known) here in
      let rest = each-right FreeName names _ here.free in
      let holds = kept.quantifiers y.quantifiers context.facts first.free h in
      let after = error_free_second (quantifiers_found context.facts y.quantifiers) _ whole in
      record {
        made = rules.arm_rule (quantifiers_core scene y.quantifiers) (co_call scene y.target (core_sending scene y.invocation)) []
            (quantifiers_good context.facts y.quantifiers first h (error_free_first (quantifiers_found context.facts y.quantifiers) _ whole))
            (parts.started known (holds, first.end) span y.target y.invocation (each-left FreeName target _ rest)
            (each-left FreeName (invocation_names y.invocation) _ (each-right FreeName target _ rest))
            (error_free_first (started_found known span y.target (infer_invocation y.invocation known)) _ after)) refl;
        sites = refl;
      }
  co_arm_by y (Some items) span context here own h whole =
      let known = quantifiers_known context.facts y.quantifiers in
      let names = flat_map quantifier_names y.quantifiers in
      let target = where_some expr_names y.target in
      let invoked = invocation_names y.invocation in
      let trees = trees_of_items items in
      let next = looping (with_facts context known) in
      let end = (items_read trees next).facts in
      let of_items = reads_items trees next in
      let of_invoked = reads_both invoked (joined (map block_item_names trees)) known known end (reads_same invoked known) of_items in
      let of_later = reads_both target (invoked ++ joined (map block_item_names trees)) known known end (reads_same target known) of_invoked in
      let of_names = reads_quantifiers y.quantifiers context.facts in
      let both = placed_both Free scene.facts names (target ++ (invoked ++ joined (map block_item_names trees))) context.facts known end of_names of_later here in
      let called = placed_second Free scene.facts target (invoked ++ joined (map block_item_names trees)) known known end (reads_same target known) of_invoked both.1 in
      let block = placed_second Free scene.facts invoked (joined (map block_item_names trees)) known known end (reads_same invoked known) of_items called in
      let holds = kept.quantifiers y.quantifiers context.facts both.0.free h in
      let after = error_free_second (quantifiers_found context.facts y.quantifiers) _ whole in
      let rest = items_good items next block (each-right Own (quantifier_spots y.quantifiers) _ own) holds (error_free_second (started_found known span y.target (infer_invocation y.invocation known)) _ after) in
      record {
        made = rules.arm_rule (quantifiers_core scene y.quantifiers) (co_call scene y.target (core_sending scene y.invocation)) _
            (quantifiers_good context.facts y.quantifiers both.0 h (error_free_first (quantifiers_found context.facts y.quantifiers) _ whole))
            (parts.started known (holds, both.0.end) span y.target y.invocation (each-left FreeName target _ both.1.free)
            (each-left FreeName invoked _ called.free) (error_free_first (started_found known span y.target (infer_invocation y.invocation known)) _ after))
            rest.made;
        sites = rest.sites;
      }

  co_arm_good : (y : CoArmNode good) → (span : Span) → Fit (CoArmFits tests) (from_co_arm naming (bare_co_arm good y)) (from_co_arm owning (bare_co_arm good y)) ((from_co_arm reading (bare_co_arm good y)) span) (from_co_arm (making scene) (bare_co_arm good y))
  co_arm_good y = co_arm_by y y.block

  -- ---- all trees

  by_parts : ByParts good
  by_parts = record {
    item = λ y. subst (λ t. t) (λ i. Fit (BlockFits tests) (item_folds naming (bare_item good y) i) (item_folds owning (bare_item good y) i) (item_folds reading (bare_item good y) i) (item_folds (making scene) (bare_item good y) i)) (item_good y);
    statement = λ y. subst (λ t. t) (λ i. Fit (StatementFits tests) (statement_folds naming (bare_statement good y) i) (statement_folds owning (bare_statement good y) i) (statement_folds reading (bare_statement good y) i) (statement_folds (making scene) (bare_statement good y) i)) (statement_good y);
    arm = λ y. subst (λ t. t) (λ i. (span : Span) → Fit (ArmFits tests) (arm_folds naming (bare_arm good y) i) (arm_folds owning (bare_arm good y) i) ((arm_folds reading (bare_arm good y) i).steps span) (arm_folds (making scene) (bare_arm good y) i)) (arm_good y);
    branch = λ y. subst (λ t. t) (λ i. Fit (BranchFits tests) (branch_folds naming (bare_branch good y) i) (branch_folds owning (bare_branch good y) i) (branch_folds reading (bare_branch good y) i) (branch_folds (making scene) (bare_branch good y) i)) (branch_good y);
    co_arm = λ y. subst (λ t. t) (λ i. (span : Span) → Fit (CoArmFits tests) (co_arm_folds naming (bare_co_arm good y) i) (co_arm_folds owning (bare_co_arm good y) i) (co_arm_folds reading (bare_co_arm good y) i span) (co_arm_folds (making scene) (bare_co_arm good y) i)) (co_arm_good y);
  }

  pub statement_fits : (tree : Statement) → StatementGood tree
  statement_fits = each_statement good by_parts
