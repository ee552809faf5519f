-- Each number in what statements are in the core names something.
use Rattle.std.proofs.Common.{Bool, List, [], ◌∷◌, Option, Some, None, IsTrue, map, refl, subst}
use Rattle.std.proofs.lemmas.Bool.{and_from}
use Rattle.std.specs.List.{list_all}
use Rattle.sr_core.specs.declared.statement.Action.TheVariants as action
use Rattle.sr_core.specs.declared.statement.Bump.TheVariants.{Increase, Decrease}
use Rattle.sr_core.specs.declared.statement.CoArm.{CoArm}
use Rattle.sr_core.specs.declared.statement.Guarded.{Guarded}
use Rattle.sr_core.specs.declared.statement.Statement.{Statement}
use Rattle.sr_core.specs.Numbers.{Where, block_ok}
use Rattle.sr_names.specs.declared.spot.Spot.{Spot}
use Rattle.sr_names.specs.Spots.{spot_of}
use Rattle.sr_tree.specs.declared.statement.BlockItem.TheOpen.{BlockItem-F, Statement-F}
use Rattle.sr_tree.specs.declared.statement.Statement.{Statement as StatementTree}
use Rattle.sr_tree.proofs.StatementFolds.{ArmNode, BranchNode, ByParts, Claim, CoArmNode, Fold, ItemNode, Known, StatementNode, arm_folds, bare_arm, bare_branch, bare_co_arm, bare_item, bare_statement, branch_folds, co_arm_folds, each_statement, from_arm, from_branch, from_co_arm, from_item, from_statement, item_folds, statement_folds}
use Rattle.sr_check_expr.specs.Meanings.{function_called, meant_by}
use Rattle.sr_outline.specs.Numbers.{arm_in, branch_in, co_arm_in, item_in, names_in, quantifier_names, returned_names}
use Rattle.sr_tables.specs.Lists.{lists}
use Rattle.sr_tables.specs.Parts.{line_of, spot_named}
use Rattle.sr_lower_expr.specs.declared.scene.Scene.{Scene}
use Rattle.sr_lower_expr.specs.Expressions.{core_create, core_place, core_sending, core_value}
use Rattle.sr_lower_expr.specs.Places.{site_number}
use Rattle.sr_desugar.specs.Statements.{LoweredArm, Block, WithSites, all_made, block_made, blocks_of, co_call, core_arm, core_block_item, core_branch, core_co_arm, core_statement, forward_of, quantifiers_core, send_of}
use Rattle.sr_outline.proofs.NumberFolds.{owned}
use Rattle.sr_desugar.proofs.CodeFold.{making}
use Rattle.sr_desugar.proofs.DeclNumbers.{own_const_ok, own_vars_ok}
use Rattle.sr_lower_expr.proofs.Each.{both_pass}
use Rattle.sr_lower_expr.proofs.ExprNumbers.{core_place_ok, core_value_ok, create_ok}
use Rattle.sr_desugar.proofs.PartNumbers.{act_ok, call_made_ok, co_call_ok, forward_ok, quantifiers_ok, receive_ok, send_ok}
use Rattle.sr_lower_expr.proofs.PlaceNumbers.{Fits}
use Rattle.sr_desugar.proofs.Room.{Room, room_first, room_second}
use Rattle.sr_desugar.proofs.StatementRules.{arm_ok, arm_rule, block_rule, branch_ok, branch_rule, co_rule, do_else_rule, do_rule, fa_rule, if_rule, in_rule, one_ok}

module _ (scene : Scene) (at : Where) (fits : Fits scene at) where
  abbrev owning : Fold (List Spot) (List Spot) (List Spot) (List Spot) (List Spot)
  owning = owned scene.facts

  -- ---- where there is room for what is declared in it, a tree is made of what exists

  abbrev ItemGood : List Spot → WithSites Block → Type 0
  ItemGood spots core = Room scene spots → IsTrue (list_all (λ one. one_ok one at) core.made)

  abbrev StatementGood : List Spot → WithSites Statement → Type 0
  StatementGood spots core = Room scene spots → IsTrue (one_ok core.made at)

  abbrev ArmGood : List Spot → WithSites LoweredArm → Type 0
  ArmGood spots core = Room scene spots → IsTrue (block_ok core.made.block at)

  abbrev BranchGood : List Spot → WithSites Guarded → Type 0
  BranchGood spots core = Room scene spots → IsTrue (branch_ok core.made at)

  abbrev CoArmGood : List Spot → WithSites CoArm → Type 0
  CoArmGood spots core = Room scene spots → IsTrue (arm_ok core.made at)

  abbrev good : Claim
  good = record {
    item = λ tree. ItemGood (item_in scene.facts tree) (core_block_item scene tree);
    statement = λ tree. StatementGood (names_in scene.facts tree) (core_statement scene tree);
    arm = λ tree. ArmGood (arm_in scene.facts tree) (core_arm scene tree);
    branch = λ tree. BranchGood (branch_in scene.facts tree) (core_branch scene tree);
    co_arm = λ tree. CoArmGood (co_arm_in scene.facts tree) (core_co_arm scene tree);
  }

  abbrev I : Type 0
  I = Known good.item

  abbrev A : Type 0
  A = Known good.arm

  -- ---- lists of parts

  items_good : (items : List I) → Room scene (lists (map (item_in scene.facts) (map (λ (t : I). t.0) items)))
      → IsTrue (list_all (λ one. one_ok one at) (lists (all_made (map (core_block_item scene) (map (λ (t : I). t.0) items)))))
  items_good [] room = refl
  items_good (item ∷ items) room =
      both_pass (λ one. one_ok one at) (core_block_item scene item.0).made (lists (all_made (map (core_block_item scene) (map (λ (t : I). t.0) items))))
      (item.1 (room_first scene (item_in scene.facts item.0) (lists (map (item_in scene.facts) (map (λ (t : I). t.0) items))) room))
      (items_good items (room_second scene (item_in scene.facts item.0) (lists (map (item_in scene.facts) (map (λ (t : I). t.0) items))) room))

  block_good : (items : List I) → Room scene (lists (map (item_in scene.facts) (map (λ (t : I). t.0) items)))
      → IsTrue (block_ok (block_made (map (core_block_item scene) (map (λ (t : I). t.0) items))).made at)
  block_good items room = block_rule at (lists (all_made (map (core_block_item scene) (map (λ (t : I). t.0) items)))) (items_good items room)

  all_good : {X M : Type 0} (spots : X → List Spot) (core : X → WithSites M) (test : M → Bool) (trees : List (Known (λ tree. Room scene (spots tree) → IsTrue (test (core tree).made))))
      → Room scene (lists (map spots (map (λ t. t.0) trees))) → IsTrue (list_all test (all_made (map core (map (λ t. t.0) trees))))
  all_good spots core test [] room = refl
  all_good spots core test (tree ∷ trees) room =
      and_from _ _
      (tree.1 (room_first scene (spots tree.0) (lists (map spots (map (λ t. t.0) trees))) room))
      (all_good spots core test trees (room_second scene (spots tree.0) (lists (map spots (map (λ t. t.0) trees))) room))

  arms_good : (arms : List A) → Room scene (lists (map (arm_in scene.facts) (map (λ (t : A). t.0) arms)))
      → IsTrue (list_all (λ block. block_ok block at) (blocks_of (map (core_arm scene) (map (λ (t : A). t.0) arms))))
  arms_good [] room = refl
  arms_good (arm ∷ arms) room =
      and_from _ _
      (arm.1 (room_first scene (arm_in scene.facts arm.0) (lists (map (arm_in scene.facts) (map (λ (t : A). t.0) arms))) room))
      (arms_good arms (room_second scene (arm_in scene.facts arm.0) (lists (map (arm_in scene.facts) (map (λ (t : A). t.0) arms))) room))

  -- ---- each tree, when its parts are so

  item_good : (y : ItemNode good) → ItemGood (from_item owning (bare_item good y)) (from_item (making scene) (bare_item good y))
  item_good (BlockItem-F.Const constant) room = own_const_ok scene at fits constant room
  item_good (BlockItem-F.Var variables) room = own_vars_ok scene at fits variables room
  item_good (BlockItem-F.Statement statement) room = and_from _ _ (statement.1 room) refl

  statement_good : (y : StatementNode good) → StatementGood (from_statement owning (bare_statement good y)) (from_statement (making scene) (bare_statement good y))
  statement_good (Statement-F.Skip span) room = act_ok scene at fits span action.Skip refl
  statement_good (Statement-F.Exit span) room = act_ok scene at fits span action.Exit refl
  statement_good (Statement-F.Next span) room = act_ok scene at fits span action.Next refl
  statement_good (Statement-F.Return span) room = act_ok scene at fits span action.Return refl
  statement_good (Statement-F.Reply span) room = act_ok scene at fits span action.Reply refl
  statement_good (Statement-F.Stop span None) room = act_ok scene at fits span (action.Stop None) refl
  statement_good (Statement-F.Stop span (Some status)) room =
      act_ok scene at fits span (action.Stop (Some (core_value scene status))) (core_value_ok scene at fits status)
  statement_good (Statement-F.Call span with_call invocation) room = call_made_ok scene at fits span invocation (function_called scene.facts invocation)
  statement_good (Statement-F.Send span invocation) room =
      act_ok scene at fits span (send_of scene (core_sending scene invocation)) (send_ok scene at fits invocation)
  statement_good (Statement-F.Forward span invocation) room =
      act_ok scene at fits span (forward_of scene (core_sending scene invocation)) (forward_ok scene at fits invocation)
  statement_good (Statement-F.Receive span operation places) room = receive_ok scene at fits span (meant_by scene.facts operation) places
  statement_good (Statement-F.Assign span target value) room =
      act_ok scene at fits span (action.Assign (core_place scene target) (core_value scene value))
      (and_from _ _ (core_place_ok scene at fits target) (core_value_ok scene at fits value))
  statement_good (Statement-F.Exchange span left right) room =
      act_ok scene at fits span (action.Swap (core_place scene left) (core_place scene right))
      (and_from _ _ (core_place_ok scene at fits left) (core_place_ok scene at fits right))
  statement_good (Statement-F.Increment span target) room =
      act_ok scene at fits span (action.Bump (core_place scene target) Increase) (core_place_ok scene at fits target)
  statement_good (Statement-F.Decrement span target) room =
      act_ok scene at fits span (action.Bump (core_place scene target) Decrease) (core_place_ok scene at fits target)
  statement_good (Statement-F.If span branches None) room =
      if_rule at (line_of span) _ [] (all_good (branch_in scene.facts) (core_branch scene) (λ one. branch_ok one at) branches (room_first scene _ [] room)) refl
  statement_good (Statement-F.If span branches (Some otherwise)) room =
      if_rule at (line_of span) _ _
      (all_good (branch_in scene.facts) (core_branch scene) (λ one. branch_ok one at) branches (room_first scene _ _ room))
      (block_good otherwise (room_second scene _ _ room))
  statement_good (Statement-F.Do span branches None) room =
      do_rule at (line_of span) _ (all_good (branch_in scene.facts) (core_branch scene) (λ one. branch_ok one at) branches (room_first scene _ [] room))
  statement_good (Statement-F.Do span branches (Some otherwise)) room =
      do_else_rule at (line_of span) _ _
      (all_good (branch_in scene.facts) (core_branch scene) (λ one. branch_ok one at) branches (room_first scene _ _ room))
      (block_good otherwise (room_second scene _ _ room))
  statement_good (Statement-F.ForAll span quantifiers block) room =
      fa_rule at (line_of span) (quantifiers_core scene quantifiers) _
      (quantifiers_ok scene at fits quantifiers (room_first scene (quantifier_names quantifiers) _ room))
      (block_good block (room_second scene (quantifier_names quantifiers) _ room))
  statement_good (Statement-F.In span arms None) room =
      in_rule at (line_of span) (site_number scene (spot_of span)) _ [] (arms_good arms (room_first scene _ [] room)) refl
  statement_good (Statement-F.In span arms (Some otherwise)) room =
      in_rule at (line_of span) (site_number scene (spot_of span)) _ _
      (arms_good arms (room_first scene _ _ room))
      (block_good otherwise (room_second scene _ _ room))
  statement_good (Statement-F.Co span arms) room = co_rule at (line_of span) _ (all_good (co_arm_in scene.facts) (core_co_arm scene) (λ one. arm_ok one at) arms room)
  statement_good (Statement-F.Destroy span target) room = act_ok scene at fits span (action.Destroy (core_value scene target)) (core_value_ok scene at fits target)
  statement_good (Statement-F.Create span create) room = act_ok scene at fits span (action.Evaluate (core_create scene create)) (create_ok scene at fits create)

  arm_good : (y : ArmNode good) → ArmGood (from_arm owning (bare_arm good y)) (from_arm (making scene) (bare_arm good y))
  arm_good y room = block_good y.block (room_second scene (returned_names y.returned) _ (room_second scene (map spot_named y.formals) _ room))

  branch_good : (y : BranchNode good) → BranchGood (from_branch owning (bare_branch good y)) (from_branch (making scene) (bare_branch good y))
  branch_good y room = branch_rule at (core_value scene y.guard) _ (core_value_ok scene at fits y.guard) (block_good y.block room)

  co_arm_parts : (y : CoArmNode good) (block : Option (List I))
      → CoArmGood (from_co_arm owning (bare_co_arm good (record y { block = block }))) (from_co_arm (making scene) (bare_co_arm good (record y { block = block })))
  co_arm_parts y None room =
      arm_rule at (quantifiers_core scene y.quantifiers) (co_call scene y.target (core_sending scene y.invocation)) []
      (quantifiers_ok scene at fits y.quantifiers (room_first scene (quantifier_names y.quantifiers) [] room))
      (co_call_ok scene at fits y.target y.invocation) refl
  co_arm_parts y (Some block) room =
      arm_rule at (quantifiers_core scene y.quantifiers) (co_call scene y.target (core_sending scene y.invocation)) _
      (quantifiers_ok scene at fits y.quantifiers (room_first scene (quantifier_names y.quantifiers) _ room))
      (co_call_ok scene at fits y.target y.invocation)
      (block_good block (room_second scene (quantifier_names y.quantifiers) _ room))

  co_arm_good : (y : CoArmNode good) → CoArmGood (from_co_arm owning (bare_co_arm good y)) (from_co_arm (making scene) (bare_co_arm good y))
  co_arm_good y = co_arm_parts y y.block

  -- ---- all trees

  by_parts : ByParts good
  by_parts = record {
    item = λ y. subst (λ t. t) (λ i. ItemGood (item_folds owning (bare_item good y) i) (item_folds (making scene) (bare_item good y) i)) (item_good y);
    statement = λ y. subst (λ t. t) (λ i. StatementGood (statement_folds owning (bare_statement good y) i) (statement_folds (making scene) (bare_statement good y) i)) (statement_good y);
    arm = λ y. subst (λ t. t) (λ i. ArmGood (arm_folds owning (bare_arm good y) i) (arm_folds (making scene) (bare_arm good y) i)) (arm_good y);
    branch = λ y. subst (λ t. t) (λ i. BranchGood (branch_folds owning (bare_branch good y) i) (branch_folds (making scene) (bare_branch good y) i)) (branch_good y);
    co_arm = λ y. subst (λ t. t) (λ i. CoArmGood (co_arm_folds owning (bare_co_arm good y) i) (co_arm_folds (making scene) (bare_co_arm good y) i)) (co_arm_good y);
  }

  pub statement_numbers : (tree : StatementTree) → Room scene (names_in scene.facts tree) → IsTrue (one_ok (core_statement scene tree).made at)
  statement_numbers = each_statement good by_parts
