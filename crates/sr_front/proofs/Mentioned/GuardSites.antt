-- Each number in the guards of a site, and in its lists, names something where its statement stands, and each global among its
-- names is imported there.
use Rattle.std.proofs.Common.{ℕ, ◌==◌, Bool, true, false, ◌&&◌, cond, List, [], ◌∷◌, ◌++◌, Option, Some, None, IsTrue, flat_map, length, map, if◌then◌else◌, refl, subst, arith}
use Rattle.std.specs.Prelude.{filter, fold}
use Rattle.std.proofs.lemmas.Bool.{and_from, and_parts}
use Rattle.std.specs.List.{cons_option, filter_map, list_all, list_any}
use Rattle.std.specs.Option.{option_map}
use Rattle.sr_core.specs.declared.expression.Expr.{Expr as CoreExpr}
use Rattle.sr_core.specs.declared.site.Arm.{Arm}
use Rattle.sr_core.specs.declared.site.Named.{Named}
use Rattle.sr_core.specs.declared.owner.Home.TheVariants as home
use Rattle.sr_core.specs.declared.owner.OperationOwner.TheVariants as whose
use Rattle.sr_core.specs.declared.owner.Root.TheVariants as root
use Rattle.sr_core.specs.declared.site.Site.{Site}
use Rattle.sr_core.specs.declared.statement.Scope.{Scope}
use Rattle.sr_core.specs.Numbers.{Where, expr_ok}
use Rattle.sr_core.specs.Tests.{if_some}
use Rattle.sr_core.specs.Sites.{count_exists, guard_exists, guards_exist, named_exists, read_exists}
use Rattle.sr_names.specs.declared.predefined.Predefined.{Predefined}
use Rattle.sr_names.specs.declared.spot.Spot.{Spot}
use Rattle.sr_tree.specs.declared.component.Item.{Item}
use Rattle.sr_tree.specs.declared.component.Item.TheVariants as item
use Rattle.sr_tree.specs.declared.component.ProcItem.{ProcItem}
use Rattle.sr_tree.specs.declared.component.ProcItem.TheVariants as inner
use Rattle.sr_tree.specs.declared.expr.Expr.{Expr}
use Rattle.sr_tree.specs.declared.expr.Invocation.{Invocation}
use Rattle.sr_tree.specs.declared.statement.Arm.{Arm as ArmTree}
use Rattle.sr_tree.specs.declared.statement.ArmCondition.{ArmCondition}
use Rattle.sr_tree.specs.declared.statement.BlockItem.{BlockItem}
use Rattle.sr_tree.specs.declared.statement.BlockItem.TheOpen.{BlockItem-F, Statement-F}
use Rattle.sr_tree.specs.declared.statement.Branch.{Branch}
use Rattle.sr_tree.specs.declared.statement.CoArm.{CoArm as CoArmTree}
use Rattle.sr_tree.specs.declared.statement.Statement.{Statement as StatementTree}
use Rattle.sr_tree.specs.declared.types.Signature.{out-Signature}
use Rattle.sr_value.specs.declared.place.Span.{Span}
use Rattle.sr_check_expr.specs.Meanings.{function_called, meant_by}
use Rattle.sr_outline.specs.Numbers.{formal_names, is_p, own_spots, quantifier_names, returned_names, signature_returned, wait_operation}
use Rattle.sr_tables.specs.declared.sites.Mention.{Mention}
use Rattle.sr_tables.specs.declared.sites.Mention.TheVariants as mention
use Rattle.sr_tables.specs.Lists.{maybe, with_new}
use Rattle.sr_tables.specs.Parts.{spot_named}
use Rattle.sr_tables.specs.Sites.{arm_mentions, arm_outer, counted_by, is_outer, mentions_in, named_by, names_of, read_by, same_named, same_read, site_of}
use Rattle.sr_lower_expr.specs.declared.scene.Scene.{Scene}
use Rattle.sr_desugar.specs.Bodies.{body_made, in_body, inner_made}
use Rattle.sr_lower_expr.specs.Expressions.{core_value}
use Rattle.sr_lower_expr.specs.Places.{scope_of_operation}
use Rattle.sr_desugar.specs.Statements.{LoweredArm, WithSites, act, all_sites, alone, arms_of, call_action, call_made, condition_of, core_arm, core_block_item, core_branch, core_co_arm, core_statement, receive_arm, receive_made, scope_of_arms}
use Rattle.sr_lower_expr.proofs.Each.{both_pass}
use Rattle.sr_lower_expr.proofs.ExprNumbers.{core_value_ok}
use Rattle.sr_front.specs.Imports.{name_imported, names_imported}
use Rattle.sr_front.proofs.Mentioned.MentionsThere.{mention_exists, value_there}
use Rattle.sr_lower_expr.proofs.PlaceNumbers.{Fits}
use Rattle.sr_desugar.proofs.WaitsCode.{ItemOkay}
use Rattle.sr_desugar.proofs.CodeFold.{making}
use Rattle.sr_tree.proofs.StatementFolds.{ArmNode, BranchNode, ByParts, Claim, CoArmNode, ItemNode, Known, StatementNode, arm_folds, bare_arm, bare_branch, bare_co_arm, bare_item, bare_statement, branch_folds, co_arm_folds, each_statement, from_arm, from_branch, from_co_arm, from_item, from_statement, item_folds, statement_folds}

-- ---- the lists of a site

-- what is kept of things that pass passes
kept : {A : Type 0} (test keep : A → Bool) (things : List A) → IsTrue (list_all test things) → IsTrue (list_all test (filter keep things))
kept test keep [] all = refl
kept test keep (thing ∷ things) all =
    let parts = and_parts (test thing) (list_all test things) all in
    by (keep thing) parts.0 (kept test keep things parts.1)
  where
    by : (b : Bool) → IsTrue (test thing) → IsTrue (list_all test (filter keep things)) → IsTrue (list_all test (cond b (thing ∷ filter keep things) (filter keep things)))
    by true here rest = and_from _ _ here rest
    by false here rest = rest

-- each once, they still pass
with_one : {A : Type 0} (test : A → Bool) (same : A → A → Bool) (things : List A) (thing : A) → IsTrue (list_all test things) → IsTrue (test thing) → IsTrue (list_all test (with_new same things thing))
with_one test same things thing all here = by (list_any (same thing) things)
  where
    by : (b : Bool) → IsTrue (list_all test (if b then things else things ++ thing ∷ []))
    by true = all
    by false = both_pass test things (thing ∷ []) all (and_from (test thing) true here refl)

all_new : {A : Type 0} (test : A → Bool) (same : A → A → Bool) (things more : List A) → IsTrue (list_all test things) → IsTrue (list_all test more)
    → IsTrue (list_all test (fold (with_new same) things more))
all_new test same things [] all rest = all
all_new test same things (thing ∷ more) all rest =
    let parts = and_parts (test thing) (list_all test more) rest in
    all_new test same (with_new same things thing) more (with_one test same things thing all parts.0) parts.1

-- what is found in things that pass one test passes another
found : {A B : Type 0} (test : A → Bool) (other : B → Bool) (find : A → Option B) → ((thing : A) → IsTrue (test thing) → IsTrue (if_some other (find thing)))
    → (things : List A) → IsTrue (list_all test things) → IsTrue (list_all other (filter_map find things))
found {A} {B} test other find passes [] all = refl
found {A} {B} test other find passes (thing ∷ things) all =
    let parts = and_parts (test thing) (list_all test things) all in
    by (find thing) (passes thing parts.0) (found test other find passes things parts.1)
  where
    by : (one : Option B) → IsTrue (if_some other one) → IsTrue (list_all other (filter_map find things)) → IsTrue (list_all other (cons_option one (filter_map find things)))
    by None here rest = rest
    by (Some one) here rest = and_from _ _ here rest

module _ (at : Where) where
  abbrev there : Mention → Bool
  there one = mention_exists one at

  abbrev AllThere : List Mention → Type 0
  AllThere mentions = IsTrue (list_all there mentions)

  named : (one : Mention) → IsTrue (there one) → IsTrue (if_some (λ name. named_exists name at) (named_by one))
  named (mention.Variable (root.Own var)) ok = ok
  named (mention.Variable (root.Shared home.Mine var)) ok = refl
  named (mention.Operation whose.Mine) ok = refl
  named _ ok = refl

  imported : (one : Mention) → IsTrue (there one) → IsTrue (if_some (name_imported at.imports) (named_by one))
  imported (mention.Variable (root.Shared (home.Imported import) var)) ok = ok
  imported (mention.Operation (whose.Imported import)) ok = ok
  imported _ ok = refl

  read : (one : Mention) → IsTrue (there one) → IsTrue (if_some (λ read. read_exists read at) (read_by one))
  read (mention.Variable (root.Shared (home.Imported import) var)) ok = ok
  read _ ok = refl

  counted : (one : Mention) → IsTrue (there one) → IsTrue (if_some (λ op. count_exists op at) (counted_by one))
  counted (mention.Count op) ok = ok
  counted _ ok = refl

  -- ---- what the guards of arms mention

  -- the numbers of an arm name something, and so does what it mentions
  abbrev pub arm_good : Arm → Bool
  arm_good arm = guard_exists arm at && list_all there (arm_mentions arm)

  -- the same of a site, and the globals among its names are imported
  abbrev pub site_good : Site → Bool
  site_good site = guards_exist at site && names_imported at.imports site

  mentions_good : (arm : Arm) → IsTrue (arm_good arm) → AllThere (arm_mentions arm)
  mentions_good arm ok = (and_parts (guard_exists arm at) _ ok).1

  arms_exist : (arms : List Arm) → IsTrue (list_all arm_good arms) → IsTrue (list_all (λ arm. guard_exists arm at) arms)
  arms_exist [] ok = refl
  arms_exist (arm ∷ arms) ok =
      let parts = and_parts (arm_good arm) _ ok in
      and_from _ _ (and_parts (guard_exists arm at) _ parts.0).0 (arms_exist arms parts.1)

  arms_there : (arms : List Arm) → IsTrue (list_all arm_good arms) → AllThere (flat_map arm_mentions arms)
  arms_there [] ok = refl
  arms_there (arm ∷ arms) ok =
      let parts = and_parts (arm_good arm) _ ok in
      both_pass there (arm_mentions arm) (flat_map arm_mentions arms) (mentions_good arm parts.0) (arms_there arms parts.1)

  -- what arms name besides their formals passes what all that they mention passes
  outers_there : (test : Named → Bool) → ((one : Mention) → IsTrue (there one) → IsTrue (if_some test (named_by one)))
      → (arms : List Arm) → IsTrue (list_all arm_good arms) → IsTrue (list_all test (flat_map arm_outer arms))
  outers_there test passes [] ok = refl
  outers_there test passes (arm ∷ arms) ok =
      let parts = and_parts (arm_good arm) _ ok in
      both_pass test (arm_outer arm) (flat_map arm_outer arms)
      (kept test (is_outer arm) (filter_map named_by (arm_mentions arm)) (found there test named_by passes (arm_mentions arm) (mentions_good arm parts.0)))
      (outers_there test passes arms parts.1)

  names_there : (test : Named → Bool) → ((one : Mention) → IsTrue (there one) → IsTrue (if_some test (named_by one)))
      → (arms : List Arm) → IsTrue (list_all arm_good arms) → IsTrue (list_all test (names_of arms))
  names_there test passes arms ok = all_new test same_named [] (flat_map arm_outer arms) refl (outers_there test passes arms ok)

  site_there : (scope : Scope) (arms : List Arm) (has_else : Bool) → IsTrue (list_all arm_good arms) → IsTrue (site_good (site_of scope arms has_else))
  site_there scope arms has_else ok =
      and_from _ _
      (and_from _ _ (arms_exist arms ok)
      (and_from _ _ (names_there (λ name. named_exists name at) named arms ok)
      (and_from _ _
      (all_new (λ read. read_exists read at) same_read [] (filter_map read_by (flat_map arm_mentions arms)) refl
      (found there (λ read. read_exists read at) read_by read (flat_map arm_mentions arms) (arms_there arms ok)))
      (all_new (λ op. count_exists op at) (λ op other. op == other) [] (filter_map counted_by (flat_map arm_mentions arms)) refl
      (found there (λ op. count_exists op at) counted_by counted (flat_map arm_mentions arms) (arms_there arms ok))))))
      (names_there (name_imported at.imports) imported arms ok)

-- ---- trees

module _ (scene : Scene) (at : Where) (fits : Fits scene at) where
  -- each of these sites is so
  abbrev AllGood : List Site → Type 0
  AllGood sites = IsTrue (list_all (site_good at) sites)

  both_good : (xs ys : List Site) → AllGood xs → AllGood ys → AllGood (xs ++ ys)
  both_good = both_pass (site_good at)

  abbrev ArmFits : WithSites LoweredArm → Type 0
  ArmFits made = IsTrue (arm_good at made.made.arm) × AllGood made.sites

  abbrev ItemGood : BlockItem → Type 0
  ItemGood tree = AllGood (core_block_item scene tree).sites

  abbrev StatementGood : StatementTree → Type 0
  StatementGood tree = AllGood (core_statement scene tree).sites

  abbrev ArmGood : ArmTree → Type 0
  ArmGood tree = ArmFits (core_arm scene tree)

  abbrev BranchGood : Branch → Type 0
  BranchGood tree = AllGood (core_branch scene tree).sites

  abbrev CoArmGood : CoArmTree → Type 0
  CoArmGood tree = AllGood (core_co_arm scene tree).sites

  abbrev good : Claim
  good = record { item = ItemGood; statement = StatementGood; arm = ArmGood; branch = BranchGood; co_arm = CoArmGood }

  -- ---- lists of parts

  row_good : {X M : Type 0} (make : X → WithSites M) (xs : List ((x : X) × AllGood (make x).sites)) → AllGood (all_sites (map make (map (λ t. t.0) xs)))
  row_good make [] = refl
  row_good make (x ∷ xs) = both_good (make x.0).sites (all_sites (map make (map (λ t. t.0) xs))) x.1 (row_good make xs)

  items_good : (items : List (Known ItemGood)) → AllGood (all_sites (map (core_block_item scene) (map (λ (t : Known ItemGood). t.0) items)))
  items_good = row_good (core_block_item scene)

  branches_good : (branches : List (Known BranchGood)) → AllGood (all_sites (map (core_branch scene) (map (λ (t : Known BranchGood). t.0) branches)))
  branches_good = row_good (core_branch scene)

  arms_good : (arms : List (Known ArmGood)) → AllGood (all_sites (map (core_arm scene) (map (λ (t : Known ArmGood). t.0) arms)))
  arms_good [] = refl
  arms_good (arm ∷ arms) = both_good (core_arm scene arm.0).sites (all_sites (map (core_arm scene) (map (λ (t : Known ArmGood). t.0) arms))) arm.1.1 (arms_good arms)

  guards_good : (arms : List (Known ArmGood)) → IsTrue (list_all (arm_good at) (arms_of (map (core_arm scene) (map (λ (t : Known ArmGood). t.0) arms))))
  guards_good [] = refl
  guards_good (arm ∷ arms) = and_from _ _ arm.1.0 (guards_good arms)

  -- ---- `receive` and `P`

  receive_good : (span : Span) (operation : Spot) (places : List Expr) → AllGood (receive_made scene span operation places).sites
  receive_good span operation places =
      and_from _ _ (site_there at (scope_of_operation scene operation) (receive_arm scene span operation places ∷ []) false refl) refl

  call_good : (span : Span) (invocation : Invocation) (function : Option Predefined) → AllGood (call_made scene span invocation function).sites
  call_good span invocation function = by (is_p function)
    where
      by : (b : Bool) → AllGood (if b then receive_made scene span (wait_operation scene.facts span invocation) [] else alone (act span (call_action scene invocation function))).sites
      by true = receive_good span (wait_operation scene.facts span invocation) []
      by false = refl

  -- ---- guards

  -- each number of an expression names something, and so does what it mentions
  abbrev ValueFits : Option CoreExpr → Type 0
  ValueFits expr = IsTrue (if_some (λ one. expr_ok one at) expr) × IsTrue (list_all (there at) (maybe mentions_in expr))

  condition_good : (condition : Option ArmCondition) → ValueFits (condition_of scene condition)
  condition_good None = (refl, refl)
  condition_good (Some written) = (core_value_ok scene at fits written.condition, value_there scene at fits written.condition)

  order_good : (order : Option Expr) → ValueFits (option_map (core_value scene) order)
  order_good None = (refl, refl)
  order_good (Some expr) = (core_value_ok scene at fits expr, value_there scene at fits expr)

  -- ---- each tree, when its parts are so

  item_good : (y : ItemNode good) → AllGood (from_item (making scene) (bare_item good y)).sites
  item_good (BlockItem-F.Statement statement) = statement.1
  item_good _ = refl

  statement_good : (y : StatementNode good) → AllGood (from_statement (making scene) (bare_statement good y)).sites
  statement_good (Statement-F.Call span with_call invocation) = call_good span invocation (function_called scene.facts invocation)
  statement_good (Statement-F.Receive span operation places) = receive_good span (meant_by scene.facts operation) places
  statement_good (Statement-F.If span branches None) = both_good (all_sites (map (core_branch scene) (map (λ (t : Known BranchGood). t.0) branches))) [] (branches_good branches) refl
  statement_good (Statement-F.If span branches (Some otherwise)) =
      both_good (all_sites (map (core_branch scene) (map (λ (t : Known BranchGood). t.0) branches))) (all_sites (map (core_block_item scene) (map (λ (t : Known ItemGood). t.0) otherwise))) (branches_good branches) (items_good otherwise)
  statement_good (Statement-F.Do span branches None) = both_good (all_sites (map (core_branch scene) (map (λ (t : Known BranchGood). t.0) branches))) [] (branches_good branches) refl
  statement_good (Statement-F.Do span branches (Some otherwise)) =
      both_good (all_sites (map (core_branch scene) (map (λ (t : Known BranchGood). t.0) branches))) (all_sites (map (core_block_item scene) (map (λ (t : Known ItemGood). t.0) otherwise))) (branches_good branches) (items_good otherwise)
  statement_good (Statement-F.ForAll span quantifiers block) = items_good block
  statement_good (Statement-F.In span arms None) =
      and_from _ _ (site_there at (scope_of_arms (map (core_arm scene) (map (λ (t : Known ArmGood). t.0) arms))) (arms_of (map (core_arm scene) (map (λ (t : Known ArmGood). t.0) arms))) false (guards_good arms))
      (both_good (all_sites (map (core_arm scene) (map (λ (t : Known ArmGood). t.0) arms))) [] (arms_good arms) refl)
  statement_good (Statement-F.In span arms (Some otherwise)) =
      and_from _ _ (site_there at (scope_of_arms (map (core_arm scene) (map (λ (t : Known ArmGood). t.0) arms))) (arms_of (map (core_arm scene) (map (λ (t : Known ArmGood). t.0) arms))) true (guards_good arms))
      (both_good (all_sites (map (core_arm scene) (map (λ (t : Known ArmGood). t.0) arms))) (all_sites (map (core_block_item scene) (map (λ (t : Known ItemGood). t.0) otherwise))) (arms_good arms) (items_good otherwise))
  statement_good (Statement-F.Co span arms) = row_good (core_co_arm scene) arms
  statement_good _ = refl

  lowered_arm_good : (y : ArmNode good) → ArmFits (from_arm (making scene) (bare_arm good y))
  lowered_arm_good y =
      let condition = condition_good y.condition in
      let order = order_good y.order in (
        and_from _ _ (and_from _ _ condition.0 order.0)
            (both_pass (there at) (maybe mentions_in (condition_of scene y.condition)) (maybe mentions_in (option_map (core_value scene) y.order)) condition.1 order.1),
        items_good y.block,
      )

  branch_good : (y : BranchNode good) → AllGood (from_branch (making scene) (bare_branch good y)).sites
  branch_good y = items_good y.block

  co_arm_good : (y : CoArmNode good) → AllGood (from_co_arm (making scene) (bare_co_arm good y)).sites
  co_arm_good y = by y.block
    where
      by : (block : Option (List (Known ItemGood))) → AllGood (from_co_arm (making scene) (bare_co_arm good (record y { block = block }))).sites
      by None = refl
      by (Some block) = items_good block

  -- ---- all trees

  by_parts : ByParts good
  by_parts = record {
    item = λ y. subst (λ t. t) (λ i. AllGood (item_folds (making scene) (bare_item good y) i).sites) (item_good y);
    statement = λ y. subst (λ t. t) (λ i. AllGood (statement_folds (making scene) (bare_statement good y) i).sites) (statement_good y);
    arm = λ y. subst (λ t. t) (λ i. ArmFits (arm_folds (making scene) (bare_arm good y) i)) (lowered_arm_good y);
    branch = λ y. subst (λ t. t) (λ i. AllGood (branch_folds (making scene) (bare_branch good y) i).sites) (branch_good y);
    co_arm = λ y. subst (λ t. t) (λ i. AllGood (co_arm_folds (making scene) (bare_co_arm good y) i).sites) (co_arm_good y);
  }

  pub statement_guards : (tree : StatementTree) → StatementGood tree
  statement_guards = each_statement good by_parts

  -- ---- code

  inner_good : (one : ProcItem) → AllGood (inner_made scene one).sites
  inner_good (inner.Statement statement) = statement_guards statement
  inner_good _ = refl

  inners_good : (block : List ProcItem) → AllGood (all_sites (map (inner_made scene) block))
  inners_good [] = refl
  inners_good (one ∷ block) = both_good (inner_made scene one).sites (all_sites (map (inner_made scene) block)) (inner_good one) (inners_good block)

-- each site of an item is so where its code stands
module _ (scene : Scene) (at : Where) (fits : Fits scene at) where
  abbrev pub standing_with : ℕ → Where
  standing_with owns = record { owns = owns; imports = at.imports; core = at.core }

  own_good : (own : List Spot) (block : List ProcItem) → IsTrue (list_all (site_good (standing_with (length own))) (body_made (in_body scene own) block).sites)
  own_good own block =
      inners_good (in_body scene own) (standing_with (length own))
      (record { owns = omega arith; imports = fits.imports; operations = fits.operations; components = fits.components }) block

  pub item_guards : (one : Item) → ItemOkay (λ owns. site_good (standing_with owns)) scene one
  item_guards (item.Spec declared) = refl
  item_guards (item.Proc proc) = own_good (own_spots scene.facts (map spot_named proc.formals) (returned_names proc.returned) proc.block) proc.block
  item_guards (item.Procedure procedure) =
      own_good (own_spots scene.facts (formal_names (out-Signature procedure.signature).formals) (signature_returned procedure.signature) procedure.block) procedure.block
  item_guards (item.Process process) = own_good (own_spots scene.facts (quantifier_names process.quantifiers) [] process.block) process.block
  item_guards (item.Final final) = own_good (own_spots scene.facts [] [] final.block) final.block
  item_guards (item.Statement statement) =
      statement_guards scene (standing_with (length scene.own))
      (record { owns = omega arith; imports = fits.imports; operations = fits.operations; components = fits.components }) statement
