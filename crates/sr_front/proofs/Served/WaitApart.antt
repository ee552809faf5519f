-- Statements that wait stand at different spots where all statements do.
use Rattle.std.proofs.Common.{◌≡◌, sym, subst, Bool, true, false, List, [], ◌∷◌, ◌++◌, Option, Some, None, map, flat_map}
use Rattle.std.specs.Prelude.{if◌then◌else◌}
use Rattle.std.specs.List.{IsDistinct, AllByRecursion}
use Rattle.std.proofs.lemmas.Grind.{flat_map-append}
use Rattle.std.proofs.lemmas.List.{map-append}
use Rattle.sr_check_expr.specs.declared.facts.Facts.{Facts}
use Rattle.sr_names.specs.declared.spot.Spot.{Spot}
use Rattle.sr_names.specs.Spots.{same_spot, spot_of}
use Rattle.sr_tree.specs.declared.component.Component.{Component}
use Rattle.sr_tree.specs.declared.component.File.{File}
use Rattle.sr_tree.specs.declared.component.Item.{Item}
use Rattle.sr_tree.specs.declared.component.Item.TheVariants as item
use Rattle.sr_tree.specs.declared.component.ProcItem.{ProcItem}
use Rattle.sr_tree.specs.declared.component.ProcItem.TheVariants as inner
use Rattle.sr_tree.specs.declared.statement.Arm.{Arm}
use Rattle.sr_tree.specs.declared.statement.BlockItem.{BlockItem}
use Rattle.sr_tree.specs.declared.statement.BlockItem.TheOpen.{BlockItem-F, Statement-F}
use Rattle.sr_tree.specs.declared.statement.Branch.{Branch}
use Rattle.sr_tree.specs.declared.statement.CoArm.{CoArm}
use Rattle.sr_tree.specs.declared.statement.Statement.{Statement}
use Rattle.sr_tree.specs.Parts.{body_of}
use Rattle.sr_value.specs.declared.place.Span.{Span}
use Rattle.sr_tables.specs.Lists.{lists}
use Rattle.sr_tables.specs.Parts.{components_in}
use Rattle.sr_outline.specs.Numbers.{arm_sites, block_item_in_sites, branch_sites, co_arm_sites, component_sites, inner_sites, is_wait, item_sites, sites_in}
use Rattle.sr_order.specs.Spans.{arm_spans, block_item_spans, block_statements, branch_spans, co_arm_spans, component_statements, inner_statements, item_statements, joined, spans_in, statement_spans}
use Rattle.sr_order.proofs.NameFolds.{spanning}
use Rattle.sr_outline.proofs.NumberFolds.{waiting}
use Rattle.sr_tree.proofs.StatementFolds.{ArmNode, BranchNode, ByParts, Claim, CoArmNode, ItemNode, Known, StatementNode, arm_folds, bare_arm, bare_branch, bare_co_arm, bare_item, bare_statement, branch_folds, co_arm_folds, each_statement, from_arm, from_branch, from_co_arm, from_item, from_statement, item_folds, statement_folds}

-- ---- some of a list, in its order

data Thinned {A : Type 0} : List A → List A → Type 0 where
  none_left : Thinned [] []
  dropped : {xs ys : List A} (y : A) → Thinned xs ys → Thinned xs (y ∷ ys)
  kept : {xs ys : List A} (x : A) → Thinned xs ys → Thinned (x ∷ xs) (x ∷ ys)

none_of : {A : Type 0} (ys : List A) → Thinned [] ys
none_of [] = none_left
none_of (y ∷ ys) = dropped y (none_of ys)

both_thinned : {A : Type 0} {ps qs rs ts : List A} → Thinned ps qs → Thinned rs ts → Thinned (ps ++ rs) (qs ++ ts)
both_thinned none_left rest = rest
both_thinned (dropped y first) rest = dropped y (both_thinned first rest)
both_thinned (kept x first) rest = kept x (both_thinned first rest)

apart_thinned : {A : Type 0} (eq : A → A → Bool) (x : A) (xs ys : List A) → AllByRecursion (λ y. eq x y ≡ false) ys → Thinned xs ys → AllByRecursion (λ y. eq x y ≡ false) xs
apart_thinned eq x [] ys all thin = tt
apart_thinned eq x (z ∷ zs) [] all thin = elim thin [ ]
apart_thinned eq x (z ∷ zs) (y ∷ ys) all (dropped other thin) = apart_thinned eq x (z ∷ zs) ys all.1 thin
apart_thinned eq x (z ∷ zs) (y ∷ ys) all (kept other thin) = (all.0, apart_thinned eq x zs ys all.1 thin)

distinct_thinned : {A : Type 0} (eq : A → A → Bool) (xs ys : List A) → IsDistinct eq ys → Thinned xs ys → IsDistinct eq xs
unfolding IsDistinct
distinct_thinned eq [] ys all thin = tt
distinct_thinned eq (x ∷ xs) [] all thin = elim thin [ ]
distinct_thinned eq (x ∷ xs) (y ∷ ys) all (dropped other thin) = distinct_thinned eq (x ∷ xs) ys all.1 thin
distinct_thinned eq (x ∷ xs) (y ∷ ys) all (kept other thin) = (apart_thinned eq x xs ys all.0 thin, distinct_thinned eq xs ys all.1 thin)

-- spots are some of those of spans
abbrev Among : List Spot → List Span → Type 0
Among spots spans = Thinned spots (map spot_of spans)

among_both : (ps rs : List Spot) (qs ts : List Span) → Among ps qs → Among rs ts → Among (ps ++ rs) (qs ++ ts)
among_both ps rs qs ts first rest = subst (λ all. Thinned (ps ++ rs) all) (sym (map-append spot_of qs ts)) (both_thinned first rest)

-- what holds of the parts of a list holds of them together
among_all : {X : Type 0} (spots : X → List Spot) (spans : X → List Span) → ((x : X) → Among (spots x) (spans x)) → (xs : List X) → Among (flat_map spots xs) (flat_map spans xs)
among_all spots spans each [] = none_left
among_all spots spans each (x ∷ xs) = among_both (spots x) (flat_map spots xs) (spans x) (flat_map spans xs) (each x) (among_all spots spans each xs)

module _ (facts : Facts) where
  abbrev ItemGood : BlockItem → Type 0
  ItemGood tree = Among (block_item_in_sites facts tree) (block_item_spans tree)

  abbrev StatementGood : Statement → Type 0
  StatementGood tree = Among (sites_in facts tree) (spans_in tree)

  abbrev ArmGood : Arm → Type 0
  ArmGood tree = Among (arm_sites facts tree) (arm_spans tree)

  abbrev BranchGood : Branch → Type 0
  BranchGood tree = Among (branch_sites facts tree) (branch_spans tree)

  abbrev CoArmGood : CoArm → Type 0
  CoArmGood tree = Among (co_arm_sites facts tree) (co_arm_spans tree)

  abbrev good : Claim
  good = record { item = ItemGood; statement = StatementGood; arm = ArmGood; branch = BranchGood; co_arm = CoArmGood }

  -- a row of trees
  row : {X : Type 0} (spots : X → List Spot) (spans : X → List Span) (xs : List ((x : X) × Among (spots x) (spans x)))
      → Among (lists (map spots (map (λ e. e.0) xs))) (joined (map spans (map (λ e. e.0) xs)))
  row spots spans [] = none_left
  row spots spans (x ∷ xs) =
      among_both (spots x.0) (lists (map spots (map (λ e. e.0) xs))) (spans x.0) (joined (map spans (map (λ e. e.0) xs))) x.1 (row spots spans xs)

  called : (span : Span) (waits : Bool) → Among (if waits then spot_of span ∷ [] else []) (span ∷ [])
  called span true = kept (spot_of span) none_left
  called span false = none_of (spot_of span ∷ [])

  branches_row : (xs : List (Known BranchGood)) → Among (lists (map (branch_sites facts) (map (λ e. e.0) xs))) (joined (map branch_spans (map (λ e. e.0) xs)))
  branches_row = row (branch_sites facts) branch_spans

  items_row : (xs : List (Known ItemGood)) → Among (lists (map (block_item_in_sites facts) (map (λ e. e.0) xs))) (joined (map block_item_spans (map (λ e. e.0) xs)))
  items_row = row (block_item_in_sites facts) block_item_spans

  arms_row : (xs : List (Known ArmGood)) → Among (lists (map (arm_sites facts) (map (λ e. e.0) xs))) (joined (map arm_spans (map (λ e. e.0) xs)))
  arms_row = row (arm_sites facts) arm_spans

  co_arms_row : (xs : List (Known CoArmGood)) → Among (lists (map (co_arm_sites facts) (map (λ e. e.0) xs))) (joined (map co_arm_spans (map (λ e. e.0) xs)))
  co_arms_row = row (co_arm_sites facts) co_arm_spans

  statement_good : (y : StatementNode good) → Among (from_statement (waiting facts) (bare_statement good y)) (from_statement spanning (bare_statement good y))
  statement_good (Statement-F.Call span with_call invocation) = called span (is_wait facts invocation)
  statement_good (Statement-F.Receive span operation places) = kept (spot_of span) none_left
  statement_good (Statement-F.If span branches None) = dropped (spot_of span) (among_both _ [] (joined (map branch_spans (map (λ e. e.0) branches))) [] (branches_row branches) none_left)
  statement_good (Statement-F.If span branches (Some otherwise)) =
      dropped (spot_of span) (among_both _ _ (joined (map branch_spans (map (λ e. e.0) branches))) (joined (map block_item_spans (map (λ e. e.0) otherwise))) (branches_row branches) (items_row otherwise))
  statement_good (Statement-F.Do span branches None) = dropped (spot_of span) (among_both _ [] (joined (map branch_spans (map (λ e. e.0) branches))) [] (branches_row branches) none_left)
  statement_good (Statement-F.Do span branches (Some otherwise)) =
      dropped (spot_of span) (among_both _ _ (joined (map branch_spans (map (λ e. e.0) branches))) (joined (map block_item_spans (map (λ e. e.0) otherwise))) (branches_row branches) (items_row otherwise))
  statement_good (Statement-F.ForAll span quantifiers block) = dropped (spot_of span) (items_row block)
  statement_good (Statement-F.In span arms None) = kept (spot_of span) (among_both _ [] (joined (map arm_spans (map (λ e. e.0) arms))) [] (arms_row arms) none_left)
  statement_good (Statement-F.In span arms (Some otherwise)) =
      kept (spot_of span) (among_both _ _ (joined (map arm_spans (map (λ e. e.0) arms))) (joined (map block_item_spans (map (λ e. e.0) otherwise))) (arms_row arms) (items_row otherwise))
  statement_good (Statement-F.Co span arms) = dropped (spot_of span) (co_arms_row arms)
  statement_good _ = none_of _

  item_good : (y : ItemNode good) → Among (from_item (waiting facts) (bare_item good y)) (from_item spanning (bare_item good y))
  item_good (BlockItem-F.Statement statement) = statement.1
  item_good _ = none_left

  arm_good : (y : ArmNode good) → Among (from_arm (waiting facts) (bare_arm good y)) (from_arm spanning (bare_arm good y))
  arm_good y = items_row y.block

  branch_good : (y : BranchNode good) → Among (from_branch (waiting facts) (bare_branch good y)) (from_branch spanning (bare_branch good y))
  branch_good y = items_row y.block

  co_arm_good : (y : CoArmNode good) → Among (from_co_arm (waiting facts) (bare_co_arm good y)) (from_co_arm spanning (bare_co_arm good y))
  co_arm_good y = by y.block
    where
      by : (block : Option (List (Known ItemGood))) → Among (from_co_arm (waiting facts) (bare_co_arm good (record y { block = block }))) (from_co_arm spanning (bare_co_arm good (record y { block = block })))
      by None = none_left
      by (Some block) = items_row block

  by_parts : ByParts good
  by_parts = record {
    item = λ y. subst (λ t. t) (λ i. Among (item_folds (waiting facts) (bare_item good y) i) (item_folds spanning (bare_item good y) i)) (item_good y);
    statement = λ y. subst (λ t. t) (λ i. Among (statement_folds (waiting facts) (bare_statement good y) i) (statement_folds spanning (bare_statement good y) i)) (statement_good y);
    arm = λ y. subst (λ t. t) (λ i. Among (arm_folds (waiting facts) (bare_arm good y) i) (arm_folds spanning (bare_arm good y) i)) (arm_good y);
    branch = λ y. subst (λ t. t) (λ i. Among (branch_folds (waiting facts) (bare_branch good y) i) (branch_folds spanning (bare_branch good y) i)) (branch_good y);
    co_arm = λ y. subst (λ t. t) (λ i. Among (co_arm_folds (waiting facts) (bare_co_arm good y) i) (co_arm_folds spanning (bare_co_arm good y) i)) (co_arm_good y);
  }

  tree_good : (tree : Statement) → StatementGood tree
  tree_good = each_statement good by_parts

  -- ---- components

  inner_good : (one : ProcItem) → Among (inner_sites facts one) (inner_statements one)
  inner_good (inner.Statement statement) = tree_good statement
  inner_good _ = none_left

  block_good : (block : List ProcItem) → Among (flat_map (inner_sites facts) block) (block_statements block)
  block_good block = among_all (inner_sites facts) inner_statements inner_good block

  one_good : (one : Item) → Among (item_sites facts one) (item_statements one)
  one_good (item.Spec declared) = none_left
  one_good (item.Proc proc) = block_good proc.block
  one_good (item.Procedure procedure) = block_good procedure.block
  one_good (item.Process process) = block_good process.block
  one_good (item.Final final) = block_good final.block
  one_good (item.Statement statement) = tree_good statement

  component_good : (component : Component) → Among (component_sites facts component) (component_statements component)
  component_good component = among_all (item_sites facts) item_statements one_good (body_of component)

  files_good : (files : List File) → Among (flat_map (component_sites facts) (components_in files)) (flat_map statement_spans files)
  files_good [] = none_left
  files_good (file ∷ files) =
      subst (λ spots. Among spots (flat_map statement_spans (file ∷ files))) (sym (flat_map-append (component_sites facts) file.components (components_in files)))
      (among_both (flat_map (component_sites facts) file.components) (flat_map (component_sites facts) (components_in files)) (statement_spans file) (flat_map statement_spans files)
      (among_all (component_sites facts) component_statements component_good file.components) (files_good files))

pub waits_apart : (files : List File) (facts : Facts) → IsDistinct same_spot (map spot_of (flat_map statement_spans files))
    → IsDistinct same_spot (flat_map (component_sites facts) (components_in files))
waits_apart files facts apart = distinct_thinned same_spot (flat_map (component_sites facts) (components_in files)) (map spot_of (flat_map statement_spans files)) apart (files_good facts files)
