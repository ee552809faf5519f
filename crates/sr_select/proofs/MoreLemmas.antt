-- What names no more of the world than what is watched names no more where more is watched.
use Rattle.std.proofs.Common.{◌≡◌, ℕ, Bool, ◌&&◌, true, false, List, [], ◌∷◌, map, refl, sym, subst, ◌∙◌, true≢false}
use Rattle.std.specs.Prelude.{Option, Some, None}
use Rattle.std.specs.List.{list_all}
use Rattle.sr_core.specs.declared.expression.Argument.{Argument, roll-Argument}
use Rattle.sr_core.specs.declared.expression.Argument.TheFolds.{fold-Argument, fold-Reading, fold-roll-Expr, fold-roll-Part, fold-roll-PlaceExpr, fold-roll-Step, ind-Expr, map-Argument, map-Expr, map-Part, map-PlaceExpr, map-Reading, map-Step}
use Rattle.sr_core.specs.declared.expression.Argument.TheOpen.{Argument-F, Expr-F, Part-F, PlaceExpr-F, Reading-F, Step-F}
use Rattle.sr_core.specs.declared.expression.Expr.{Expr, roll-Expr}
use Rattle.sr_core.specs.declared.expression.Leaf.{Leaf}
use Rattle.sr_core.specs.declared.expression.Leaf.TheVariants.{Constant, Operation, MyResource, MyMachine, Count as count_of_op, MakeMachine, Moment}
use Rattle.sr_core.specs.declared.expression.Part.{Part, roll-Part}
use Rattle.sr_core.specs.declared.expression.PlaceExpr.{PlaceExpr, roll-PlaceExpr}
use Rattle.sr_core.specs.declared.expression.Reading.{Reading as ReadItem, roll-Reading}
use Rattle.sr_core.specs.declared.expression.Step.{Step, roll-Step}
use Rattle.sr_core.specs.declared.owner.Home.{Home}
use Rattle.sr_core.specs.declared.owner.Root.{Root}
use Rattle.sr_core.specs.declared.owner.Root.TheVariants.{Own as own_root, Shared as shared_root}
use Rattle.sr_core.specs.declared.site.Arm.{Arm}
use Rattle.sr_core.specs.declared.site.Site.{Site}
use Rattle.sr_select.specs.Tests.{all_pass, expr_all, maybe_all, node_all, part_all, part_node_all, place_all, place_node_all, step_all, step_node_all}
use Rattle.sr_select.specs.Worlds.{Watched, arm_names_only, leaf_within, maybe_names_only, reads_only, root_within}

-- ---- tests that follow from tests

both-more : (a b a' b' : Bool) → (a ≡ true → a' ≡ true) → (b ≡ true → b' ≡ true) → (a && b) ≡ true → (a' && b') ≡ true
both-more true true true true first second h = refl
both-more true true true false first second h = absurd (true≢false (sym (second refl)))
both-more true true false b' first second h = absurd (true≢false (sym (first refl)))
both-more true false a' b' first second h = absurd (true≢false (sym h))
both-more false b a' b' first second h = absurd (true≢false (sym h))

pub all-more : {X : Type 0} (f g : X → Bool) → ((x : X) → f x ≡ true → g x ≡ true) → (xs : List X) → list_all f xs ≡ true → list_all g xs ≡ true
all-more f g each [] all = refl
all-more f g each (x ∷ xs) all = both-more (f x) (list_all f xs) (g x) (list_all g xs) (each x) (all-more f g each xs) all

trees-more : {X : Type 0} (f g : X → Bool) (trees : List ((x : X) × (f x ≡ true → g x ≡ true)))
    → all_pass (map f (map (λ (tree : (x : X) × (f x ≡ true → g x ≡ true)). tree.0) trees)) ≡ true
    → all_pass (map g (map (λ (tree : (x : X) × (f x ≡ true → g x ≡ true)). tree.0) trees)) ≡ true
trees-more f g [] within = refl
trees-more {X = X} f g (tree ∷ trees) within =
    let first : List ((x : X) × (f x ≡ true → g x ≡ true)) → List X = map (λ (t : (x : X) × (f x ≡ true → g x ≡ true)). t.0) in
    both-more (f tree.0) (all_pass (map f (first trees))) (g tree.0) (all_pass (map g (first trees))) tree.1 (trees-more f g trees) within

along : (a a' b b' : Bool) → a ≡ a' → b ≡ b' → (a' ≡ true → b' ≡ true) → a ≡ true → b ≡ true
along a a' b b' same same' follows h = same' ∙ follows (sym same ∙ h)

-- What passes some tests passes others, where leaves and variables do.
module _ (leaves leaves' : Leaf → Bool) (roots roots' : Root → Bool) (leaf-more : (leaf : Leaf) → leaves leaf ≡ true → leaves' leaf ≡ true)
    (root-more : (root : Root) → roots root ≡ true → roots' root ≡ true) where
  -- ---- trees

  abbrev ArgumentGood : Argument → Type 0
  ArgumentGood argument = Unit {0}

  abbrev ExprGood : Expr → Type 0
  ExprGood expr = expr_all leaves roots expr ≡ true → expr_all leaves' roots' expr ≡ true

  abbrev PartGood : Part → Type 0
  PartGood part = part_all leaves roots part ≡ true → part_all leaves' roots' part ≡ true

  abbrev StepGood : Step → Type 0
  StepGood step = step_all leaves roots step ≡ true → step_all leaves' roots' step ≡ true

  abbrev PlaceGood : PlaceExpr → Type 0
  PlaceGood place = place_all leaves roots place ≡ true → place_all leaves' roots' place ≡ true

  abbrev ReadGood : ReadItem → Type 0
  ReadGood item = Unit {0}

  abbrev A : Type 0
  A = (tree : Argument) × ArgumentGood tree

  abbrev E : Type 0
  E = (tree : Expr) × ExprGood tree

  abbrev P : Type 0
  P = (tree : Part) × PartGood tree

  abbrev S : Type 0
  S = (tree : Step) × StepGood tree

  abbrev L : Type 0
  L = (tree : PlaceExpr) × PlaceGood tree

  abbrev R : Type 0
  R = (tree : ReadItem) × ReadGood tree

  abbrev argument_all : (Leaf → Bool) → (Root → Bool) → Argument → Bool
  argument_all ls rs = fold-Argument Bool Bool Bool Bool Bool Bool (λ argument. true) (node_all ls) part_node_all step_node_all (place_node_all rs) (λ item. true)

  abbrev item_all : (Leaf → Bool) → (Root → Bool) → ReadItem → Bool
  item_all ls rs = fold-Reading Bool Bool Bool Bool Bool Bool (λ argument. true) (node_all ls) part_node_all step_node_all (place_node_all rs) (λ item. true)

  -- the parts alone, and what they name
  abbrev first_expr : Expr-F A E P S L R → Expr-F Argument Expr Part Step PlaceExpr ReadItem
  first_expr = map-Expr A E P S L R Argument Expr Part Step PlaceExpr ReadItem (λ x. x.0) (λ x. x.0) (λ x. x.0) (λ x. x.0) (λ x. x.0) (λ x. x.0)

  abbrev first_part : Part-F A E P S L R → Part-F Argument Expr Part Step PlaceExpr ReadItem
  first_part = map-Part A E P S L R Argument Expr Part Step PlaceExpr ReadItem (λ x. x.0) (λ x. x.0) (λ x. x.0) (λ x. x.0) (λ x. x.0) (λ x. x.0)

  abbrev first_step : Step-F A E P S L R → Step-F Argument Expr Part Step PlaceExpr ReadItem
  first_step = map-Step A E P S L R Argument Expr Part Step PlaceExpr ReadItem (λ x. x.0) (λ x. x.0) (λ x. x.0) (λ x. x.0) (λ x. x.0) (λ x. x.0)

  abbrev first_place : PlaceExpr-F A E P S L R → PlaceExpr-F Argument Expr Part Step PlaceExpr ReadItem
  first_place = map-PlaceExpr A E P S L R Argument Expr Part Step PlaceExpr ReadItem (λ x. x.0) (λ x. x.0) (λ x. x.0) (λ x. x.0) (λ x. x.0) (λ x. x.0)

  abbrev first_argument : Argument-F A E P S L R → Argument-F Argument Expr Part Step PlaceExpr ReadItem
  first_argument = map-Argument A E P S L R Argument Expr Part Step PlaceExpr ReadItem (λ x. x.0) (λ x. x.0) (λ x. x.0) (λ x. x.0) (λ x. x.0) (λ x. x.0)

  abbrev first_item : Reading-F A E P S L R → Reading-F Argument Expr Part Step PlaceExpr ReadItem
  first_item = map-Reading A E P S L R Argument Expr Part Step PlaceExpr ReadItem (λ x. x.0) (λ x. x.0) (λ x. x.0) (λ x. x.0) (λ x. x.0) (λ x. x.0)

  abbrev expr_node : (Leaf → Bool) → (Root → Bool) → Expr-F Argument Expr Part Step PlaceExpr ReadItem → Bool
  expr_node ls rs x = node_all ls (map-Expr Argument Expr Part Step PlaceExpr ReadItem Bool Bool Bool Bool Bool Bool (argument_all ls rs) (expr_all ls rs) (part_all ls rs) (step_all ls rs) (place_all ls rs) (item_all ls rs) x)

  abbrev part_node : (Leaf → Bool) → (Root → Bool) → Part-F Argument Expr Part Step PlaceExpr ReadItem → Bool
  part_node ls rs x = part_node_all (map-Part Argument Expr Part Step PlaceExpr ReadItem Bool Bool Bool Bool Bool Bool (argument_all ls rs) (expr_all ls rs) (part_all ls rs) (step_all ls rs) (place_all ls rs) (item_all ls rs) x)

  abbrev step_node : (Leaf → Bool) → (Root → Bool) → Step-F Argument Expr Part Step PlaceExpr ReadItem → Bool
  step_node ls rs x = step_node_all (map-Step Argument Expr Part Step PlaceExpr ReadItem Bool Bool Bool Bool Bool Bool (argument_all ls rs) (expr_all ls rs) (part_all ls rs) (step_all ls rs) (place_all ls rs) (item_all ls rs) x)

  abbrev place_node : (Leaf → Bool) → (Root → Bool) → PlaceExpr-F Argument Expr Part Step PlaceExpr ReadItem → Bool
  place_node ls rs x = place_node_all rs (map-PlaceExpr Argument Expr Part Step PlaceExpr ReadItem Bool Bool Bool Bool Bool Bool (argument_all ls rs) (expr_all ls rs) (part_all ls rs) (step_all ls rs) (place_all ls rs) (item_all ls rs) x)

  expr-good : (y : Expr-F A E P S L R) → expr_node leaves roots (first_expr y) ≡ true → expr_node leaves' roots' (first_expr y) ≡ true
  expr-good (Expr-F.Leaf leaf) within = leaf-more leaf within
  expr-good (Expr-F.Load place) within = place.1 within
  expr-good (Expr-F.Unary op operand) within = operand.1 within
  expr-good (Expr-F.Binary op left right) within = both-more (expr_all leaves roots left.0) (expr_all leaves roots right.0) (expr_all leaves' roots' left.0) (expr_all leaves' roots' right.0) left.1 right.1 within
  expr-good (Expr-F.And left right) within = both-more (expr_all leaves roots left.0) (expr_all leaves roots right.0) (expr_all leaves' roots' left.0) (expr_all leaves' roots' right.0) left.1 right.1 within
  expr-good (Expr-F.Or left right) within = both-more (expr_all leaves roots left.0) (expr_all leaves roots right.0) (expr_all leaves' roots' left.0) (expr_all leaves' roots' right.0) left.1 right.1 within
  expr-good (Expr-F.Apply function args) within = trees-more (expr_all leaves roots) (expr_all leaves' roots') args within
  expr-good (Expr-F.Array parts) within = trees-more (part_all leaves roots) (part_all leaves' roots') parts within
  expr-good (Expr-F.Of whole step) within = both-more (expr_all leaves roots whole.0) (step_all leaves roots step.0) (expr_all leaves' roots' whole.0) (step_all leaves' roots' step.0) whole.1 step.1 within
  expr-good (Expr-F.Member of op) within = of.1 within
  expr-good (Expr-F.Call target args returns) within = refl
  expr-good (Expr-F.Create resource args machine) within = refl
  expr-good (Expr-F.Read readings) within = refl

  step-good : (y : Step-F A E P S L R) → step_node leaves roots (first_step y) ≡ true → step_node leaves' roots' (first_step y) ≡ true
  step-good (Step-F.At index) within = index.1 within
  step-good (Step-F.At2 row column) within = both-more (expr_all leaves roots row.0) (expr_all leaves roots column.0) (expr_all leaves' roots' row.0) (expr_all leaves' roots' column.0) row.1 column.1 within
  step-good (Step-F.Field field) within = refl

  part-good : (y : Part-F A E P S L R) → part_node leaves roots (first_part y) ≡ true → part_node leaves' roots' (first_part y) ≡ true
  part-good (Part-F.One value) within = value.1 within
  part-good (Part-F.Repeated count value) within = both-more (expr_all leaves roots count.0) (expr_all leaves roots value.0) (expr_all leaves' roots' count.0) (expr_all leaves' roots' value.0) count.1 value.1 within

  place-good : (y : PlaceExpr-F A E P S L R) → place_node leaves roots (first_place y) ≡ true → place_node leaves' roots' (first_place y) ≡ true
  place-good y within =
      both-more (roots y.root) (all_pass (map (step_all leaves roots) (map (λ (x : S). x.0) y.path))) (roots' y.root) (all_pass (map (step_all leaves' roots') (map (λ (x : S). x.0) y.path)))
      (root-more y.root) (trees-more (step_all leaves roots) (step_all leaves' roots') y.path) within

  -- ---- all trees

  argument-rolled : (x : Argument-F Argument Expr Part Step PlaceExpr ReadItem) (y : Argument-F A E P S L R) → first_argument y ≡ x → ArgumentGood (roll-Argument x)
  argument-rolled x y is = tt

  item-rolled : (x : Reading-F Argument Expr Part Step PlaceExpr ReadItem) (y : Reading-F A E P S L R) → first_item y ≡ x → ReadGood (roll-Reading x)
  item-rolled x y is = tt

  expr-rolled : (x : Expr-F Argument Expr Part Step PlaceExpr ReadItem) (y : Expr-F A E P S L R) → first_expr y ≡ x → ExprGood (roll-Expr x)
  expr-rolled x y is =
      along (expr_all leaves roots (roll-Expr x)) (expr_node leaves roots x) (expr_all leaves' roots' (roll-Expr x)) (expr_node leaves' roots' x)
      (fold-roll-Expr Bool Bool Bool Bool Bool Bool (λ argument. true) (node_all leaves) part_node_all step_node_all (place_node_all roots) (λ item. true) x)
      (fold-roll-Expr Bool Bool Bool Bool Bool Bool (λ argument. true) (node_all leaves') part_node_all step_node_all (place_node_all roots') (λ item. true) x)
      (subst (λ z. expr_node leaves roots z ≡ true → expr_node leaves' roots' z ≡ true) is (expr-good y))

  part-rolled : (x : Part-F Argument Expr Part Step PlaceExpr ReadItem) (y : Part-F A E P S L R) → first_part y ≡ x → PartGood (roll-Part x)
  part-rolled x y is =
      along (part_all leaves roots (roll-Part x)) (part_node leaves roots x) (part_all leaves' roots' (roll-Part x)) (part_node leaves' roots' x)
      (fold-roll-Part Bool Bool Bool Bool Bool Bool (λ argument. true) (node_all leaves) part_node_all step_node_all (place_node_all roots) (λ item. true) x)
      (fold-roll-Part Bool Bool Bool Bool Bool Bool (λ argument. true) (node_all leaves') part_node_all step_node_all (place_node_all roots') (λ item. true) x)
      (subst (λ z. part_node leaves roots z ≡ true → part_node leaves' roots' z ≡ true) is (part-good y))

  step-rolled : (x : Step-F Argument Expr Part Step PlaceExpr ReadItem) (y : Step-F A E P S L R) → first_step y ≡ x → StepGood (roll-Step x)
  step-rolled x y is =
      along (step_all leaves roots (roll-Step x)) (step_node leaves roots x) (step_all leaves' roots' (roll-Step x)) (step_node leaves' roots' x)
      (fold-roll-Step Bool Bool Bool Bool Bool Bool (λ argument. true) (node_all leaves) part_node_all step_node_all (place_node_all roots) (λ item. true) x)
      (fold-roll-Step Bool Bool Bool Bool Bool Bool (λ argument. true) (node_all leaves') part_node_all step_node_all (place_node_all roots') (λ item. true) x)
      (subst (λ z. step_node leaves roots z ≡ true → step_node leaves' roots' z ≡ true) is (step-good y))

  place-rolled : (x : PlaceExpr-F Argument Expr Part Step PlaceExpr ReadItem) (y : PlaceExpr-F A E P S L R) → first_place y ≡ x → PlaceGood (roll-PlaceExpr x)
  place-rolled x y is =
      along (place_all leaves roots (roll-PlaceExpr x)) (place_node leaves roots x) (place_all leaves' roots' (roll-PlaceExpr x)) (place_node leaves' roots' x)
      (fold-roll-PlaceExpr Bool Bool Bool Bool Bool Bool (λ argument. true) (node_all leaves) part_node_all step_node_all (place_node_all roots) (λ item. true) x)
      (fold-roll-PlaceExpr Bool Bool Bool Bool Bool Bool (λ argument. true) (node_all leaves') part_node_all step_node_all (place_node_all roots') (λ item. true) x)
      (subst (λ z. place_node leaves roots z ≡ true → place_node leaves' roots' z ≡ true) is (place-good y))

  pub expr-more : (expr : Expr) → expr_all leaves roots expr ≡ true → expr_all leaves' roots' expr ≡ true
  expr-more = ind-Expr ArgumentGood ExprGood PartGood StepGood PlaceGood ReadGood argument-rolled expr-rolled part-rolled step-rolled place-rolled item-rolled

  pub maybe-more : (expr : Option Expr) → maybe_all leaves roots expr ≡ true → maybe_all leaves' roots' expr ≡ true
  maybe-more None within = refl
  maybe-more (Some expr) within = expr-more expr within

-- ---- what names no more of the world than what is watched

module _ (less more : Watched) (variables : (home : Home) (var : ℕ) → less.variable home var ≡ true → more.variable home var ≡ true)
    (operations : (op : ℕ) → less.operation op ≡ true → more.operation op ≡ true) where
  leaf-more : (leaf : Leaf) → leaf_within less leaf ≡ true → leaf_within more leaf ≡ true
  leaf-more (count_of_op op) within = operations op within
  leaf-more (Constant value) within = refl
  leaf-more (Operation whose op) within = refl
  leaf-more MyResource within = refl
  leaf-more MyMachine within = refl
  leaf-more MakeMachine within = refl
  leaf-more Moment within = refl

  root-more : (root : Root) → root_within less root ≡ true → root_within more root ≡ true
  root-more (own_root var) within = refl
  root-more (shared_root home var) within = variables home var within

  maybe-within : (expr : Option Expr) → maybe_names_only less expr ≡ true → maybe_names_only more expr ≡ true
  maybe-within = maybe-more (leaf_within less) (leaf_within more) (root_within less) (root_within more) leaf-more root-more

  pub reads-more : (site : Site) → reads_only less site ≡ true → reads_only more site ≡ true
  reads-more site =
      all-more (arm_names_only less) (arm_names_only more)
      (λ (arm : Arm). both-more (maybe_names_only less arm.guard) (maybe_names_only less arm.by) (maybe_names_only more arm.guard) (maybe_names_only more arm.by) (maybe-within arm.guard) (maybe-within arm.by)) site.arms
