-- What holds of the parts of guards, and goes on from look to look, holds of guards.
use Rattle.std.proofs.Common.{◌≡◌, ℕ, ℤ, Bool, true, false, List, [], ◌∷◌, map, sym, subst, ◌∙◌}
use Rattle.std.specs.Prelude.{Option, Some, None, Result, Ok, Err}
use Rattle.std.proofs.lemmas.Bool.{and_parts as both-parts}
use Rattle.sr_value.specs.declared.fault.Fault.{Fault}
use Rattle.sr_value.specs.declared.fault.Fault.TheVariants.{Range}
use Rattle.sr_value.specs.declared.operator.Operator.{Operator}
use Rattle.sr_value.specs.declared.operator.Operator.TheVariants.{And as both, Or as either}
use Rattle.sr_value.specs.declared.shape.Sel.{Sel}
use Rattle.sr_value.specs.declared.shape.Sel.TheVariants.{At as at_one, At2 as at_two, Field as at_field}
use Rattle.sr_value.specs.declared.value.Value.{Value}
use Rattle.sr_value.specs.declared.value.Value.TheVariants.{Bool as truth_value}
use Rattle.sr_value.specs.Operators.{value_of, value_of_one}
use Rattle.sr_value.specs.Parts.{part_of, with_ok}
use Rattle.sr_core.specs.declared.expression.Argument.{Argument, roll-Argument}
use Rattle.sr_core.specs.declared.expression.Argument.TheFolds.{fold-Argument, fold-Reading, fold-roll-Expr, fold-roll-Part, fold-roll-PlaceExpr, fold-roll-Step, ind-Expr, map-Argument, map-Expr, map-Part, map-PlaceExpr, map-Reading, map-Step}
use Rattle.sr_core.specs.declared.expression.Argument.TheOpen.{Argument-F, Expr-F, Part-F, PlaceExpr-F, Reading-F, Step-F}
use Rattle.sr_core.specs.declared.expression.Expr.{Expr, roll-Expr}
use Rattle.sr_core.specs.declared.expression.Function.{Function}
use Rattle.sr_core.specs.declared.expression.Leaf.{Leaf}
use Rattle.sr_core.specs.declared.expression.Part.{Part, roll-Part}
use Rattle.sr_core.specs.declared.expression.PlaceExpr.{PlaceExpr, roll-PlaceExpr}
use Rattle.sr_core.specs.declared.expression.Reading.{Reading as ReadItem, roll-Reading}
use Rattle.sr_core.specs.declared.expression.Step.{Step, roll-Step}
use Rattle.sr_core.specs.declared.owner.Root.{Root}
use Rattle.sr_core.specs.declared.piece.Piece.{Piece}
use Rattle.sr_core.specs.Applied.{applied}
use Rattle.sr_core.specs.Values.{array_of, cap_of, count_of, member_of, number_of, truth_of}
use Rattle.sr_select.specs.Choices.{key_in, key_of, key_where}
use Rattle.sr_select.specs.Guards.{Guard, after_and, after_operand, after_or, after_whole, choose_look, guard_leaf, guard_load, guard_node, guard_part, guard_part_node, guard_place, guard_place_node, guard_step, guard_step_node, guard_value, in_order, no_argument, no_reading, truth_of_guard}
use Rattle.sr_select.specs.Looks.{fault, give, settle, ◌>>>◌}
use Rattle.sr_select.specs.Tests.{all_pass, expr_all, maybe_all, node_all, part_all, part_node_all, place_all, place_node_all, step_all, step_node_all}

-- A statement on parts of guards (`Good`) that holds of what is known without a look, and of one look and then another
-- where it holds of both. There is a test of leaves, and one of the variables at which places begin; it holds of all that
-- passes them. So it holds of the guards all of whose parts pass them.
module _ (leaves : Leaf → Bool) (roots : Root → Bool) (Good : (A : Type 0) → Guard A → Type 0)
    (good-then : (A B : Type 0) (guard : Guard A) (next : A → Guard B) → Good A guard → ((a : A) → Good B (next a)) → Good B (λ at. guard at >>> λ a. next a at))
    (good-settled : (A : Type 0) (result : Result A Fault) → Good A (λ at. settle result))
    (good-leaf : (leaf : Leaf) → leaves leaf ≡ true → Good Value (guard_leaf leaf))
    (good-load : (root : Root) (path : List Sel) → roots root ≡ true → Good Value (guard_load root path))
    (good-applied : (function : Function) (values : List Value) → Good Value (λ at. settle (applied at.reading.names function values))) where
  good-given : (A : Type 0) (a : A) → Good A (λ at. give a)
  good-given A a = good-settled A (Ok a)

  good-faulted : (A : Type 0) (found : Fault) → Good A (λ at. fault found)
  good-faulted A found = good-settled A (Err found)

  abbrev pub AllGood : (A : Type 0) → List (Guard A) → Type 0
  AllGood A [] = Unit {0}
  AllGood A (guard ∷ guards) = Good A guard × AllGood A guards

  good-order : (A : Type 0) (guards : List (Guard A)) → AllGood A guards → Good (List A) (in_order guards)
  good-order A [] all = good-given (List A) []
  good-order A (guard ∷ guards) all =
      good-then A (List A) guard (λ first at. in_order guards at >>> λ rest. give (first ∷ rest)) all.0
      (λ first. good-then (List A) (List A) (in_order guards) (λ rest at. give (first ∷ rest)) (good-order A guards all.1) (λ rest. good-given (List A) (first ∷ rest)))

  -- ---- operators

  operand-good : (op : Operator) (x : Value) (right : Guard Value) → Good Value right → Good Value (after_operand op x right)
  operand-good op x right good = good-then Value Value right (λ y at. settle (value_of op x y)) good (λ y. good-settled Value (value_of op x y))

  choose-good : (truth : Bool) (left right : Guard Value) → Good Value left → Good Value right → Good Value (λ at. choose_look truth (left at) (right at))
  choose-good true left right first second = first
  choose-good false left right first second = second

  and-good : (x : Value) (right : Guard Value) → Good Value right → Good Value (after_and x right)
  and-good x right good =
      good-then Bool Value (λ at. settle (truth_of x)) (λ truth at. choose_look truth (after_operand both x right at) (give (truth_value false))) (good-settled Bool (truth_of x))
      (λ truth. choose-good truth (after_operand both x right) (λ at. give (truth_value false)) (operand-good both x right good) (good-given Value (truth_value false)))

  or-good : (x : Value) (right : Guard Value) → Good Value right → Good Value (after_or x right)
  or-good x right good =
      good-then Bool Value (λ at. settle (truth_of x)) (λ truth at. choose_look truth (give (truth_value true)) (after_operand either x right at)) (good-settled Bool (truth_of x))
      (λ truth. choose-good truth (λ at. give (truth_value true)) (after_operand either x right) (good-given Value (truth_value true)) (operand-good either x right good))

  -- ---- trees

  abbrev ArgumentGood : Argument → Type 0
  ArgumentGood argument = Unit {0}

  abbrev ExprGood : Expr → Type 0
  ExprGood expr = expr_all leaves roots expr ≡ true → Good Value (guard_value expr)

  abbrev PartGood : Part → Type 0
  PartGood part = part_all leaves roots part ≡ true → Good Piece (guard_part part)

  abbrev StepGood : Step → Type 0
  StepGood step = step_all leaves roots step ≡ true → Good Sel (guard_step step)

  abbrev PlaceGood : PlaceExpr → Type 0
  PlaceGood place = place_all leaves roots place ≡ true → Good Value (guard_place place)

  abbrev ReadGood : ReadItem → Type 0
  ReadGood item = Unit {0}

  abbrev A : Type 0
  A = (tree : Argument) × ArgumentGood tree

  abbrev E : Type 0
  E = (tree : Expr) × ExprGood tree

  abbrev P : Type 0
  P = (tree : Part) × PartGood tree

  abbrev S : Type 0
  S = (tree : Step) × StepGood tree

  abbrev L : Type 0
  L = (tree : PlaceExpr) × PlaceGood tree

  abbrev R : Type 0
  R = (tree : ReadItem) × ReadGood tree

  abbrev G : Type 0
  G = Guard (Unit {0})

  abbrev argument_all : Argument → Bool
  argument_all = fold-Argument Bool Bool Bool Bool Bool Bool (λ argument. true) (node_all leaves) part_node_all step_node_all (place_node_all roots) (λ item. true)

  abbrev item_all : ReadItem → Bool
  item_all = fold-Reading Bool Bool Bool Bool Bool Bool (λ argument. true) (node_all leaves) part_node_all step_node_all (place_node_all roots) (λ item. true)

  abbrev guard_argument : Argument → G
  guard_argument = fold-Argument G (Guard Value) (Guard Piece) (Guard Sel) (Guard Value) G no_argument guard_node guard_part_node guard_step_node guard_place_node no_reading

  abbrev guard_item : ReadItem → G
  guard_item = fold-Reading G (Guard Value) (Guard Piece) (Guard Sel) (Guard Value) G no_argument guard_node guard_part_node guard_step_node guard_place_node no_reading

  -- the parts alone, what they name and what they mean
  abbrev first_expr : Expr-F A E P S L R → Expr-F Argument Expr Part Step PlaceExpr ReadItem
  first_expr = map-Expr A E P S L R Argument Expr Part Step PlaceExpr ReadItem (λ x. x.0) (λ x. x.0) (λ x. x.0) (λ x. x.0) (λ x. x.0) (λ x. x.0)

  abbrev first_part : Part-F A E P S L R → Part-F Argument Expr Part Step PlaceExpr ReadItem
  first_part = map-Part A E P S L R Argument Expr Part Step PlaceExpr ReadItem (λ x. x.0) (λ x. x.0) (λ x. x.0) (λ x. x.0) (λ x. x.0) (λ x. x.0)

  abbrev first_step : Step-F A E P S L R → Step-F Argument Expr Part Step PlaceExpr ReadItem
  first_step = map-Step A E P S L R Argument Expr Part Step PlaceExpr ReadItem (λ x. x.0) (λ x. x.0) (λ x. x.0) (λ x. x.0) (λ x. x.0) (λ x. x.0)

  abbrev first_place : PlaceExpr-F A E P S L R → PlaceExpr-F Argument Expr Part Step PlaceExpr ReadItem
  first_place = map-PlaceExpr A E P S L R Argument Expr Part Step PlaceExpr ReadItem (λ x. x.0) (λ x. x.0) (λ x. x.0) (λ x. x.0) (λ x. x.0) (λ x. x.0)

  abbrev first_argument : Argument-F A E P S L R → Argument-F Argument Expr Part Step PlaceExpr ReadItem
  first_argument = map-Argument A E P S L R Argument Expr Part Step PlaceExpr ReadItem (λ x. x.0) (λ x. x.0) (λ x. x.0) (λ x. x.0) (λ x. x.0) (λ x. x.0)

  abbrev first_item : Reading-F A E P S L R → Reading-F Argument Expr Part Step PlaceExpr ReadItem
  first_item = map-Reading A E P S L R Argument Expr Part Step PlaceExpr ReadItem (λ x. x.0) (λ x. x.0) (λ x. x.0) (λ x. x.0) (λ x. x.0) (λ x. x.0)

  abbrev ExprNodeGood : Expr-F Argument Expr Part Step PlaceExpr ReadItem → Type 0
  ExprNodeGood x =
      node_all leaves (map-Expr Argument Expr Part Step PlaceExpr ReadItem Bool Bool Bool Bool Bool Bool argument_all (expr_all leaves roots) (part_all leaves roots) (step_all leaves roots) (place_all leaves roots) item_all x) ≡ true
      → Good Value (guard_node (map-Expr Argument Expr Part Step PlaceExpr ReadItem G (Guard Value) (Guard Piece) (Guard Sel) (Guard Value) G guard_argument guard_value guard_part guard_step guard_place guard_item x))

  abbrev PartNodeGood : Part-F Argument Expr Part Step PlaceExpr ReadItem → Type 0
  PartNodeGood x =
      part_node_all (map-Part Argument Expr Part Step PlaceExpr ReadItem Bool Bool Bool Bool Bool Bool argument_all (expr_all leaves roots) (part_all leaves roots) (step_all leaves roots) (place_all leaves roots) item_all x) ≡ true
      → Good Piece (guard_part_node (map-Part Argument Expr Part Step PlaceExpr ReadItem G (Guard Value) (Guard Piece) (Guard Sel) (Guard Value) G guard_argument guard_value guard_part guard_step guard_place guard_item x))

  abbrev StepNodeGood : Step-F Argument Expr Part Step PlaceExpr ReadItem → Type 0
  StepNodeGood x =
      step_node_all (map-Step Argument Expr Part Step PlaceExpr ReadItem Bool Bool Bool Bool Bool Bool argument_all (expr_all leaves roots) (part_all leaves roots) (step_all leaves roots) (place_all leaves roots) item_all x) ≡ true
      → Good Sel (guard_step_node (map-Step Argument Expr Part Step PlaceExpr ReadItem G (Guard Value) (Guard Piece) (Guard Sel) (Guard Value) G guard_argument guard_value guard_part guard_step guard_place guard_item x))

  abbrev PlaceNodeGood : PlaceExpr-F Argument Expr Part Step PlaceExpr ReadItem → Type 0
  PlaceNodeGood x =
      place_node_all roots (map-PlaceExpr Argument Expr Part Step PlaceExpr ReadItem Bool Bool Bool Bool Bool Bool argument_all (expr_all leaves roots) (part_all leaves roots) (step_all leaves roots) (place_all leaves roots) item_all x) ≡ true
      → Good Value (guard_place_node (map-PlaceExpr Argument Expr Part Step PlaceExpr ReadItem G (Guard Value) (Guard Piece) (Guard Sel) (Guard Value) G guard_argument guard_value guard_part guard_step guard_place guard_item x))

  all-exprs : (trees : List E) → all_pass (map (expr_all leaves roots) (map (λ (x : E). x.0) trees)) ≡ true → AllGood Value (map guard_value (map (λ (x : E). x.0) trees))
  all-exprs [] within = tt
  all-exprs (tree ∷ trees) within =
      let parts = both-parts (expr_all leaves roots tree.0) (all_pass (map (expr_all leaves roots) (map (λ (x : E). x.0) trees))) within in
      (tree.1 parts.0, all-exprs trees parts.1)

  all-parts : (trees : List P) → all_pass (map (part_all leaves roots) (map (λ (x : P). x.0) trees)) ≡ true → AllGood Piece (map guard_part (map (λ (x : P). x.0) trees))
  all-parts [] within = tt
  all-parts (tree ∷ trees) within =
      let parts = both-parts (part_all leaves roots tree.0) (all_pass (map (part_all leaves roots) (map (λ (x : P). x.0) trees))) within in
      (tree.1 parts.0, all-parts trees parts.1)

  all-steps : (trees : List S) → all_pass (map (step_all leaves roots) (map (λ (x : S). x.0) trees)) ≡ true → AllGood Sel (map guard_step (map (λ (x : S). x.0) trees))
  all-steps [] within = tt
  all-steps (tree ∷ trees) within =
      let parts = both-parts (step_all leaves roots tree.0) (all_pass (map (step_all leaves roots) (map (λ (x : S). x.0) trees))) within in
      (tree.1 parts.0, all-steps trees parts.1)

  expr-good : (y : Expr-F A E P S L R) → ExprNodeGood (first_expr y)
  expr-good (Expr-F.Leaf leaf) within = good-leaf leaf within
  expr-good (Expr-F.Load place) within = place.1 within
  expr-good (Expr-F.Unary op operand) within =
      good-then Value Value (guard_value operand.0) (λ x at. settle (value_of_one op x)) (operand.1 within) (λ x. good-settled Value (value_of_one op x))
  expr-good (Expr-F.Binary op left right) within =
      let parts = both-parts (expr_all leaves roots left.0) (expr_all leaves roots right.0) within in
      good-then Value Value (guard_value left.0) (λ x at. after_operand op x (guard_value right.0) at) (left.1 parts.0) (λ x. operand-good op x (guard_value right.0) (right.1 parts.1))
  expr-good (Expr-F.And left right) within =
      let parts = both-parts (expr_all leaves roots left.0) (expr_all leaves roots right.0) within in
      good-then Value Value (guard_value left.0) (λ x at. after_and x (guard_value right.0) at) (left.1 parts.0) (λ x. and-good x (guard_value right.0) (right.1 parts.1))
  expr-good (Expr-F.Or left right) within =
      let parts = both-parts (expr_all leaves roots left.0) (expr_all leaves roots right.0) within in
      good-then Value Value (guard_value left.0) (λ x at. after_or x (guard_value right.0) at) (left.1 parts.0) (λ x. or-good x (guard_value right.0) (right.1 parts.1))
  expr-good (Expr-F.Apply function args) within =
      good-then (List Value) Value (in_order (map guard_value (map (λ (x : E). x.0) args))) (λ values at. settle (applied at.reading.names function values))
      (good-order Value (map guard_value (map (λ (x : E). x.0) args)) (all-exprs args within)) (λ values. good-applied function values)
  expr-good (Expr-F.Array parts) within =
      good-then (List Piece) Value (in_order (map guard_part (map (λ (x : P). x.0) parts))) (λ pieces at. settle (array_of pieces))
      (good-order Piece (map guard_part (map (λ (x : P). x.0) parts)) (all-parts parts within)) (λ pieces. good-settled Value (array_of pieces))
  expr-good (Expr-F.Of whole step) within =
      let parts = both-parts (expr_all leaves roots whole.0) (step_all leaves roots step.0) within in
      good-then Value Value (guard_value whole.0) (λ value at. after_whole value (guard_step step.0) at) (whole.1 parts.0)
      (λ value. good-then Sel Value (guard_step step.0) (λ sel at. settle (part_of value sel)) (step.1 parts.1) (λ sel. good-settled Value (part_of value sel)))
  expr-good (Expr-F.Member of op) within =
      good-then Value Value (guard_value of.0) (λ value at. settle (with_ok (cap_of value) (member_of op))) (of.1 within)
      (λ value. good-settled Value (with_ok (cap_of value) (member_of op)))
  expr-good (Expr-F.Call target args returns) within = good-faulted Value Range
  expr-good (Expr-F.Create resource args machine) within = good-faulted Value Range
  expr-good (Expr-F.Read readings) within = good-faulted Value Range

  -- a look at a number, and what is made of it
  number-good : (B : Type 0) (value : Value) (next : ℤ → Guard B) → ((number : ℤ) → Good B (next number)) → Good B (λ at. settle (number_of value) >>> λ number. next number at)
  number-good B value next later = good-then ℤ B (λ at. settle (number_of value)) next (good-settled ℤ (number_of value)) later

  step-good : (y : Step-F A E P S L R) → StepNodeGood (first_step y)
  step-good (Step-F.At index) within =
      good-then Value Sel (guard_value index.0) (λ x at. settle (number_of x) >>> λ i. give (at_one i)) (index.1 within)
      (λ x. number-good Sel x (λ i at. give (at_one i)) (λ i. good-given Sel (at_one i)))
  step-good (Step-F.At2 row column) within =
      let parts = both-parts (expr_all leaves roots row.0) (expr_all leaves roots column.0) within in
      good-then Value Sel (guard_value row.0) (λ x at. settle (number_of x) >>> λ i. guard_value column.0 at >>> λ y. settle (number_of y) >>> λ j. give (at_two i j)) (row.1 parts.0)
      (λ x. number-good Sel x (λ i at. guard_value column.0 at >>> λ y. settle (number_of y) >>> λ j. give (at_two i j))
      (λ i. good-then Value Sel (guard_value column.0) (λ y at. settle (number_of y) >>> λ j. give (at_two i j)) (column.1 parts.1)
      (λ y. number-good Sel y (λ j at. give (at_two i j)) (λ j. good-given Sel (at_two i j)))))
  step-good (Step-F.Field field) within = good-given Sel (at_field field)

  part-good : (y : Part-F A E P S L R) → PartNodeGood (first_part y)
  part-good (Part-F.One value) within =
      good-then Value Piece (guard_value value.0) (λ x at. give (record { count = 1; value = x })) (value.1 within) (λ x. good-given Piece (record { count = 1; value = x }))
  part-good (Part-F.Repeated count value) within =
      let parts = both-parts (expr_all leaves roots count.0) (expr_all leaves roots value.0) within in
      good-then Value Piece (guard_value count.0)
      (λ n at. settle (number_of n) >>> λ number. guard_value value.0 at >>> λ x. settle (count_of number) >>> λ times. give (record { count = times; value = x })) (count.1 parts.0)
      (λ n. number-good Piece n (λ number at. guard_value value.0 at >>> λ x. settle (count_of number) >>> λ times. give (record { count = times; value = x }))
      (λ number. good-then Value Piece (guard_value value.0) (λ x at. settle (count_of number) >>> λ times. give (record { count = times; value = x })) (value.1 parts.1)
      (λ x. good-then ℕ Piece (λ at. settle (count_of number)) (λ times at. give (record { count = times; value = x })) (good-settled ℕ (count_of number))
      (λ times. good-given Piece (record { count = times; value = x })))))

  place-good : (y : PlaceExpr-F A E P S L R) → PlaceNodeGood (first_place y)
  place-good y within =
      let parts = both-parts (roots y.root) (all_pass (map (step_all leaves roots) (map (λ (x : S). x.0) y.path))) within in
      good-then (List Sel) Value (in_order (map guard_step (map (λ (x : S). x.0) y.path))) (λ path at. guard_load y.root path at)
      (good-order Sel (map guard_step (map (λ (x : S). x.0) y.path)) (all-steps y.path parts.1)) (λ path. good-load y.root path parts.0)

  -- ---- all trees

  argument-rolled : (x : Argument-F Argument Expr Part Step PlaceExpr ReadItem) (y : Argument-F A E P S L R) → first_argument y ≡ x → ArgumentGood (roll-Argument x)
  argument-rolled x y is = tt

  item-rolled : (x : Reading-F Argument Expr Part Step PlaceExpr ReadItem) (y : Reading-F A E P S L R) → first_item y ≡ x → ReadGood (roll-Reading x)
  item-rolled x y is = tt

  along-both : (V : Type 0) (b b' : Bool) (g g' : Guard V) → b ≡ b' → g ≡ g' → (b' ≡ true → Good V g') → b ≡ true → Good V g
  along-both V b b' g g' same_test same_guard good within = subst (λ f. Good V f) (sym same_guard) (good (sym same_test ∙ within))

  expr-rolled : (x : Expr-F Argument Expr Part Step PlaceExpr ReadItem) (y : Expr-F A E P S L R) → first_expr y ≡ x → ExprGood (roll-Expr x)
  expr-rolled x y is =
      along-both Value (expr_all leaves roots (roll-Expr x)) _ (guard_value (roll-Expr x)) _
      (fold-roll-Expr Bool Bool Bool Bool Bool Bool (λ argument. true) (node_all leaves) part_node_all step_node_all (place_node_all roots) (λ item. true) x)
      (fold-roll-Expr G (Guard Value) (Guard Piece) (Guard Sel) (Guard Value) G no_argument guard_node guard_part_node guard_step_node guard_place_node no_reading x)
      (subst ExprNodeGood is (expr-good y))

  part-rolled : (x : Part-F Argument Expr Part Step PlaceExpr ReadItem) (y : Part-F A E P S L R) → first_part y ≡ x → PartGood (roll-Part x)
  part-rolled x y is =
      along-both Piece (part_all leaves roots (roll-Part x)) _ (guard_part (roll-Part x)) _
      (fold-roll-Part Bool Bool Bool Bool Bool Bool (λ argument. true) (node_all leaves) part_node_all step_node_all (place_node_all roots) (λ item. true) x)
      (fold-roll-Part G (Guard Value) (Guard Piece) (Guard Sel) (Guard Value) G no_argument guard_node guard_part_node guard_step_node guard_place_node no_reading x)
      (subst PartNodeGood is (part-good y))

  step-rolled : (x : Step-F Argument Expr Part Step PlaceExpr ReadItem) (y : Step-F A E P S L R) → first_step y ≡ x → StepGood (roll-Step x)
  step-rolled x y is =
      along-both Sel (step_all leaves roots (roll-Step x)) _ (guard_step (roll-Step x)) _
      (fold-roll-Step Bool Bool Bool Bool Bool Bool (λ argument. true) (node_all leaves) part_node_all step_node_all (place_node_all roots) (λ item. true) x)
      (fold-roll-Step G (Guard Value) (Guard Piece) (Guard Sel) (Guard Value) G no_argument guard_node guard_part_node guard_step_node guard_place_node no_reading x)
      (subst StepNodeGood is (step-good y))

  place-rolled : (x : PlaceExpr-F Argument Expr Part Step PlaceExpr ReadItem) (y : PlaceExpr-F A E P S L R) → first_place y ≡ x → PlaceGood (roll-PlaceExpr x)
  place-rolled x y is =
      along-both Value (place_all leaves roots (roll-PlaceExpr x)) _ (guard_place (roll-PlaceExpr x)) _
      (fold-roll-PlaceExpr Bool Bool Bool Bool Bool Bool (λ argument. true) (node_all leaves) part_node_all step_node_all (place_node_all roots) (λ item. true) x)
      (fold-roll-PlaceExpr G (Guard Value) (Guard Piece) (Guard Sel) (Guard Value) G no_argument guard_node guard_part_node guard_step_node guard_place_node no_reading x)
      (subst PlaceNodeGood is (place-good y))

  pub exprs-good : (expr : Expr) → expr_all leaves roots expr ≡ true → Good Value (guard_value expr)
  exprs-good = ind-Expr ArgumentGood ExprGood PartGood StepGood PlaceGood ReadGood argument-rolled expr-rolled part-rolled step-rolled place-rolled item-rolled

  pub conditions-good : (condition : Option Expr) → maybe_all leaves roots condition ≡ true → Good Bool (truth_of_guard condition)
  conditions-good None within = good-given Bool true
  conditions-good (Some expr) within = good-then Value Bool (guard_value expr) (λ value at. settle (truth_of value)) (exprs-good expr within) (λ value. good-settled Bool (truth_of value))

  -- ---- keys

  where-good : (by : Expr) → expr_all leaves roots by ≡ true → (truth : Bool) → Good (Option ℤ) (key_where by truth)
  where-good by within true =
      good-then Value (Option ℤ) (guard_value by) (λ value at. settle (key_of value) >>> λ key. give (Some key)) (exprs-good by within)
      (λ value. good-then ℤ (Option ℤ) (λ at. settle (key_of value)) (λ key at. give (Some key)) (good-settled ℤ (key_of value)) (λ key. good-given (Option ℤ) (Some key)))
  where-good by within false = good-given (Option ℤ) None

  pub keys-good : (condition : Option Expr) (by : Expr) → maybe_all leaves roots condition ≡ true → expr_all leaves roots by ≡ true → Good (Option ℤ) (key_in condition by)
  keys-good condition by within by_within =
      good-then Bool (Option ℤ) (truth_of_guard condition) (λ truth at. key_where by truth at) (conditions-good condition within) (where-good by by_within)
