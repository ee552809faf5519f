-- Trees of expressions are regular.
use Rattle.std.proofs.Common.{◌≡◌, true, false, List, [], ◌∷◌, Some, None, sym, ap, subst, map}
use Rattle.sr_value.specs.declared.operator.Operator.TheVariants.{And as both, Or as either}
use Rattle.sr_value.specs.declared.shape.Sel.{Sel}
use Rattle.sr_value.specs.declared.shape.Sel.TheVariants.{At as at_one, At2 as at_two, Field as at_field}
use Rattle.sr_value.specs.declared.value.Value.{Value}
use Rattle.sr_value.specs.declared.value.Value.TheVariants.{Bool as truth_value}
use Rattle.sr_value.specs.Operators.{value_of, value_of_one}
use Rattle.sr_value.specs.Parts.{part_of}
use Rattle.sr_ask.specs.Behaviors.{give}
use Rattle.sr_ask.specs.declared.environment.Located.{Located}
use Rattle.sr_core.specs.declared.expression.Argument.TheFolds.{map-Argument, map-Part, map-PlaceExpr, map-Reading, map-Step, fold-roll-Argument, fold-roll-Expr, fold-roll-Part, fold-roll-PlaceExpr, fold-roll-Reading, fold-roll-Step, ind-Argument, ind-Expr, ind-PlaceExpr}
use Rattle.sr_core.specs.declared.expression.Argument.TheOpen.{Argument-F, Expr-F, Part-F, Step-F, PlaceExpr-F, Reading-F}
use Rattle.sr_core.specs.declared.expression.Argument.{Argument, roll-Argument}
use Rattle.sr_core.specs.declared.expression.Expr.{Expr, map-Expr, roll-Expr}
use Rattle.sr_core.specs.declared.expression.Part.{Part, roll-Part}
use Rattle.sr_core.specs.declared.expression.Reading.{Reading, roll-Reading}
use Rattle.sr_core.specs.declared.expression.Step.{Step, roll-Step}
use Rattle.sr_core.specs.declared.expression.PlaceExpr.{PlaceExpr, roll-PlaceExpr}
use Rattle.sr_ask.specs.declared.environment.ReadTarget.{ReadTarget}
use Rattle.sr_core.specs.declared.piece.Piece.{Piece}
use Rattle.sr_ask.specs.declared.environment.Sent.{Sent}
use Rattle.sr_core.specs.Applied.{applied}
use Rattle.sr_meaning.specs.Expressions.{Meaning, argument_meaning, argument_of, expr_meaning, kind_of, node_meaning, part_meaning, part_of_expr, place_meaning, place_of_expr, reading_meaning, reading_of, step_meaning, step_of_expr}
use Rattle.sr_meaning.specs.Places.{spot_of}
use Rattle.sr_core.specs.Values.{truth_of, number_of, cap_of, member_of, count_of, array_of}
use Rattle.sr_meaning.proofs.Regular.{RegularMeaning, AllRegular, with_limit, regular_then, regular_give, regular_equal, regular_choice, regular_settle, regular_in_order}
use Rattle.sr_meaning.proofs.RegularExpressions.{regular_called, regular_created, regular_leaf, regular_load, regular_read_all, same_spot}

-- trees with what is known of them
abbrev ArgumentWith : Type 0
ArgumentWith = (tree : Argument) × RegularMeaning (argument_of tree)

abbrev ExprWith : Type 0
ExprWith = (tree : Expr) × RegularMeaning (expr_meaning tree)

abbrev PartWith : Type 0
PartWith = (tree : Part) × RegularMeaning (part_of_expr tree)

abbrev StepWith : Type 0
StepWith = (tree : Step) × RegularMeaning (step_of_expr tree)

abbrev PlaceWith : Type 0
PlaceWith = (tree : PlaceExpr) × RegularMeaning (place_of_expr tree)

abbrev ReadingWith : Type 0
ReadingWith = (tree : Reading) × RegularMeaning (reading_of tree)

-- a row of them
pub regular_row : {X A : Type 0} (meaning : X → Meaning A) (row : List ((tree : X) × RegularMeaning (meaning tree))) → AllRegular (map meaning (map (λ e. e.0) row))
regular_row meaning [] = tt
regular_row meaning (e ∷ row) = (e.1, regular_row meaning row)

regular_argument_node : (y : Argument-F ArgumentWith ExprWith PartWith StepWith PlaceWith ReadingWith)
    → RegularMeaning (argument_meaning (map-Argument Argument Expr Part Step PlaceExpr Reading (Meaning Sent) (Meaning Value) (Meaning Piece) (Meaning Sel) (Meaning Located) (Meaning ReadTarget) argument_of expr_meaning part_of_expr step_of_expr place_of_expr reading_of (map-Argument ArgumentWith ExprWith PartWith StepWith PlaceWith ReadingWith Argument Expr Part Step PlaceExpr Reading (λ e. e.0) (λ e. e.0) (λ e. e.0) (λ e. e.0) (λ e. e.0) (λ e. e.0) y)))
regular_argument_node (Argument-F.Val value) = record { at = λ here. regular_then (value.1.at here) (λ x. regular_give (record { value = Some x; back = None })) }
regular_argument_node (Argument-F.Var place) = record {
  at = λ here. regular_then (place.1.at here) (λ at. regular_then (regular_load at here) (λ x. regular_give (record { value = Some x; back = Some at })));
}
regular_argument_node (Argument-F.Res place) = record { at = λ here. regular_then (place.1.at here) (λ at. regular_give (record { value = None; back = Some at })) }

regular_node : (y : Expr-F ArgumentWith ExprWith PartWith StepWith PlaceWith ReadingWith)
    → RegularMeaning (node_meaning (map-Expr Argument Expr Part Step PlaceExpr Reading (Meaning Sent) (Meaning Value) (Meaning Piece) (Meaning Sel) (Meaning Located) (Meaning ReadTarget) argument_of expr_meaning part_of_expr step_of_expr place_of_expr reading_of (map-Expr ArgumentWith ExprWith PartWith StepWith PlaceWith ReadingWith Argument Expr Part Step PlaceExpr Reading (λ e. e.0) (λ e. e.0) (λ e. e.0) (λ e. e.0) (λ e. e.0) (λ e. e.0) y)))
regular_node (Expr-F.Leaf leaf) = record { at = regular_leaf leaf }
regular_node (Expr-F.Load place) = record { at = λ here. regular_then (place.1.at here) (λ at. regular_load at here) }
regular_node (Expr-F.Unary op operand) = record { at = λ here. regular_then (operand.1.at here) (λ x. regular_settle here (value_of_one op x)) }
regular_node (Expr-F.Binary op left right) = record {
  at = λ here. regular_then (left.1.at here) (λ x. regular_then (right.1.at here) (λ y. regular_settle here (value_of op x y)));
}
regular_node (Expr-F.And left right) = record {
  at = λ here.
      regular_then (left.1.at here) (λ x. regular_then (regular_settle here (truth_of x)) (λ truth.
      regular_choice truth (regular_then (right.1.at here) (λ y. regular_settle here (value_of both x y))) (regular_give (truth_value false))));
}
regular_node (Expr-F.Or left right) = record {
  at = λ here.
      regular_then (left.1.at here) (λ x. regular_then (regular_settle here (truth_of x)) (λ truth.
      regular_choice truth (regular_give (truth_value true)) (regular_then (right.1.at here) (λ y. regular_settle here (value_of either x y)))));
}
regular_node (Expr-F.Apply function args) = record {
  at = λ here. regular_then (regular_in_order _ here (regular_row expr_meaning args)) (λ values. regular_settle here (applied here.core.names function values));
}
regular_node (Expr-F.Array parts) = record {
  at = λ here. regular_then (regular_in_order _ here (regular_row part_of_expr parts)) (λ pieces. regular_settle here (array_of pieces));
}
regular_node (Expr-F.Of whole step) = record {
  at = λ here. regular_then (whole.1.at here) (λ value. regular_then (step.1.at here) (λ sel. regular_settle here (part_of value sel)));
}
regular_node (Expr-F.Member of op) = record {
  at = λ here. regular_then (of.1.at here) (λ value. regular_then (regular_settle here (cap_of value)) (λ cap. regular_settle here (member_of op cap)));
}
regular_node (Expr-F.Call target args returns) = record { at = λ here. regular_called _ _ returns here target.1 (regular_row argument_of args) }
regular_node (Expr-F.Create resource args machine) = record {
  at = λ here.
      regular_then (regular_in_order _ here (regular_row expr_meaning args)) (λ values. regular_then (machine.1.at here) (λ value.
      regular_then (regular_settle here (cap_of value)) (λ vm. regular_created resource values vm here)));
}
regular_node (Expr-F.Read readings) = record {
  at = λ here. regular_then (regular_in_order _ here (regular_row reading_of readings)) (λ read_targets. regular_read_all 0 read_targets here);
}

regular_part_node : (y : Part-F ArgumentWith ExprWith PartWith StepWith PlaceWith ReadingWith)
    → RegularMeaning (part_meaning (map-Part Argument Expr Part Step PlaceExpr Reading (Meaning Sent) (Meaning Value) (Meaning Piece) (Meaning Sel) (Meaning Located) (Meaning ReadTarget) argument_of expr_meaning part_of_expr step_of_expr place_of_expr reading_of (map-Part ArgumentWith ExprWith PartWith StepWith PlaceWith ReadingWith Argument Expr Part Step PlaceExpr Reading (λ e. e.0) (λ e. e.0) (λ e. e.0) (λ e. e.0) (λ e. e.0) (λ e. e.0) y)))
regular_part_node (Part-F.One value) = record { at = λ here. regular_then (value.1.at here) (λ x. regular_give (record { count = 1; value = x })) }
regular_part_node (Part-F.Repeated count value) = record {
  at = λ here.
      regular_then (count.1.at here) (λ n. regular_then (regular_settle here (number_of n)) (λ number. regular_then (value.1.at here) (λ x.
      regular_then (regular_settle here (count_of number)) (λ times. regular_give (record { count = times; value = x })))));
}

regular_step_node : (y : Step-F ArgumentWith ExprWith PartWith StepWith PlaceWith ReadingWith)
    → RegularMeaning (step_meaning (map-Step Argument Expr Part Step PlaceExpr Reading (Meaning Sent) (Meaning Value) (Meaning Piece) (Meaning Sel) (Meaning Located) (Meaning ReadTarget) argument_of expr_meaning part_of_expr step_of_expr place_of_expr reading_of (map-Step ArgumentWith ExprWith PartWith StepWith PlaceWith ReadingWith Argument Expr Part Step PlaceExpr Reading (λ e. e.0) (λ e. e.0) (λ e. e.0) (λ e. e.0) (λ e. e.0) (λ e. e.0) y)))
regular_step_node (Step-F.At index) = record {
  at = λ here. regular_then (index.1.at here) (λ x. regular_then (regular_settle here (number_of x)) (λ i. regular_give (at_one i)));
}
regular_step_node (Step-F.At2 row column) = record {
  at = λ here.
      regular_then (row.1.at here) (λ x. regular_then (regular_settle here (number_of x)) (λ i. regular_then (column.1.at here) (λ y.
      regular_then (regular_settle here (number_of y)) (λ j. regular_give (at_two i j)))));
}
regular_step_node (Step-F.Field field) = record { at = λ here. regular_give (at_field field) }

regular_place_node : (y : PlaceExpr-F ArgumentWith ExprWith PartWith StepWith PlaceWith ReadingWith)
    → RegularMeaning (place_meaning (map-PlaceExpr Argument Expr Part Step PlaceExpr Reading (Meaning Sent) (Meaning Value) (Meaning Piece) (Meaning Sel) (Meaning Located) (Meaning ReadTarget) argument_of expr_meaning part_of_expr step_of_expr place_of_expr reading_of (map-PlaceExpr ArgumentWith ExprWith PartWith StepWith PlaceWith ReadingWith Argument Expr Part Step PlaceExpr Reading (λ e. e.0) (λ e. e.0) (λ e. e.0) (λ e. e.0) (λ e. e.0) (λ e. e.0) y)))
regular_place_node y = record {
  at = λ here.
      regular_then (regular_in_order _ here (regular_row step_of_expr y.path)) (λ path.
      regular_equal (λ limit. give (record { spot = spot_of y.root (with_limit limit here); path = path })) (λ limit. give (record { spot = spot_of y.root here; path = path }))
      (λ limit. ap (λ spot. give (record { spot = spot; path = path })) (same_spot y.root here limit)) (regular_give _));
}

regular_reading_node : (y : Reading-F ArgumentWith ExprWith PartWith StepWith PlaceWith ReadingWith)
    → RegularMeaning (reading_meaning (map-Reading Argument Expr Part Step PlaceExpr Reading (Meaning Sent) (Meaning Value) (Meaning Piece) (Meaning Sel) (Meaning Located) (Meaning ReadTarget) argument_of expr_meaning part_of_expr step_of_expr place_of_expr reading_of (map-Reading ArgumentWith ExprWith PartWith StepWith PlaceWith ReadingWith Argument Expr Part Step PlaceExpr Reading (λ e. e.0) (λ e. e.0) (λ e. e.0) (λ e. e.0) (λ e. e.0) (λ e. e.0) y)))
regular_reading_node y = record { at = λ here. regular_then (y.place.1.at here) (λ at. regular_give (record { kind = kind_of y.kind; place = at })) }

step_Argument : (x : Argument-F Argument Expr Part Step PlaceExpr Reading) (y : Argument-F ArgumentWith ExprWith PartWith StepWith PlaceWith ReadingWith) → map-Argument ArgumentWith ExprWith PartWith StepWith PlaceWith ReadingWith Argument Expr Part Step PlaceExpr Reading (λ e. e.0) (λ e. e.0) (λ e. e.0) (λ e. e.0) (λ e. e.0) (λ e. e.0) y ≡ x → RegularMeaning (argument_of (roll-Argument x))
step_Argument x y is =
    let P : Argument-F Argument Expr Part Step PlaceExpr Reading → Type 0 = λ z. RegularMeaning (argument_of (roll-Argument z)) in
    let Q : Meaning _ → Type 0 = λ m. RegularMeaning m in
    subst P is (subst Q (sym (fold-roll-Argument (Meaning Sent) (Meaning Value) (Meaning Piece) (Meaning Sel) (Meaning Located) (Meaning ReadTarget) argument_meaning node_meaning part_meaning step_meaning place_meaning reading_meaning _)) (regular_argument_node y))

step_Expr : (x : Expr-F Argument Expr Part Step PlaceExpr Reading) (y : Expr-F ArgumentWith ExprWith PartWith StepWith PlaceWith ReadingWith) → map-Expr ArgumentWith ExprWith PartWith StepWith PlaceWith ReadingWith Argument Expr Part Step PlaceExpr Reading (λ e. e.0) (λ e. e.0) (λ e. e.0) (λ e. e.0) (λ e. e.0) (λ e. e.0) y ≡ x → RegularMeaning (expr_meaning (roll-Expr x))
step_Expr x y is =
    let P : Expr-F Argument Expr Part Step PlaceExpr Reading → Type 0 = λ z. RegularMeaning (expr_meaning (roll-Expr z)) in
    let Q : Meaning _ → Type 0 = λ m. RegularMeaning m in
    subst P is (subst Q (sym (fold-roll-Expr (Meaning Sent) (Meaning Value) (Meaning Piece) (Meaning Sel) (Meaning Located) (Meaning ReadTarget) argument_meaning node_meaning part_meaning step_meaning place_meaning reading_meaning _)) (regular_node y))

step_Part : (x : Part-F Argument Expr Part Step PlaceExpr Reading) (y : Part-F ArgumentWith ExprWith PartWith StepWith PlaceWith ReadingWith) → map-Part ArgumentWith ExprWith PartWith StepWith PlaceWith ReadingWith Argument Expr Part Step PlaceExpr Reading (λ e. e.0) (λ e. e.0) (λ e. e.0) (λ e. e.0) (λ e. e.0) (λ e. e.0) y ≡ x → RegularMeaning (part_of_expr (roll-Part x))
step_Part x y is =
    let P : Part-F Argument Expr Part Step PlaceExpr Reading → Type 0 = λ z. RegularMeaning (part_of_expr (roll-Part z)) in
    let Q : Meaning _ → Type 0 = λ m. RegularMeaning m in
    subst P is (subst Q (sym (fold-roll-Part (Meaning Sent) (Meaning Value) (Meaning Piece) (Meaning Sel) (Meaning Located) (Meaning ReadTarget) argument_meaning node_meaning part_meaning step_meaning place_meaning reading_meaning _)) (regular_part_node y))

step_Step : (x : Step-F Argument Expr Part Step PlaceExpr Reading) (y : Step-F ArgumentWith ExprWith PartWith StepWith PlaceWith ReadingWith) → map-Step ArgumentWith ExprWith PartWith StepWith PlaceWith ReadingWith Argument Expr Part Step PlaceExpr Reading (λ e. e.0) (λ e. e.0) (λ e. e.0) (λ e. e.0) (λ e. e.0) (λ e. e.0) y ≡ x → RegularMeaning (step_of_expr (roll-Step x))
step_Step x y is =
    let P : Step-F Argument Expr Part Step PlaceExpr Reading → Type 0 = λ z. RegularMeaning (step_of_expr (roll-Step z)) in
    let Q : Meaning _ → Type 0 = λ m. RegularMeaning m in
    subst P is (subst Q (sym (fold-roll-Step (Meaning Sent) (Meaning Value) (Meaning Piece) (Meaning Sel) (Meaning Located) (Meaning ReadTarget) argument_meaning node_meaning part_meaning step_meaning place_meaning reading_meaning _)) (regular_step_node y))

step_PlaceExpr : (x : PlaceExpr-F Argument Expr Part Step PlaceExpr Reading) (y : PlaceExpr-F ArgumentWith ExprWith PartWith StepWith PlaceWith ReadingWith) → map-PlaceExpr ArgumentWith ExprWith PartWith StepWith PlaceWith ReadingWith Argument Expr Part Step PlaceExpr Reading (λ e. e.0) (λ e. e.0) (λ e. e.0) (λ e. e.0) (λ e. e.0) (λ e. e.0) y ≡ x → RegularMeaning (place_of_expr (roll-PlaceExpr x))
step_PlaceExpr x y is =
    let P : PlaceExpr-F Argument Expr Part Step PlaceExpr Reading → Type 0 = λ z. RegularMeaning (place_of_expr (roll-PlaceExpr z)) in
    let Q : Meaning _ → Type 0 = λ m. RegularMeaning m in
    subst P is (subst Q (sym (fold-roll-PlaceExpr (Meaning Sent) (Meaning Value) (Meaning Piece) (Meaning Sel) (Meaning Located) (Meaning ReadTarget) argument_meaning node_meaning part_meaning step_meaning place_meaning reading_meaning _)) (regular_place_node y))

step_Reading : (x : Reading-F Argument Expr Part Step PlaceExpr Reading) (y : Reading-F ArgumentWith ExprWith PartWith StepWith PlaceWith ReadingWith) → map-Reading ArgumentWith ExprWith PartWith StepWith PlaceWith ReadingWith Argument Expr Part Step PlaceExpr Reading (λ e. e.0) (λ e. e.0) (λ e. e.0) (λ e. e.0) (λ e. e.0) (λ e. e.0) y ≡ x → RegularMeaning (reading_of (roll-Reading x))
step_Reading x y is =
    let P : Reading-F Argument Expr Part Step PlaceExpr Reading → Type 0 = λ z. RegularMeaning (reading_of (roll-Reading z)) in
    let Q : Meaning _ → Type 0 = λ m. RegularMeaning m in
    subst P is (subst Q (sym (fold-roll-Reading (Meaning Sent) (Meaning Value) (Meaning Piece) (Meaning Sel) (Meaning Located) (Meaning ReadTarget) argument_meaning node_meaning part_meaning step_meaning place_meaning reading_meaning _)) (regular_reading_node y))

pub regular_expr : (tree : Expr) → RegularMeaning (expr_meaning tree)
regular_expr = ind-Expr (λ tree. RegularMeaning (argument_of tree)) (λ tree. RegularMeaning (expr_meaning tree)) (λ tree. RegularMeaning (part_of_expr tree)) (λ tree. RegularMeaning (step_of_expr tree)) (λ tree. RegularMeaning (place_of_expr tree)) (λ tree. RegularMeaning (reading_of tree)) step_Argument step_Expr step_Part step_Step step_PlaceExpr step_Reading

pub regular_place : (tree : PlaceExpr) → RegularMeaning (place_of_expr tree)
regular_place = ind-PlaceExpr (λ tree. RegularMeaning (argument_of tree)) (λ tree. RegularMeaning (expr_meaning tree)) (λ tree. RegularMeaning (part_of_expr tree)) (λ tree. RegularMeaning (step_of_expr tree)) (λ tree. RegularMeaning (place_of_expr tree)) (λ tree. RegularMeaning (reading_of tree)) step_Argument step_Expr step_Part step_Step step_PlaceExpr step_Reading

pub regular_argument : (tree : Argument) → RegularMeaning (argument_of tree)
regular_argument = ind-Argument (λ tree. RegularMeaning (argument_of tree)) (λ tree. RegularMeaning (expr_meaning tree)) (λ tree. RegularMeaning (part_of_expr tree)) (λ tree. RegularMeaning (step_of_expr tree)) (λ tree. RegularMeaning (place_of_expr tree)) (λ tree. RegularMeaning (reading_of tree)) step_Argument step_Expr step_Part step_Step step_PlaceExpr step_Reading

pub regular_exprs : (exprs : List Expr) → AllRegular (map expr_meaning exprs)
regular_exprs [] = tt
regular_exprs (expr ∷ exprs) = (regular_expr expr, regular_exprs exprs)

pub regular_arguments : (args : List Argument) → AllRegular (map argument_of args)
regular_arguments [] = tt
regular_arguments (arg ∷ args) = (regular_argument arg, regular_arguments args)
