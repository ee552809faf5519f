-- The same of whole trees: an expression means what its node means.
use Rattle.std.proofs.Common.{◌≡◌, ℕ, List, map, Option, sym, ◌∙◌, ap}
use Rattle.sr_value.specs.declared.operator.Operator.{Operator}
use Rattle.sr_value.specs.declared.shape.Sel.{Sel}
use Rattle.sr_value.specs.declared.shape.Shape.{Shape}
use Rattle.sr_value.specs.declared.value.Value.{Value}
use Rattle.sr_ask.specs.declared.environment.Located.{Located}
use Rattle.sr_ask.specs.declared.environment.ReadTarget.{ReadTarget}
use Rattle.sr_ask.specs.declared.environment.Sent.{Sent}
use Rattle.sr_core.specs.declared.expression.Argument.TheFolds.{fold-roll-Argument, fold-roll-Expr, fold-roll-Part, fold-roll-Step, fold_out-PlaceExpr, fold_out-Reading, map-Argument, map-Expr, map-Part, map-Step}
use Rattle.sr_core.specs.declared.expression.Argument.TheOpen.{Argument-F, Expr-F, Part-F, Step-F}
use Rattle.sr_core.specs.declared.expression.Argument.TheVariants as argument
use Rattle.sr_core.specs.declared.expression.Argument.{Argument, roll-Argument}
use Rattle.sr_core.specs.declared.expression.Expr.TheVariants as tree
use Rattle.sr_core.specs.declared.expression.Expr.{Expr, roll-Expr}
use Rattle.sr_core.specs.declared.expression.Leaf.{Leaf}
use Rattle.sr_core.specs.declared.expression.Part.TheVariants as part
use Rattle.sr_core.specs.declared.expression.Part.{Part, roll-Part}
use Rattle.sr_core.specs.declared.expression.PlaceExpr.{PlaceExpr, out-PlaceExpr}
use Rattle.sr_core.specs.declared.expression.Reading.{Reading, out-Reading}
use Rattle.sr_core.specs.declared.expression.Step.TheVariants as step
use Rattle.sr_core.specs.declared.expression.Step.{Step, roll-Step}
use Rattle.sr_core.specs.declared.piece.Piece.{Piece}
use Rattle.sr_meaning.specs.Expressions.{Meaning, argument_meaning, argument_of, expr_meaning, node_meaning, part_meaning, part_of_expr, place_meaning, place_of_expr, reading_meaning, reading_of, step_meaning, step_of_expr}

-- an expression means what its node means
pub rolled : (node : Expr-F Argument Expr Part Step PlaceExpr Reading) (expr : Expr) → expr ≡ roll-Expr node
    → expr_meaning expr ≡ node_meaning (map-Expr Argument Expr Part Step PlaceExpr Reading (Meaning Sent) (Meaning Value) (Meaning Piece) (Meaning Sel) (Meaning Located) (Meaning ReadTarget) argument_of expr_meaning part_of_expr step_of_expr place_of_expr reading_of node)
rolled node expr is =
    ap expr_meaning is
    ∙ fold-roll-Expr (Meaning Sent) (Meaning Value) (Meaning Piece) (Meaning Sel) (Meaning Located) (Meaning ReadTarget) argument_meaning node_meaning part_meaning step_meaning place_meaning reading_meaning node

pub leaf_is : (expr : Expr) (leaf : Leaf) → expr ≡ tree.Leaf leaf → expr_meaning expr ≡ node_meaning (Expr-F.Leaf leaf)
leaf_is expr leaf is = rolled (Expr-F.Leaf leaf) expr (is ∙ sym (tree.rolls-Leaf leaf))

pub binary_is : (expr : Expr) (op : Operator) (left right l r : Expr) → expr ≡ tree.Binary op left right → l ≡ left → r ≡ right
    → expr_meaning expr ≡ node_meaning (Expr-F.Binary op (expr_meaning l) (expr_meaning r))
binary_is expr op left right l r is left_is right_is =
    rolled (Expr-F.Binary op left right) expr (is ∙ sym (tree.rolls-Binary op left right))
    ∙ ap (λ x. node_meaning (Expr-F.Binary op (expr_meaning x) (expr_meaning right))) (sym left_is) ∙ ap (λ y. node_meaning (Expr-F.Binary op (expr_meaning l) (expr_meaning y))) (sym right_is)

pub and_is : (expr left right l r : Expr) → expr ≡ tree.And left right → l ≡ left → r ≡ right → expr_meaning expr ≡ node_meaning (Expr-F.And (expr_meaning l) (expr_meaning r))
and_is expr left right l r is left_is right_is =
    rolled (Expr-F.And left right) expr (is ∙ sym (tree.rolls-And left right))
    ∙ ap (λ x. node_meaning (Expr-F.And (expr_meaning x) (expr_meaning right))) (sym left_is) ∙ ap (λ y. node_meaning (Expr-F.And (expr_meaning l) (expr_meaning y))) (sym right_is)

pub or_is : (expr left right l r : Expr) → expr ≡ tree.Or left right → l ≡ left → r ≡ right → expr_meaning expr ≡ node_meaning (Expr-F.Or (expr_meaning l) (expr_meaning r))
or_is expr left right l r is left_is right_is =
    rolled (Expr-F.Or left right) expr (is ∙ sym (tree.rolls-Or left right))
    ∙ ap (λ x. node_meaning (Expr-F.Or (expr_meaning x) (expr_meaning right))) (sym left_is) ∙ ap (λ y. node_meaning (Expr-F.Or (expr_meaning l) (expr_meaning y))) (sym right_is)

pub of_is : (expr whole w : Expr) (step s : Step) → expr ≡ tree.Of whole step → w ≡ whole → s ≡ step → expr_meaning expr ≡ node_meaning (Expr-F.Of (expr_meaning w) (step_of_expr s))
of_is expr whole w step s is whole_is step_is =
    rolled (Expr-F.Of whole step) expr (is ∙ sym (tree.rolls-Of whole step))
    ∙ ap (λ x. node_meaning (Expr-F.Of (expr_meaning x) (step_of_expr step))) (sym whole_is) ∙ ap (λ y. node_meaning (Expr-F.Of (expr_meaning w) (step_of_expr y))) (sym step_is)

pub call_is : (expr target t : Expr) (args others : List Argument) (returns : Option Shape) → expr ≡ tree.Call target args returns → t ≡ target → others ≡ args
    → expr_meaning expr ≡ node_meaning (Expr-F.Call (expr_meaning t) (map argument_of others) returns)
call_is expr target t args others returns is target_is args_is =
    rolled (Expr-F.Call target args returns) expr (is ∙ sym (tree.rolls-Call target args returns))
    ∙ ap (λ x. node_meaning (Expr-F.Call (expr_meaning x) (map argument_of args) returns)) (sym target_is)
    ∙ ap (λ xs. node_meaning (Expr-F.Call (expr_meaning t) (map argument_of xs) returns)) (sym args_is)

pub create_is : (expr machine m : Expr) (resource : ℕ) (args others : List Expr) → expr ≡ tree.Create resource args machine → m ≡ machine → others ≡ args
    → expr_meaning expr ≡ node_meaning (Expr-F.Create resource (map expr_meaning others) (expr_meaning m))
create_is expr machine m resource args others is machine_is args_is =
    rolled (Expr-F.Create resource args machine) expr (is ∙ sym (tree.rolls-Create resource args machine))
    ∙ ap (λ x. node_meaning (Expr-F.Create resource (map expr_meaning args) (expr_meaning x))) (sym machine_is)
    ∙ ap (λ xs. node_meaning (Expr-F.Create resource (map expr_meaning xs) (expr_meaning m))) (sym args_is)

-- ---- places

pub place_is : (place : PlaceExpr) (steps : List Step) → steps ≡ (out-PlaceExpr place).path
    → place_of_expr place ≡ place_meaning (record { root = (out-PlaceExpr place).root; path = map step_of_expr steps })
place_is place steps is =
    fold_out-PlaceExpr (Meaning Sent) (Meaning Value) (Meaning Piece) (Meaning Sel) (Meaning Located) (Meaning ReadTarget) argument_meaning node_meaning part_meaning step_meaning place_meaning reading_meaning place
    ∙ ap (λ path. place_meaning (record { root = (out-PlaceExpr place).root; path = map step_of_expr path })) (sym is)

pub reading_is : (reading : Reading) → reading_of reading ≡ reading_meaning (record { kind = (out-Reading reading).kind; place = place_of_expr (out-Reading reading).place })
reading_is reading = fold_out-Reading (Meaning Sent) (Meaning Value) (Meaning Piece) (Meaning Sel) (Meaning Located) (Meaning ReadTarget) argument_meaning node_meaning part_meaning step_meaning place_meaning reading_meaning reading

-- ---- steps, parts, arguments

step_rolled : (node : Step-F Argument Expr Part Step PlaceExpr Reading) (one : Step) → one ≡ roll-Step node
    → step_of_expr one ≡ step_meaning (map-Step Argument Expr Part Step PlaceExpr Reading (Meaning Sent) (Meaning Value) (Meaning Piece) (Meaning Sel) (Meaning Located) (Meaning ReadTarget) argument_of expr_meaning part_of_expr step_of_expr place_of_expr reading_of node)
step_rolled node one is =
    ap step_of_expr is
    ∙ fold-roll-Step (Meaning Sent) (Meaning Value) (Meaning Piece) (Meaning Sel) (Meaning Located) (Meaning ReadTarget) argument_meaning node_meaning part_meaning step_meaning place_meaning reading_meaning node

pub at_is : (one : Step) (index : Expr) → one ≡ step.At index → step_of_expr one ≡ step_meaning (Step-F.At (expr_meaning index))
at_is one index is = step_rolled (Step-F.At index) one (is ∙ sym (step.rolls-At index))

pub at2_is : (one : Step) (row column : Expr) → one ≡ step.At2 row column → step_of_expr one ≡ step_meaning (Step-F.At2 (expr_meaning row) (expr_meaning column))
at2_is one row column is = step_rolled (Step-F.At2 row column) one (is ∙ sym (step.rolls-At2 row column))

pub field_is : (one : Step) (field : ℕ) → one ≡ step.Field field → step_of_expr one ≡ step_meaning (Step-F.Field field)
field_is one field is = step_rolled (Step-F.Field field) one (is ∙ sym (step.rolls-Field field))

part_rolled : (node : Part-F Argument Expr Part Step PlaceExpr Reading) (one : Part) → one ≡ roll-Part node
    → part_of_expr one ≡ part_meaning (map-Part Argument Expr Part Step PlaceExpr Reading (Meaning Sent) (Meaning Value) (Meaning Piece) (Meaning Sel) (Meaning Located) (Meaning ReadTarget) argument_of expr_meaning part_of_expr step_of_expr place_of_expr reading_of node)
part_rolled node one is =
    ap part_of_expr is
    ∙ fold-roll-Part (Meaning Sent) (Meaning Value) (Meaning Piece) (Meaning Sel) (Meaning Located) (Meaning ReadTarget) argument_meaning node_meaning part_meaning step_meaning place_meaning reading_meaning node

pub one_is : (one : Part) (value : Expr) → one ≡ part.One value → part_of_expr one ≡ part_meaning (Part-F.One (expr_meaning value))
one_is one value is = part_rolled (Part-F.One value) one (is ∙ sym (part.rolls-One value))

pub repeated_is : (one : Part) (count value : Expr) → one ≡ part.Repeated count value → part_of_expr one ≡ part_meaning (Part-F.Repeated (expr_meaning count) (expr_meaning value))
repeated_is one count value is = part_rolled (Part-F.Repeated count value) one (is ∙ sym (part.rolls-Repeated count value))

argument_rolled : (node : Argument-F Argument Expr Part Step PlaceExpr Reading) (one : Argument) → one ≡ roll-Argument node
    → argument_of one ≡ argument_meaning (map-Argument Argument Expr Part Step PlaceExpr Reading (Meaning Sent) (Meaning Value) (Meaning Piece) (Meaning Sel) (Meaning Located) (Meaning ReadTarget) argument_of expr_meaning part_of_expr step_of_expr place_of_expr reading_of node)
argument_rolled node one is =
    ap argument_of is
    ∙ fold-roll-Argument (Meaning Sent) (Meaning Value) (Meaning Piece) (Meaning Sel) (Meaning Located) (Meaning ReadTarget) argument_meaning node_meaning part_meaning step_meaning place_meaning reading_meaning node

pub val_is : (one : Argument) (value : Expr) → one ≡ argument.Val value → argument_of one ≡ argument_meaning (Argument-F.Val (expr_meaning value))
val_is one value is = argument_rolled (Argument-F.Val value) one (is ∙ sym (argument.rolls-Val value))

pub var_is : (one : Argument) (place : PlaceExpr) → one ≡ argument.Var place → argument_of one ≡ argument_meaning (Argument-F.Var (place_of_expr place))
var_is one place is = argument_rolled (Argument-F.Var place) one (is ∙ sym (argument.rolls-Var place))

pub res_is : (one : Argument) (place : PlaceExpr) → one ≡ argument.Res place → argument_of one ≡ argument_meaning (Argument-F.Res (place_of_expr place))
res_is one place is = argument_rolled (Argument-F.Res place) one (is ∙ sym (argument.rolls-Res place))
