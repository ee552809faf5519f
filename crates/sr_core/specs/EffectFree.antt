-- Guards have no invocation, `create`, `read` or moment.
use Rattle.std.specs.List.{list_all}
use Rattle.std.specs.Prelude.{Bool, true, false, not, ◌&&◌}
use Rattle.sr_core.specs.declared.expression.Argument.TheFolds.{fold-Expr}
use Rattle.sr_core.specs.declared.expression.Argument.TheOpen.{Expr-F, Part-F, Step-F}
use Rattle.sr_core.specs.declared.expression.Expr.{Expr}
use Rattle.sr_core.specs.declared.expression.Leaf.{Leaf}
use Rattle.sr_core.specs.declared.expression.Leaf.TheVariants.{MakeMachine, Moment}

abbrev pub leaf_waits : Leaf → Bool
leaf_waits MakeMachine = true
leaf_waits Moment = true
leaf_waits leaf = false

abbrev pub node_effect_free : Expr-F Bool Bool Bool Bool Bool Bool → Bool
node_effect_free (Expr-F.Leaf leaf) = not (leaf_waits leaf)
node_effect_free (Expr-F.Load place) = place
node_effect_free (Expr-F.Unary op operand) = operand
node_effect_free (Expr-F.Binary op left right) = left && right
node_effect_free (Expr-F.And left right) = left && right
node_effect_free (Expr-F.Or left right) = left && right
node_effect_free (Expr-F.Apply function args) = list_all (λ arg. arg) args
node_effect_free (Expr-F.Array parts) = list_all (λ part. part) parts
node_effect_free (Expr-F.Of whole step) = whole && step
node_effect_free (Expr-F.Member of op) = of
node_effect_free (Expr-F.Call target args returns) = false
node_effect_free (Expr-F.Create resource args machine) = false
node_effect_free (Expr-F.Read readings) = false

abbrev pub step_effect_free : Step-F Bool Bool Bool Bool Bool Bool → Bool
step_effect_free (Step-F.At index) = index
step_effect_free (Step-F.At2 row column) = row && column
step_effect_free (Step-F.Field field) = true

abbrev pub part_effect_free : Part-F Bool Bool Bool Bool Bool Bool → Bool
part_effect_free (Part-F.One value) = value
part_effect_free (Part-F.Repeated count value) = count && value

abbrev pub is_effect_free : Expr → Bool
is_effect_free = fold-Expr Bool Bool Bool Bool Bool Bool (λ argument. false) node_effect_free part_effect_free step_effect_free (λ place. list_all (λ step. step) place.path) (λ reading. false)
