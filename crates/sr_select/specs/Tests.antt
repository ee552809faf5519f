-- Tests of what an expression is made of: its leaves, and the variables at which its places begin.
use Rattle.std.specs.Prelude.{◌&&◌, Bool, true, List, Option, Some, None}
use Rattle.std.specs.List.{list_all}
use Rattle.sr_core.specs.declared.expression.Argument.TheFolds.{fold-Expr, fold-Part, fold-PlaceExpr, fold-Step}
use Rattle.sr_core.specs.declared.expression.Argument.TheOpen.{Expr-F, Part-F, PlaceExpr-F, Step-F}
use Rattle.sr_core.specs.declared.expression.Expr.{Expr}
use Rattle.sr_core.specs.declared.expression.Leaf.{Leaf}
use Rattle.sr_core.specs.declared.expression.Part.{Part}
use Rattle.sr_core.specs.declared.expression.PlaceExpr.{PlaceExpr}
use Rattle.sr_core.specs.declared.expression.Step.{Step}
use Rattle.sr_core.specs.declared.owner.Root.{Root}

abbrev pub all_pass : List Bool → Bool
all_pass parts = list_all (λ part. part) parts

-- a guard has no call, no `create` and no `read`
abbrev pub node_all : (Leaf → Bool) → Expr-F Bool Bool Bool Bool Bool Bool → Bool
node_all leaves (Expr-F.Leaf leaf) = leaves leaf
node_all leaves (Expr-F.Load place) = place
node_all leaves (Expr-F.Unary op operand) = operand
node_all leaves (Expr-F.Binary op left right) = left && right
node_all leaves (Expr-F.And left right) = left && right
node_all leaves (Expr-F.Or left right) = left && right
node_all leaves (Expr-F.Apply function args) = all_pass args
node_all leaves (Expr-F.Array parts) = all_pass parts
node_all leaves (Expr-F.Of whole step) = whole && step
node_all leaves (Expr-F.Member of op) = of
node_all leaves _ = true

abbrev pub step_node_all : Step-F Bool Bool Bool Bool Bool Bool → Bool
step_node_all (Step-F.At index) = index
step_node_all (Step-F.At2 row column) = row && column
step_node_all (Step-F.Field field) = true

abbrev pub part_node_all : Part-F Bool Bool Bool Bool Bool Bool → Bool
part_node_all (Part-F.One value) = value
part_node_all (Part-F.Repeated count value) = count && value

abbrev pub place_node_all : (Root → Bool) → PlaceExpr-F Bool Bool Bool Bool Bool Bool → Bool
place_node_all roots place = roots place.root && all_pass place.path

-- all leaves of an expression pass a test, and all variables at which its places begin pass another
abbrev pub expr_all : (Leaf → Bool) → (Root → Bool) → Expr → Bool
expr_all leaves roots = fold-Expr Bool Bool Bool Bool Bool Bool (λ argument. true) (node_all leaves) part_node_all step_node_all (place_node_all roots) (λ reading. true)

-- the same of a place, of one step of it, and of one part of a bracketed list
abbrev pub place_all : (Leaf → Bool) → (Root → Bool) → PlaceExpr → Bool
place_all leaves roots = fold-PlaceExpr Bool Bool Bool Bool Bool Bool (λ argument. true) (node_all leaves) part_node_all step_node_all (place_node_all roots) (λ reading. true)

abbrev pub step_all : (Leaf → Bool) → (Root → Bool) → Step → Bool
step_all leaves roots = fold-Step Bool Bool Bool Bool Bool Bool (λ argument. true) (node_all leaves) part_node_all step_node_all (place_node_all roots) (λ reading. true)

abbrev pub part_all : (Leaf → Bool) → (Root → Bool) → Part → Bool
part_all leaves roots = fold-Part Bool Bool Bool Bool Bool Bool (λ argument. true) (node_all leaves) part_node_all step_node_all (place_node_all roots) (λ reading. true)

-- an expression that isn't there passes
abbrev pub maybe_all : (Leaf → Bool) → (Root → Bool) → Option Expr → Bool
maybe_all leaves roots None = true
maybe_all leaves roots (Some expr) = expr_all leaves roots expr
