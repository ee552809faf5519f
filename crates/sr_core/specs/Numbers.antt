-- Each number in the code of a core names something.
use Rattle.std.specs.List.{list_all}
use Rattle.std.specs.Prelude.{ℕ, Bool, true, ◌&&◌, List, length, map, nat_lt}
use Rattle.sr_core.specs.declared.component.Body.{Body}
use Rattle.sr_core.specs.declared.component.Component.{Component}
use Rattle.sr_core.specs.declared.component.Core.{Core}
use Rattle.sr_core.specs.declared.component.Proc.{Proc}
use Rattle.sr_core.specs.declared.expression.Argument.{Argument}
use Rattle.sr_core.specs.declared.expression.Argument.TheFolds.{fold-Expr, fold-Argument, fold-PlaceExpr}
use Rattle.sr_core.specs.declared.expression.Argument.TheOpen.{Argument-F, Expr-F, Part-F, Step-F, PlaceExpr-F, Reading-F}
use Rattle.sr_core.specs.declared.expression.Expr.{Expr}
use Rattle.sr_core.specs.declared.expression.Leaf.{Leaf}
use Rattle.sr_core.specs.declared.expression.Leaf.TheVariants.{Operation as operation_leaf, Count}
use Rattle.sr_core.specs.declared.expression.PlaceExpr.{PlaceExpr}
use Rattle.sr_core.specs.declared.owner.Home.TheVariants.{Mine, Imported}
use Rattle.sr_core.specs.declared.owner.Root.{Root}
use Rattle.sr_core.specs.declared.owner.Root.TheVariants.{Own as own_root, Shared as shared_root}
use Rattle.sr_core.specs.declared.statement.Action.{Action}
use Rattle.sr_core.specs.declared.statement.Action.TheVariants.{Evaluate, Send, Forward, Assign, Swap, Bump, Write, Stop, Destroy, Until}
use Rattle.sr_core.specs.declared.statement.CoCall.{CoCall}
use Rattle.sr_core.specs.declared.statement.DimsExpr.{DimsExpr}
use Rattle.sr_core.specs.declared.statement.DimsExpr.TheVariants.{None as no_dims, One, Two}
use Rattle.sr_core.specs.declared.statement.ItemShape.{ItemShape}
use Rattle.sr_core.specs.declared.statement.ItemShape.TheVariants.{Fixed, Str}
use Rattle.sr_core.specs.declared.statement.Quantifier.{Quantifier}
use Rattle.sr_core.specs.declared.statement.Scope.{Scope}
use Rattle.sr_core.specs.declared.statement.Scope.TheVariants.{Own as own_scope, Shared as shared_scope}
use Rattle.sr_core.specs.declared.statement.Setup.{Setup}
use Rattle.sr_core.specs.declared.statement.Setup.TheVariants.{Typed, Untyped}
use Rattle.sr_core.specs.declared.statement.Statement.{Statement}
use Rattle.sr_core.specs.declared.statement.Statement.TheFolds.{fold-Statement}
use Rattle.sr_core.specs.declared.statement.Statement.TheOpen.{CoArm-F, Guarded-F, Statement-F}
use Rattle.sr_core.specs.Tests.{codes_of, if_some, with_component, with_operation}

-- Where a piece of a core stands: how many own variables and imports there are, and in which core.
pub record Where : Type 0 where
  pub owns : ℕ
  pub imports : ℕ
  pub core : Core

abbrev pub Test : Type 0
Test = Where → Bool

abbrev pub all_pass : List Test → Test
all_pass tests at = list_all (λ test. test at) tests

-- ---- expressions

-- an own variable of the process; of shared variables only that the component imports the global is looked at
abbrev pub root_exists : Root → Test
root_exists (own_root var) at = nat_lt var at.owns
root_exists (shared_root Mine var) at = true
root_exists (shared_root (Imported import) var) at = nat_lt import at.imports

abbrev pub leaf_exists : Leaf → Test
leaf_exists (operation_leaf whose op) at = nat_lt op (length at.core.operations)
leaf_exists (Count op) at = nat_lt op (length at.core.operations)
leaf_exists leaf at = true

abbrev pub node_exists : Expr-F Test Test Test Test Test Test → Test
node_exists (Expr-F.Leaf leaf) at = leaf_exists leaf at
node_exists (Expr-F.Load place) at = place at
node_exists (Expr-F.Unary op operand) at = operand at
node_exists (Expr-F.Binary op left right) at = left at && right at
node_exists (Expr-F.And left right) at = left at && right at
node_exists (Expr-F.Or left right) at = left at && right at
node_exists (Expr-F.Apply function args) at = all_pass args at
node_exists (Expr-F.Array parts) at = all_pass parts at
node_exists (Expr-F.Of whole step) at = whole at && step at
node_exists (Expr-F.Member of op) at = of at && nat_lt op (length at.core.operations)
node_exists (Expr-F.Call target args returns) at = target at && all_pass args at
node_exists (Expr-F.Create resource args machine) at = nat_lt resource (length at.core.components) && (all_pass args at && machine at)
node_exists (Expr-F.Read readings) at = all_pass readings at

abbrev pub step_exists : Step-F Test Test Test Test Test Test → Test
step_exists (Step-F.At index) at = index at
step_exists (Step-F.At2 row column) at = row at && column at
step_exists (Step-F.Field field) at = true

abbrev pub part_exists : Part-F Test Test Test Test Test Test → Test
part_exists (Part-F.One value) at = value at
part_exists (Part-F.Repeated count value) at = count at && value at

abbrev pub argument_exists : Argument-F Test Test Test Test Test Test → Test
argument_exists (Argument-F.Val value) at = value at
argument_exists (Argument-F.Var place) at = place at
argument_exists (Argument-F.Res place) at = place at

abbrev pub place_exists : PlaceExpr-F Test Test Test Test Test Test → Test
place_exists place at = root_exists place.root at && all_pass place.path at

abbrev pub reading_exists : Reading-F Test Test Test Test Test Test → Test
reading_exists reading at = reading.place at

abbrev pub expr_ok : Expr → Test
expr_ok = fold-Expr Test Test Test Test Test Test argument_exists node_exists part_exists step_exists place_exists reading_exists

abbrev pub place_ok : PlaceExpr → Test
place_ok = fold-PlaceExpr Test Test Test Test Test Test argument_exists node_exists part_exists step_exists place_exists reading_exists

abbrev pub argument_ok : Argument → Test
argument_ok = fold-Argument Test Test Test Test Test Test argument_exists node_exists part_exists step_exists place_exists reading_exists

-- ---- statements

abbrev pub action_ok : Action → Test
action_ok (Evaluate expr) at = expr_ok expr at
action_ok (Send target args) at = expr_ok target at && list_all (λ arg. argument_ok arg at) args
action_ok (Forward target args) at = expr_ok target at && list_all (λ arg. argument_ok arg at) args
action_ok (Assign place value) at = place_ok place at && expr_ok value at
action_ok (Swap left right) at = place_ok left at && place_ok right at
action_ok (Bump place bump) at = place_ok place at
action_ok (Write args line) at = list_all (λ arg. expr_ok arg at) args
action_ok (Stop status) at = if_some (λ expr. expr_ok expr at) status
action_ok (Destroy target) at = expr_ok target at
action_ok (Until time) at = expr_ok time at
action_ok action at = true

abbrev pub item_ok : ItemShape → Test
item_ok (Fixed shape) at = true
item_ok (Str most) at = expr_ok most at

abbrev pub dims_ok : DimsExpr → Test
dims_ok no_dims at = true
dims_ok (One range) at = expr_ok range.lo at && expr_ok range.hi at
dims_ok (Two range range2) at = (expr_ok range.lo at && expr_ok range.hi at) && (expr_ok range2.lo at && expr_ok range2.hi at)

abbrev pub setup_ok : Setup → Test
setup_ok (Typed shape value) at = (dims_ok shape.dims at && item_ok shape.item at) && if_some (λ expr. expr_ok expr at) value
setup_ok (Untyped shape value) at = expr_ok value at

abbrev pub var_ok : Scope → ℕ → Test
var_ok own_scope var at = nat_lt var at.owns
var_ok shared_scope var at = true

abbrev pub quantifier_ok : Quantifier → Test
quantifier_ok q at =
    nat_lt q.var at.owns && ((expr_ok q.from at && expr_ok q.to at) && (expr_ok q.by at && if_some (λ expr. expr_ok expr at) q.condition))

abbrev pub co_ok : CoCall → Test
co_ok call at = if_some (λ place. place_ok place at) call.place && (expr_ok call.target at && list_all (λ arg. argument_ok arg at) call.args)

abbrev pub statement_ok : Statement-F Test Test Test → Test
statement_ok (Statement-F.Declare place declaration) at = var_ok declaration.scope declaration.var at && setup_ok declaration.setup at
statement_ok (Statement-F.Act place action) at = action_ok action at
statement_ok (Statement-F.If place guards otherwise) at = all_pass guards at && all_pass otherwise at
statement_ok (Statement-F.Do place guards otherwise) at = all_pass guards at && if_some (λ block. all_pass block at) otherwise
statement_ok (Statement-F.Fa place quantifiers body) at = list_all (λ q. quantifier_ok q at) quantifiers && all_pass body at
statement_ok (Statement-F.In place site arms otherwise) at = list_all (λ block. all_pass block at) arms && all_pass otherwise at
statement_ok (Statement-F.Co place arms) at = all_pass arms at
statement_ok (Statement-F.Sends place target count) at = expr_ok target at && expr_ok count at

abbrev pub guarded_ok : Guarded-F Test Test Test → Test
guarded_ok guarded at = expr_ok guarded.condition at && all_pass guarded.body at

abbrev pub co_arm_ok : CoArm-F Test Test Test → Test
co_arm_ok arm at = list_all (λ q. quantifier_ok q at) arm.quantifiers && (co_ok arm.call at && all_pass arm.body at)

abbrev pub block_ok : List Statement → Test
block_ok block = all_pass (map (fold-Statement Test Test Test statement_ok co_arm_ok guarded_ok) block)

-- ---- code

-- where the code of a component stands
abbrev pub where_code : Core → Component → Body → Where
where_code core component body = record { owns = body.owns; imports = length component.imports; core = core }

abbrev pub numbers_ok : Core → Component → Body → Bool
numbers_ok core component body = block_ok body.block (where_code core component body)

-- a proc stands in the component of the operation that it serves
abbrev pub proc_numbers_ok : Core → Proc → Bool
proc_numbers_ok core proc = with_operation core proc.op (λ operation. with_component core operation.component (λ component. numbers_ok core component proc.body))

abbrev pub all_numbers_ok : Core → Bool
all_numbers_ok core = list_all (λ component. list_all (numbers_ok core component) (codes_of component)) core.components && list_all (proc_numbers_ok core) core.procs
