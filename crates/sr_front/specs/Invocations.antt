-- What the code of a core makes, calls and sends to.
use Rattle.std.specs.List.{list_all}
use Rattle.std.specs.Prelude.{ℕ, ◌==◌, Bool, true, not, ◌&&◌, List, Option, Some, None, length, map, IsTrue}
use Rattle.sr_core.specs.declared.component.Core.{Core}
use Rattle.sr_core.specs.declared.component.Operation.{Operation}
use Rattle.sr_core.specs.declared.expression.Argument.{Argument}
use Rattle.sr_core.specs.declared.expression.Argument.TheFolds.{fold-Argument, fold-Expr, fold-PlaceExpr}
use Rattle.sr_core.specs.declared.expression.Argument.TheOpen.{Argument-F, Expr-F, Part-F, PlaceExpr-F, Reading-F, Step-F}
use Rattle.sr_core.specs.declared.expression.Expr.{Expr}
use Rattle.sr_core.specs.declared.expression.Leaf.{Leaf}
use Rattle.sr_core.specs.declared.expression.Leaf.TheVariants as leaf
use Rattle.sr_core.specs.declared.expression.PlaceExpr.{PlaceExpr}
use Rattle.sr_core.specs.declared.statement.Action.{Action}
use Rattle.sr_core.specs.declared.statement.Action.TheVariants.{Assign, Bump, Destroy, Evaluate, Forward, Send, Stop, Swap, Until, Write}
use Rattle.sr_core.specs.declared.statement.CoCall.{CoCall}
use Rattle.sr_core.specs.declared.statement.DimsExpr.{DimsExpr}
use Rattle.sr_core.specs.declared.statement.DimsExpr.TheVariants.{None as no_dims, One, Two}
use Rattle.sr_core.specs.declared.statement.ItemShape.{ItemShape}
use Rattle.sr_core.specs.declared.statement.ItemShape.TheVariants.{Fixed, Str}
use Rattle.sr_core.specs.declared.statement.Quantifier.{Quantifier}
use Rattle.sr_core.specs.declared.statement.Range.{Range}
use Rattle.sr_core.specs.declared.statement.Setup.{Setup}
use Rattle.sr_core.specs.declared.statement.Setup.TheVariants.{Typed, Untyped}
use Rattle.sr_core.specs.declared.statement.Statement.{Statement}
use Rattle.sr_core.specs.declared.statement.Statement.TheFolds.{fold-Statement}
use Rattle.sr_core.specs.declared.statement.Statement.TheOpen.{CoArm-F, Guarded-F, Statement-F}
use Rattle.sr_core.specs.Tests.{all_true, if_some, with_component, with_operation}
use Rattle.sr_core.specs.Waiting.{CodeTest, all_code}
use Rattle.sr_core.specs.WellFormed.{is_global}

-- A test of what is invoked: of what `create` makes, by the number of the component, and of operations that are called,
-- sent to and forwarded to, by their numbers. Each has how many arguments there are.
pub record InvocationTest : Type 0 where
  pub makes : ℕ → ℕ → Bool
  pub calls : ℕ → ℕ → Bool
  pub sends : ℕ → ℕ → Bool
  pub forwards : ℕ → ℕ → Bool

-- ---- expressions

-- of an expression: the number of the operation that it names, by itself or through the capability of a resource, and
-- whether what is invoked in it passes
pub record Seen : Type 0 where
  pub operation : Option ℕ
  pub passes : Bool

abbrev pub leaf_operation : Leaf → Option ℕ
leaf_operation (leaf.Operation whose op) = Some op
leaf_operation _ = None

abbrev pub node_operation : Expr-F Bool Seen Bool Bool Bool Bool → Option ℕ
node_operation (Expr-F.Leaf leaf) = leaf_operation leaf
node_operation (Expr-F.Member of op) = Some op
node_operation _ = None

-- a target that names no operation is the value of a capability, and has no number
abbrev pub target_passes : (ℕ → ℕ → Bool) → Seen → ℕ → Bool
target_passes test target args = target.passes && if_some (λ operation. test operation args) target.operation

abbrev pub all_pass : List Seen → Bool
all_pass all = all_true (map (λ one. one.passes) all)

abbrev pub node_invokes : InvocationTest → Expr-F Bool Seen Bool Bool Bool Bool → Bool
node_invokes test (Expr-F.Leaf leaf) = true
node_invokes test (Expr-F.Load place) = place
node_invokes test (Expr-F.Unary op operand) = operand.passes
node_invokes test (Expr-F.Binary op left right) = left.passes && right.passes
node_invokes test (Expr-F.And left right) = left.passes && right.passes
node_invokes test (Expr-F.Or left right) = left.passes && right.passes
node_invokes test (Expr-F.Apply function args) = all_pass args
node_invokes test (Expr-F.Array parts) = all_true parts
node_invokes test (Expr-F.Of whole step) = whole.passes && step
node_invokes test (Expr-F.Member of op) = of.passes
node_invokes test (Expr-F.Call target args returns) = target_passes test.calls target (length args) && all_true args
node_invokes test (Expr-F.Create component args machine) = test.makes component (length args) && (all_pass args && machine.passes)
node_invokes test (Expr-F.Read readings) = all_true readings

abbrev pub node_seen : InvocationTest → Expr-F Bool Seen Bool Bool Bool Bool → Seen
node_seen test node = record { operation = node_operation node; passes = node_invokes test node }

abbrev pub argument_layer : Argument-F Bool Seen Bool Bool Bool Bool → Bool
argument_layer (Argument-F.Val value) = value.passes
argument_layer (Argument-F.Var place) = place
argument_layer (Argument-F.Res place) = place

abbrev pub part_layer : Part-F Bool Seen Bool Bool Bool Bool → Bool
part_layer (Part-F.One value) = value.passes
part_layer (Part-F.Repeated count value) = count.passes && value.passes

abbrev pub step_layer : Step-F Bool Seen Bool Bool Bool Bool → Bool
step_layer (Step-F.At index) = index.passes
step_layer (Step-F.At2 row column) = row.passes && column.passes
step_layer (Step-F.Field field) = true

abbrev pub place_layer : PlaceExpr-F Bool Seen Bool Bool Bool Bool → Bool
place_layer place = all_true place.path

abbrev pub reading_layer : Reading-F Bool Seen Bool Bool Bool Bool → Bool
reading_layer reading = reading.place

abbrev pub expr_seen : InvocationTest → Expr → Seen
expr_seen test = fold-Expr Bool Seen Bool Bool Bool Bool argument_layer (node_seen test) part_layer step_layer place_layer reading_layer

-- what is invoked in an expression passes
abbrev pub expr_invokes : InvocationTest → Expr → Bool
expr_invokes test expr = (expr_seen test expr).passes

abbrev pub place_invokes : InvocationTest → PlaceExpr → Bool
place_invokes test = fold-PlaceExpr Bool Seen Bool Bool Bool Bool argument_layer (node_seen test) part_layer step_layer place_layer reading_layer

abbrev pub argument_invokes : InvocationTest → Argument → Bool
argument_invokes test = fold-Argument Bool Seen Bool Bool Bool Bool argument_layer (node_seen test) part_layer step_layer place_layer reading_layer

-- ---- statements

abbrev pub action_invokes : InvocationTest → Action → Bool
action_invokes test (Evaluate expr) = expr_invokes test expr
action_invokes test (Send target args) = target_passes test.sends (expr_seen test target) (length args) && list_all (argument_invokes test) args
action_invokes test (Forward target args) = target_passes test.forwards (expr_seen test target) (length args) && list_all (argument_invokes test) args
action_invokes test (Assign place value) = place_invokes test place && expr_invokes test value
action_invokes test (Swap left right) = place_invokes test left && place_invokes test right
action_invokes test (Bump place bump) = place_invokes test place
action_invokes test (Write args line) = list_all (expr_invokes test) args
action_invokes test (Stop status) = if_some (expr_invokes test) status
action_invokes test (Destroy target) = expr_invokes test target
action_invokes test (Until time) = expr_invokes test time
action_invokes test action = true

abbrev pub range_invokes : InvocationTest → Range → Bool
range_invokes test range = expr_invokes test range.lo && expr_invokes test range.hi

abbrev pub dims_invoke : InvocationTest → DimsExpr → Bool
dims_invoke test no_dims = true
dims_invoke test (One range) = range_invokes test range
dims_invoke test (Two range range2) = range_invokes test range && range_invokes test range2

abbrev pub item_invokes : InvocationTest → ItemShape → Bool
item_invokes test (Fixed shape) = true
item_invokes test (Str most) = expr_invokes test most

abbrev pub setup_invokes : InvocationTest → Setup → Bool
setup_invokes test (Typed shape value) = (dims_invoke test shape.dims && item_invokes test shape.item) && if_some (expr_invokes test) value
setup_invokes test (Untyped shape value) = expr_invokes test value

abbrev pub quantifier_invokes : InvocationTest → Quantifier → Bool
quantifier_invokes test q = (expr_invokes test q.from && expr_invokes test q.to) && (expr_invokes test q.by && if_some (expr_invokes test) q.condition)

abbrev pub co_invokes : InvocationTest → CoCall → Bool
co_invokes test call = if_some (place_invokes test) call.place && (target_passes test.calls (expr_seen test call.target) (length call.args) && list_all (argument_invokes test) call.args)

abbrev pub statement_invokes : InvocationTest → Statement-F Bool Bool Bool → Bool
statement_invokes test (Statement-F.Declare place declaration) = setup_invokes test declaration.setup
statement_invokes test (Statement-F.Act place action) = action_invokes test action
statement_invokes test (Statement-F.If place guards otherwise) = all_true guards && all_true otherwise
statement_invokes test (Statement-F.Do place guards otherwise) = all_true guards && if_some all_true otherwise
statement_invokes test (Statement-F.Fa place quantifiers body) = list_all (quantifier_invokes test) quantifiers && all_true body
statement_invokes test (Statement-F.In place site arms otherwise) = list_all all_true arms && all_true otherwise
statement_invokes test (Statement-F.Co place arms) = all_true arms
statement_invokes test (Statement-F.Sends place target count) = target_passes test.sends (expr_seen test target) 0 && expr_invokes test count

abbrev pub guarded_invokes : InvocationTest → Guarded-F Bool Bool Bool → Bool
guarded_invokes test guarded = expr_invokes test guarded.condition && all_true guarded.body

abbrev pub co_arm_invokes : InvocationTest → CoArm-F Bool Bool Bool → Bool
co_arm_invokes test arm = list_all (quantifier_invokes test) arm.quantifiers && (co_invokes test arm.call && all_true arm.body)

-- what is invoked in the statements of a block passes
abbrev pub block_invokes : InvocationTest → List Statement → Bool
block_invokes test block = all_true (map (fold-Statement Bool Bool Bool (statement_invokes test) (co_arm_invokes test) (guarded_invokes test)) block)

abbrev pub code_invokes : InvocationTest → CodeTest
code_invokes test number component body = block_invokes test body.block

-- ---- what may be invoked

-- what is made is a resource, with an argument for each of its formals; a global can't be made
abbrev pub makes_resource : Core → ℕ → ℕ → Bool
makes_resource core number args = with_component core number (λ component. not (is_global component.kind) && args == length component.formals)

-- there is an argument for each parameter
abbrev pub takes : Operation → ℕ → Bool
takes operation args = args == length operation.parameters

-- what is called is an operation that may be called, and takes the arguments
abbrev pub calls_operation : Core → ℕ → ℕ → Bool
calls_operation core number args = with_operation core number (λ operation. operation.can_call && takes operation args)

-- what is sent to is an operation that may be sent to, and takes the arguments
abbrev pub sends_operation : Core → ℕ → ℕ → Bool
sends_operation core number args = with_operation core number (λ operation. operation.can_send && takes operation args)

-- an invocation is forwarded to an operation that takes the arguments, in whatever form it is invoked
abbrev pub forwards_operation : Core → ℕ → ℕ → Bool
forwards_operation core number args = with_operation core number (λ operation. takes operation args)

-- nothing is asked
abbrev pub any : ℕ → ℕ → Bool
any number args = true

-- a test of one sort of invocations
abbrev pub of_makes : (ℕ → ℕ → Bool) → InvocationTest
of_makes test = record { makes = test; calls = any; sends = any; forwards = any }

abbrev pub of_calls : (ℕ → ℕ → Bool) → InvocationTest
of_calls test = record { makes = any; calls = test; sends = any; forwards = any }

abbrev pub of_sends : (ℕ → ℕ → Bool) → InvocationTest
of_sends test = record { makes = any; calls = any; sends = test; forwards = any }

abbrev pub of_forwards : (ℕ → ℕ → Bool) → InvocationTest
of_forwards test = record { makes = any; calls = any; sends = any; forwards = test }

-- A core whose code keeps the rules of what it invokes. Each part is a rule of its own.
pub record HasInvocations (core : Core) : Type 0 where
  -- `create` names a resource, and has an argument for each formal
  pub made : IsTrue (all_code core (code_invokes (of_makes (makes_resource core))))
  -- an operation that is called by its number may be called, and takes the arguments
  pub called : IsTrue (all_code core (code_invokes (of_calls (calls_operation core))))
  -- an operation that is sent to by its number may be sent to, and takes the arguments
  pub sent : IsTrue (all_code core (code_invokes (of_sends (sends_operation core))))
  -- an operation that is forwarded to by its number takes the arguments
  pub forwarded : IsTrue (all_code core (code_invokes (of_forwards (forwards_operation core))))
