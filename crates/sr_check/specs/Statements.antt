-- What is found in statements: one line for each construct.
use Rattle.std.specs.Prelude.{Bool, true, false, not, ◌&&◌, List, [], ◌++◌, Option, Some, None, is_some, map}
use Rattle.std.specs.List.{list_any}
use Rattle.sr_value.specs.declared.place.Span.{Span}
use Rattle.sr_names.specs.declared.finding.Finding.{Finding}
use Rattle.sr_names.specs.declared.finding.Rule.TheVariants.{BadUse}
use Rattle.sr_names.specs.declared.spot.Spot.{Spot}
use Rattle.sr_names.specs.Spots.{spot_of}
use Rattle.sr_tree.specs.declared.declaration.ConstDecl.{ConstDecl}
use Rattle.sr_tree.specs.declared.declaration.VarDecl.{VarDecl}
use Rattle.sr_tree.specs.declared.expr.Expr.{Expr}
use Rattle.sr_tree.specs.declared.expr.Invocation.{Invocation}
use Rattle.sr_tree.specs.declared.name.Name.{Name}
use Rattle.sr_tree.specs.declared.statement.ArmCondition.{ArmCondition}
use Rattle.sr_tree.specs.declared.statement.BlockItem.{BlockItem, fold-BlockItem}
use Rattle.sr_tree.specs.declared.statement.Statement.{Statement, fold-Statement, out-Statement}
use Rattle.sr_tree.specs.declared.statement.Arm.{Arm, fold-Arm}
use Rattle.sr_tree.specs.declared.statement.Branch.{Branch, fold-Branch}
use Rattle.sr_tree.specs.declared.statement.CoArm.{CoArm, fold-CoArm}
use Rattle.sr_tree.specs.declared.statement.BlockItem.TheOpen.{BlockItem-F, Statement-F, Arm-F, Branch-F, CoArm-F}
use Rattle.sr_check_expr.specs.declared.facts.Facts.{Facts}
use Rattle.sr_check_expr.specs.declared.info.Info.TheVariants as info
use Rattle.sr_check_expr.specs.Exprs.{infer_create, infer_invocation}
use Rattle.sr_check_expr.specs.Typings.{broken_unless}
use Rattle.sr_check_decl.specs.Constants.{const_found, const_of}
use Rattle.sr_check_decl.specs.Declaring.{declare_name}
use Rattle.sr_check_decl.specs.Entering.{written_entered}
use Rattle.sr_check_decl.specs.Variables.{var_found, local_var}
use Rattle.sr_check.specs.declared.operation.Operation.{Operation}
use Rattle.sr_check.specs.Contexts.{Context, Step, Steps, with_facts, looping, serving_for, in_order, with_more, only_found}
use Rattle.sr_check.specs.Invoking.{call_found, send_found, forward_found, may_reply, started_found}
use Rattle.sr_check.specs.Quantifying.{expr_with, maybe_with, quantifiers_found, quantifiers_known}
use Rattle.sr_check.specs.Receiving.{receive_found}
use Rattle.sr_check.specs.Services.{operation_named, head_found, service_bound, type_of, spot_or, is_local_name, is_shared_name}
use Rattle.sr_check.specs.Storing.{assign_found, exchange_found, counter_found, status_found, destroy_found}
use Rattle.sr_check.specs.Uses.{condition_rule, choice_rule}

-- ---- declarations in blocks

-- a constant without a type has that of its value
abbrev pub local_const : ConstDecl → Facts → Facts
local_const constant facts = declare_name facts constant.name (info.Value (const_of false facts constant))

-- the signatures that are written in a declaration have numbers before it is read
abbrev pub const_read_in : ConstDecl → Facts → Step
const_read_in constant facts = record { found = const_found false facts constant; facts = local_const constant facts }

abbrev pub const_read : ConstDecl → Facts → Step
const_read constant facts = const_read_in constant (written_entered constant.ty facts)

abbrev pub var_read_in : VarDecl → Facts → Step
var_read_in variables facts = record { found = var_found facts variables; facts = local_var variables facts }

abbrev pub var_read : VarDecl → Facts → Step
var_read variables facts = var_read_in variables (written_entered variables.ty facts)

-- an arm: its operation, and what is found in it where its `in` stands at a span
pub record ArmSteps : Type 0 where
  pub operation : Name
  pub steps : Span → Steps

-- what is found in an arm of `co`, where its `co` stands at a span
abbrev pub CoArmSteps : Type 0
CoArmSteps = Span → Steps

-- ---- blocks

abbrev pub maybe_block : Option (List Steps) → Steps
maybe_block None context = only_found context []
maybe_block (Some items) context = in_order items context

abbrev pub then_step : Steps → Steps → Steps
then_step first second context = with_more (first context).found (second (with_facts context (first context).facts))

abbrev pub item_step : BlockItem-F Steps Steps ArmSteps Steps CoArmSteps → Steps
item_step (BlockItem-F.Const constant) context = const_read constant context.facts
item_step (BlockItem-F.Var variables) context = var_read variables context.facts
item_step (BlockItem-F.Statement statement) context = statement context

-- a guard is a bool
abbrev pub branch_step : Branch-F Steps Steps ArmSteps Steps CoArmSteps → Steps
branch_step branch context = with_more (expr_with condition_rule context.facts branch.guard) (in_order branch.block context)

-- ---- `in`

-- a condition and an order are guards, in which nothing is invoked, read or created
abbrev pub guarding : Facts → Facts
guarding facts = record facts { here = record { component = facts.here.component; in_guard = true } }

abbrev pub condition_found : Facts → Option ArmCondition → List Finding
condition_found facts None = []
condition_found facts (Some written) = expr_with condition_rule facts written.condition

abbrev pub guards_found : Facts → Option ArmCondition → Option Expr → List Finding
guards_found facts condition order = condition_found (guarding facts) condition ++ maybe_with choice_rule (guarding facts) order

-- within an arm its formals are known, and its service is the innermost
abbrev pub arm_context : Context → Spot → List Name → Option Name → Option Operation → Context
arm_context context spot formals returned operation =
    serving_for (with_facts context (service_bound formals returned (type_of operation) context.facts)) (spot_or spot operation)

abbrev pub arm_inner : Option ArmCondition → Option Expr → List Steps → Steps
arm_inner condition order block context = with_more (guards_found context.facts condition order) (in_order block context)

-- what an arm says of its operation is refused at its `in`
abbrev pub arm_step : Arm-F Steps Steps ArmSteps Steps CoArmSteps → ArmSteps
arm_step arm = record {
  operation = arm.operation;
  steps = λ span context.
      with_more (head_found context.facts context.procs span arm.formals (is_some arm.returned) (operation_named context.facts arm.operation))
      (arm_inner arm.condition arm.order arm.block (arm_context context (spot_of arm.operation.span) arm.formals arm.returned (operation_named context.facts arm.operation)));
}

-- the operations of one `in` are all of the component or all of the proc
abbrev pub is_mixture : Facts → List ArmSteps → Bool
is_mixture facts arms = list_any (λ arm. is_local_name facts arm.operation) arms && list_any (λ arm. is_shared_name facts arm.operation) arms

abbrev pub mixture_found : Facts → Span → List ArmSteps → List Finding
mixture_found facts span arms = broken_unless (not (is_mixture facts arms)) BadUse span

abbrev pub arms_at : Span → List ArmSteps → List Steps
arms_at span arms = map (λ arm. arm.steps span) arms

-- ---- `co`

abbrev pub co_arm_inner : Span → Option Expr → Invocation → Option (List Steps) → Steps
co_arm_inner span target invocation block context =
    with_more (started_found context.facts span target (infer_invocation invocation context.facts)) (maybe_block block (looping context))

-- the quantifiers of an arm are known in all of it
abbrev pub co_arm_step : CoArm-F Steps Steps ArmSteps Steps CoArmSteps → CoArmSteps
co_arm_step arm span context =
    with_more (quantifiers_found context.facts arm.quantifiers)
    (co_arm_inner span arm.target arm.invocation arm.block (with_facts context (quantifiers_known context.facts arm.quantifiers)))

abbrev pub co_arms_at : Span → List CoArmSteps → List Steps
co_arms_at span arms = map (λ steps. steps span) arms

-- ---- all

-- statements that store, end instances and make them
abbrev pub store_step : {A B C D E : Type 0} → Statement-F A B C D E → Facts → List Finding
store_step (Statement-F.Assign span target value) facts = assign_found facts span target value
store_step (Statement-F.Exchange span left right) facts = exchange_found facts span left right
store_step (Statement-F.Increment span target) facts = counter_found facts span target
store_step (Statement-F.Decrement span target) facts = counter_found facts span target
store_step (Statement-F.Destroy span target) facts = destroy_found facts span target
store_step (Statement-F.Create span create) facts = (infer_create create facts).found
store_step _ facts = []

-- statements in which no others stand
abbrev pub plain_step : {A B C D E : Type 0} → Statement-F A B C D E → Context → List Finding
plain_step (Statement-F.Exit span) context = broken_unless context.in_loop BadUse span
plain_step (Statement-F.Next span) context = broken_unless context.in_loop BadUse span
plain_step (Statement-F.Reply span) context = broken_unless (may_reply context.serving) BadUse span
plain_step (Statement-F.Stop span status) context = status_found context.facts span status
plain_step (Statement-F.Call span with_call invocation) context = call_found context span (infer_invocation invocation context.facts)
plain_step (Statement-F.Send span invocation) context = send_found context.facts span (infer_invocation invocation context.facts)
plain_step (Statement-F.Forward span invocation) context = forward_found context span (infer_invocation invocation context.facts)
plain_step (Statement-F.Receive span operation places) context = receive_found context span operation places
plain_step statement context = store_step statement context.facts

abbrev pub statement_step : Statement-F Steps Steps ArmSteps Steps CoArmSteps → Steps
statement_step (Statement-F.If span branches otherwise) context = then_step (in_order branches) (maybe_block otherwise) context
statement_step (Statement-F.Do span branches otherwise) context = then_step (in_order branches) (maybe_block otherwise) (looping context)
statement_step (Statement-F.ForAll span quantifiers block) context =
    with_more (quantifiers_found context.facts quantifiers)
    (in_order block (looping (with_facts context (quantifiers_known context.facts quantifiers))))
statement_step (Statement-F.In span arms otherwise) context =
    with_more (mixture_found context.facts span arms) (then_step (in_order (arms_at span arms)) (maybe_block otherwise) context)
statement_step (Statement-F.Co span arms) context = in_order (co_arms_at span arms) context
statement_step statement context = only_found context (plain_step statement context)

abbrev pub store_found : Statement → Facts → List Finding
store_found statement facts = store_step (out-Statement statement) facts

abbrev pub plain_found : Statement → Context → List Finding
plain_found statement context = plain_step (out-Statement statement) context

abbrev pub statement_read : Statement → Steps
statement_read = fold-Statement Steps Steps ArmSteps Steps CoArmSteps item_step statement_step arm_step branch_step co_arm_step

abbrev pub block_item_read : BlockItem → Steps
block_item_read = fold-BlockItem Steps Steps ArmSteps Steps CoArmSteps item_step statement_step arm_step branch_step co_arm_step

abbrev pub arm_read : Arm → ArmSteps
arm_read = fold-Arm Steps Steps ArmSteps Steps CoArmSteps item_step statement_step arm_step branch_step co_arm_step

abbrev pub branch_read : Branch → Steps
branch_read = fold-Branch Steps Steps ArmSteps Steps CoArmSteps item_step statement_step arm_step branch_step co_arm_step

abbrev pub co_arm_read : CoArm → CoArmSteps
co_arm_read = fold-CoArm Steps Steps ArmSteps Steps CoArmSteps item_step statement_step arm_step branch_step co_arm_step
