-- What statements are in the core: one line for each construct, and one definition for each abbreviation.
use Rattle.std.specs.Prelude.{true, false, List, [], ◌∷◌, ◌++◌, Option, Some, None, is_some, map, flat_map, if◌then◌else◌}
use Rattle.std.specs.Option.{option_map}
use Rattle.sr_core.specs.declared.expression.Expr.{Expr as CoreExpr}
use Rattle.sr_core.specs.declared.expression.Expr.TheVariants as core
use Rattle.sr_core.specs.declared.site.Arm.{Arm}
use Rattle.sr_core.specs.declared.site.Site.{Site}
use Rattle.sr_core.specs.declared.statement.Action.{Action}
use Rattle.sr_core.specs.declared.statement.Action.TheVariants as action
use Rattle.sr_core.specs.declared.statement.Bump.TheVariants.{Increase, Decrease}
use Rattle.sr_core.specs.declared.statement.CoArm.{CoArm, roll-CoArm}
use Rattle.sr_core.specs.declared.statement.CoCall.{CoCall}
use Rattle.sr_core.specs.declared.statement.Direction.{Direction}
use Rattle.sr_core.specs.declared.statement.Direction.TheVariants.{Up, Down}
use Rattle.sr_core.specs.declared.statement.Guarded.{Guarded, roll-Guarded}
use Rattle.sr_core.specs.declared.statement.Quantifier.{Quantifier}
use Rattle.sr_core.specs.declared.statement.Scope.{Scope}
use Rattle.sr_core.specs.declared.statement.Scope.TheVariants.{Own, Shared}
use Rattle.sr_core.specs.declared.statement.Statement.{Statement}
use Rattle.sr_core.specs.declared.statement.Statement.TheVariants as statement
use Rattle.sr_names.specs.declared.predefined.Predefined.{Predefined}
use Rattle.sr_names.specs.declared.predefined.Predefined.TheVariants as predefined
use Rattle.sr_names.specs.declared.spot.Spot.{Spot}
use Rattle.sr_names.specs.Spots.{spot_of}
use Rattle.sr_tree.specs.declared.declaration.Semaphore.{Semaphore}
use Rattle.sr_tree.specs.declared.expr.Expr.{Expr}
use Rattle.sr_tree.specs.declared.expr.Invocation.{Invocation}
use Rattle.sr_tree.specs.declared.name.Name.{Name}
use Rattle.sr_tree.specs.declared.statement.Arm.{Arm as ArmTree, fold-Arm}
use Rattle.sr_tree.specs.declared.statement.ArmCondition.{ArmCondition}
use Rattle.sr_tree.specs.declared.statement.BlockItem.{BlockItem, fold-BlockItem}
use Rattle.sr_tree.specs.declared.statement.BlockItem.TheOpen.{BlockItem-F, Statement-F, Arm-F, Branch-F, CoArm-F}
use Rattle.sr_tree.specs.declared.statement.Branch.{Branch, fold-Branch}
use Rattle.sr_tree.specs.declared.statement.CoArm.{CoArm as CoArmTree, fold-CoArm}
use Rattle.sr_tree.specs.declared.statement.Direction.{Direction as DirectionWord}
use Rattle.sr_tree.specs.declared.statement.Direction.TheVariants.{To, Downto}
use Rattle.sr_tree.specs.declared.statement.Quantifier.{Quantifier as QuantifierTree}
use Rattle.sr_tree.specs.declared.statement.Statement.{Statement as StatementTree, fold-Statement, out-Statement}
use Rattle.sr_tree.specs.Expressions.{expr_span}
use Rattle.sr_value.specs.declared.place.Place.{Place}
use Rattle.sr_value.specs.declared.place.Span.{Span}
use Rattle.sr_lower_expr.specs.declared.scene.Scene.{Scene}
use Rattle.sr_desugar.specs.Declarations.{int_constant, var_core, const_core}
use Rattle.sr_lower_expr.specs.Expressions.{LoweredInvocation, values, lowered_of, core_value, core_place, core_create, core_sending, sent_arguments, call_returns, call_of}
use Rattle.sr_check_expr.specs.Meanings.{function_called, meant_by}
use Rattle.sr_tables.specs.Lists.{lists, maybe}
use Rattle.sr_outline.specs.Numbers.{is_p, receive_returned, returned_names, wait_operation}
use Rattle.sr_tables.specs.Parts.{line_of, spot_named}
use Rattle.sr_lower_expr.specs.Places.{own_number, own_place, own_formals, own_returned, operation_expr, operation_number, scope_of_operation, site_number, value_of, nothing}
use Rattle.sr_tables.specs.Sites.{site_of}

-- What a construct is in the core, with the sites of the statements in it that wait.
pub record WithSites (A : Type 0) : Type 0 where
  pub made : A
  pub sites : List Site

abbrev pub alone : {A : Type 0} → A → WithSites A
alone thing = record { made = thing; sites = [] }

abbrev pub all_made : {A : Type 0} → List (WithSites A) → List A
all_made things = map (λ thing. thing.made) things

abbrev pub all_sites : {A : Type 0} → List (WithSites A) → List Site
all_sites things = flat_map (λ thing. thing.sites) things

-- ---- blocks

abbrev pub Block : Type 0
Block = List Statement

-- the statements of a block, one item after another
abbrev pub block_made : List (WithSites Block) → WithSites Block
block_made items = record { made = lists (all_made items); sites = all_sites items }

-- a block that isn't written does nothing
abbrev pub maybe_made : Option (List (WithSites Block)) → WithSites Block
maybe_made None = alone []
maybe_made (Some items) = block_made items

-- ---- statements without blocks

abbrev pub act : Span → Action → Statement
act span action = statement.Act (line_of span) action

abbrev pub send_of : Scene → LoweredInvocation → Action
send_of scene sending = action.Send (value_of sending.callee.1) (sent_arguments scene.facts sending)

abbrev pub forward_of : Scene → LoweredInvocation → Action
forward_of scene sending = action.Forward (value_of sending.callee.1) (sent_arguments scene.facts sending)

-- ---- `receive`

-- one formal to one place
abbrev pub receive_assign : Scene → Span → Expr → Statement
receive_assign scene span place = act span (action.Assign (core_place scene place) (core.Load (own_place scene (spot_of (expr_span place)))))

abbrev pub receive_arm : Scene → Span → Spot → List Expr → Arm
receive_arm scene span operation places = record {
  place = line_of span;
  op = operation_number scene operation;
  formals = own_formals scene (map (λ place. spot_of (expr_span place)) places) operation;
  returned = own_returned scene (receive_returned scene.facts span operation) operation;
  guard = None;
  by = None;
}

-- `receive f(v, w)` is an `in` with one arm that assigns its formals to `v` and then `w`
abbrev pub receive_made : Scene → Span → Spot → List Expr → WithSites Statement
receive_made scene span operation places = record {
  made = statement.In (line_of span) (site_number scene (spot_of span)) (map (receive_assign scene span) places ∷ []) [];
  sites = site_of (scope_of_operation scene operation) (receive_arm scene span operation places ∷ []) false ∷ [];
}

-- ---- invocations as statements

abbrev pub all_told : LoweredInvocation → List CoreExpr
all_told sending = values (lowered_of sending.arguments)

-- `V` without an argument, as in a program that is refused, is of nothing
abbrev pub first_expr : List CoreExpr → CoreExpr
first_expr [] = nothing
first_expr (expr ∷ exprs) = expr

-- `V(e)` is `send e()`
abbrev pub v_action : LoweredInvocation → Action
v_action sending = action.Send (first_expr (all_told sending)) []

-- a call whose value isn't used
abbrev pub evaluation : Scene → Invocation → Action
evaluation scene invocation = action.Evaluate (call_of scene (core_sending scene invocation))

-- `write` and `writes` are statements of their own
abbrev pub named_action : Scene → Invocation → Predefined → Action
named_action scene invocation predefined.Write = action.Write (all_told (core_sending scene invocation)) true
named_action scene invocation predefined.Writes = action.Write (all_told (core_sending scene invocation)) false
named_action scene invocation predefined.V = v_action (core_sending scene invocation)
named_action scene invocation _ = evaluation scene invocation

abbrev pub call_action : Scene → Invocation → Option Predefined → Action
call_action scene invocation None = evaluation scene invocation
call_action scene invocation (Some name) = named_action scene invocation name

-- `P(s)` is `receive s()`
abbrev pub call_made : Scene → Span → Invocation → Option Predefined → WithSites Statement
call_made scene span invocation function =
    if is_p function then receive_made scene span (wait_operation scene.facts span invocation) [] else alone (act span (call_action scene invocation function))

-- ---- quantifiers

abbrev pub direction_core : DirectionWord → Direction
direction_core To = Up
direction_core Downto = Down

-- without `by` the step is 1
abbrev pub step_core : Scene → Option Expr → CoreExpr
step_core scene None = int_constant 1
step_core scene (Some step) = core_value scene step

abbrev pub quantifier_core : Scene → QuantifierTree → Quantifier
quantifier_core scene quantifier = record {
  var = own_number scene (spot_named quantifier.name);
  from = core_value scene quantifier.first;
  direction = direction_core quantifier.direction;
  to = core_value scene quantifier.last;
  by = step_core scene quantifier.step;
  condition = option_map (core_value scene) quantifier.such_that;
}

abbrev pub quantifiers_core : Scene → List QuantifierTree → List Quantifier
quantifiers_core scene quantifiers = map (quantifier_core scene) quantifiers

-- ---- `sem`

-- `sem s := n` is `op s() {send}` and `n` sends; `n` is evaluated once
abbrev pub value_sends : Scene → Place → Spot → Expr → Block
value_sends scene place operation value = statement.Sends place (operation_expr scene operation) (core_value scene value) ∷ []

-- without a value it is 0
abbrev pub semaphore_sends : Scene → Place → Semaphore → Block
semaphore_sends scene place semaphore = maybe (value_sends scene place (spot_named semaphore.name)) semaphore.value

abbrev pub semaphores_core : Scene → Span → List Semaphore → Block
semaphores_core scene span semaphores = flat_map (semaphore_sends scene (line_of span)) semaphores

-- ---- parts of statements

-- an arm of an `in`, whether its operation belongs to the instance or to the process, and its block
pub record LoweredArm : Type 0 where
  pub arm : Arm
  pub scope : Scope
  pub block : Block

abbrev pub condition_of : Scene → Option ArmCondition → Option CoreExpr
condition_of scene condition = option_map (λ written. core_value scene written.condition) condition

-- the names of an arm stand for the formals of its operation; its place is its first token
abbrev pub arm_core : Scene → Span → Spot → List Name → Option Name → Option ArmCondition → Option Expr → Arm
arm_core scene span operation formals returned condition order = record {
  place = line_of span;
  op = operation_number scene operation;
  formals = own_formals scene (map spot_named formals) operation;
  returned = own_returned scene (returned_names returned) operation;
  guard = condition_of scene condition;
  by = option_map (core_value scene) order;
}

abbrev pub arm_made : Scene → Arm-F (WithSites Block) (WithSites Statement) (WithSites LoweredArm) (WithSites Guarded) (WithSites CoArm) → WithSites LoweredArm
arm_made scene arm = record {
  made = record {
    arm = arm_core scene arm.span (meant_by scene.facts arm.operation) arm.formals arm.returned arm.condition arm.order;
    scope = scope_of_operation scene (meant_by scene.facts arm.operation);
    block = (block_made arm.block).made;
  };
  sites = (block_made arm.block).sites;
}

abbrev pub branch_made : Scene → Branch-F (WithSites Block) (WithSites Statement) (WithSites LoweredArm) (WithSites Guarded) (WithSites CoArm) → WithSites Guarded
branch_made scene branch = record {
  made = roll-Guarded (record { condition = core_value scene branch.guard; body = (block_made branch.block).made });
  sites = (block_made branch.block).sites;
}

abbrev pub co_call : Scene → Option Expr → LoweredInvocation → CoCall
co_call scene target sending = record {
  place = option_map (core_place scene) target;
  target = value_of sending.callee.1;
  args = sent_arguments scene.facts sending;
  returns = call_returns scene sending;
}

abbrev pub co_arm_made : Scene → CoArm-F (WithSites Block) (WithSites Statement) (WithSites LoweredArm) (WithSites Guarded) (WithSites CoArm) → WithSites CoArm
co_arm_made scene arm = record {
  made = roll-CoArm (record {
    quantifiers = quantifiers_core scene arm.quantifiers;
    call = co_call scene arm.target (core_sending scene arm.invocation);
    body = (maybe_made arm.block).made;
  });
  sites = (maybe_made arm.block).sites;
}

-- ---- statements with blocks

-- a statement of parts and of what stands after `else`
abbrev pub with_otherwise : {A : Type 0} → List (WithSites A) → Option (List (WithSites Block)) → Statement → WithSites Statement
with_otherwise parts otherwise whole = record { made = whole; sites = all_sites parts ++ (maybe_made otherwise).sites }

abbrev pub blocks_of : List (WithSites LoweredArm) → List Block
blocks_of arms = map (λ arm. arm.made.block) arms

abbrev pub arms_of : List (WithSites LoweredArm) → List Arm
arms_of arms = map (λ arm. arm.made.arm) arms

-- The scope of an `in` is that of its first arm, since scopes are never mixed. The parser gives no `in` without arms.
abbrev pub scope_of_arms : List (WithSites LoweredArm) → Scope
scope_of_arms [] = Shared
scope_of_arms (arm ∷ arms) = arm.made.scope

-- the site of an `in` goes before those in its blocks
abbrev pub in_made : Scene → Span → List (WithSites LoweredArm) → Option (List (WithSites Block)) → WithSites Statement
in_made scene span arms otherwise = record {
  made = statement.In (line_of span) (site_number scene (spot_of span)) (blocks_of arms) (maybe_made otherwise).made;
  sites = site_of (scope_of_arms arms) (arms_of arms) (is_some otherwise) ∷ all_sites arms ++ (maybe_made otherwise).sites;
}

-- `do` knows whether an `else` is written
abbrev pub otherwise_of : Option (List (WithSites Block)) → Option Block
otherwise_of otherwise = option_map (λ items. (block_made items).made) otherwise

abbrev pub for_all_made : Scene → Span → List QuantifierTree → List (WithSites Block) → WithSites Statement
for_all_made scene span quantifiers block =
    record { made = statement.Fa (line_of span) (quantifiers_core scene quantifiers) (block_made block).made; sites = (block_made block).sites }

abbrev pub co_made : Span → List (WithSites CoArm) → WithSites Statement
co_made span arms = record { made = statement.Co (line_of span) (all_made arms); sites = all_sites arms }

-- ---- all

abbrev pub first_token : {A B C D E : Type 0} → Statement-F A B C D E → Span
first_token (Statement-F.Skip span) = span
first_token (Statement-F.Exit span) = span
first_token (Statement-F.Next span) = span
first_token (Statement-F.Return span) = span
first_token (Statement-F.Reply span) = span
first_token (Statement-F.Stop span status) = span
first_token (Statement-F.Call span with_call invocation) = span
first_token (Statement-F.Send span invocation) = span
first_token (Statement-F.Forward span invocation) = span
first_token (Statement-F.Receive span operation places) = span
first_token (Statement-F.Assign span target value) = span
first_token (Statement-F.Exchange span left right) = span
first_token (Statement-F.Increment span target) = span
first_token (Statement-F.Decrement span target) = span
first_token (Statement-F.If span branches otherwise) = span
first_token (Statement-F.Do span branches otherwise) = span
first_token (Statement-F.ForAll span quantifiers block) = span
first_token (Statement-F.In span arms otherwise) = span
first_token (Statement-F.Co span arms) = span
first_token (Statement-F.Destroy span target) = span
first_token (Statement-F.Create span create) = span

-- a statement without blocks that is no call and no `receive`
abbrev pub plain_action : {A B C D E : Type 0} → Scene → Statement-F A B C D E → Action
plain_action scene (Statement-F.Exit span) = action.Exit
plain_action scene (Statement-F.Next span) = action.Next
plain_action scene (Statement-F.Return span) = action.Return
plain_action scene (Statement-F.Reply span) = action.Reply
plain_action scene (Statement-F.Stop span status) = action.Stop (option_map (core_value scene) status)
plain_action scene (Statement-F.Send span invocation) = send_of scene (core_sending scene invocation)
plain_action scene (Statement-F.Forward span invocation) = forward_of scene (core_sending scene invocation)
plain_action scene (Statement-F.Assign span target value) = action.Assign (core_place scene target) (core_value scene value)
plain_action scene (Statement-F.Exchange span left right) = action.Swap (core_place scene left) (core_place scene right)
plain_action scene (Statement-F.Increment span target) = action.Bump (core_place scene target) Increase
plain_action scene (Statement-F.Decrement span target) = action.Bump (core_place scene target) Decrease
plain_action scene (Statement-F.Destroy span target) = action.Destroy (core_value scene target)
plain_action scene (Statement-F.Create span create) = action.Evaluate (core_create scene create)
plain_action scene _ = action.Skip

-- the same at its first token
abbrev pub plain_core : Scene → StatementTree → Statement
plain_core scene tree = act (first_token (out-Statement tree)) (plain_action scene (out-Statement tree))

abbrev pub statement_made : Scene → Statement-F (WithSites Block) (WithSites Statement) (WithSites LoweredArm) (WithSites Guarded) (WithSites CoArm) → WithSites Statement
statement_made scene (Statement-F.Call span with_call invocation) = call_made scene span invocation (function_called scene.facts invocation)
statement_made scene (Statement-F.Receive span operation places) = receive_made scene span (meant_by scene.facts operation) places
statement_made scene (Statement-F.If span branches otherwise) =
    with_otherwise branches otherwise (statement.If (line_of span) (all_made branches) (maybe_made otherwise).made)
statement_made scene (Statement-F.Do span branches otherwise) =
    with_otherwise branches otherwise (statement.Do (line_of span) (all_made branches) (otherwise_of otherwise))
statement_made scene (Statement-F.ForAll span quantifiers block) = for_all_made scene span quantifiers block
statement_made scene (Statement-F.In span arms otherwise) = in_made scene span arms otherwise
statement_made scene (Statement-F.Co span arms) = co_made span arms
statement_made scene plain = alone (act (first_token plain) (plain_action scene plain))

-- what a block declares is the process's own
abbrev pub item_made : Scene → BlockItem-F (WithSites Block) (WithSites Statement) (WithSites LoweredArm) (WithSites Guarded) (WithSites CoArm) → WithSites Block
item_made scene (BlockItem-F.Const constant) = alone (const_core scene Own constant)
item_made scene (BlockItem-F.Var variables) = alone (var_core scene Own variables)
item_made scene (BlockItem-F.Statement statement) = record { made = statement.made ∷ []; sites = statement.sites }

abbrev pub core_statement : Scene → StatementTree → WithSites Statement
core_statement scene =
    fold-Statement (WithSites Block) (WithSites Statement) (WithSites LoweredArm) (WithSites Guarded) (WithSites CoArm) (item_made scene) (statement_made scene) (arm_made scene) (branch_made scene) (co_arm_made scene)

abbrev pub core_block_item : Scene → BlockItem → WithSites Block
core_block_item scene =
    fold-BlockItem (WithSites Block) (WithSites Statement) (WithSites LoweredArm) (WithSites Guarded) (WithSites CoArm) (item_made scene) (statement_made scene) (arm_made scene) (branch_made scene) (co_arm_made scene)

abbrev pub core_arm : Scene → ArmTree → WithSites LoweredArm
core_arm scene =
    fold-Arm (WithSites Block) (WithSites Statement) (WithSites LoweredArm) (WithSites Guarded) (WithSites CoArm) (item_made scene) (statement_made scene) (arm_made scene) (branch_made scene) (co_arm_made scene)

abbrev pub core_branch : Scene → Branch → WithSites Guarded
core_branch scene =
    fold-Branch (WithSites Block) (WithSites Statement) (WithSites LoweredArm) (WithSites Guarded) (WithSites CoArm) (item_made scene) (statement_made scene) (arm_made scene) (branch_made scene) (co_arm_made scene)

abbrev pub core_co_arm : Scene → CoArmTree → WithSites CoArm
core_co_arm scene =
    fold-CoArm (WithSites Block) (WithSites Statement) (WithSites LoweredArm) (WithSites Guarded) (WithSites CoArm) (item_made scene) (statement_made scene) (arm_made scene) (branch_made scene) (co_arm_made scene)

abbrev pub core_items : Scene → List BlockItem → List (WithSites Block)
core_items scene items = map (core_block_item scene) items
