-- Nothing stands where it has nothing to leave or to answer.
use Rattle.std.specs.List.{list_all}
use Rattle.std.specs.Prelude.{Bool, true, false, ◌&&◌, List, map}
use Rattle.sr_core.specs.declared.component.Body.{Body}
use Rattle.sr_core.specs.declared.component.Component.{Component}
use Rattle.sr_core.specs.declared.component.Core.{Core}
use Rattle.sr_core.specs.declared.statement.Action.{Action}
use Rattle.sr_core.specs.declared.statement.Action.TheVariants.{Forward, Exit, Next, Reply}
use Rattle.sr_core.specs.declared.statement.Statement.{Statement}
use Rattle.sr_core.specs.declared.statement.Statement.TheFolds.{fold-Statement}
use Rattle.sr_core.specs.declared.statement.Statement.TheOpen.{CoArm-F, Guarded-F, Statement-F}
use Rattle.sr_core.specs.Tests.{if_some}

-- What is around a piece of code: a loop or a `co` to leave, something that a reply answers, something that a forward hands on.
pub record Enclosing : Type 0 where
  pub in_loop : Bool
  pub may_reply : Bool
  pub may_forward : Bool

abbrev pub Rule : Type 0
Rule = Enclosing → Bool

abbrev pub all_allowed : List Rule → Rule
all_allowed rules enclosing = list_all (λ rule. rule enclosing) rules

abbrev pub within_loop : Enclosing → Enclosing
within_loop enclosing = record enclosing { in_loop = true }

abbrev pub within_arm : Enclosing → Enclosing
within_arm enclosing = record enclosing { may_reply = true; may_forward = true }

abbrev pub action_allowed : Action → Rule
action_allowed Exit enclosing = enclosing.in_loop
action_allowed Next enclosing = enclosing.in_loop
action_allowed Reply enclosing = enclosing.may_reply
action_allowed (Forward target args) enclosing = enclosing.may_forward
action_allowed action enclosing = true

abbrev pub statement_allowed : Statement-F Rule Rule Rule → Rule
statement_allowed (Statement-F.Declare place declaration) enclosing = true
statement_allowed (Statement-F.Act place action) enclosing = action_allowed action enclosing
statement_allowed (Statement-F.If place guards otherwise) enclosing = all_allowed guards enclosing && all_allowed otherwise enclosing
statement_allowed (Statement-F.Do place guards otherwise) enclosing =
    all_allowed guards (within_loop enclosing) && if_some (λ block. all_allowed block (within_loop enclosing)) otherwise
statement_allowed (Statement-F.Fa place quantifiers body) enclosing = all_allowed body (within_loop enclosing)
statement_allowed (Statement-F.In place site arms otherwise) enclosing =
    list_all (λ block. all_allowed block (within_arm enclosing)) arms && all_allowed otherwise enclosing
statement_allowed (Statement-F.Co place arms) enclosing = all_allowed arms enclosing
statement_allowed (Statement-F.Sends place target count) enclosing = true

abbrev pub guarded_allowed : Guarded-F Rule Rule Rule → Rule
guarded_allowed guarded enclosing = all_allowed guarded.body enclosing

abbrev pub co_arm_allowed : CoArm-F Rule Rule Rule → Rule
co_arm_allowed arm enclosing = all_allowed arm.body (within_loop enclosing)

abbrev pub block_allowed : List Statement → Rule
block_allowed block = all_allowed (map (fold-Statement Rule Rule Rule statement_allowed co_arm_allowed guarded_allowed) block)

-- ---- code

-- Outside every arm a reply in final code, and a forward in initial or final code, have nothing to answer.
abbrev pub body_allowed : Bool → Bool → Body → Bool
body_allowed may_reply may_forward body = block_allowed body.block (record { in_loop = false; may_reply = may_reply; may_forward = may_forward })

abbrev pub codes_allowed : Component → Bool
codes_allowed component = body_allowed true false component.initial && if_some (body_allowed false false) component.final_code

abbrev pub all_allowed_in : Core → Bool
all_allowed_in core = list_all codes_allowed core.components && list_all (λ proc. body_allowed true true proc.body) core.procs
