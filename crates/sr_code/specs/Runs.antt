-- What running code asks.
use Rattle.std.specs.Prelude.{ℕ, zero, suc, ◌+◌, ◌*◌, min, false, List, [], ◌∷◌, length, replicate, Option, Some, None, unwrap_or, slice_get}
use Rattle.sr_value.specs.declared.place.Place.{Place}
use Rattle.sr_ask.specs.Asking.{none_takes}
use Rattle.sr_ask.specs.Behaviors.{Stage, Outcome, Came, Stops, Doing, room}
use Rattle.sr_ask.specs.Here.{Here, request}
use Rattle.sr_ask.specs.Replies.{results_now}
use Rattle.sr_ask.specs.declared.answer.Answer.{Answer}
use Rattle.sr_ask.specs.declared.ask.Asks.{Asks}
use Rattle.sr_ask.specs.declared.ask.Asks.TheVariants.{OverTicks}
use Rattle.sr_ask.specs.declared.ask.Role.{Role}
use Rattle.sr_ask.specs.declared.ask.Role.TheVariants.{Boot, Initial, Proc as proc_role, Final}
use Rattle.sr_ask.specs.declared.environment.Gives.{Gives}
use Rattle.sr_ask.specs.declared.environment.Gives.TheVariants.{Values, Instance}
use Rattle.sr_ask.specs.declared.environment.Service.{Service}
use Rattle.sr_ask.specs.declared.request.Request.TheVariants.{Finish}
use Rattle.sr_ask.specs.declared.start.Start.{Start}
use Rattle.sr_core.specs.declared.component.Core.{Core}
use Rattle.sr_code.specs.Acts.{Point, point, act}
use Rattle.sr_code.specs.Operands.{no_operands}
use Rattle.sr_code.specs.declared.code.Code.{Code}
use Rattle.sr_code.specs.declared.code.Coded.{Coded}
use Rattle.sr_code.specs.declared.code.Entry.{Entry}
use Rattle.sr_code.specs.declared.operands.Operands.{Operands}

-- What stays the same while the code of a process runs: the program, the process, how many statements it may
-- begin between two answers, the line at which it ends, and the code.
pub record Machine : Type 0 where
  pub core : Core
  pub start : Start
  pub limit : ℕ
  pub line : Place
  pub code : List Coded

-- the process at a line
abbrev pub here_at : Machine → Place → Here
here_at m line = record { start = m.start; limit = m.limit; place = line }

-- the end of a process, which gives the present results
abbrev pub finish : {A : Type 0} → Here → Doing A
finish here stage = request none_takes (Finish stage.service.answered stage.service.back (results_now here stage)) here stage

-- what is found at an address; `next` is the address after it
abbrev pub carried : Option Coded → Machine → ℕ → Operands → Doing Point
carried None m next on = finish (here_at m m.line)
carried (Some coded) m next on = act m.core coded.instruction (here_at m coded.place) next on

-- One instruction. Address 0 is the end, and so is one above the code.
abbrev pub step_at : Machine → ℕ → Operands → Doing Point
step_at m zero on = finish (here_at m m.line)
step_at m (suc next) on = carried (slice_get m.code next) m next on

abbrev pub step : Machine → Point → Doing Point
step m at = step_at m at.address at.operands

-- what a process asks whose work is this, and then what follows
abbrev pub then_asks : {A : Type 0} → Outcome A → (A → Stage → Asks) → Asks
then_asks (Came a stage) next = next a stage
then_asks (Stops asks) next = asks

-- what so many instructions ask
abbrev pub steps : ℕ → Machine → Point → Stage → Asks
steps zero m at stage = OverTicks
steps (suc count) m at stage = then_asks (step m at stage) (steps count m)

-- No more instructions follow: each goes to a lower address, or takes a tick or an answer.
abbrev pub work : Machine → ℕ → Stage → ℕ
work m address stage = room m.limit stage * suc (length m.code) + min address (length m.code)

-- what running code asks, from a point on
unfoldable pub go : Machine → Point → Stage → Asks
go m at stage = steps (suc (work m at.address stage)) m at stage

-- ---- whole processes

-- what a role without code has
abbrev pub gives_without : Role → Gives
gives_without Initial = Instance
gives_without role = Values []

abbrev pub ends_at : Place → Role → Entry
ends_at line role = record { address = 0; place = line; owns = 0; gives = gives_without role }

abbrev pub no_line : Place
no_line = record { file = 0; line = 1 }

-- a proc that isn't there ends at the line of the first component
abbrev pub first_line : List Entry → Place
first_line [] = no_line
first_line (entry ∷ entries) = entry.place

-- where the code of a process begins
abbrev pub entry_of : Code → Role → ℕ → Entry
entry_of code Boot number = code.boot
entry_of code Initial number = unwrap_or (slice_get code.initial number) (ends_at no_line Initial)
entry_of code proc_role number = unwrap_or (slice_get code.procs number) (ends_at (first_line code.initial) proc_role)
entry_of code Final number = unwrap_or (slice_get code.final_code number) (ends_at no_line Final)

-- a process holds what it was made for under its own number
abbrev pub service_at : Entry → Start → Service
service_at entry start = record { held = start.process; back = start.back; answered = false; gives = entry.gives }

abbrev pub stage_at : Entry → Start → ℕ → List Answer → Stage
stage_at entry start limit answers = record {
  ticks = limit;
  answers = answers;
  own = replicate entry.owns None;
  service = service_at entry start;
  out = [];
}

abbrev pub machine_at : Entry → Core → Code → Start → ℕ → Machine
machine_at entry core code start limit = record { core = core; start = start; limit = limit; line = entry.place; code = code.items }

abbrev pub asked_from : Entry → Core → Code → Start → ℕ → List Answer → Asks
asked_from entry core code start limit answers =
    go (machine_at entry core code start limit) (point entry.address no_operands) (stage_at entry start limit answers)

-- What the code of a process with this start asks after exactly these answers, where it may begin `limit`
-- statements between two of them.
abbrev pub code_ask : Core → Code → Start → ℕ → List Answer → Asks
code_ask core code start limit answers = asked_from (entry_of code start.role start.code) core code start limit answers
