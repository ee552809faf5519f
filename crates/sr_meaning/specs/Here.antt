-- What stays the same while a statement is carried out: the process of a program, at a line.
use Rattle.std.specs.Prelude.{ℕ, Option, Result}
use Rattle.sr_value.specs.declared.fault.Fault.{Fault}
use Rattle.sr_value.specs.declared.place.Place.{Place}
use Rattle.sr_ask.specs.Behaviors.{Doing}
use Rattle.sr_ask.specs.Here.{Here as Asking_here, ask_of as asked_at, request as request_at, fail as fail_at, settle as settle_at}
use Rattle.sr_ask.specs.declared.answer.Answer.{Answer}
use Rattle.sr_ask.specs.declared.ask.Asks.{Asks}
use Rattle.sr_ask.specs.declared.request.Request.{Request}
use Rattle.sr_ask.specs.declared.start.Start.{Start}
use Rattle.sr_core.specs.declared.component.Core.{Core}

-- The program, the process, how many statements it may begin between two answers, and the line of the
-- innermost statement or declaration.
pub record Here : Type 0 where
  pub core : Core
  pub start : Start
  pub limit : ℕ
  pub place : Place

-- the same at another line
abbrev pub at_line : Place → Here → Here
at_line place here = record here { place = place }

-- the same without the program
abbrev pub asker : Here → Asking_here
asker here = record { start = here.start; limit = here.limit; place = here.place }

abbrev pub ask_of : Request → Here → Asks
ask_of request here = asked_at request (asker here)

abbrev pub request : {A : Type 0} → (Answer → Option A) → Request → Here → Doing A
request takes asked here = request_at takes asked (asker here)

abbrev pub fail : {A : Type 0} → Fault → Here → Doing A
fail fault here = fail_at fault (asker here)

abbrev pub settle : {A : Type 0} → Result A Fault → Here → Doing A
settle result here = settle_at result (asker here)
