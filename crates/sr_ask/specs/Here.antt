-- What stays the same while a statement is carried out, and how it asks.
use Rattle.std.specs.Prelude.{ℕ, Option, Result, Ok, Err}
use Rattle.sr_value.specs.declared.fault.Fault.{Fault}
use Rattle.sr_value.specs.declared.place.Place.{Place}
use Rattle.sr_ask.specs.Asking.{none_takes}
use Rattle.sr_ask.specs.Behaviors.{Doing, give, asking}
use Rattle.sr_ask.specs.declared.answer.Answer.{Answer}
use Rattle.sr_ask.specs.declared.ask.Asks.{Asks}
use Rattle.sr_ask.specs.declared.ask.Asks.TheVariants.{Asked}
use Rattle.sr_ask.specs.declared.request.Request.{Request}
use Rattle.sr_ask.specs.declared.request.Request.TheVariants.{Fail}
use Rattle.sr_ask.specs.declared.start.Start.{Start}

-- The process, how many statements it may begin between two answers, and the line of the innermost statement
-- or declaration.
pub record Here : Type 0 where
  pub start : Start
  pub limit : ℕ
  pub place : Place

-- a request is asked at the line of the statement, in the role of the process
abbrev pub ask_of : Request → Here → Asks
ask_of request here = Asked (record { place = here.place; role = here.start.role; request = request })

-- to ask, and to go on after the first answer that the request takes
abbrev pub request : {A : Type 0} → (Answer → Option A) → Request → Here → Doing A
request takes asked here = asking takes (ask_of asked here) here.limit

-- a fault that is found without the machine is asked as `Fail`, for good
abbrev pub fail : {A : Type 0} → Fault → Here → Doing A
fail fault here = request none_takes (Fail fault) here

abbrev pub settle : {A : Type 0} → Result A Fault → Here → Doing A
settle (Ok a) here = give a
settle (Err fault) here = fail fault here
