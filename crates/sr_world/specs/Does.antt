-- What a request can come to.
use Rattle.std.specs.Prelude.{Bool, true, false, Result, Ok, Err, Option, Some, None}
use Rattle.sr_ask.specs.declared.answer.Answer.{Answer}
use Rattle.sr_value.specs.declared.fault.Fault.{Fault}
use Rattle.sr_value.specs.declared.place.Place.{Place}
use Rattle.sr_world.specs.Worlds.{World}
use Rattle.sr_world.specs.declared.ends.End.{End}
use Rattle.sr_world.specs.declared.ends.End.TheVariants as end

pub data Does : Type 0 where
  -- it is done: the world after it, and the answer
  Did : World → Answer → Does
  -- the same, and the step makes something that has the step's number
  Makes : World → Answer → Does
  -- it can't be done now
  Cannot : Does
  -- the run ends
  Ends : End → Does
  -- bytes that may still come decide what is read
  Undecided : Does

-- a fault ends the run, at the line of the request
abbrev pub failed : Place → Fault → Does
failed place fault = Ends (end.Failed fault place)

-- done with what this gives, or its fault
abbrev pub done_or : {A : Type 0} → Place → Result A Fault → (A → Does) → Does
done_or place (Ok result) next = next result
done_or place (Err fault) next = failed place fault

-- what there is none of can't be done
abbrev pub where_some : {A : Type 0} → Option A → (A → Does) → Does
where_some None next = Cannot
where_some (Some a) next = next a

-- ---- what it comes to, apart from the world and the answer

pub data Outcome : Type 0 where
  IsDone : Outcome
  IsMade : Outcome
  IsNot : Outcome
  IsEnd : End → Outcome
  IsOpen : Outcome

abbrev pub comes_to : Does → Outcome
comes_to (Did world answer) = IsDone
comes_to (Makes world answer) = IsMade
comes_to Cannot = IsNot
comes_to (Ends ending) = IsEnd ending
comes_to Undecided = IsOpen

abbrev pub is_made : Outcome → Bool
is_made IsMade = true
is_made _ = false

abbrev pub is_undecided : Outcome → Bool
is_undecided IsOpen = true
is_undecided _ = false

abbrev pub is_possible : Outcome → Bool
is_possible IsNot = false
is_possible _ = true
