-- What becomes of a run that waits for input.
use Rattle.std.proofs.Common.{◌≡◌, ◌+◌, ◌≤◌, ℕ, true, false, List, [], ◌∷◌, ◌++◌, length, ◌∙◌, subst}
use Rattle.std.specs.Prelude.{Option, IfSome}
use Rattle.std.specs.Io.KnownBytes.{prepend_known}
use Rattle.sr_ask.specs.declared.answer.Answer.{Answer}
use Rattle.sr_ask.specs.declared.ask.Asks.{Asks}
use Rattle.sr_plain.specs.Engine.{IsEngine}
use Rattle.sr_plain.specs.declared.plain.Plain.{Plain}
use Rattle.sr_ports.specs.Faults.{Rose}
use Rattle.sr_world.specs.Runs.{Event, Gives, Closes, State, with_input, without_more}
use Rattle.sr_run.proofs.Reached.{early}
use Rattle.sr_run.proofs.Taken.{at_input, at_read, closed_come, failed_come, given_come, is_open, not-ended}
use Rattle.sr_run.specs.Arranged.{Arrangement}
use Rattle.sr_run.specs.Causes.{EndsAtInput, EndsAtRead, EndsEarly, NoFaults}
use Rattle.sr_run.specs.Runs.{Call}
use Rattle.sr_run.specs.UnderWay.{HasCome, IsUnderWay, IsWaiting, Whole}
use Rattle.sr_run.specs.declared.intake.Intake.{Intake}

module _ {A : Type 0} (after : A → List Answer → Asks) (can_feed : A → Type 0) (arrangement : Arrangement) (call : Call) (intake : Intake) (plain : Plain A) (waiting : IsWaiting after can_feed arrangement call intake plain) where
  abbrev pub state_of : State
  state_of = waiting.under_way.state

  abbrev pub events_of : List Event
  events_of = waiting.under_way.events

  come : HasCome arrangement Whole call intake state_of events_of
  come = waiting.under_way.come

  no_faults : NoFaults call
  no_faults = waiting.under_way.no_faults

  pub world_open : state_of.world.ended ≡ false
  world_open = is_open arrangement call intake state_of events_of come waiting.waits

  pub still_open : intake.ended ≡ false
  still_open = not-ended arrangement call intake state_of events_of come waiting.waits

  -- the most bytes were taken
  pub input_full : intake.taken ≡ 67108864 → EndsAtInput arrangement call
  input_full full = at_input arrangement call intake state_of events_of come waiting.waits waiting.fewer full no_faults

  -- the input failed
  module _ (left : Option (List ℕ)) (same : left ≡ call.now.left) (read_faults : ℕ) where
    abbrev pub failed_call : Call
    failed_call = record call { now = record call.now { left = left; read_faults = read_faults } }

    pub input_failed : Rose call.now.read_faults read_faults → EndsAtRead arrangement failed_call
    input_failed rose =
        at_read arrangement failed_call intake state_of events_of (failed_come arrangement call intake state_of events_of come left same read_faults) waiting.waits waiting.fewer
        (subst (λ n. Rose n read_faults) no_faults.read rose) no_faults.write

  -- the input has ended
  module _ (left : Option (List ℕ)) (passed : call.now.left ≡ left) (none : IfSome left (λ rest. rest ≡ [])) (read_faults : ℕ) (same : read_faults ≡ call.now.read_faults) where
    abbrev pub closed_call : Call
    closed_call = record call { now = record call.now { left = left; read_faults = read_faults } }

    pub input_ended : (later : Plain A) → IsEngine after can_feed call.core call.ticks (record state_of { world = without_more state_of.world }) (events_of ++ Closes ∷ []) later
        → IsUnderWay after can_feed arrangement Whole closed_call (record intake { ended = true }) later
    input_ended later engine = record {
      state = record state_of { world = without_more state_of.world };
      events = events_of ++ Closes ∷ [];
      come = closed_come arrangement call intake state_of events_of come waiting.waits left passed none read_faults;
      no_faults = record { read = same ∙ no_faults.read; write = no_faults.write };
      engine = engine;
    }

  -- more bytes were taken
  module _ (bytes : List ℕ) (left : Option (List ℕ)) (passed : call.now.left ≡ prepend_known bytes left) (most : intake.taken + length bytes ≤ 67108864) where
    abbrev pub given_call : Call
    given_call = record call { now = record call.now { left = left } }

    given_faults : NoFaults given_call
    given_faults = record { read = no_faults.read; write = no_faults.write }

    pub input_given : (later : Plain A) → IsEngine after can_feed call.core call.ticks (record state_of { world = with_input bytes state_of.world }) (events_of ++ Gives bytes ∷ []) later
        → IsUnderWay after can_feed arrangement Whole given_call (record intake { taken = intake.taken + length bytes }) later
    input_given later engine = record {
      state = record state_of { world = with_input bytes state_of.world };
      events = events_of ++ Gives bytes ∷ [];
      come = given_come arrangement call intake state_of events_of come waiting.waits bytes left passed most;
      no_faults = given_faults;
      engine = engine;
    }

    -- there was no memory for them
    pub input_lost : EndsEarly arrangement given_call
    input_lost =
        early arrangement given_call (record intake { taken = intake.taken + length bytes }) (record state_of { world = with_input bytes state_of.world }) (events_of ++ Gives bytes ∷ []) Whole
        (given_come arrangement call intake state_of events_of come waiting.waits bytes left passed most) given_faults
