-- What a step of the engine does to a run that is under way.
use Rattle.std.proofs.Common.{◌≡◌, ◌⊎◌, ◌<◌, ℕ, List, [], ◌∷◌, ◌++◌, Option, None, Some, length, inl, inr, refl, ap, sym, ◌∙◌, subst, arith, length-append}
use Rattle.sr_ask.specs.declared.answer.Answer.{Answer}
use Rattle.sr_ask.specs.declared.ask.Asks.{Asks}
use Rattle.sr_ask.specs.declared.item.Item.{Item}
use Rattle.sr_ask.specs.declared.start.Start.{Start}
use Rattle.sr_plain.specs.Engine.{Comes, HasStepped, IsLast, last_in}
use Rattle.sr_plain.specs.Turns.{turn}
use Rattle.sr_plain.specs.declared.plain.Plain.{Plain}
use Rattle.sr_plain.specs.declared.plainly.Plainly.{Plainly}
use Rattle.sr_plain.specs.declared.plainly.Plainly.TheVariants as answer
use Rattle.sr_ports.specs.Faults.{Rose}
use Rattle.sr_ports.specs.Streams.{PutInPart}
use Rattle.sr_world.specs.Runs.{Event, Makes_item, State}
use Rattle.sr_world.specs.declared.ends.End.{End}
use Rattle.sr_run.proofs.Reached.{at_steps, at_ticks, early, waits}
use Rattle.sr_run.proofs.Stepped.{cut_in_write, ended_so, made_come}
use Rattle.sr_run.specs.Arranged.{Arrangement, InTurn}
use Rattle.sr_run.specs.Causes.{EndsAtSteps, EndsAtTicks, EndsEarly, HasCauseIn, IsCutInWrite, NoFaults}
use Rattle.sr_run.specs.Runs.{Call}
use Rattle.sr_run.specs.UnderWay.{Adds, Advances, ArrangedSoFar, EndsWith, HasCome, IsUnderWay, IsWaiting, PutsItem, Whole}
use Rattle.sr_run.specs.declared.end.RunEnd.{RunEnd}
use Rattle.sr_run.specs.declared.end.RunEnd.TheVariants as end
use Rattle.sr_run.specs.declared.intake.Intake.{Intake}

module _ {A : Type 0} (after : A → List Answer → Asks) (can_feed : A → Type 0) (arrangement : Arrangement) (call : Call) (intake : Intake) (plain : Plain A) (under_way : IsUnderWay after can_feed arrangement Whole call intake plain) where
  abbrev pub state_of : State
  state_of = under_way.state

  abbrev pub events_of : List Event
  events_of = under_way.events

  abbrev pub turn_of : Option Start
  turn_of = turn call.core call.ticks state_of (last_in events_of)

  come : HasCome arrangement Whole call intake state_of events_of
  come = under_way.come

  no_faults : NoFaults call
  no_faults = under_way.no_faults

  pub out_of_memory : EndsEarly arrangement call
  out_of_memory = early arrangement call intake state_of events_of Whole come no_faults

  pub all_made : length call.items ≡ call.steps → EndsAtSteps arrangement call
  all_made all = at_steps arrangement call intake state_of events_of come no_faults all

  -- what the engine's answer says
  abbrev pub ComesSo : Plainly → Plain A → Type 0
  ComesSo answered later = Comes after can_feed call.core call.ticks state_of events_of turn_of answered later

  known : (given answered : Plainly) (later : Plain A) → given ≡ answered → ComesSo given later → ComesSo answered later
  known given answered later is comes = subst (λ p. ComesSo p later) is comes

  pub over_ticks : (given : Plainly) (process : ℕ) (later : Plain A) → length call.items < call.steps → given ≡ answer.Over process → ComesSo given later → EndsAtTicks arrangement call process
  over_ticks given process later fewer is comes =
      let came : ComesSo (answer.Over process) later = known given (answer.Over process) later is comes in
      at_ticks arrangement call intake state_of events_of come no_faults process fewer came.0

  pub wants_input : (given : Plainly) (later : Plain A) → length call.items < call.steps → given ≡ answer.Wants → ComesSo given later → IsWaiting after can_feed arrangement call intake later
  wants_input given later fewer is comes =
      let came : ComesSo answer.Wants later = known given answer.Wants later is comes in
      record {
        under_way = record { state = state_of; events = events_of; come = come; no_faults = no_faults; engine = came.1 };
        fewer = fewer;
        waits = waits arrangement call intake state_of events_of come came.0;
      }

  module _ (item : Item) (items : List Item) where
    -- ---- the item ends the run

    abbrev last_call : Call
    last_call = record call { items = items }

    by_end : (ending : End) (result : RunEnd) → IsLast call.core call.ticks state_of turn_of item ending → EndsWith item ending call.items items result → HasCauseIn arrangement last_call result
    by_end ending (end.Ended given) last ends =
        subst (λ e. HasCauseIn arrangement last_call (end.Ended e)) (sym ends.1)
        (ended_so arrangement call intake state_of events_of come item (last.turn_of, last.named) items ends.0 call.now.held call.now.write_faults ending last.ends refl (record { read = no_faults.read; write = no_faults.write }))
    by_end ending end.NoMemory last ends = subst (λ is. EndsEarly arrangement (record call { items = is })) (sym ends) out_of_memory
    by_end ending (end.Limit kind) last ends = absurd ends
    by_end ending end.ReadFault last ends = absurd ends
    by_end ending end.WriteFault last ends = absurd ends

    pub ends_with : (given : Plainly) (later : Plain A) (ending : End) (result : RunEnd) → given ≡ answer.Ended item ending → ComesSo given later → EndsWith item ending call.items items result
        → HasCauseIn arrangement last_call result
    ends_with given later ending result is comes ends =
        let came : ComesSo (answer.Ended item ending) later = known given (answer.Ended item ending) later is comes in by_end ending result came.0 ends

    -- ---- the item was made

    module _ (text : List ℕ) (held : Option (List ℕ)) (write_faults : ℕ) where
      abbrev next_call : Call
      next_call = record call { items = items; now = record call.now { held = held; write_faults = write_faults } }

      next_faults : write_faults ≡ call.now.write_faults → NoFaults next_call
      next_faults same = record { read = no_faults.read; write = same ∙ no_faults.write }

      unmade_come : items ≡ call.items → held ≡ call.now.held → HasCome arrangement Whole next_call intake state_of events_of
      unmade_come same put = record {
        leads = come.leads;
        arranged = subst (ArrangedSoFar arrangement Whole call.core call.ticks call.steps events_of) (sym same) come.arranged;
        makes = come.makes ∙ sym same;
        took = record { passed = come.took.passed; at_end = come.took.at_end; most = come.took.most };
        count = come.count;
        closed = come.closed;
        ended = come.ended;
        put = put ∙ come.put;
      }

      module _ (later : Plain A) (stepped : HasStepped after can_feed call.core call.ticks state_of events_of turn_of item text later) where
        cut : Adds item call.items items → PutInPart call.now.held held text → IsCutInWrite arrangement next_call
        cut added part = cut_in_write arrangement call intake state_of events_of come item (stepped.turn_of, stepped.named) items added held write_faults stepped.later stepped.goes text stepped.written part

        goes_further : (result : Option RunEnd) → PutsItem item text call.items items call.now.held held call.now.write_faults write_faults result → Advances after can_feed arrangement call.items next_call intake later result
        goes_further None puts = inr (
          omega (arith, ap (λ is. length is) puts.0, length-append call.items (item ∷ [])),
          record {
            state = stepped.later;
            events = events_of ++ Makes_item item ∷ [];
            come = made_come arrangement call intake state_of events_of come item (stepped.turn_of, stepped.named) items puts.0 held write_faults stepped.later stepped.goes text stepped.written puts.1;
            no_faults = next_faults puts.2;
            engine = stepped.engine;
          },
        )
        goes_further (Some end.WriteFault) puts =
            record { cut = cut puts.0 puts.1; failed = subst (λ n. Rose n write_faults) no_faults.write puts.2; no_read_fault = no_faults.read }
        goes_further (Some end.NoMemory) puts = by puts.0
          where
            by : ((Adds item call.items items × PutInPart call.now.held held text) ⊎ ((items ≡ call.items) × (held ≡ call.now.held))) → EndsEarly arrangement next_call
            by (inl part) = record { cut = inr (cut part.0 part.1); no_faults = next_faults puts.1 }
            by (inr same) = early arrangement next_call intake state_of events_of Whole (unmade_come same.0 same.1) (next_faults puts.1)
        goes_further (Some (end.Ended ending)) puts = absurd puts
        goes_further (Some (end.Limit kind)) puts = absurd puts
        goes_further (Some end.ReadFault) puts = absurd puts

      pub steps_on : (given : Plainly) (later : Plain A) (result : Option RunEnd) → given ≡ answer.Stepped item text → ComesSo given later
          → PutsItem item text call.items items call.now.held held call.now.write_faults write_faults result → Advances after can_feed arrangement call.items next_call intake later result
      steps_on given later result is comes puts = goes_further later (known given (answer.Stepped item text) later is comes) result puts

-- with one worker a run is whole after each item
pub in-turn : {A : Type 0} (after : A → List Answer → Asks) (can_feed : A → Type 0) (items : List Item) (call : Call) (intake : Intake) (plain : Plain A) → Advances after can_feed InTurn items call intake plain None
    → IsUnderWay after can_feed InTurn Whole call intake plain
in-turn after can_feed items call intake plain (inl same) = same.1
in-turn after can_feed items call intake plain (inr more) =
    let under_way = more.1 in
    let come = under_way.come in
    record {
      state = under_way.state;
      events = under_way.events;
      come = record { leads = come.leads; arranged = come.arranged; makes = come.makes; took = come.took; count = come.count; closed = come.closed; ended = come.ended; put = come.put };
      no_faults = under_way.no_faults;
      engine = under_way.engine;
    }
