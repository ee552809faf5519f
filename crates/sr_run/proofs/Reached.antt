-- What events say of a run.
use Rattle.std.proofs.Common.{◌≡◌, ◌<◌, ℕ, Bool, true, false, List, [], ◌++◌, Option, None, Some, length, inl, refl, ap, sym, ◌∙◌, subst}
use Rattle.std.specs.Prelude.{IfSome, fold}
use Rattle.std.specs.Io.KnownBytes.{prepend_known}
use Rattle.sr_ask.specs.declared.start.Start.{Start}
use Rattle.sr_plain.specs.Engine.{IsOver, WaitsForInput, last_in}
use Rattle.sr_plain.specs.Turns.{last_after, turn}
use Rattle.sr_world.specs.Laws.{closes, next_with_all}
use Rattle.sr_world.specs.Runs.{Event, Goes, Illegal, Next, Over, State, bytes_in, ending_of, is_legal, items_in, led, output_of, run}
use Rattle.sr_run.proofs.Arranging.{arranged-cut, arranged-whole, run-is}
use Rattle.sr_run.proofs.Events.{last-items}
use Rattle.sr_run.specs.Arranged.{Arrangement, IsArranged}
use Rattle.sr_run.specs.Causes.{EndsAtSteps, EndsAtTicks, EndsEarly, NoFaults}
use Rattle.sr_run.specs.Runs.{Call, GoesOn, IsRun, Reaches, Runs, Took, turn_after}
use Rattle.sr_run.specs.UnderWay.{HasCome, Stage, Whole}
use Rattle.sr_run.specs.declared.intake.Intake.{Intake}

-- ---- more input leaves what a run is

legal-all : (more : List ℕ) (now : Next) → is_legal (next_with_all more now) ≡ is_legal now
legal-all more (Goes state) = refl
legal-all more (Over ending state) = refl
legal-all more Illegal = refl

ending-all : (more : List ℕ) (now : Next) → ending_of (next_with_all more now) ≡ ending_of now
ending-all more (Goes state) = refl
ending-all more (Over ending state) = refl
ending-all more Illegal = refl

output-all : (more : List ℕ) (now : Next) → output_of (next_with_all more now) ≡ output_of now
output-all more (Goes state) = refl
output-all more (Over ending state) = refl
output-all more Illegal = refl

-- the items are a run with all of the input
module _ (arrangement : Arrangement) (cut : Bool) (call : Call) (ended : Bool) (events : List Event) (now : Next) (leads : led call.core call.ticks events ≡ now) (legal : is_legal now ≡ true)
    (arranged : (more : List ℕ) → (closes events ≡ true → more ≡ []) → IsArranged arrangement call.core call.ticks call.steps cut (bytes_in events ++ more) call.items)
    (makes : items_in events ≡ call.items) (closed : closes events ≡ ended) (took : Took call (bytes_in events) ended) where
  -- the items are a run with whatever input comes after the bytes
  untold : (more : List ℕ) → (ended ≡ true → more ≡ []) → IsRun arrangement call cut (bytes_in events ++ more) (ending_of now) (output_of now)
  untold more last =
      let last' : closes events ≡ true → more ≡ [] = λ e. last (sym closed ∙ e) in
      let same : run call.core call.ticks (bytes_in events ++ more) call.items ≡ next_with_all more now = run-is call.core call.ticks call.steps events call.items makes now leads legal more last' in
      record {
        legal = ap is_legal same ∙ (legal-all more now ∙ legal);
        ends = ap ending_of same ∙ ending-all more now;
        writes = ap output_of same ∙ output-all more now;
        arranged = arranged more last';
      }

  told : (before left : Option (List ℕ)) → before ≡ prepend_known (bytes_in events) left → (ended ≡ true → IfSome left (λ rest. rest ≡ []))
      → IfSome before (λ input. IsRun arrangement call cut input (ending_of now) (output_of now))
  told before None passed at_end = subst (λ o. IfSome o (λ input. IsRun arrangement call cut input (ending_of now) (output_of now))) (sym passed) tt
  told before (Some rest) passed at_end =
      subst (λ o. IfSome o (λ input. IsRun arrangement call cut input (ending_of now) (output_of now))) (sym passed) (untold rest at_end)

  pub runs : Runs arrangement call cut (bytes_in events) ended (ending_of now) (output_of now)
  runs = record { took = took; told = told call.before.left call.now.left took.passed took.at_end; untold = untold }

module _ (arrangement : Arrangement) (call : Call) (intake : Intake) (state : State) (events : List Event) where
  module _ (stage : Stage) (come : HasCome arrangement stage call intake state events) where
    pub reaches : Reaches call call.items (bytes_in events) intake.ended state
    reaches = record { events = events; leads = come.leads; makes = come.makes; gives = refl; closed = come.closed }

    goes : (cut : Bool) → ((more : List ℕ) → (closes events ≡ true → more ≡ []) → IsArranged arrangement call.core call.ticks call.steps cut (bytes_in events ++ more) call.items)
        → GoesOn arrangement call cut (bytes_in events) intake.ended state
    goes cut arranged = record {
      runs = runs arrangement cut call intake.ended events (Goes state) come.leads refl arranged come.makes come.closed come.took;
      reaches = reaches;
      put = come.put;
    }

    -- memory ran out
    pub early : NoFaults call → EndsEarly arrangement call
    early no_faults = record {
      cut = inl (record {
        taken = bytes_in events;
        ended = intake.ended;
        state = state;
        goes_on = goes true (λ more last. arranged-cut call.core call.ticks call.steps events call.items come.makes (Goes state) come.leads refl more last arrangement stage come.arranged);
      });
      no_faults = no_faults;
    }

  module _ (come : HasCome arrangement Whole call intake state events) where
    pub goes_on : GoesOn arrangement call false (bytes_in events) intake.ended state
    goes_on = goes Whole come false (λ more last. arranged-whole call.core call.ticks call.steps events call.items come.makes (Goes state) come.leads refl more last arrangement come.arranged)

    -- whose turn it is for the engine
    abbrev turn_in : Option Start
    turn_in = turn call.core call.ticks state (last_in events)

    turn-same : turn_in ≡ turn_after call state
    turn-same = ap (turn call.core call.ticks state) (last-items events ∙ ap (fold last_after 0) come.makes)

    pub waits : WaitsForInput call.core call.ticks state turn_in → WaitsForInput call.core call.ticks state (turn_after call state)
    waits is = subst (WaitsForInput call.core call.ticks state) turn-same is

    module _ (no_faults : NoFaults call) where
      pub at_steps : length call.items ≡ call.steps → EndsAtSteps arrangement call
      at_steps all = record { taken = bytes_in events; ended = intake.ended; state = state; goes_on = goes_on; all = all; no_faults = no_faults }

      pub at_ticks : (process : ℕ) → length call.items < call.steps → IsOver call.core call.ticks state process turn_in → EndsAtTicks arrangement call process
      at_ticks process fewer over = record {
        taken = bytes_in events;
        ended = intake.ended;
        state = state;
        goes_on = goes_on;
        fewer = fewer;
        over = subst (IsOver call.core call.ticks state process) turn-same over;
        no_faults = no_faults;
      }
