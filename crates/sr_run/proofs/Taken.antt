-- What becomes of a run when bytes of its input come, or the end.
use Rattle.std.proofs.Common.{◌≡◌, ◌||◌, ◌+◌, ◌<◌, ◌≤◌, ℕ, Bool, true, false, not, List, [], ◌∷◌, ◌++◌, Option, None, Some, length, refl, ap, sym, ◌∙◌, subst, arith, append-nil, length-append, true≢false}
use Rattle.std.specs.Prelude.{IfSome}
use Rattle.std.specs.Io.KnownBytes.{prepend_known}
use Rattle.sr_ask.specs.declared.ask.Asks.{Asks}
use Rattle.sr_ask.specs.declared.ask.Asks.TheVariants.{Asked, OverTicks}
use Rattle.sr_ask.specs.declared.request.ReadKind.{ReadKind}
use Rattle.sr_ask.specs.declared.request.Request.{Request}
use Rattle.sr_ask.specs.declared.request.Request.TheVariants as request
use Rattle.sr_ask.specs.declared.start.Start.{Start}
use Rattle.sr_core.specs.declared.component.Core.{Core}
use Rattle.sr_plain.specs.Engine.{WaitsForInput}
use Rattle.sr_ports.specs.Faults.{Rose}
use Rattle.sr_world.specs.Laws.{closes}
use Rattle.sr_world.proofs.DecideLemmas.{waits_is}
use Rattle.sr_world.specs.Deciding.{awaits_input}
use Rattle.sr_world.specs.Does.{IsOpen, comes_to, is_undecided}
use Rattle.sr_world.specs.Inputs.{is_decided}
use Rattle.sr_world.specs.Runs.{Event, Gives, Closes, Goes, State, asks_for, asks_next, bytes_in, items_in, where_true, with_input, without_more}
use Rattle.sr_run.proofs.Arranging.{arranged-closed, arranged-given}
use Rattle.sr_run.proofs.Events.{bytes-more, closes-more, items-more, led-more, or-false, or-true}
use Rattle.sr_run.proofs.Known.{prepend_known-append}
use Rattle.sr_run.proofs.Reached.{goes_on}
use Rattle.sr_run.specs.Arranged.{Arrangement}
use Rattle.sr_run.specs.Causes.{EndsAtInput, EndsAtRead, NoFaults}
use Rattle.sr_run.specs.Runs.{Call, GoesOn, turn_after}
use Rattle.sr_run.specs.UnderWay.{HasCome, Whole}
use Rattle.sr_run.specs.declared.intake.Intake.{Intake}

-- ---- nobody waits for input that has ended

waits-open : (core : Core) (state : State) (actor : ℕ) (asks : Asks) → comes_to (asks_for core state.world actor 0 asks) ≡ IsOpen → state.world.ended ≡ false
waits-open core state actor OverTicks is = absurd (cc)
waits-open core state actor (Asked ask) is =
    awaits-open ask.request (sym (waits_is core ask.place 0 state.world actor ask.role ask.request) ∙ ap is_undecided is)
  where
    open-if : (kind : ReadKind) (rest : List ℕ) (ended : Bool) → not (is_decided kind rest ended) ≡ true → ended ≡ false
    open-if kind rest true is = absurd (true≢false (sym is))
    open-if kind rest false is = refl

    awaits-open : (r : Request) → awaits_input state.world r ≡ true → state.world.ended ≡ false
    awaits-open (request.Read kind) is = open-if kind state.world.rest state.world.ended is
    awaits-open r is = absurd (true≢false (sym is))

waiting-open : (core : Core) (ticks : ℕ) (state : State) (turn : Option Start) → WaitsForInput core ticks state turn → state.world.ended ≡ false
waiting-open core ticks state None waits = absurd waits
waiting-open core ticks state (Some start) waits = waits-open core state start.process (asks_next core ticks state start) waits

-- ---- what comes of the input

module _ (arrangement : Arrangement) (call : Call) (intake : Intake) (state : State) (events : List Event) (come : HasCome arrangement Whole call intake state events) (waits : WaitsForInput call.core call.ticks state (turn_after call state)) where
  pub is_open : state.world.ended ≡ false
  is_open = waiting-open call.core call.ticks state (turn_after call state) waits

  pub not-ended : intake.ended ≡ false
  not-ended = sym come.ended ∙ is_open

  -- more bytes were taken
  module _ (bytes : List ℕ) (left : Option (List ℕ)) (passed : call.now.left ≡ prepend_known bytes left) (most : intake.taken + length bytes ≤ 67108864) where
    abbrev with_left : Call
    with_left = record call { now = record call.now { left = left } }

    abbrev with_taken : Intake
    with_taken = record intake { taken = intake.taken + length bytes }

    pub given_come : HasCome arrangement Whole with_left with_taken (record state { world = with_input bytes state.world }) (events ++ Gives bytes ∷ [])
    given_come =
        let bytes-are : bytes_in (events ++ Gives bytes ∷ []) ≡ bytes_in events ++ bytes = bytes-more events (Gives bytes) in
        let size : length (bytes_in (events ++ Gives bytes ∷ [])) ≡ intake.taken + length bytes =
        ap length bytes-are ∙ length-append (bytes_in events) bytes ∙ ap (λ n. n + length bytes) come.count in
        record {
          leads = led-more call.core call.ticks events (Gives bytes) state _ come.leads (ap (λ b. where_true (not b) (Goes (record state { world = with_input bytes state.world }))) is_open);
          arranged = arranged-given call.core call.ticks call.steps events call.items state come.leads arrangement (come.closed ∙ not-ended) bytes come.arranged;
          makes = items-more events (Gives bytes) ∙ append-nil (items_in events) ∙ come.makes;
          took = record {
            passed = come.took.passed ∙ ap (prepend_known (bytes_in events)) passed ∙ prepend_known-append (bytes_in events) bytes left ∙ ap (λ bs. prepend_known bs left) (sym bytes-are);
            at_end = λ e. absurd (true≢false (sym e ∙ not-ended));
            most = omega (arith, size, most);
          };
          count = size;
          closed = closes-more events (Gives bytes) ∙ ap (λ b. b || false) come.closed ∙ or-false intake.ended;
          ended = come.ended;
          put = come.put;
        }

  -- it has ended
  module _ (left : Option (List ℕ)) (passed : call.now.left ≡ left) (none : IfSome left (λ rest. rest ≡ [])) (read_faults : ℕ) where
    abbrev with_end : Call
    with_end = record call { now = record call.now { left = left; read_faults = read_faults } }

    abbrev ended_now : Intake
    ended_now = record intake { ended = true }

    pub closed_come : HasCome arrangement Whole with_end ended_now (record state { world = without_more state.world }) (events ++ Closes ∷ [])
    closed_come =
        let bytes-are : bytes_in (events ++ Closes ∷ []) ≡ bytes_in events = bytes-more events Closes ∙ append-nil (bytes_in events) in
        record {
          leads = led-more call.core call.ticks events Closes state _ come.leads (ap (λ b. where_true (not b) (Goes (record state { world = without_more state.world }))) is_open);
          arranged = arranged-closed call.core call.ticks call.steps events call.items state come.leads arrangement (come.closed ∙ not-ended) come.arranged;
          makes = items-more events Closes ∙ append-nil (items_in events) ∙ come.makes;
          took = record {
            passed = come.took.passed ∙ ap (prepend_known (bytes_in events)) passed ∙ ap (λ bs. prepend_known bs left) (sym bytes-are);
            at_end = λ e. none;
            most = let most = come.took.most in omega (arith, ap length bytes-are, most);
          };
          count = ap length bytes-are ∙ come.count;
          closed = closes-more events Closes ∙ or-true (closes events);
          ended = refl;
          put = come.put;
        }

  -- ---- endings

  goes_on_open : GoesOn arrangement call false (bytes_in events) false state
  goes_on_open = subst (λ ended. GoesOn arrangement call false (bytes_in events) ended state) not-ended (goes_on arrangement call intake state events come)

  pub at_input : length call.items < call.steps → intake.taken ≡ 67108864 → NoFaults call → EndsAtInput arrangement call
  at_input fewer full no_faults =
      record { taken = bytes_in events; state = state; goes_on = goes_on_open; fewer = fewer; full = come.count ∙ full; waits = waits; no_faults = no_faults }

  pub at_read : length call.items < call.steps → Rose call.before.read_faults call.now.read_faults → call.now.write_faults ≡ call.before.write_faults → EndsAtRead arrangement call
  at_read fewer failed no_write_fault =
      record { taken = bytes_in events; state = state; goes_on = goes_on_open; fewer = fewer; waits = waits; failed = failed; no_write_fault = no_write_fault }

-- the count of faults doesn't matter, and the same may be left
module _ (arrangement : Arrangement) (call : Call) (intake : Intake) (state : State) (events : List Event) (come : HasCome arrangement Whole call intake state events) (left : Option (List ℕ)) (same : left ≡ call.now.left) (read_faults : ℕ) where
  abbrev with_faults : Call
  with_faults = record call { now = record call.now { left = left; read_faults = read_faults } }

  pub failed_come : HasCome arrangement Whole with_faults intake state events
  failed_come = record {
    leads = come.leads;
    arranged = come.arranged;
    makes = come.makes;
    took = record {
      passed = come.took.passed ∙ ap (prepend_known (bytes_in events)) (sym same);
      at_end = λ e. subst (λ o. IfSome o (λ rest. rest ≡ [])) (sym same) (come.took.at_end e);
      most = come.took.most;
    };
    count = come.count;
    closed = come.closed;
    ended = come.ended;
    put = come.put;
  }
