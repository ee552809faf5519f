-- What becomes of a run when an item is made.
use Rattle.std.proofs.Common.{◌≡◌, ◌<◌, ◌==◌, ◌&&◌, ℕ, Bool, true, false, List, [], ◌∷◌, ◌++◌, Option, None, Some, length, refl, ap, sym, ◌∙◌, subst, arith, append-nil}
use Rattle.std.specs.Io.KnownBytes.{append_known}
use Rattle.sr_ask.specs.declared.ask.Asks.{Asks}
use Rattle.sr_ask.specs.declared.ask.Asks.TheVariants.{Asked, OverTicks}
use Rattle.sr_ask.specs.declared.item.Item.{Item}
use Rattle.sr_ask.specs.declared.item.Item.TheVariants.{Step, Quiesce, Tick}
use Rattle.sr_ask.specs.declared.start.Start.{Start}
use Rattle.sr_core.specs.declared.component.Core.{Core}
use Rattle.sr_plain.proofs.LeaveLemmas.{leaves, leaves_at_rest}
use Rattle.sr_plain.specs.Carrying.{written_of}
use Rattle.sr_plain.specs.Engine.{last_in}
use Rattle.sr_plain.specs.Leaving.{LeavesIf, written_by}
use Rattle.sr_plain.specs.Rotation.{IsInTurn}
use Rattle.sr_ports.proofs.Growth.{append_known-append}
use Rattle.sr_ports.specs.Streams.{PutInPart}
use Rattle.sr_world.proofs.PieceLemmas.{ended-next}
use Rattle.sr_world.proofs.RunLemmas.{goes-where, sound-led}
use Rattle.sr_world.specs.Laws.{closes}
use Rattle.sr_world.specs.Does.{Does, Did, Makes, Cannot, Ends, Undecided}
use Rattle.sr_world.specs.Endings.{quiesce}
use Rattle.sr_world.specs.Runs.{Event, Makes_item, Goes, Next, Over, State, asks_for, asks_next, bytes_in, comes_after, ending_of, heeds_time, is_legal, is_new, items_in, led, next, no_step, output_of, rested, step_of, stepped, with_answer}
use Rattle.sr_world.specs.Steps.{does}
use Rattle.sr_world.specs.Updates.{pass_to}
use Rattle.sr_world.specs.Worlds.{started}
use Rattle.sr_world.specs.declared.ends.End.{End}
use Rattle.sr_run.proofs.Arranging.{arranged-cut, arranged-end, arranged-item}
use Rattle.sr_run.proofs.Events.{bytes-more, closes-more, items-more, led-more, or-false}
use Rattle.sr_run.proofs.Reached.{runs}
use Rattle.sr_run.specs.Arranged.{Arrangement, IsArranged}
use Rattle.sr_run.specs.Causes.{EndsItself, IsCutInWrite, NoFaults}
use Rattle.sr_run.specs.Runs.{Call, Runs, Took}
use Rattle.sr_run.specs.UnderWay.{ArrangedSoFar, HasCome, Open, Whole}
use Rattle.sr_run.specs.declared.intake.Intake.{Intake}

-- ---- who writes

append-same : (xs ys zs : List ℕ) → xs ++ ys ≡ xs ++ zs → ys ≡ zs
append-same [] ys zs same = same
append-same (x ∷ xs) ys zs same = append-same xs ys zs (cc)

-- a process asked to write this text
record IsWriteOf (core : Core) (ticks : ℕ) (state : State) (item : Item) (text : List ℕ) : Type 0 where
  actor : ℕ
  name : ℕ
  start : Start
  is : item ≡ Step actor name
  lives : started state.world actor ≡ Some start
  writes : written_of (Some (asks_next core ticks state start)) ≡ text

module _ (core : Core) (ticks : ℕ) (state later : State) where
  output-stepped : (actor name : ℕ) (d : Does) (text : List ℕ) → LeavesIf name text state.world d → stepped state actor name d ≡ Goes later → later.world.output ≡ state.world.output ++ text
  output-stepped actor name (Did w a) text leaves is =
      let parts = goes-where (name == 0) (Goes (record { world = w; given = with_answer actor a state.given })) later is in
      let same : record { world = w; given = with_answer actor a state.given } ≡ later = cc in
      ap (λ (s : State). s.world.output) (sym same) ∙ leaves.output
  output-stepped actor name (Makes w a) text leaves is =
      let parts = goes-where (is_new state.world name) (Goes (record { world = w; given = with_answer actor a state.given })) later is in
      let same : record { world = w; given = with_answer actor a state.given } ≡ later = cc in
      ap (λ (s : State). s.world.output) (sym same) ∙ leaves.output
  output-stepped actor name Cannot text leaves is = absurd (cc)
  output-stepped actor name (Ends ending) text leaves is = let parts = goes-where (name == 0) (Over ending state) later is in absurd (cc)
  output-stepped actor name Undecided text leaves is = absurd (cc)

  output-rested : (name : ℕ) (d : Does) → LeavesIf name [] state.world d → rested state name d ≡ Goes later → later.world.output ≡ state.world.output ++ []
  output-rested name (Did w a) leaves is = absurd (cc)
  output-rested name (Makes w a) leaves is =
      let parts = goes-where (is_new state.world name) (Goes (record state { world = w })) later is in
      let same : record state { world = w } ≡ later = cc in
      ap (λ (s : State). s.world.output) (sym same) ∙ leaves.output
  output-rested name Cannot leaves is = absurd (cc)
  output-rested name (Ends ending) leaves is = let parts = goes-where (name == 0) (Over ending state) later is in absurd (cc)
  output-rested name Undecided leaves is = absurd (cc)

  module _ (text : List ℕ) (written : later.world.output ≡ state.world.output ++ text) (some : 0 < length text) where
    step-writes : (actor name : ℕ) (o : Option Start) → started state.world actor ≡ o → step_of core ticks state actor name o ≡ Goes later → IsWriteOf core ticks state (Step actor name) text
    step-writes actor name None found is = absurd (cc)
    step-writes actor name (Some start) found is = by (asks_next core ticks state start) refl is
      where
        by : (asks : Asks) → asks_next core ticks state start ≡ asks → stepped state actor name (asks_for core state.world actor name asks) ≡ Goes later
            → IsWriteOf core ticks state (Step actor name) text
        by OverTicks asked h = absurd (cc)
        by (Asked ask) asked h =
            let output : later.world.output ≡ state.world.output ++ written_by ask.request =
            output-stepped actor name (does core state.world actor ask name) (written_by ask.request) (leaves name state.world core actor ask.place ask.role ask.request) h in
            record {
              actor = actor;
              name = name;
              start = start;
              is = refl;
              lives = found;
              writes = ap (λ asks. written_of (Some asks)) asked ∙ append-same state.world.output (written_by ask.request) text (sym output ∙ written);
            }

    who-writes : (item : Item) → next core ticks state item ≡ Goes later → IsWriteOf core ticks state item text
    who-writes (Step actor name) goes = step-writes actor name (started state.world actor) refl goes
    who-writes (Quiesce name) goes =
        let parts = goes-where (no_step core ticks state) (rested state name (quiesce core name state.world)) later goes in
        let output : later.world.output ≡ state.world.output ++ [] = output-rested name (quiesce core name state.world) (leaves_at_rest name state.world core) parts.1 in
        let none : [] ≡ text = append-same state.world.output [] text (sym output ∙ written) in
        absurd (omega (arith, ap length none, some))
    who-writes (Tick to) goes =
        let parts = goes-where (comes_after state.world.moment to && heeds_time core ticks state) (Goes (record state { world = pass_to to state.world })) later goes in
        let same : record state { world = pass_to to state.world } ≡ later = cc in
        let none : [] ≡ text = append-same state.world.output [] text (append-nil state.world.output ∙ ap (λ (s : State). s.world.output) same ∙ written) in
        absurd (omega (arith, ap length none, some))

-- ---- one item more

module _ (arrangement : Arrangement) (call : Call) (intake : Intake) (state : State) (events : List Event) (come : HasCome arrangement Whole call intake state events) (item : Item)
    (turn_of : IsInTurn call.core call.ticks state (last_in events) (Makes_item item)) (items : List Item) (added : items ≡ call.items ++ item ∷ []) (held : Option (List ℕ)) (write_faults : ℕ) where
  abbrev with_item : Call
  with_item = record call { items = items; now = record call.now { held = held; write_faults = write_faults } }

  abbrev later_events : List Event
  later_events = events ++ Makes_item item ∷ []

  bytes-same : bytes_in later_events ≡ bytes_in events
  bytes-same = bytes-more events (Makes_item item) ∙ append-nil (bytes_in events)

  item-arranged : ArrangedSoFar arrangement Open call.core call.ticks call.steps later_events items
  item-arranged = subst (ArrangedSoFar arrangement Open call.core call.ticks call.steps later_events) (sym added)
      (arranged-item call.core call.ticks call.steps events call.items state come.leads come.makes item turn_of arrangement come.arranged)

  item-makes : items_in later_events ≡ items
  item-makes = items-more events (Makes_item item) ∙ ap (λ is. is ++ item ∷ []) come.makes ∙ sym added

  item-closed : closes later_events ≡ intake.ended
  item-closed = closes-more events (Makes_item item) ∙ or-false (closes events) ∙ come.closed

  took-same : Took with_item (bytes_in events) intake.ended
  took-same = record { passed = come.took.passed; at_end = come.took.at_end; most = come.took.most }

  item-took : Took with_item (bytes_in later_events) intake.ended
  item-took = subst (λ bytes. Took with_item bytes intake.ended) (sym bytes-same) took-same

  module _ (now : Next) (goes : next call.core call.ticks state item ≡ now) (legal : is_legal now ≡ true) (cut : Bool)
      (arranged : (more : List ℕ) → (closes later_events ≡ true → more ≡ []) → IsArranged arrangement call.core call.ticks call.steps cut (bytes_in later_events ++ more) items) where
    item-leads : led call.core call.ticks later_events ≡ now
    item-leads = led-more call.core call.ticks events (Makes_item item) state now come.leads goes

    item-runs : Runs arrangement with_item cut (bytes_in events) intake.ended (ending_of now) (output_of now)
    item-runs =
        subst (λ bytes. Runs arrangement with_item cut bytes intake.ended (ending_of now) (output_of now)) bytes-same
        (runs arrangement cut with_item intake.ended later_events now item-leads legal arranged item-makes item-closed item-took)

  -- the run ends with it
  pub ended_so : (ending : End) → next call.core call.ticks state item ≡ Over ending state → held ≡ call.now.held → NoFaults with_item → EndsItself arrangement with_item ending
  ended_so ending ends same no_faults = record {
    taken = bytes_in events;
    ended = intake.ended;
    output = state.world.output;
    runs = item-runs (Over ending state) ends refl false (λ more last. subst (IsArranged arrangement call.core call.ticks call.steps false (bytes_in later_events ++ more)) (sym added)
        (arranged-end call.core call.ticks call.steps events call.items state come.leads come.makes item turn_of arrangement ending ends come.arranged more last));
    put = same ∙ come.put;
    no_faults = no_faults;
  }

  module _ (later : State) (goes : next call.core call.ticks state item ≡ Goes later) (text : List ℕ) (written : later.world.output ≡ state.world.output ++ text) where
    later-leads : led call.core call.ticks later_events ≡ Goes later
    later-leads = led-more call.core call.ticks events (Makes_item item) state (Goes later) come.leads goes

    -- the run goes on, and the text was put
    pub made_come : held ≡ append_known call.now.held text → HasCome arrangement Open with_item intake later later_events
    made_come put = record {
      leads = later-leads;
      arranged = item-arranged;
      makes = item-makes;
      took = item-took;
      count = ap length bytes-same ∙ come.count;
      closed = item-closed;
      ended = ended-next call.core call.ticks (items_in events) state later item (sound-led call.core call.ticks events state come.leads) goes ∙ come.ended;
      put =
          put ∙ ap (λ known. append_known known text) come.put ∙ append_known-append call.before.held state.world.output text
          ∙ ap (append_known call.before.held) (sym written);
    }

    cut-runs : Runs arrangement with_item true (bytes_in events) intake.ended None later.world.output
    cut-runs = item-runs (Goes later) goes refl true (λ more last.
        arranged-cut call.core call.ticks call.steps later_events items item-makes (Goes later) later-leads refl more last arrangement Open item-arranged)

    -- the text was put in part
    pub cut_in_write : PutInPart call.now.held held text → IsCutInWrite arrangement with_item
    cut_in_write put =
        let writer : IsWriteOf call.core call.ticks state item text = who-writes call.core call.ticks state later text written (let short = put.short in omega (arith, short)) item goes in
        record {
          taken = bytes_in events;
          ended = intake.ended;
          items = call.items;
          actor = writer.actor;
          name = writer.name;
          start = writer.start;
          state = state;
          bytes = text;
          last = added ∙ ap (λ i. call.items ++ i ∷ []) writer.is;
          reaches = record { events = events; leads = come.leads; makes = come.makes; gives = refl; closed = come.closed };
          lives = writer.lives;
          writes = writer.writes;
          runs = subst (Runs arrangement with_item true (bytes_in events) intake.ended None) written cut-runs;
          put = subst (λ known. PutInPart known held text) come.put put;
        }
