-- What becomes of a run of several workers after an item: its stretch comes, or there is no room for one.
use Rattle.std.proofs.Common.{◌≡◌, ◌⊎◌, ◌+◌, ◌-◌, ◌<◌, ◌≤◌, ℕ, List, [], ◌∷◌, ◌++◌, inl, inr, length, map, None, refl, ap, sym, ◌∙◌, subst, arith, length-append}
use Rattle.std.specs.Io.KnownBytes.{append_known}
use Rattle.sr_ask.specs.declared.answer.Answer.{Answer}
use Rattle.sr_ask.specs.declared.ask.Asks.{Asks}
use Rattle.sr_ask.specs.declared.item.Item.{Item}
use Rattle.sr_core.specs.declared.component.Core.{Core}
use Rattle.sr_plain.specs.Passing.{HasPassed}
use Rattle.sr_plain.specs.declared.plain.Plain.{Plain}
use Rattle.sr_run.proofs.Arranging.{arranged-full, arranged-round}
use Rattle.sr_run.proofs.Events.{bytes-along, closes-along, items-along}
use Rattle.sr_run.proofs.Reached.{early}
use Rattle.sr_run.specs.Arranged.{Arrangement, InRounds}
use Rattle.sr_run.specs.Causes.{EndsEarly, NoFaults}
use Rattle.sr_run.specs.Runs.{Call, Took}
use Rattle.sr_run.specs.UnderWay.{Advances, ArrangedSoFar, HasCome, IsUnderWay, Open, Whole}
use Rattle.sr_run.specs.declared.intake.Intake.{Intake}
use Rattle.sr_run.specs.declared.stretch.Stretch.{Stretch}
use Rattle.sr_world.proofs.LawProofs.{illegal-from}
use Rattle.sr_world.proofs.PieceLemmas.{ended-next}
use Rattle.sr_world.proofs.RunLemmas.{sound-led, sound-next}
use Rattle.sr_world.specs.Runs.{Event, Goes, Illegal, Makes_item, Next, Over, State, bytes_in, items_in, next, run_from}
use Rattle.sr_world.specs.Sound.{IsSound}
use Rattle.sr_world.specs.declared.ends.End.{End}

-- ---- items leave the end of the input

module _ (core : Core) (limit : ℕ) where
  never-over : (ending : End) (state later : State) (items : List Item) → run_from core limit (Over ending state) items ≡ Goes later → ⊥
  never-over ending state later [] leads = absurd (cc)
  never-over ending state later (item ∷ items) leads = let stuck = illegal-from core limit items in absurd (cc)

  never-illegal : (later : State) (items : List Item) → run_from core limit Illegal items ≡ Goes later → ⊥
  never-illegal later items leads = let stuck = illegal-from core limit items in absurd (cc)

  ended-along : (past items : List Item) (state later : State) → IsSound past state → run_from core limit (Goes state) items ≡ Goes later → later.world.ended ≡ state.world.ended
  ended-along past [] state later sound leads = let same : state ≡ later = cc in ap (λ (s : State). s.world.ended) (sym same)
  ended-along past (item ∷ items) state later sound leads = by (next core limit state item) refl leads (λ s sound' h. ended-along (past ++ item ∷ []) items s later sound' h)
    where
      by : (now : Next) → next core limit state item ≡ now → run_from core limit now items ≡ Goes later
          → ((s : State) → IsSound (past ++ item ∷ []) s → run_from core limit (Goes s) items ≡ Goes later → later.world.ended ≡ s.world.ended)
          → later.world.ended ≡ state.world.ended
      by (Goes s) is h more = more s (sound-next past state sound core limit item s is) h ∙ ended-next core limit past state s item sound is
      by (Over ending s) is h more = absurd (never-over ending s later items h)
      by Illegal is h more = absurd (never-illegal later items h)

-- ---- what the engine's answer leaves

module _ {A : Type 0} (after : A → List Answer → Asks) (can_feed : A → Type 0) (arrangement : Arrangement) (items : List Item) (call : Call) (intake : Intake) (plain : Plain A) where
  -- no item was made
  pub still : length call.items ≤ length items → Advances after can_feed arrangement items call intake plain None → IsUnderWay after can_feed arrangement Whole call intake plain
  still no_more (inl same) = same.1
  still no_more (inr more) = absurd (omega (arith, no_more, more.0))

  -- one was
  pub opened : length items < length call.items → Advances after can_feed arrangement items call intake plain None → IsUnderWay after can_feed arrangement Open call intake plain
  opened more (inl same) = absurd (omega (arith, more, ap (λ is. length is) same.0))
  opened more (inr made) = made.1

-- ---- after an item

module _ {A : Type 0} (after : A → List Answer → Asks) (can_feed : A → Type 0) (class : ℕ → ℕ) (workers : ℕ) (stretches : List Stretch) (call : Call) (intake : Intake) (plain : Plain A)
    (under_way : IsUnderWay after can_feed (InRounds class workers stretches) Open call intake plain) where
  come : HasCome (InRounds class workers stretches) Open call intake under_way.state under_way.events
  come = under_way.come

  no_faults : NoFaults call
  no_faults = under_way.no_faults

  -- memory ran out
  pub unmade : EndsEarly (InRounds class workers stretches) call
  unmade = early (InRounds class workers stretches) call intake under_way.state under_way.events Open come no_faults

  -- there is no room for a stretch
  pub full : call.steps < length call.items + workers → IsUnderWay after can_feed (InRounds class workers stretches) Whole call intake plain
  full no_room = record {
    state = under_way.state;
    events = under_way.events;
    come = record {
      leads = come.leads;
      arranged = arranged-full call.core call.ticks call.steps under_way.events call.items come.makes under_way.state come.leads class workers stretches no_room come.arranged;
      makes = come.makes;
      took = come.took;
      count = come.count;
      closed = come.closed;
      ended = come.ended;
      put = come.put;
    };
    no_faults = no_faults;
    engine = under_way.engine;
  }

  -- its stretch comes
  module _ (room : ℕ) (some : 1 ≤ room) (fits : length call.items + workers ≤ call.steps) (items : List Item) (later : Plain A)
      (passed : HasPassed after can_feed call.core class call.ticks under_way.state under_way.events room call.items items later) where
    abbrev pub its_stretch : Stretch
    its_stretch = record { from = length call.items; count = length items - length call.items }

    abbrev pub with_items : Call
    with_items = record call { items = items }

    abbrev later_events : List Event
    later_events = under_way.events ++ map Makes_item passed.items

    bytes-same : bytes_in later_events ≡ bytes_in under_way.events
    bytes-same = bytes-along under_way.events passed.items

    now-arranged : ArrangedSoFar (InRounds class workers (stretches ++ its_stretch ∷ [])) Whole call.core call.ticks call.steps later_events items
    now-arranged =
        let count : length items - length call.items ≡ length passed.items = omega (arith, ap (λ is. length is) passed.added, length-append call.items passed.items) in
        subst (ArrangedSoFar (InRounds class workers (stretches ++ its_stretch ∷ [])) Whole call.core call.ticks call.steps later_events) (sym passed.added)
        (arranged-round call.core call.ticks call.steps under_way.events call.items come.makes under_way.state come.leads class workers stretches come.arranged passed.later passed.items its_stretch refl count fits
        passed.stretch (passed.empty some) (λ shut. come.closed ∙ sym come.ended ∙ shut))

    took-same : Took with_items (bytes_in under_way.events) intake.ended
    took-same = record { passed = come.took.passed; at_end = come.took.at_end; most = come.took.most }

    pub rounded : IsUnderWay after can_feed (InRounds class workers (stretches ++ its_stretch ∷ [])) Whole with_items intake later
    rounded = record {
      state = passed.later;
      events = later_events;
      come = record {
        leads = passed.engine.stands.leads;
        arranged = now-arranged;
        makes = items-along under_way.events passed.items ∙ ap (λ is. is ++ passed.items) come.makes ∙ sym passed.added;
        took = subst (λ bytes. Took with_items bytes intake.ended) (sym bytes-same) took-same;
        count = ap length bytes-same ∙ come.count;
        closed = closes-along under_way.events passed.items ∙ come.closed;
        ended = ended-along call.core call.ticks (items_in under_way.events) passed.items under_way.state passed.later (sound-led call.core call.ticks under_way.events under_way.state come.leads) passed.stretch.leads ∙ come.ended;
        put = come.put ∙ ap (append_known call.before.held) (sym passed.written);
      };
      no_faults = record { read = no_faults.read; write = no_faults.write };
      engine = passed.engine;
    }
