-- The actor of each step of a run was made, and nobody was made under 0.
use Rattle.std.proofs.Common.{◌≡◌, ◌+◌, ◌≤◌, ◌⊎◌, ℕ, zero, suc, Bool, true, List, [], ◌∷◌, ◌++◌, drop, take, Option, None, Some, is_some, inl, inr, refl, ap, sym, ◌∙◌, arith, true≢false}
use Rattle.std.specs.List.{AllByRecursion}
use Rattle.sr_ask.specs.declared.item.Item.{Item}
use Rattle.sr_ask.specs.declared.item.Item.TheVariants.{Step, Quiesce, Tick}
use Rattle.sr_ask.specs.declared.start.Start.{Start}
use Rattle.sr_core.specs.declared.component.Core.{Core}
use Rattle.sr_plain.specs.Passing.{FitsItem}
use Rattle.sr_plain.specs.Stretches.{IsOfLiving}
use Rattle.sr_plain.specs.Turns.{Rotates, last_after, turn}
use Rattle.sr_world.proofs.KeepLemmas.{live-counts}
use Rattle.sr_world.proofs.RunLemmas.{sound-first, sound-input, sound-next}
use Rattle.sr_world.specs.Runs.{Goes, Illegal, Next, Over, State, begun, first, is_legal, next, run, run_from, step_of}
use Rattle.sr_world.specs.Sound.{IsSound}
use Rattle.sr_world.specs.Worlds.{World, started}
use Rattle.sr_run.proofs.Arranging.{takes-no-time}
use Rattle.sr_run.specs.Arranged.{AreStretches, Arrangement, InTurn, InRounds, IsArranged, IsStretchFrom, LackStretches, TakesNoTime}
use Rattle.sr_run.specs.Causes as causes
use Rattle.sr_run.specs.Numbers.{HasActor, IsNumbered}
use Rattle.sr_run.specs.Runs.{Call, Runs}
use Rattle.sr_run.specs.declared.end.LimitKind.{LimitKind}
use Rattle.sr_run.specs.declared.end.LimitKind.TheVariants as limit
use Rattle.sr_run.specs.declared.end.RunEnd.{RunEnd}
use Rattle.sr_run.specs.declared.end.RunEnd.TheVariants as end
use Rattle.sr_run.specs.declared.stretch.Stretch.{Stretch}
use Rattle.sr_world.specs.declared.ends.End.{End}

module _ (core : Core) (ticks : ℕ) where
  -- nothing comes after what can't be
  illegal-run : (items : List Item) → run_from core ticks Illegal items ≡ Illegal
  illegal-run [] = refl
  illegal-run (item ∷ items) = illegal-run items

  module _ (past : List Item) (state : State) (sound : IsSound past state) where
    positive : (actor : ℕ) → is_some (started state.world actor) ≡ true → 1 ≤ actor
    positive zero lives = absurd (omega (arith, live-counts state.world.live 0 lives, sound.numbers.processes 0, sound.numbers.zero_never))
    positive (suc n) lives = omega arith

    steps : (actor name : ℕ) (o : Option Start) → started state.world actor ≡ o → is_legal (step_of core ticks state actor name o) ≡ true → 1 ≤ actor
    steps actor name None found legal = absurd (true≢false (sym legal))
    steps actor name (Some start) found legal = positive actor (ap is_some found)

    acts : (item : Item) → TakesNoTime item → is_legal (next core ticks state item) ≡ true → HasActor item
    acts (Step actor name) plain legal = steps actor name (started state.world actor) refl legal
    acts (Quiesce name) plain legal = tt
    acts (Tick to) plain legal = plain

  legal-now : (now : Next) (items : List Item) → is_legal (run_from core ticks now items) ≡ true → is_legal now ≡ true
  legal-now (Goes state) items legal = refl
  legal-now (Over ending state) items legal = refl
  legal-now Illegal items legal = sym (ap is_legal (illegal-run items)) ∙ legal

  -- where no time passes from a state that a run has come to, each item has its actor
  from : (past : List Item) (state : State) (items : List Item) → IsSound past state → AllByRecursion TakesNoTime items → is_legal (run_from core ticks (Goes state) items) ≡ true → AllByRecursion HasActor items
  from past state [] sound plain legal = tt
  from past state (item ∷ items) sound plain legal = (
    acts past state sound item plain.0 (legal-now (next core ticks state item) items legal),
    by (next core ticks state item) refl legal (λ before later sound' h. from before later items sound' plain.1 h),
  )
    where
      by : (now : Next) → next core ticks state item ≡ now → is_legal (run_from core ticks now items) ≡ true
          → ((before : List Item) (later : State) → IsSound before later → is_legal (run_from core ticks (Goes later) items) ≡ true → AllByRecursion HasActor items)
          → AllByRecursion HasActor items
      by (Goes later) is h more = more (past ++ item ∷ []) later (sound-next past state sound core ticks item later is) h
      by (Over ending later) is h more = ended ending later items h
        where
          ended : (ending : End) (later : State) (items : List Item) → is_legal (run_from core ticks (Over ending later) items) ≡ true → AllByRecursion HasActor items
          ended ending later [] h = tt
          ended ending later (item ∷ items) h = absurd (true≢false (sym h ∙ ap is_legal (illegal-run items)))
      by Illegal is h more = absurd (true≢false (sym h ∙ ap is_legal (illegal-run items)))

  actors : (input : List ℕ) (items : List Item) → AllByRecursion TakesNoTime items → is_legal (run core ticks input items) ≡ true → AllByRecursion HasActor items
  actors input items plain legal = from [] (begun input) items (sound-input [] first sound-first input true) plain legal

  -- ---- no time passes

  rotation-plain : (now : Next) (last : ℕ) (items : List Item) → Rotates core ticks now last items → AllByRecursion TakesNoTime items
  rotation-plain now last [] rotates = tt
  rotation-plain (Goes state) last (item ∷ items) rotates =
      (takes-no-time (turn core ticks state last) item rotates.0, rotation-plain (next core ticks state item) (last_after last item) items rotates.2)
  rotation-plain (Over ending state) last (item ∷ items) rotates = absurd rotates
  rotation-plain Illegal last (item ∷ items) rotates = absurd rotates

  module _ (class : ℕ → ℕ) (steps workers : ℕ) (cut : Bool) where
    lacking-plain : (now : Next) (made : ℕ) (items : List Item) → LackStretches core class ticks steps workers cut now made items → AllByRecursion TakesNoTime items
    lacking-plain now made [] lack = tt
    lacking-plain now made (item ∷ items) lack = (lack.0, lacking-plain (run_from core ticks now (item ∷ [])) (made + 1) items lack.2)

    living-plain : (world : World) (items : List Item) → AllByRecursion (IsOfLiving world) items → AllByRecursion TakesNoTime items
    living-plain world [] living = tt
    living-plain world (Step actor name ∷ items) living = (tt, living-plain world items living.1)
    living-plain world (Quiesce name ∷ items) living = absurd living.0
    living-plain world (Tick to ∷ items) living = absurd living.0

    stretch-plain : (now : Next) (items : List Item) → IsStretchFrom core class ticks steps workers now items → AllByRecursion TakesNoTime items
    stretch-plain (Goes state) items is = living-plain state.world items is.0.1.living
    stretch-plain (Over ending state) items is = absurd is
    stretch-plain Illegal items is = absurd is

    both-plain : (count : ℕ) (items : List Item) → AllByRecursion TakesNoTime (take count items) → AllByRecursion TakesNoTime (drop count items) → AllByRecursion TakesNoTime items
    both-plain count [] front back = tt
    both-plain zero (item ∷ items) front back = back
    both-plain (suc n) (item ∷ items) front back = (front.0, both-plain n items front.1 back)

    stretches-plain : (stretches : List Stretch) (now : Next) (made : ℕ) (items : List Item) → AreStretches core class ticks steps workers cut now made items stretches → AllByRecursion TakesNoTime items
    stretches-plain [] now made items are = lacking-plain now made items are
    stretches-plain (s ∷ ss) now made [] are = absurd are
    stretches-plain (s ∷ ss) now made (item ∷ items) are =
        (are.0, both-plain s.count items (stretch-plain (run_from core ticks now (item ∷ [])) (take s.count items) are.4) (stretches-plain ss _ _ (drop s.count items) are.5))

arranged-plain : (arrangement : Arrangement) (core : Core) (ticks steps : ℕ) (cut : Bool) (input : List ℕ) (items : List Item) → IsArranged arrangement core ticks steps cut input items → AllByRecursion TakesNoTime items
arranged-plain InTurn core ticks steps cut input items rotates = rotation-plain core ticks (Goes (begun input)) 0 items rotates
arranged-plain (InRounds class workers stretches) core ticks steps cut input items are = stretches-plain core ticks class steps workers cut stretches (Goes (begun input)) 0 items are

-- ---- a call of the run

module _ (arrangement : Arrangement) (call : Call) where
  actors-in : (cut : Bool) (taken : List ℕ) (ended : Bool) (ending : Option End) (output : List ℕ) → Runs arrangement call cut taken ended ending output → AllByRecursion HasActor call.items
  actors-in cut taken ended ending output runs =
      let ran = runs.untold [] (λ e. refl) in
      actors call.core call.ticks (taken ++ []) call.items (arranged-plain arrangement call.core call.ticks call.steps cut (taken ++ []) call.items ran.arranged) ran.legal

  actors-at : (kind : LimitKind) → causes.LimitCause arrangement call kind → AllByRecursion HasActor call.items
  actors-at limit.Steps cause = actors-in _ _ _ _ _ cause.goes_on.runs
  actors-at (limit.Ticks process) cause = actors-in _ _ _ _ _ cause.goes_on.runs
  actors-at limit.Input cause = actors-in _ _ _ _ _ cause.goes_on.runs

  actors-cut : causes.EndsEarly arrangement call → AllByRecursion HasActor call.items
  actors-cut early = by early.cut
    where
      by : causes.IsCutBetween arrangement call ⊎ causes.IsCutInWrite arrangement call → AllByRecursion HasActor call.items
      by (inl between) = actors-in _ _ _ _ _ between.goes_on.runs
      by (inr cut) = actors-in _ _ _ _ _ cut.runs

  pub made-by : (ending : RunEnd) → causes.HasCauseIn arrangement call ending → AllByRecursion HasActor call.items
  made-by (end.Ended ending) cause = actors-in _ _ _ _ _ cause.runs
  made-by (end.Limit kind) cause = actors-at kind cause
  made-by end.ReadFault cause = actors-in _ _ _ _ _ cause.goes_on.runs
  made-by end.WriteFault cause = actors-in _ _ _ _ _ cause.cut.runs
  made-by end.NoMemory cause = actors-cut cause

-- ---- both

numbered-item : (item : Item) → HasActor item → FitsItem item → IsNumbered item
numbered-item (Step actor name) acts fits = (acts, fits.0, fits.1)
numbered-item (Quiesce name) acts fits = fits
numbered-item (Tick to) acts fits = acts

pub numbered : (items : List Item) → AllByRecursion HasActor items → AllByRecursion FitsItem items → AllByRecursion IsNumbered items
numbered [] acts fit = tt
numbered (item ∷ items) acts fit = (numbered-item item acts.0 fit.0, numbered items acts.1 fit.1)
