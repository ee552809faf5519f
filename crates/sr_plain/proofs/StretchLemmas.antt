-- What a step of a stretch does, and who could take part.
use Rattle.std.proofs.Common.{◌≡◌, ◌==◌, ◌&&◌, ℕ, Bool, true, false, not, cond, List, [], ◌∷◌, ◌++◌, Option, None, Some, refl, ap, sym, ◌∙◌, subst, true≢false}
use Rattle.std.specs.List.{AllByRecursion, list_all}
use Rattle.std.specs.Prelude.{find}
use Rattle.sr_ask.specs.declared.ask.Ask.{Ask}
use Rattle.sr_ask.specs.declared.ask.Asks.{Asks}
use Rattle.sr_ask.specs.declared.ask.Asks.TheVariants.{Asked, OverTicks}
use Rattle.sr_ask.specs.declared.ask.Role.{Role}
use Rattle.sr_ask.specs.declared.item.Item.{Item}
use Rattle.sr_ask.specs.declared.item.Item.TheVariants.{Step, Quiesce, Tick}
use Rattle.sr_ask.specs.declared.request.Request.{Request}
use Rattle.sr_ask.specs.declared.request.Request.TheVariants as request
use Rattle.sr_ask.specs.declared.start.Start.{Start}
use Rattle.sr_core.specs.declared.component.Core.{Core}
use Rattle.sr_core.specs.declared.owner.Me.{Me}
use Rattle.sr_processes.specs.Living.{is_process}
use Rattle.sr_touch.specs.Touched.{is_wide, is_wide_request}
use Rattle.sr_world.proofs.LawProofs.{run-append}
use Rattle.sr_world.proofs.RunLemmas.{goes-where}
use Rattle.sr_world.proofs.StepLemmas.{same-step}
use Rattle.sr_world.specs.Does.{Does, Did, Makes, Cannot, Ends, Undecided, Outcome, IsDone, IsMade, IsNot, IsEnd, IsOpen, comes_to, is_possible}
use Rattle.sr_world.specs.Runs.{Goes, Illegal, Next, Over, State, asks_for, asks_next, is_blocked, is_new, next, run_from, step_of, stepped, where_true, with_answer}
use Rattle.sr_world.specs.Steps.{does}
use Rattle.sr_world.specs.Worlds.{World, started}
use Rattle.sr_world.specs.declared.ends.End.{End}
use Rattle.sr_plain.specs.Engine.{IsLast, IsOver, WaitsForInput}
use Rattle.sr_plain.specs.Leaving.{Leaves, LeavesIf, written_by}
use Rattle.sr_plain.specs.Passing.{could_at}
use Rattle.sr_plain.specs.Ready.{me_at}
use Rattle.sr_plain.specs.Stretches.{AreNarrow, IsOfLiving, IsStretch, asks_narrow, asks_wide, could, is_done, is_narrow, nobody_could}
use Rattle.sr_plain.specs.Turns.{takes_turn}
use Rattle.sr_plain.proofs.LeaveLemmas.{leaves}

-- ---- outcomes

off-both : (a b : Bool) → b ≡ false → (a && b) ≡ false
off-both true b off = off
off-both false b off = refl

not-possible : (o : Outcome) → not (not (is_possible o)) ≡ false → is_done o ≡ false
not-possible IsDone is = absurd (true≢false is)
not-possible IsMade is = absurd (true≢false is)
not-possible IsNot is = refl
not-possible (IsEnd ending) is = refl
not-possible IsOpen is = refl

ends-not-done : (state : State) (actor name : ℕ) (ending : End) (d : Does) → stepped state actor name d ≡ Over ending state → is_done (comes_to d) ≡ false
ends-not-done state actor name ending (Did w a) is = by (name == 0) is
  where
    by : (b : Bool) → where_true b (Goes (record { world = w; given = with_answer actor a state.given })) ≡ Over ending state → is_done IsDone ≡ false
    by true h = absurd (cc)
    by false h = absurd (cc)
ends-not-done state actor name ending (Makes w a) is = by (is_new state.world name) is
  where
    by : (b : Bool) → where_true b (Goes (record { world = w; given = with_answer actor a state.given })) ≡ Over ending state → is_done IsMade ≡ false
    by true h = absurd (cc)
    by false h = absurd (cc)
ends-not-done state actor name ending Cannot is = refl
ends-not-done state actor name ending (Ends other) is = refl
ends-not-done state actor name ending Undecided is = refl

-- ---- what a step was

-- a process asked for what could be done, and this is what its step left
pub record IsStep (core : Core) (limit : ℕ) (state : State) (actor name : ℕ) (later : State) : Type 0 where
  pub start : Start
  pub lives : started state.world actor ≡ Some start
  pub asks : Ask
  pub asked : asks_next core limit state start ≡ Asked asks
  pub done : is_done (comes_to (does core state.world actor asks 0)) ≡ true
  pub left : Leaves name (written_by asks.request) state.world later.world

module _ (core : Core) (limit : ℕ) (state later : State) (actor name : ℕ) where
  step-done : (d : Does) (text : List ℕ) → LeavesIf name text state.world d → stepped state actor name d ≡ Goes later → (is_done (comes_to d) ≡ true) × Leaves name text state.world later.world
  step-done (Did w a) text leaves is =
      let parts = goes-where (name == 0) (Goes (record { world = w; given = with_answer actor a state.given })) later is in
      let same : record { world = w; given = with_answer actor a state.given } ≡ later = cc in
      (refl, subst (λ (s : State). Leaves name text state.world s.world) same leaves)
  step-done (Makes w a) text leaves is =
      let parts = goes-where (is_new state.world name) (Goes (record { world = w; given = with_answer actor a state.given })) later is in
      let same : record { world = w; given = with_answer actor a state.given } ≡ later = cc in
      (refl, subst (λ (s : State). Leaves name text state.world s.world) same leaves)
  step-done Cannot text leaves is = absurd (cc)
  step-done (Ends ending) text leaves is = let parts = goes-where (name == 0) (Over ending state) later is in absurd (cc)
  step-done Undecided text leaves is = absurd (cc)

  pub step-is : next core limit state (Step actor name) ≡ Goes later → IsStep core limit state actor name later
  step-is goes = by (started state.world actor) refl goes
    where
      by : (o : Option Start) → started state.world actor ≡ o → step_of core limit state actor name o ≡ Goes later → IsStep core limit state actor name later
      by None found is = absurd (cc)
      by (Some start) found is = asking (asks_next core limit state start) refl is
        where
          asking : (asks : Asks) → asks_next core limit state start ≡ asks → stepped state actor name (asks_for core state.world actor name asks) ≡ Goes later → IsStep core limit state actor name later
          asking OverTicks asked h = absurd (cc)
          asking (Asked ask) asked h =
              let parts = step-done (does core state.world actor ask name) (written_by ask.request) (leaves name state.world core actor ask.place ask.role ask.request) h in
              record {
                start = start;
                lives = found;
                asks = ask;
                asked = asked;
                done = ap is_done (same-step core state.world ask.place 0 name actor ask.role ask.request) ∙ parts.0;
                left = parts.1;
              }

-- what isn't wide writes nothing
narrow-writes : (core : Core) (class : ℕ → ℕ) (me : Me) (role : Role) (r : Request) → is_wide_request core class me role r ≡ false → written_by r ≡ []
narrow-writes core class me role (request.Declare block var shape) narrow = refl
narrow-writes core class me role (request.Load block var path) narrow = refl
narrow-writes core class me role (request.Store block var path value) narrow = refl
narrow-writes core class me role (request.Invoke target args wants) narrow = refl
narrow-writes core class me role (request.Select site env) narrow = refl
narrow-writes core class me role (request.Take ids) narrow = refl
narrow-writes core class me role (request.Reply held back results) narrow = refl
narrow-writes core class me role (request.Forward held back target args) narrow = refl
narrow-writes core class me role (request.Count op) narrow = refl
narrow-writes core class me role (request.Write bytes) narrow = absurd (true≢false narrow)
narrow-writes core class me role (request.Read kind) narrow = refl
narrow-writes core class me role (request.EnsureGlobal global vm) narrow = refl
narrow-writes core class me role (request.Create resource args vm) narrow = refl
narrow-writes core class me role request.MakeVm narrow = refl
narrow-writes core class me role (request.Destroy target) narrow = refl
narrow-writes core class me role (request.Finish answered back results) narrow = refl
narrow-writes core class me role (request.Stop status) narrow = refl
narrow-writes core class me role (request.Fail fault) narrow = refl
narrow-writes core class me role request.Age narrow = refl
narrow-writes core class me role (request.Wake until) narrow = refl

wide-of : (core : Core) (class : ℕ → ℕ) (start : Start) (ask : Ask) (asks : Asks) → asks ≡ Asked ask → asks_wide core class start asks ≡ false → is_wide core class (me_at start) ask ≡ false
wide-of core class start ask asks asked narrow = sym (ap (asks_wide core class start) asked) ∙ narrow

not-true : (b : Bool) → not b ≡ true → b ≡ false
not-true true is = absurd (true≢false (sym is))
not-true false is = refl

module _ (core : Core) (class : ℕ → ℕ) (limit : ℕ) (state : State) (actor name : ℕ) (later : State) (step : IsStep core limit state actor name later) (narrow : is_narrow core class limit state (Step actor name) ≡ true) where
  pub narrow-asked : asks_wide core class step.start (asks_next core limit state step.start) ≡ false
  narrow-asked = not-true (asks_wide core class step.start (asks_next core limit state step.start)) (sym (ap (asks_narrow core class limit state) step.lives) ∙ narrow)

  -- a step of a stretch writes nothing
  pub narrow-written : written_by step.asks.request ≡ []
  narrow-written = narrow-writes core class (me_at step.start) step.asks.role step.asks.request (wide-of core class step.start step.asks (asks_next core limit state step.start) step.asked narrow-asked)

-- ---- who could take part

module _ (core : Core) (class : ℕ → ℕ) (limit : ℕ) (state : State) where
  module _ (start : Start) where
    undone : (asks : Asks) → ((ask : Ask) → asks ≡ Asked ask → is_done (comes_to (does core state.world start.process ask 0)) ≡ false) → could core class state.world start asks ≡ false
    undone OverTicks h = refl
    undone (Asked ask) h = off-both (not (is_wide core class (me_at start) ask)) (is_done (comes_to (does core state.world start.process ask 0))) (h ask refl)

    -- one that is blocked couldn't
    pub blocked-not : takes_turn core limit state start ≡ false → could core class state.world start (asks_next core limit state start) ≡ false
    blocked-not off = undone (asks_next core limit state start) (λ ask asked.
        not-possible (comes_to (does core state.world start.process ask 0)) (sym (ap (λ a. not (is_blocked core state.world start.process a)) asked) ∙ off))

    -- nor one that waits for input
    pub waits-not : WaitsForInput core limit state (Some start) → could core class state.world start (asks_next core limit state start) ≡ false
    waits-not waits = undone (asks_next core limit state start) (λ ask asked.
        ap is_done (sym (ap (λ a. comes_to (asks_for core state.world start.process 0 a)) asked) ∙ waits))

    -- nor one that is over its ticks
    pub over-not : (process : ℕ) → IsOver core limit state process (Some start) → could core class state.world start (asks_next core limit state start) ≡ false
    over-not process over = ap (could core class state.world start) over.1

    -- nor one that ends the run
    pub ends-not : started state.world start.process ≡ Some start → (item : Item) (ending : End) → IsLast core limit state (Some start) item ending → could core class state.world start (asks_next core limit state start) ≡ false
    ends-not lives (Step actor name) ending last = undone (asks_next core limit state start) (λ ask asked.
        ap is_done (same-step core state.world ask.place 0 name start.process ask.role ask.request)
        ∙ ends-not-done state start.process name ending (does core state.world start.process ask name)
        (sym (ap (λ a. stepped state start.process name (asks_for core state.world start.process name a)) asked) ∙ sym (ap (step_of core limit state start.process name) lives)
        ∙ sym (ap (λ n. next core limit state (Step n name)) last.turn_of) ∙ last.ends))
    ends-not lives (Quiesce name) ending last = absurd last.turn_of
    ends-not lives (Tick to) ending last = absurd last.turn_of

    -- nor one that a pass leaves
    pub left-not : asks_wide core class start (asks_next core limit state start) ≡ true → could core class state.world start (asks_next core limit state start) ≡ false
    left-not left = by (asks_next core limit state start) left
      where
        by : (asks : Asks) → asks_wide core class start asks ≡ true → could core class state.world start asks ≡ false
        by OverTicks wide = refl
        by (Asked ask) wide = ap (λ b. not b && is_done (comes_to (does core state.world start.process ask 0))) wide

    -- one that isn't left and made a step could
    pub done-could : (ask : Ask) → asks_next core limit state start ≡ Asked ask → asks_wide core class start (asks_next core limit state start) ≡ false
        → is_done (comes_to (does core state.world start.process ask 0)) ≡ true → could core class state.world start (asks_next core limit state start) ≡ true
    done-could ask asked narrow done =
        ap (could core class state.world start) asked
        ∙ ap (λ b. not b && is_done (comes_to (does core state.world start.process ask 0))) (sym (ap (asks_wide core class start) asked) ∙ narrow) ∙ done

  some-could : (p : ℕ) (s : Start) (live : List Start) (test : Start → Bool) → find (is_process p) live ≡ Some s → test s ≡ true → list_all (λ x. not (test x)) live ≡ false
  some-could p s [] test found is = absurd (cc)
  some-could p s (x ∷ xs) test found is = by (is_process p x) found (λ more. some-could p s xs test more is)
    where
      by : (b : Bool) → cond b (Some x) (find (is_process p) xs) ≡ Some s → (find (is_process p) xs ≡ Some s → list_all (λ y. not (test y)) xs ≡ false) → (not (test x) && list_all (λ y. not (test y)) xs) ≡ false
      by true h more = let here : x ≡ s = cc in ap (λ b. not b && list_all (λ y. not (test y)) xs) (ap test here ∙ is)
      by false h more = off-both (not (test x)) (list_all (λ y. not (test y)) xs) (more h)

  -- where a process could take part, it isn't so that nobody could
  pub somebody : (p : ℕ) → could_at core class limit state (started state.world p) ≡ true → nobody_could core class limit state ≡ false
  somebody p is = by (started state.world p) refl is
    where
      by : (o : Option Start) → started state.world p ≡ o → could_at core class limit state o ≡ true → nobody_could core class limit state ≡ false
      by None found h = absurd (true≢false (sym h))
      by (Some s) found h = some-could p s state.world.live (λ x. could core class state.world x (asks_next core limit state x)) found h

-- ---- one item more

module _ (core : Core) (class : ℕ → ℕ) (limit : ℕ) where
  living-more : (world : World) (items : List Item) (item : Item) → AllByRecursion (IsOfLiving world) items → IsOfLiving world item → AllByRecursion (IsOfLiving world) (items ++ item ∷ [])
  living-more world [] item all is = (is, tt)
  living-more world (i ∷ is) item all is' = (all.0, living-more world is item all.1 is')

  narrow-more : (now : Next) (items : List Item) (item : Item) (later : State) → run_from core limit now items ≡ Goes later → AreNarrow core class limit now items → is_narrow core class limit later item ≡ true
      → AreNarrow core class limit now (items ++ item ∷ [])
  narrow-more (Goes s) [] item later leads narrow is = let same : s ≡ later = cc in (subst (λ v. is_narrow core class limit v item ≡ true) (sym same) is, none (next core limit s item))
    where
      none : (now : Next) → AreNarrow core class limit now []
      none now = tt
  narrow-more (Over ending s) [] item later leads narrow is = absurd (cc)
  narrow-more Illegal [] item later leads narrow is = absurd (cc)
  narrow-more (Goes s) (i ∷ is) item later leads narrow is' = (narrow.0, narrow-more (next core limit s i) is item later leads narrow.1 is')
  narrow-more (Over ending s) (i ∷ is) item later leads narrow is' = absurd narrow
  narrow-more Illegal (i ∷ is) item later leads narrow is' = absurd narrow

  pub stretch-more : (state middle later : State) (items : List Item) (item : Item) → IsStretch core class limit state items middle → next core limit middle item ≡ Goes later
      → IsOfLiving state.world item → is_narrow core class limit middle item ≡ true → IsStretch core class limit state (items ++ item ∷ []) later
  stretch-more state middle later items item stretch goes living narrow = record {
    leads = run-append core limit (Goes state) items (item ∷ []) ∙ ap (λ n. run_from core limit n (item ∷ [])) stretch.leads ∙ goes;
    living = living-more state.world items item stretch.living living;
    narrow = narrow-more (Goes state) items item middle stretch.leads stretch.narrow narrow;
  }
