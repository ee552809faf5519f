-- A stretch is the same whatever input still comes.
use Rattle.std.proofs.Common.{◌≡◌, ◌&&◌, ℕ, Bool, true, false, not, List, [], ◌∷◌, ◌++◌, Option, None, Some, refl, ap, sym, ◌∙◌, subst, true≢false}
use Rattle.std.specs.List.{AllByRecursion, list_all}
use Rattle.sr_ask.specs.declared.ask.Ask.{Ask}
use Rattle.sr_ask.specs.declared.ask.Asks.{Asks}
use Rattle.sr_ask.specs.declared.ask.Asks.TheVariants.{Asked, OverTicks}
use Rattle.sr_ask.specs.declared.ask.Role.{Role}
use Rattle.sr_ask.specs.declared.item.Item.{Item}
use Rattle.sr_ask.specs.declared.item.Item.TheVariants.{Step, Quiesce, Tick}
use Rattle.sr_ask.specs.declared.request.Request.{Request}
use Rattle.sr_ask.specs.declared.request.Request.TheVariants as request
use Rattle.sr_ask.specs.declared.start.Start.{Start}
use Rattle.sr_core.specs.declared.component.Core.{Core}
use Rattle.sr_core.specs.declared.owner.Me.{Me}
use Rattle.sr_touch.specs.Touched.{is_wide, is_wide_request}
use Rattle.sr_world.proofs.PieceLemmas.{all-next, ended-next}
use Rattle.sr_world.proofs.RunInputLemmas.{all, all-does}
use Rattle.sr_world.proofs.RunLemmas.{illegal-after, sound-next}
use Rattle.sr_world.proofs.LawProofs.{illegal-from}
use Rattle.sr_world.specs.Deciding.{awaits_input}
use Rattle.sr_world.specs.Does.{Does, Did, Makes, Cannot, Ends, Undecided, comes_to}
use Rattle.sr_world.specs.Laws.{next_with_all, with_all, with_all_in}
use Rattle.sr_world.specs.Runs.{Goes, Illegal, Next, Over, State, and_then, asks_next, is_legal, items_in, led, next, run_from}
use Rattle.sr_world.specs.Sound.{IsSound}
use Rattle.sr_world.specs.Steps.{does}
use Rattle.sr_world.specs.Worlds.{World, started}
use Rattle.sr_world.specs.declared.ends.End.{End}
use Rattle.sr_plain.specs.Ready.{me_at}
use Rattle.sr_plain.specs.Stretches.{AreNarrow, IsOfLiving, IsStretch, StretchesStay, asks_narrow, could, is_done, is_narrow, nobody_could}
use Rattle.sr_plain.proofs.LedLemmas.{sound}

-- only a read waits for input, and it is wide
awaits-wide : (core : Core) (class : ℕ → ℕ) (me : Me) (role : Role) (w : World) (r : Request) → is_wide_request core class me role r ≡ false → awaits_input w r ≡ true → ⊥
awaits-wide core class me role w (request.Declare block var shape) narrow is = true≢false (sym is)
awaits-wide core class me role w (request.Load block var path) narrow is = true≢false (sym is)
awaits-wide core class me role w (request.Store block var path value) narrow is = true≢false (sym is)
awaits-wide core class me role w (request.Invoke target args wants) narrow is = true≢false (sym is)
awaits-wide core class me role w (request.Select site env) narrow is = true≢false (sym is)
awaits-wide core class me role w (request.Take ids) narrow is = true≢false (sym is)
awaits-wide core class me role w (request.Reply held back results) narrow is = true≢false (sym is)
awaits-wide core class me role w (request.Forward held back target args) narrow is = true≢false (sym is)
awaits-wide core class me role w (request.Count op) narrow is = true≢false (sym is)
awaits-wide core class me role w (request.Write bytes) narrow is = true≢false (sym is)
awaits-wide core class me role w (request.Read kind) narrow is = true≢false narrow
awaits-wide core class me role w (request.EnsureGlobal global vm) narrow is = true≢false (sym is)
awaits-wide core class me role w (request.Create resource args vm) narrow is = true≢false (sym is)
awaits-wide core class me role w request.MakeVm narrow is = true≢false (sym is)
awaits-wide core class me role w (request.Destroy target) narrow is = true≢false (sym is)
awaits-wide core class me role w (request.Finish answered back results) narrow is = true≢false (sym is)
awaits-wide core class me role w (request.Stop status) narrow is = true≢false (sym is)
awaits-wide core class me role w (request.Fail fault) narrow is = true≢false (sym is)
awaits-wide core class me role w request.Age narrow is = true≢false (sym is)
awaits-wide core class me role w (request.Wake until) narrow is = true≢false (sym is)

module _ (core : Core) (class : ℕ → ℕ) (limit : ℕ) (bytes : List ℕ) where
  -- ---- who could take part

  same-done : (d : Does) → is_done (comes_to (all bytes d)) ≡ is_done (comes_to d)
  same-done (Did w a) = refl
  same-done (Makes w a) = refl
  same-done Cannot = refl
  same-done (Ends ending) = refl
  same-done Undecided = refl

  module _ (w : World) (closed : w.ended ≡ true → bytes ≡ []) where
    same-could : (start : Start) (asks : Asks) → could core class (with_all bytes w) start asks ≡ could core class w start asks
    same-could start OverTicks = refl
    same-could start (Asked ask) = by (is_wide core class (me_at start) ask) refl
      where
        by : (b : Bool) → is_wide core class (me_at start) ask ≡ b → could core class (with_all bytes w) start (Asked ask) ≡ could core class w start (Asked ask)
        by true wide =
            ap (λ b. not b && is_done (comes_to (does core (with_all bytes w) start.process ask 0))) wide ∙ sym (ap (λ b. not b && is_done (comes_to (does core w start.process ask 0))) wide)
        by false narrow =
            ap (λ b. not (is_wide core class (me_at start) ask) && b)
            (ap (λ d. is_done (comes_to d)) (all-does bytes core ask.place 0 w start.process ask.role ask.request closed (awaits-wide core class (me_at start) ask.role w ask.request narrow))
            ∙ same-done (does core w start.process ask 0))

  same-nobody : (state : State) → (state.world.ended ≡ true → bytes ≡ []) → nobody_could core class limit (with_all_in bytes state) ≡ nobody_could core class limit state
  same-nobody state closed = along state.world.live
    where
      along : (live : List Start) → list_all (λ start. not (could core class (with_all bytes state.world) start (asks_next core limit state start))) live
          ≡ list_all (λ start. not (could core class state.world start (asks_next core limit state start))) live
      along [] = refl
      along (x ∷ xs) =
          ap (λ b. not b && list_all (λ start. not (could core class (with_all bytes state.world) start (asks_next core limit state start))) xs) (same-could state.world closed x (asks_next core limit state x))
          ∙ ap (λ b. not (could core class state.world x (asks_next core limit state x)) && b) (along xs)

  -- ---- stretches

  same-living : (w : World) (items : List Item) → AllByRecursion (IsOfLiving w) items → AllByRecursion (IsOfLiving (with_all bytes w)) items
  same-living w [] all = tt
  same-living w (Step actor name ∷ items) all = (all.0, same-living w items all.1)
  same-living w (Quiesce name ∷ items) all = absurd all.0
  same-living w (Tick to ∷ items) all = absurd all.0

  same-narrow : (state : State) (item : Item) → is_narrow core class limit state item ≡ true → is_narrow core class limit (with_all_in bytes state) item ≡ true
  same-narrow state (Step actor name) is = by (started state.world actor) is
    where
      by : (o : Option Start) → asks_narrow core class limit state o ≡ true → asks_narrow core class limit (with_all_in bytes state) o ≡ true
      by None h = h
      by (Some start) h = h
  same-narrow state (Quiesce name) is = is
  same-narrow state (Tick to) is = is

  record Stay (state later : State) (items : List Item) : Type 0 where
    leads : run_from core limit (Goes (with_all_in bytes state)) items ≡ Goes (with_all_in bytes later)
    narrow : AreNarrow core class limit (Goes (with_all_in bytes state)) items

  stays : (past items : List Item) (state later : State) → IsSound past state → (state.world.ended ≡ true → bytes ≡ []) → run_from core limit (Goes state) items ≡ Goes later → AreNarrow core class limit (Goes state) items
      → Stay state later items
  stays past [] state later sound closed leads narrow = let same : state ≡ later = cc in record { leads = ap (λ s. Goes (with_all_in bytes s)) same; narrow = tt }
  stays past (item ∷ items) state later sound closed leads narrow =
      by (next core limit state item) refl leads narrow.1 (λ s sound' closed' h n. stays (past ++ item ∷ []) items s later sound' closed' h n)
    where
      by : (now : Next) → next core limit state item ≡ now → run_from core limit now items ≡ Goes later → AreNarrow core class limit now items
          → ((s : State) → IsSound (past ++ item ∷ []) s → (s.world.ended ≡ true → bytes ≡ []) → run_from core limit (Goes s) items ≡ Goes later → AreNarrow core class limit (Goes s) items → Stay s later items)
          → Stay state later (item ∷ items)
      by (Goes s) is h n more =
          let step : next core limit (with_all_in bytes state) item ≡ Goes (with_all_in bytes s) = all-next core limit bytes state closed item (ap is_legal is) ∙ ap (next_with_all bytes) is in
          let rest = more s (sound-next past state sound core limit item s is) (λ e. closed (sym (ended-next core limit past state s item sound is) ∙ e)) h n in
          record {
            leads = ap (λ now. run_from core limit now items) step ∙ rest.leads;
            narrow = (same-narrow state item narrow.0, subst (λ now. AreNarrow core class limit now items) (sym step) rest.narrow);
          }
      by (Over ending s) is h n more = absurd (over items h)
        where
          over : (rest : List Item) → run_from core limit (Over ending s) rest ≡ Goes later → ⊥
          over [] leads = absurd (cc)
          over (i ∷ rest) leads = let stuck = illegal-from core limit rest in absurd (cc)
      by Illegal is h n more = let stuck = illegal-from core limit items in absurd (cc)

pub stretches_stay : StretchesStay
stretches_stay core class limit events state later items bytes leads closed stretch =
    let stay = stays core class limit bytes (items_in events) items state later (sound core limit events state leads) closed stretch.leads stretch.narrow in
    (record { leads = stay.leads; living = same-living core class limit bytes state.world items stretch.living; narrow = stay.narrow }, same-nobody core class limit bytes state closed)
