-- Stretches of a run: steps between two plain steps, each of which needs no more than some parts of the world.
use Rattle.std.specs.Prelude.{◌≡◌, ◌&&◌, ℕ, Bool, true, false, not, List, [], ◌∷◌, Option, Some, None, IsSome}
use Rattle.std.specs.List.{AllByRecursion, list_all}
use Rattle.sr_ask.specs.declared.ask.Asks.{Asks}
use Rattle.sr_ask.specs.declared.ask.Asks.TheVariants.{Asked, OverTicks}
use Rattle.sr_ask.specs.declared.item.Item.{Item}
use Rattle.sr_ask.specs.declared.item.Item.TheVariants.{Step, Quiesce, Tick}
use Rattle.sr_ask.specs.declared.start.Start.{Start}
use Rattle.sr_core.specs.declared.component.Core.{Core}
use Rattle.sr_touch.specs.Touched.{is_wide}
use Rattle.sr_world.specs.Does.{Outcome, IsDone, IsMade, IsNot, IsEnd, IsOpen, comes_to}
use Rattle.sr_world.specs.Laws.{with_all_in}
use Rattle.sr_world.specs.Runs.{Event, Goes, Illegal, Next, Over, State, asks_next, led, next, run_from}
use Rattle.sr_world.specs.Steps.{does}
use Rattle.sr_world.specs.Worlds.{World, started}
use Rattle.sr_plain.specs.Ready.{me_at}

-- ---- who could take part

-- what a process asks is wide; one that is over its ticks asks nothing more
abbrev pub asks_wide : Core → (ℕ → ℕ) → Start → Asks → Bool
asks_wide core class start (Asked ask) = is_wide core class (me_at start) ask
asks_wide core class start OverTicks = true

abbrev pub is_done : Outcome → Bool
is_done IsDone = true
is_done IsMade = true
is_done IsNot = false
is_done (IsEnd ending) = false
is_done IsOpen = false

-- what a process asks isn't wide and can be done, without an end of the run
abbrev pub could : Core → (ℕ → ℕ) → World → Start → Asks → Bool
could core class world start (Asked ask) = not (is_wide core class (me_at start) ask) && is_done (comes_to (does core world start.process ask 0))
could core class world start OverTicks = false

-- no process that lives could take part in a stretch
abbrev pub nobody_could : Core → (ℕ → ℕ) → ℕ → State → Bool
nobody_could core class limit state = list_all (λ start. not (could core class state.world start (asks_next core limit state start))) state.world.live

-- ---- stretches

-- a step of a process that lives in this world
abbrev pub IsOfLiving : World → Item → Type 0
IsOfLiving world (Step actor name) = IsSome (started world actor)
IsOfLiving world (Quiesce name) = ⊥
IsOfLiving world (Tick to) = ⊥

abbrev pub asks_narrow : Core → (ℕ → ℕ) → ℕ → State → Option Start → Bool
asks_narrow core class limit state None = false
asks_narrow core class limit state (Some start) = not (asks_wide core class start (asks_next core limit state start))

-- the request of an item isn't wide
abbrev pub is_narrow : Core → (ℕ → ℕ) → ℕ → State → Item → Bool
is_narrow core class limit state (Step actor name) = asks_narrow core class limit state (started state.world actor)
is_narrow core class limit state (Quiesce name) = false
is_narrow core class limit state (Tick to) = false

-- no request of these items is wide
abbrev pub AreNarrow : Core → (ℕ → ℕ) → ℕ → Next → List Item → Type 0
AreNarrow core class limit now [] = Unit {0}
AreNarrow core class limit (Goes state) (item ∷ items) = (is_narrow core class limit state item ≡ true) × AreNarrow core class limit (next core limit state item) items
AreNarrow core class limit (Over ending state) (item ∷ items) = ⊥
AreNarrow core class limit Illegal (item ∷ items) = ⊥

-- The items lead to a state, so that none ends the run. They are steps of processes that live where the stretch begins, and
-- no request among them is wide.
pub record IsStretch (core : Core) (class : ℕ → ℕ) (limit : ℕ) (state : State) (items : List Item) (later : State) : Type 0 where
  pub leads : run_from core limit (Goes state) items ≡ Goes later
  pub living : AllByRecursion (IsOfLiving state.world) items
  pub narrow : AreNarrow core class limit (Goes state) items

-- ---- laws

-- A stretch is one with all of the input, whatever still comes of it, and who could take part is the same.
abbrev pub StretchesStay : Type 0
StretchesStay = (core : Core) (class : ℕ → ℕ) (limit : ℕ) (events : List Event) (state later : State) (items : List Item) (bytes : List ℕ) → led core limit events ≡ Goes state
    → (state.world.ended ≡ true → bytes ≡ []) → IsStretch core class limit state items later
    → IsStretch core class limit (with_all_in bytes state) items (with_all_in bytes later) × (nobody_could core class limit (with_all_in bytes state) ≡ nobody_could core class limit state)
