-- A pass: the engine asks each of those that may be able to make a step once, and leaves what is wide or ends the run.
use Rattle.std.specs.Prelude.{◌≡◌, ◌⊎◌, ◌↔◌, ◌<◌, ◌≤◌, ◌^◌, ◌++◌, ℕ, Bool, true, false, List, [], ◌∷◌, Option, Some, None, length, map}
use Rattle.std.specs.List.{AllByRecursion}
use Rattle.sr_ask.specs.declared.answer.Answer.{Answer}
use Rattle.sr_ask.specs.declared.ask.Asks.{Asks}
use Rattle.sr_ask.specs.declared.item.Item.{Item}
use Rattle.sr_ask.specs.declared.item.Item.TheVariants.{Step, Quiesce, Tick}
use Rattle.sr_ask.specs.declared.start.Start.{Start}
use Rattle.sr_core.specs.declared.component.Core.{Core}
use Rattle.sr_world.specs.Runs.{Event, Makes_item, Goes, State, asks_next, next}
use Rattle.sr_world.specs.Sound.{times_used}
use Rattle.sr_world.specs.Worlds.{started}
use Rattle.sr_plain.specs.Engine.{IsEngine}
use Rattle.sr_plain.specs.Order.{IsNumbered}
use Rattle.sr_plain.specs.Stretches.{IsStretch, asks_wide, could, is_narrow, nobody_could}
use Rattle.sr_plain.specs.declared.plain.Plain.{Plain}
use Rattle.sr_plain.specs.declared.plainly.Plainly.{Plainly}
use Rattle.sr_plain.specs.declared.plainly.Plainly.TheVariants.{Stepped, Wants, Over, Ended}

-- the numbers have 32 bits
abbrev pub FitsItem : Item → Type 0
FitsItem (Step actor name) = (actor < 2 ^ 32) × (name < 2 ^ 32)
FitsItem (Quiesce name) = name < 2 ^ 32
FitsItem (Tick to) = to < 2 ^ 32

-- at most so many items were added, whose numbers have 32 bits
pub record AddsItems (room : ℕ) (old new : List Item) : Type 0 where
  pub items : List Item
  pub added : new ≡ old ++ items
  pub within : length items ≤ room
  pub fit : AllByRecursion FitsItem items

-- The items were added, a stretch of at most `room`, and the engine stands for where they lead. Nothing was written. Where
-- there is room, none was added exactly where nobody could take part.
pub record HasPassed {A : Type 0} (after : A → List Answer → Asks) (can_feed : A → Type 0) (core : Core) (class : ℕ → ℕ) (limit : ℕ) (state : State) (events : List Event)
    (room : ℕ) (old new : List Item) (plain : Plain A) : Type 0 where
  pub items : List Item
  pub later : State
  pub added : new ≡ old ++ items
  pub within : length items ≤ room
  pub stretch : IsStretch core class limit state items later
  pub empty : 1 ≤ room → (items ≡ [] ↔ nobody_could core class limit state ≡ true)
  pub written : later.world.output ≡ state.world.output
  pub engine : IsEngine after can_feed core limit later (events ++ map Makes_item items) plain

-- ---- one process

abbrev pub item_of : Option Plainly → Option Item
item_of (Some (Stepped item output)) = Some item
item_of (Some Wants) = None
item_of (Some (Over process)) = None
item_of (Some (Ended item ending)) = None
item_of None = None

abbrev pub AddsItem : Option Item → List Item → List Item → Type 0
AddsItem None old new = new ≡ old
AddsItem (Some item) old new = new ≡ old ++ item ∷ []

-- a process that lives asks for what a pass leaves
abbrev pub is_left : Core → (ℕ → ℕ) → ℕ → State → Option Start → Bool
is_left core class limit state None = false
is_left core class limit state (Some start) = asks_wide core class start (asks_next core limit state start)

abbrev pub could_at : Core → (ℕ → ℕ) → ℕ → State → Option Start → Bool
could_at core class limit state None = false
could_at core class limit state (Some start) = could core class state.world start (asks_next core limit state start)

-- it couldn't take part, and made no step
pub record IsPassedOver {A : Type 0} (after : A → List Answer → Asks) (can_feed : A → Type 0) (core : Core) (class : ℕ → ℕ) (limit : ℕ) (state : State) (events : List Event)
    (process : ℕ) (old new : List Item) (plain : Plain A) : Type 0 where
  pub nothing : new ≡ old
  pub engine : IsEngine after can_feed core limit state events plain
  pub could_not : could_at core class limit state (started state.world process) ≡ false

-- it could, and made its step
pub record HasTakenPart {A : Type 0} (after : A → List Answer → Asks) (can_feed : A → Type 0) (core : Core) (class : ℕ → ℕ) (limit : ℕ) (state : State) (events : List Event)
    (process : ℕ) (old new : List Item) (plain : Plain A) : Type 0 where
  pub name : ℕ
  pub later : State
  pub added : new ≡ old ++ Step process name ∷ []
  pub goes : next core limit state (Step process name) ≡ Goes later
  pub named : IsNumbered state.world name
  pub narrow : is_narrow core class limit state (Step process name) ≡ true
  pub engine : IsEngine after can_feed core limit later (events ++ Makes_item (Step process name) ∷ []) plain

abbrev pub IsAskedOnce : {A : Type 0} (after : A → List Answer → Asks) (can_feed : A → Type 0) (core : Core) (class : ℕ → ℕ) (limit : ℕ) (state : State) (events : List Event)
    (process : ℕ) (old new : List Item) (plain : Plain A) → Type 0
IsAskedOnce after can_feed core class limit state events process old new plain =
    IsPassedOver after can_feed core class limit state events process old new plain ⊎ HasTakenPart after can_feed core class limit state events process old new plain

-- ---- some processes

-- A pass that began in a state has made these items. `bound` is no less than the number of each process that it asks: who
-- lives under a number up to it lived there when the pass began.
pub record IsPassing {A : Type 0} (after : A → List Answer → Asks) (can_feed : A → Type 0) (core : Core) (class : ℕ → ℕ) (limit : ℕ) (state : State) (events : List Event)
    (bound : ℕ) (items : List Item) (plain : Plain A) : Type 0 where
  pub later : State
  pub stretch : IsStretch core class limit state items later
  pub some : (items ≡ []) ⊎ (nobody_could core class limit state ≡ false)
  pub known : 0 < bound → 1 ≤ times_used later.world bound
  pub lived : (process : ℕ) (start : Start) → started later.world process ≡ Some start → process ≤ bound → started state.world process ≡ Some start
  pub written : later.world.output ≡ state.world.output
  pub engine : IsEngine after can_feed core limit later (events ++ map Makes_item items) plain

-- no process with a number above `low` and up to `high` could take part
abbrev pub NoneCould : Core → (ℕ → ℕ) → ℕ → State → ℕ → ℕ → Type 0
NoneCould core class limit state low high = (process : ℕ) → low < process → process ≤ high → could_at core class limit state (started state.world process) ≡ false
