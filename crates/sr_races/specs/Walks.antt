-- How far the walk along a run has come.
use Rattle.std.specs.Prelude.{◌≡◌, ◌+◌, ◌==◌, ◌&&◌, ◌<◌, ◌≤◌, ◌⊎◌, ℕ, Bool, true, false, not, IsSome, List, length, map, slice_get, unwrap_or, Some, None, if◌then◌else◌}
use Rattle.std.specs.Option.{option_map}
use Rattle.sr_ask.specs.Items.{actor_of}
use Rattle.sr_ask.specs.declared.answer.Answer.{Answer}
use Rattle.sr_ask.specs.declared.ask.Ask.{Ask}
use Rattle.sr_ask.specs.declared.ask.Asks.{Asks}
use Rattle.sr_ask.specs.declared.item.Item.{Item}
use Rattle.sr_ask.specs.declared.item.Item.TheVariants.{Step, Quiesce, Tick}
use Rattle.sr_clock_rows.specs.Columns.{AreColumns, column_in}
use Rattle.sr_clock_rows.specs.Rows.{AddsRow, IsGreatestRow, IsSound, IsWholeRow, item_count}
use Rattle.sr_clock_rows.specs.declared.clocks.Clocks.{Clocks}
use Rattle.sr_replay.specs.Naming.{named_at}
use Rattle.sr_replay.specs.Replaying.{IsAt}
use Rattle.sr_world.specs.Runs.{Goes, State, is_legal}
use Rattle.sr_world.specs.Worlds.{World}
use Rattle.sr_races.specs.Accesses.{accesses_at}
use Rattle.sr_races.specs.Items.{Run, actor_at, asked_at, number_at, stands_after}
use Rattle.sr_races.specs.Kept.{HasRows}
use Rattle.sr_races.specs.Links.{ends_all, global_asked, instance_ready}
use Rattle.sr_races.specs.Origins.{AreOrigins, duty_at, readied_at}
use Rattle.sr_races.specs.declared.before.Before.{Before}
use Rattle.sr_races.specs.declared.walk.Entry.{Entry}
use Rattle.sr_races.specs.declared.walk.Walk.{Walk}

-- what an item accesses, the process that makes it and its column, and where that asks
pub record IsEntry (r : Run) (clocks : Clocks) (i : ℕ) (entry : Entry) : Type 0 where
  pub process : entry.process ≡ actor_at r i
  pub accesses : entry.accesses ≡ accesses_at r i
  pub column : 0 < entry.process → column_in clocks.columns entry.process ≡ Some entry.column
  pub place : 0 < length entry.accesses → option_map (λ ask. ask.place) (asked_at r i) ≡ Some entry.place

-- an entry for each of the first items, so many
pub record AreEntries (r : Run) (clocks : Clocks) (count : ℕ) (entries : List Entry) : Type 0 where
  pub number : length entries ≡ count
  pub each : (i : ℕ) (entry : Entry) → slice_get entries i ≡ Some entry → IsEntry r clocks i entry

pub record IsWalked {A : Type 0} (after : A → List Answer → Asks) (r : Run) (count : ℕ) (walk : Walk A) : Type 0 where
  pub within : count ≤ length r.items
  pub at : IsAt after r.core r.limit (stands_after r count) walk.replayer
  pub origins : AreOrigins r count walk.origins
  pub rows : HasRows r count walk.clocks
  pub entries : AreEntries r walk.clocks count walk.entries

-- the next item was made, where there is such an item
abbrev pub WalksTo : {A : Type 0} → (A → List Answer → Asks) → Run → ℕ → Bool → Walk A → Type 0
WalksTo after r count false walk = is_legal (stands_after r count) ≡ false
WalksTo after r count true walk = IsWalked after r count walk

-- the next item was made, and a run may have so many
abbrev pub WalksWithin : {A : Type 0} → (A → List Answer → Asks) → ℕ → Run → ℕ → Bool → Walk A → Type 0
WalksWithin after steps r count false walk = (steps < count) ⊎ (is_legal (stands_after r count) ≡ false)
WalksWithin after steps r count true walk = IsWalked after r count walk

-- ---- what a walk needs to go on

-- as many items have rows, and each process that makes one has a column
pub record CanWalk {A : Type 0} (items : List Item) (count : ℕ) (walk : Walk A) : Type 0 where
  pub sound : IsSound walk.clocks
  pub rows : item_count walk.clocks ≡ count
  pub listed : length walk.entries ≡ count
  pub columns : AreColumns (map actor_of items) walk.clocks.columns

-- ---- a step that was made

-- A process made the item at a place, which it asked for, and this is what was seen before it and after it.
pub record IsStepMade (r : Run) (place process name : ℕ) (ask : Ask) (before : Before) (answered : ℕ) (later : World) : Type 0 where
  pub within : place < length r.items
  pub item : slice_get r.items place ≡ Some (Step process name)
  pub asked : asked_at r place ≡ Some ask
  pub some : 0 < process
  pub legal : is_legal (stands_after r (place + 1)) ≡ true
  pub state : State
  pub at : stands_after r place ≡ Goes state
  pub answer : answered ≡ named_at r.core r.limit state (Step process name)
  pub duty : before.duty ≡ duty_at r place
  pub global : before.global ≡ unwrap_or (global_asked state.world ask.request) 0
  pub readied : (if not before.was_ready && instance_ready before.instance later then before.instance else 0) ≡ readied_at r place

-- a rest or a passing of time was made
pub record IsAloneMade (r : Run) (place name : ℕ) (ends : Bool) : Type 0 where
  pub within : place < length r.items
  pub nobody : actor_at r place ≡ 0
  pub number : number_at r place ≡ name
  pub asked : asked_at r place ≡ None
  pub ending : ends_all r place ≡ ends
  pub duty : duty_at r place ≡ 0
  pub readied : readied_at r place ≡ 0

-- an item of no process, with its number and whether it ends all
abbrev pub IsAlone : Item → ℕ → Bool → Type 0
IsAlone (Step actor name) number ends = ⊥
IsAlone (Quiesce name) number ends = (number ≡ name) × (ends ≡ not (name == 0))
IsAlone (Tick to) number ends = (number ≡ 0) × (ends ≡ false)

-- the row of an item that ends all, or of one that is linked to these
abbrev pub IsRowFrom : Bool → List ℕ → ℕ → Clocks → Clocks → Type 0
IsRowFrom true origins owner old new = IsWholeRow old new
IsRowFrom false origins owner old new = IsGreatestRow origins owner old new

-- there may be one row more
pub record CanGrow (owner : ℕ) (clocks : Clocks) : Type 0 where
  pub sound : IsSound clocks
  pub room : item_count clocks < 4294967295
  pub column : 0 < owner → IsSome (column_in clocks.columns owner)

-- one item of a process more
pub record HasGrown (owner : ℕ) (old new : Clocks) : Type 0 where
  pub sound : IsSound new
  pub adds : AddsRow owner old new

-- and its entry
pub record Grows {A : Type 0} (owner : ℕ) (old new : Walk A) : Type 0 where
  pub clocks : HasGrown owner old.clocks new.clocks
  pub entries : length new.entries ≡ length old.entries + 1

-- the next item has its row, and left what it leaves
pub record HasLeft {A : Type 0} (r : Run) (count : ℕ) (walk : Walk A) : Type 0 where
  pub rows : HasRows r count walk.clocks
  pub origins : AreOrigins r count walk.origins
