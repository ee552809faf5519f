-- Laws of acts and entries.
use Rattle.std.specs.Prelude.{◌≡◌, ◌≢◌, ℕ, Bool, true, false, List, Option, Some, AllPairs, Contains}
use Rattle.sr_ask.specs.declared.answer.Answer.{Answer}
use Rattle.sr_ask.specs.declared.entry.Entry.{Entry}
use Rattle.sr_ask.specs.declared.request.Request.{Request}
use Rattle.sr_ask.specs.declared.request.Request.TheVariants as request
use Rattle.sr_core.specs.declared.component.Core.{Core}
use Rattle.sr_orders.specs.Acts.{AreLocal, JournalsReplay, OrdersAgree, Replays, after, touches}
use Rattle.sr_touch.specs.Touched.{is_wide, touched}
use Rattle.sr_world.specs.Does.{Does, Did, Makes}
use Rattle.sr_world.specs.Runs.{IsValid, State}
use Rattle.sr_world.specs.Steps.{does}
use Rattle.sr_world.specs.Updates.{use_name}
use Rattle.sr_world.specs.Worlds.{World, is_live}
use Rattle.sr_shard.specs.Acts.{Act, Fits, apply, part}
use Rattle.sr_shard.specs.Entries.{acts_of, me_in}
use Rattle.sr_shard.specs.Masks.{mask}

-- each act is on its part alone
abbrev pub ActsAreLocal : Type 0
ActsAreLocal = (core : Core) (class : ℕ → ℕ) → AreLocal 32 (part class) (mask class) (Fits core class) (apply core)

-- acts one after another on a world
abbrev pub ReplaysIn : Core → (ℕ → ℕ) → List Act → World → Type 0
ReplaysIn core class acts world = Replays 32 (part class) (mask class) (Fits core class) (apply core) acts world

abbrev pub world_after : Core → (ℕ → ℕ) → List Act → World → World
world_after core class acts world = after 32 (part class) (mask class) (Fits core class) (apply core) acts world

-- every order of entries in which each part finds its own in the same order is the same run
abbrev pub EntriesInAnyOrder : Type 0
EntriesInAnyOrder = (core : Core) (class : ℕ → ℕ) → OrdersAgree 32 (part class) (mask class) (Fits core class) (apply core) (acts_of core)

-- where each part's journal has its entries of one history, and replays in that part by itself, the history replays, and each part
-- ends as its journal says
abbrev pub JournalsInParts : Type 0
JournalsInParts = (core : Core) (class : ℕ → ℕ) → JournalsReplay 32 (part class) (mask class) (Fits core class) (apply core) (acts_of core)

-- an invocation uses the number of its step
abbrev pub done_as : Request → ℕ → World → Answer → Does
done_as (request.Invoke target args wants) name world answer = Makes (use_name name world) answer
done_as (request.Forward held back target args) name world answer = Makes (use_name name world) answer
done_as request name world answer = Did world answer

-- nobody is process 0, and no two pending invocations have one number
pub record Stands (world : World) : Type 0 where
  pub nobody : is_live world 0 ≡ false
  pub ids : AllPairs (λ p q. p.id ≢ q.id) world.pending

-- so it is in every valid state
abbrev pub ValidStatesStand : Type 0
ValidStatesStand = (core : Core) (limit : ℕ) (state : State) → IsValid core limit state → Stands state.world

-- Where the acts of an entry replay, the entry is a step of the machine: it is done, with this answer, and leaves the world
-- as the acts do.
abbrev pub EntriesAreSteps : Type 0
EntriesAreSteps = (core : Core) (class : ℕ → ℕ) (entry : Entry) (world : World) → Stands world → is_wide core class (me_in entry) entry.ask ≡ false
    → ReplaysIn core class (acts_of core entry) world
    → does core world entry.actor entry.ask entry.name ≡ done_as entry.ask.request entry.name (world_after core class (acts_of core entry) world) entry.answer

-- ---- what an entry touches

abbrev pub is_touched_by : Core → (ℕ → ℕ) → ℕ → Entry → Bool
is_touched_by core class s entry = touches 32 (part class) (mask class) (Fits core class) (apply core) (acts_of core) s entry

abbrev pub parts_touched : Core → (ℕ → ℕ) → Entry → Option (List ℕ)
parts_touched core class entry = touched core class (me_in entry) entry.ask entry.name

-- an entry has acts on no other parts than those that its request touches
abbrev pub TouchedIsAll : Type 0
TouchedIsAll = (core : Core) (class : ℕ → ℕ) (entry : Entry) (parts : List ℕ) → parts_touched core class entry ≡ Some parts
    → (s : ℕ) → is_touched_by core class s entry ≡ true → Contains parts s

-- every other part stays as it is
abbrev pub OthersStay : Type 0
OthersStay = (core : Core) (class : ℕ → ℕ) (entry : Entry) (parts : List ℕ) (world : World) → parts_touched core class entry ≡ Some parts
    → (s : ℕ) → ¬ Contains parts s → mask class s (world_after core class (acts_of core entry) world) ≡ mask class s world

-- and nothing of it is read: where two worlds have the same in the parts that are touched, the entry is a step of both or of none
abbrev pub OthersTellNothing : Type 0
OthersTellNothing = (core : Core) (class : ℕ → ℕ) (entry : Entry) (parts : List ℕ) (world other : World) → parts_touched core class entry ≡ Some parts
    → ((s : ℕ) → Contains parts s → mask class s world ≡ mask class s other) → ReplaysIn core class (acts_of core entry) world → ReplaysIn core class (acts_of core entry) other
