-- What a shard keeps: one of the 32 parts of a world, by itself.
use Rattle.std.specs.Prelude.{◌≡◌, ◌==◌, ◌<◌, ℕ, true, List, [], All, AllPairs, Option, None, Some, filter, flat_map, length, slice_get}
use Rattle.sr_ask.specs.declared.entry.Entry.{Entry}
use Rattle.sr_core.specs.declared.component.Core.{Core}
use Rattle.sr_queue.specs.Dividing.{AreInOrder}
use Rattle.sr_world.specs.Worlds.{World}
use Rattle.sr_shard.specs.Acts.{Act, part}
use Rattle.sr_shard.specs.Dividing.{HasPart, moved_in, without_moved}
use Rattle.sr_shard.specs.Entries.{acts_of}
use Rattle.sr_shard.specs.Laws.{ReplaysIn, is_touched_by, world_after}
use Rattle.sr_shard.specs.Masks.{mask}
use Rattle.sr_shard.specs.Presents.{AreReady, present_in}
use Rattle.sr_shard.specs.declared.change.Change.{Change}
use Rattle.sr_shard.specs.declared.divided.Divided.{Divided}
use Rattle.sr_shard.specs.declared.present.Present.{Present}

-- what shards were opened with: a program, by its core and classes, and the world that was divided
pub record Opened : Type 0 where
  pub core : Core
  pub class : ℕ → ℕ
  pub world : World

-- a program of nothing
abbrev pub no_core : Core
no_core = record { components = []; operations = []; procs = []; sites = []; names = [] }

-- what a part had of that world
abbrev pub opened_part : Opened → ℕ → World
opened_part opened number = mask opened.class number opened.world

-- a shard has its number, the entries that touched its part, what its part has now, and the changes for which it has made room
pub record Sharded : Type 0 where
  pub number : ℕ
  pub journal : List Entry
  pub present : World
  pub planned : Option (List Change)

-- the part that an opened world has, with all that has changed
abbrev pub shown : Opened → List Entry → Option (List Change) → Present → Sharded
shown opened journal planned present = record {
  number = present.portion.number;
  journal = journal;
  present = present_in (opened_part opened present.portion.number) present;
  planned = planned;
}

-- there is room for the changes that are planned, and for one more entry
abbrev pub HasRoom : Opened → ℕ → Option (List Change) → Present → Type 0
HasRoom opened room None present = Unit {0}
HasRoom opened room (Some changes) present = (0 < room) × AreReady (opened_part opened present.portion.number) present changes

-- the acts of entries that are on a part
abbrev pub acts_on : Opened → ℕ → List Entry → List Act
acts_on opened number entries = filter (λ act. part opened.class act == number) (flat_map (acts_of opened.core) entries)

-- The journal has entries that touch the part. Their acts on it replay from what the part had when it was opened, and lead to what it
-- has now. Stamps rise.
pub record IsReplay (opened : Opened) (shard : Sharded) : Type 0 where
  pub number : shard.number < 32
  pub touched : All (λ entry. is_touched_by opened.core opened.class shard.number entry ≡ true) shard.journal
  pub fits : ReplaysIn opened.core opened.class (acts_on opened shard.number shard.journal) (opened_part opened shard.number)
  pub present : shard.present ≡ world_after opened.core opened.class (acts_on opened shard.number shard.journal) (opened_part opened shard.number)
  pub rising : AllPairs (λ earlier later. earlier.stamp < later.stamp) shard.journal

-- ---- dividing and joining

-- a shard to which nothing has happened
pub record IsOpened (opened : Opened) (i : ℕ) (shard : Sharded) : Type 0 where
  pub number : shard.number ≡ i
  pub journal : shard.journal ≡ []
  pub present : shard.present ≡ opened_part opened i

-- the shards of all parts, each at the place of its number
pub record AreNumbered (shards : List Sharded) : Type 0 where
  pub all : length shards ≡ 32
  pub each : (i : ℕ) (shard : Sharded) → slice_get shards i ≡ Some shard → shard.number ≡ i

pub record AreOpened (opened : Opened) (shards : List Sharded) : Type 0 where
  pub all : length shards ≡ 32
  pub each : (i : ℕ) (shard : Sharded) → slice_get shards i ≡ Some shard → IsOpened opened i shard

-- at the place of each shard stands what it has
abbrev pub IsGathered : (ℕ → ℕ) → List Sharded → Divided → Type 0
IsGathered class shards divided = (i : ℕ) (shard : Sharded) → slice_get shards i ≡ Some shard → HasPart class (moved_in shard.present) divided i

-- a world of which shards have the parts, and what is left has all else; what is pending stands in the order of its numbers
pub record IsJoined (class : ℕ → ℕ) (left : World) (shards : List Sharded) (world : World) : Type 0 where
  pub parts : (i : ℕ) (shard : Sharded) → slice_get shards i ≡ Some shard → mask class i world ≡ shard.present
  pub rest : without_moved world ≡ left
  pub order : AreInOrder world.pending

-- ---- laws

-- each shard has kept the entries of a history that touch its part
abbrev pub HaveKept : Opened → List Sharded → List Entry → Type 0
HaveKept opened shards history = (i : ℕ) (shard : Sharded) → slice_get shards i ≡ Some shard → shard.journal ≡ filter (is_touched_by opened.core opened.class i) history

-- Where shards have kept one history, its acts replay from the world that was divided, and lead to what the shards have.
abbrev pub ShardsHaveAHistory : Type 0
ShardsHaveAHistory = (opened : Opened) (shards : List Sharded) (history : List Entry) → AreNumbered shards → ((i : ℕ) (shard : Sharded) → slice_get shards i ≡ Some shard → IsReplay opened shard)
    → HaveKept opened shards history
    → ReplaysIn opened.core opened.class (flat_map (acts_of opened.core) history) opened.world
    × ((i : ℕ) (shard : Sharded) → slice_get shards i ≡ Some shard → mask opened.class i (world_after opened.core opened.class (flat_map (acts_of opened.core) history) opened.world) ≡ shard.present)

-- Joining undoes dividing: shards to which nothing has happened have the parts of the world that was divided.
abbrev pub JoiningUndoesDividing : Type 0
JoiningUndoesDividing = (opened : Opened) (shards : List Sharded) → AreOpened opened shards → AreInOrder opened.world.pending
    → AreNumbered shards × IsJoined opened.class (without_moved opened.world) shards opened.world
