-- What comes apart of a world, by part.
use Rattle.std.specs.Prelude.{◌≡◌, ◌≢◌, ◌==◌, ◌<◌, ◌≤◌, ℕ, List, [], Some, filter, length, slice_get, slice_set}
use Rattle.std.specs.FinMap as map
use Rattle.sr_buckets.specs.Parts.{part}
use Rattle.sr_calls.specs.Buckets as calls
use Rattle.sr_calls.specs.Calls.{ByProcess, Called}
use Rattle.sr_calls.specs.declared.held.Held.{Held}
use Rattle.sr_calls.specs.declared.held.Reply.{Reply}
use Rattle.sr_queue.specs.Queues.{Queued}
use Rattle.sr_queue.specs.declared.pending.Pending.{Pending}
use Rattle.sr_store.specs.Buckets as blocks
use Rattle.sr_store.specs.Variables.{Stored, Variables}
use Rattle.sr_touch.specs.Homes.{line_home}
use Rattle.sr_world.specs.Worlds.{World}
use Rattle.sr_world.specs.declared.lending.Loan.{Loan}
use Rattle.sr_shard.specs.declared.divided.Divided.{Divided}
use Rattle.sr_shard.specs.declared.portion.Portion.{Portion}

-- what is moved out of a world
pub record Moved : Type 0 where
  pub variables : Variables
  pub pending : List Pending
  pub held : ByProcess (List Held)
  pub replies : ByProcess (List Reply)

abbrev pub moved_in : World → Moved
moved_in world = record { variables = world.variables; pending = world.pending; held = world.held; replies = world.replies }

abbrev pub moved_by : Loan → Moved
moved_by loan = record { variables = loan.blocks.variables; pending = loan.queue.items; held = loan.calls.held; replies = loan.calls.replies }

abbrev pub moved_to : Portion → Moved
moved_to portion = record { variables = portion.blocks.variables; pending = portion.queue.items; held = portion.calls.held; replies = portion.calls.replies }

abbrev pub with_moved : Moved → World → World
with_moved moved world = record world { variables = moved.variables; pending = moved.pending; held = moved.held; replies = moved.replies }

-- a world without it
abbrev pub without_moved : World → World
without_moved world = record world { variables = map.empty; pending = []; held = map.empty; replies = map.empty }

-- ---- parts

-- the part in which an invocation is pending
abbrev pub line_of : (ℕ → ℕ) → Pending → ℕ
line_of class pending = line_home class pending.owner pending.op

-- what a part has of it
abbrev pub moved_part : (ℕ → ℕ) → ℕ → Moved → Moved
moved_part class s moved = record {
  variables = part s moved.variables;
  pending = filter (λ p. line_of class p == s) moved.pending;
  held = part s moved.held;
  replies = part s moved.replies;
}

-- at a place stands what this part has
pub record HasPart (class : ℕ → ℕ) (moved : Moved) (divided : Divided) (i : ℕ) : Type 0 where
  pub variables : (bucket : Stored) → slice_get divided.blocks i ≡ Some bucket → bucket.variables ≡ part i moved.variables
  pub pending : (queue : Queued) → slice_get divided.queues i ≡ Some queue → queue.items ≡ filter (λ p. line_of class p == i) moved.pending
  pub held : (bucket : Called) → slice_get divided.calls i ≡ Some bucket → bucket.held ≡ part i moved.held
  pub replies : (bucket : Called) → slice_get divided.calls i ≡ Some bucket → bucket.replies ≡ part i moved.replies

-- at each place from one on
abbrev pub HasPartsFrom : ℕ → (ℕ → ℕ) → Moved → Divided → Type 0
HasPartsFrom from class moved divided = (i : ℕ) → from ≤ i → i < 32 → HasPart class moved divided i

-- ---- one place

-- what stood at a place
pub record IsTaken (divided : Divided) (i : ℕ) (portion : Portion) : Type 0 where
  pub number : portion.number ≡ i
  pub blocks : slice_get divided.blocks i ≡ Some portion.blocks
  pub calls : slice_get divided.calls i ≡ Some portion.calls
  pub queue : slice_get divided.queues i ≡ Some portion.queue

-- all other places are as they were
pub record KeepsOthers (i : ℕ) (old new : Divided) : Type 0 where
  pub blocks : (k : ℕ) → k ≢ i → slice_get new.blocks k ≡ slice_get old.blocks k
  pub calls : (k : ℕ) → k ≢ i → slice_get new.calls k ≡ slice_get old.calls k
  pub queues : (k : ℕ) → k ≢ i → slice_get new.queues k ≡ slice_get old.queues k

-- a place gets what was moved
abbrev pub with_portion : Portion → Divided → Divided
with_portion portion divided = record {
  blocks = slice_set divided.blocks portion.number portion.blocks;
  calls = slice_set divided.calls portion.number portion.calls;
  queues = slice_set divided.queues portion.number portion.queue;
}

-- there are all parts, and each of the buckets has only what is of its part
pub record AreInPlace (divided : Divided) : Type 0 where
  pub blocks : blocks.AreBuckets divided.blocks
  pub calls : calls.AreBuckets divided.calls
  pub queues : length divided.queues ≡ 32
