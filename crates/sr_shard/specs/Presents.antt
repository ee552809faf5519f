-- What a part has now, and the changes for which it has room.
use Rattle.std.specs.HashSet.{spare}
use Rattle.std.specs.List.{list_any}
use Rattle.std.specs.Prelude.{◌≡◌, ◌≢◌, ◌==◌, ◌<◌, ◌&&◌, ℕ, Bool, true, not, is_some, List, [], ◌∷◌, ◌++◌, filter, length, nat_eq}
use Rattle.sr_ask.specs.declared.start.Start.{Start}
use Rattle.sr_buckets.specs.Parts.{home}
use Rattle.sr_calls.specs.Calls.{CanAnswer, CanHold}
use Rattle.sr_processes.specs.Living.{IsLive, is_among, start_of}
use Rattle.sr_queue.specs.declared.queue.TheConstants.{MOST_PENDING}
use Rattle.sr_store.specs.Variables.{CanPlace}
use Rattle.sr_world.specs.Worlds.{World, is_live}
use Rattle.sr_shard.specs.Changes.{changed}
use Rattle.sr_shard.specs.Dividing.{moved_to, with_moved}
use Rattle.sr_shard.specs.declared.change.Change.{Change}
use Rattle.sr_shard.specs.declared.change.Change.TheVariants as change
use Rattle.sr_shard.specs.declared.present.Present.{Present}

-- who lives in a part: those who lived there when the world was divided and haven't ended, and those who have begun since
abbrev pub live_in : List Start → List ℕ → List Start → List Start
live_in opened ended born = filter (λ start. not (is_among ended start)) opened ++ born

-- the part that a world had when it was divided, with what was moved into the part, who has begun there and who has ended
abbrev pub present_in : World → Present → World
present_in base present = record (with_moved (moved_to present.portion) base) { live = live_in base.live present.ended.keys present.born.starts }

-- whether a process lived in the part when the world was divided, and hasn't ended
abbrev pub has_stayed : ℕ → List ℕ → List Start → ℕ → Bool
has_stayed number ended live process = (home process == number) && not (list_any (nat_eq process) ended) && is_some (start_of live process)

-- a part with those who live in it
abbrev pub IsBase : ℕ → World → World → Type 0
IsBase number standing base = base.live ≡ filter (λ start. home start.process == number) standing.live

-- but for room, both are the same
pub record IsSame (old new : Present) : Type 0 where
  pub number : new.portion.number ≡ old.portion.number
  pub born : new.born.starts ≡ old.born.starts
  pub present : (base : World) → present_in base new ≡ present_in base old

-- ---- room

-- a process that begins has a number of its own
abbrev pub IsNewcomer : List Start → Change → Type 0
IsNewcomer live (change.Begin start) = ¬ IsLive live start.process
IsNewcomer live _ = Unit {0}

abbrev pub AreNewcomers : List Start → List Change → Type 0
AreNewcomers live [] = Unit {0}
AreNewcomers live (one ∷ others) = IsNewcomer live one × AreNewcomers live others

-- making a change takes no memory
abbrev pub IsReady : World → Present → Change → Type 0
IsReady base present (change.Declare block var shape value) = CanPlace present.portion.blocks block
IsReady base present (change.Arrive invocation) = (length present.portion.queue.items < MOST_PENDING) × (0 < present.portion.queue.room)
IsReady base present (change.Hold process held) = CanHold present.portion.calls process
IsReady base present (change.Answer process id results) = is_live (present_in base present) process ≡ true → CanAnswer present.portion.calls process
IsReady base present (change.Begin start) = (0 < present.born.room) × ¬ IsLive present.born.starts start.process
IsReady base present (change.End process) = 0 < spare present.ended
IsReady base present _ = Unit {0}

abbrev pub AreReady : World → Present → List Change → Type 0
AreReady base present [] = Unit {0}
AreReady base present (one ∷ others) = IsReady base present one × AreReady base present others

-- changes of one kind may need the same room
abbrev pub kind : Change → ℕ
kind (change.Declare block var shape value) = 0
kind (change.Store block var path value) = 1
kind (change.Arrive invocation) = 2
kind (change.Depart owner op id) = 3
kind (change.Hold process held) = 4
kind (change.Free process id) = 5
kind (change.Answer process id results) = 6
kind (change.Take process ids) = 7
kind (change.Begin start) = 6
kind (change.End process) = 4

-- making a change leaves room for changes of other kinds
abbrev pub KeepsOtherKinds : Change → Present → Present → Type 0
KeepsOtherKinds made old new = (base : World) (other : Change) → kind made ≢ kind other → IsReady base old other → IsReady base new other

-- making room for a change leaves room for all others
abbrev pub KeepsAllReady : Present → Present → Type 0
KeepsAllReady old new = (base : World) (other : Change) → IsReady base old other → IsReady base new other

-- a change is made: the part has what it had with the change, and has kept its room
pub record Makes (standing : World) (made : Change) (old new : Present) : Type 0 where
  pub number : new.portion.number ≡ old.portion.number
  pub present : (base : World) → IsBase old.portion.number standing base → present_in base new ≡ changed made (present_in base old)
  pub kept : KeepsOtherKinds made old new

-- no two changes are of one kind
abbrev pub IsApart : Change → List Change → Type 0
IsApart one [] = Unit {0}
IsApart one (other ∷ others) = (kind one ≢ kind other) × IsApart one others

abbrev pub AreApart : List Change → Type 0
AreApart [] = Unit {0}
AreApart (one ∷ others) = IsApart one others × AreApart others
