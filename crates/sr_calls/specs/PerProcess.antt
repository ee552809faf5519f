-- The records of calls of processes, in which calls are kept.
use Rattle.std.specs.Prelude.{ℕ, ◌≤◌, List, [], ◌∷◌, map as each}
use Rattle.std.specs.FinMap as map
use Rattle.sr_calls.specs.Calls.{ByProcess, Called, Room, with_items}
use Rattle.sr_calls.specs.declared.held.Held.{Held}
use Rattle.sr_calls.specs.declared.held.Reply.{Reply}

-- what one process holds, the replies to it, and the room for more
pub record ProcessCalled : Type 0 where
  pub held : List Held
  pub replies : List Reply
  pub room : Room

pub record KeepsRoom (old new : Room) : Type 0 where
  pub holds : old.holds ≤ new.holds
  pub answers : old.answers ≤ new.answers

-- the lists that the records of calls have, by process
abbrev pub lists_on : {A : Type 0} → (ProcessCalled → List A) → List (ℕ × ProcessCalled) → ByProcess (List A)
lists_on list [] = map.empty
lists_on list (e ∷ es) = with_items (lists_on list es) e.0 (list e.1)

abbrev pub rooms_on : List (ℕ × ProcessCalled) → ByProcess Room
rooms_on by_process = map.from_entries (each (λ e. (e.0, e.1.room)) by_process)

abbrev pub called_on : List (ℕ × ProcessCalled) → Called
called_on by_process = record { held = lists_on (λ d. d.held) by_process; replies = lists_on (λ d. d.replies) by_process; room = rooms_on by_process }
