-- What lies in a slot, and which parts an entry touches.
use Rattle.std.specs.Prelude.{◌≡◌, ◌==◌, ◌||◌, ℕ, Bool, List, [], Option, Some, None}
use Rattle.sr_board_tests.specs.declared.parts.Entry.{Entry}
use Rattle.sr_board_tests.specs.declared.slots.Slot.{Slot}
use Rattle.sr_board_tests.specs.declared.slots.Slot.TheVariants.{Here, Said, Away}

-- the entries of the part that lies here
abbrev pub journal_in : Slot → List Entry
journal_in (Here part) = part.journal.items
journal_in (Said entry) = []
journal_in Away = []

-- the part of this place lies here
abbrev pub IsHere : ℕ → Slot → Type 0
IsHere k (Here part) = part.number ≡ k
IsHere k (Said entry) = ⊥
IsHere k Away = ⊥

abbrev pub entry_in : Slot → Option Entry
entry_in (Here part) = None
entry_in (Said entry) = Some entry
entry_in Away = None

abbrev pub touches : ℕ → Entry → Bool
touches k e = (e.first == k) || ((e.second == k) || (e.third == k))
