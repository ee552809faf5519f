-- A queue in parts.
use Rattle.std.specs.Prelude.{◌≡◌, ◌<◌, ◌≤◌, ℕ, ◌==◌, if◌then◌else◌, AllPairs, List, [], ◌∷◌, None, Option, Some, length, nat_le, slice_get}
use Rattle.std.specs.Option.{option_map}
use Rattle.sr_buckets.specs.Parts.{home}
use Rattle.sr_queue.specs.Queues.{Queued}
use Rattle.sr_queue.specs.declared.dividing.Head.{Head}
use Rattle.sr_queue.specs.declared.pending.Pending.{Pending}

-- the invocations of a part, where each has beside it a number that tells its part
abbrev pub items_in : ℕ → List ℕ → List Pending → List Pending
items_in i [] items = []
items_in i (number ∷ numbers) [] = []
items_in i (number ∷ numbers) (x ∷ xs) = if home number == i then x ∷ items_in i numbers xs else items_in i numbers xs

-- later ones have greater numbers
abbrev pub AreInOrder : List Pending → Type 0
AreInOrder items = AllPairs (λ earlier later. earlier.id < later.id) items

-- queues have the parts of these invocations
pub record AreParts (queues : List Queued) (numbers : List ℕ) (items : List Pending) : Type 0 where
  pub all : length numbers ≡ length items
  pub each : (i : ℕ) (queue : Queued) → slice_get queues i ≡ Some queue → queue.items ≡ items_in i numbers items

-- the number of the oldest invocation
abbrev pub first_id : Queued → Option ℕ
first_id queue = option_map (λ p. p.id) (slice_get queue.items 0)

-- of the first queues, this one begins with the least number
abbrev pub IsFirst : ℕ → List Queued → Option Head → Type 0
IsFirst count queues None = (i : ℕ) (queue : Queued) → i < count → slice_get queues i ≡ Some queue → first_id queue ≡ None
IsFirst count queues (Some head) = (head.place < count)
    × ((queue : Queued) → slice_get queues head.place ≡ Some queue → first_id queue ≡ Some head.id)
    × ((i : ℕ) (queue : Queued) (id : ℕ) → i < count → slice_get queues i ≡ Some queue → first_id queue ≡ Some id → head.id ≤ id)

-- the head of the lesser number
abbrev pub earlier_of : Option Head → Head → Head
earlier_of None head = head
earlier_of (Some first) head = if nat_le first.id head.id then first else head
