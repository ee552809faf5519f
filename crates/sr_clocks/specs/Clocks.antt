-- Items one after another, some of them linked to later ones: which comes before which, and rows of counts that tell it.
-- Items are counted from 0.
use Rattle.std.specs.Prelude.{◌≡◌, ◌≢◌, ◌↔◌, ◌==◌, ℕ, ◌+◌, ◌<◌, ◌≤◌, ◌⊎◌, List, [], ◌∷◌, Contains, count_by, map, max, slice_index, take, if◌then◌else◌}

-- ---- before

-- the least transitive relation that has the links
pub data Before (Links : ℕ → ℕ → Type 0) : ℕ → ℕ → Type 0 where
  linked : (i j : ℕ) → Links i j → Before Links i j
  through : (i j k : ℕ) → Before Links i j → Before Links j k → Before Links i k

-- ---- processes

-- The list says of each item which process it is of; 0 is no process.

-- how many of the first items, so many, are of a process
abbrev pub made : List ℕ → ℕ → ℕ → ℕ
made owners process count = count_by (λ owner. owner == process) (take count owners)

-- 1 for an item of the process, and 0 for another
abbrev pub own : List ℕ → ℕ → ℕ → ℕ
own owners process i = if slice_index owners i == process then 1 else 0

-- an item of a process, and the next one of it
pub record IsNext (owners : List ℕ) (i j : ℕ) : Type 0 where
  pub later : i < j
  pub some : 0 < slice_index owners j
  pub same : slice_index owners i ≡ slice_index owners j
  pub none_between : (k : ℕ) → i < k → k < j → slice_index owners k ≢ slice_index owners j

-- links go forward, and each item of a process is linked to the next one of it
pub record AreInLine (Links : ℕ → ℕ → Type 0) (owners : List ℕ) : Type 0 where
  pub forward : (i j : ℕ) → Links i j → i < j
  pub in_line : (i j : ℕ) → IsNext owners i j → Links i j

-- ---- rows

-- a row for each item, with a count for each process
abbrev pub Rows : Type 0
Rows = ℕ → ℕ → ℕ

-- The first items, so many, have rows. A count in an item's row is the greatest of that process in the rows of the items that are linked to it, or 0 where there
-- are none; and one more where the item is of that process itself.
pub record AreRows (Links : ℕ → ℕ → Type 0) (owners : List ℕ) (count : ℕ) (row : Rows) : Type 0 where
  pub above : (i j process : ℕ) → j < count → 0 < process → Links i j → row i process + own owners process j ≤ row j process
  pub reached : (j process : ℕ) → j < count → 0 < process
      → (row j process ≡ own owners process j) ⊎ ((i : ℕ) × Links i j × (row j process ≡ row i process + own owners process j))

-- ---- rows as they are computed

-- the greatest of some numbers, and 0 of none
abbrev pub greatest : List ℕ → ℕ
greatest [] = 0
greatest (x ∷ xs) = max x (greatest xs)

-- each row is the greatest, place by place, of the rows of some items, and one more for its own process
abbrev pub AreFrom : (ℕ → List ℕ) → List ℕ → ℕ → Rows → Type 0
AreFrom origins owners count row = (j process : ℕ) → j < count → 0 < process → row j process ≡ greatest (map (λ i. row i process) (origins j)) + own owners process j

-- the links from these items
abbrev pub IsOrigin : (ℕ → List ℕ) → ℕ → ℕ → Type 0
IsOrigin origins i j = Contains (origins j) i

-- ---- the law of clocks

-- An item of a process is before a later item exactly where its place among the items of its process is at most the count
-- that the later item's row has of that process.
abbrev pub RowsTell : (ℕ → ℕ → Type 0) → Type 0
RowsTell Links = (owners : List ℕ) (count : ℕ) (row : Rows) → AreInLine Links owners → AreRows Links owners count row
    → (k j : ℕ) → 0 < slice_index owners k → k < j → j < count
    → Before Links k j ↔ (made owners (slice_index owners k) (k + 1) ≤ row j (slice_index owners k))

-- Of each process, what is before an item is a first part of its items.
abbrev pub FirstPart : (ℕ → ℕ → Type 0) → Type 0
FirstPart Links = (owners : List ℕ) → AreInLine Links owners
    → (i k j : ℕ) → 0 < slice_index owners k → slice_index owners i ≡ slice_index owners k → i < k → Before Links k j → Before Links i j

-- What is before an item is linked to it, or before what is linked to it.
abbrev pub LastLink : (ℕ → ℕ → Type 0) → Type 0
LastLink Links = (k j : ℕ) → Before Links k j → (i : ℕ) × Links i j × ((k ≡ i) ⊎ Before Links k i)

-- A relation that is transitive and has the links has all of it.
abbrev pub IsLeast : (ℕ → ℕ → Type 0) → (ℕ → ℕ → Type 0) → Type 0
IsLeast Links R = ((i j : ℕ) → Links i j → R i j) → ((i j k : ℕ) → R i j → R j k → R i k) → (i j : ℕ) → Before Links i j → R i j
