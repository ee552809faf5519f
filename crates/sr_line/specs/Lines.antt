-- A list in blocks.
use Rattle.std.specs.Prelude.{◌≡◌, ℕ, ◌+◌, ◌-◌, ◌<◌, ◌≤◌, List, length, min, slice_index_or, take}
use Rattle.std.specs.List.{flat_map}
use Rattle.std.specs.VecDeque.{deque_capacity}
use Rattle.std.specs.declared.collections.VecDeque.{VecDeque}
use Rattle.std.specs.declared.alloc.Global.{Global}

-- what is seen of a list in blocks: its items in order, and how many more it takes without memory
pub record Lined (T : Type 0) : Type 0 where
  pub items : List T
  pub room : ℕ

-- the items of blocks, those of one block after those of the one before
abbrev pub joined : {T : Type 0} → List (VecDeque T Global) → List T
joined {T} blocks = flat_map (λ (block : VecDeque T Global). block.items) blocks

-- how many more a block takes without memory
abbrev pub spare : {T : Type 0} → VecDeque T Global → ℕ
spare block = deque_capacity block - length block.items

-- the same of a line with this last block, whose length stays below 2 ^ 64
abbrev pub room_in : {T : Type 0} → VecDeque T Global → ℕ → ℕ
room_in last len = min (spare last) (18446744073709551615 - len)

-- the item at a place of all stands at a place of a block
pub record IsSpot {T : Type 0} (blocks : List (VecDeque T Global)) (whole block place : ℕ) : Type 0 where
  pub block_within : block < length blocks
  pub place_within : (other : VecDeque T Global) → place < length (slice_index_or blocks block other).items
  pub sum : length (joined (take block blocks)) + place ≡ whole

-- the item at a place has this number
abbrev pub IsNumbered : {T : Type 0} → (T → ℕ) → List T → ℕ → ℕ → Type 0
IsNumbered {T} number_of items number place = (place < length items) × ((other : T) → number_of (slice_index_or items place other) ≡ number)

-- the items before a place have lesser numbers
abbrev pub AllLesser : {T : Type 0} → (T → ℕ) → List T → ℕ → ℕ → Type 0
AllLesser {T} number_of items before number = (k : ℕ) (other : T) → k < before → number_of (slice_index_or items k other) < number

-- a list has items, and its last has this number or a greater one
abbrev pub Reaches : {T : Type 0} → (T → ℕ) → List T → ℕ → Type 0
Reaches {T} number_of items number = (0 < length items) × ((other : T) → number ≤ number_of (slice_index_or items (length items - 1) other))

-- the items before a block have lesser numbers, and the block, if there is one, reaches the number
pub record IsStart {T : Type 0} (number_of : T → ℕ) (blocks : List (VecDeque T Global)) (number block before : ℕ) : Type 0 where
  pub at : block ≤ length blocks
  pub sum : length (joined (take block blocks)) ≡ before
  pub lesser : AllLesser number_of (joined blocks) before number
  pub reached : block < length blocks → (other : VecDeque T Global) → Reaches number_of (slice_index_or blocks block other).items number
