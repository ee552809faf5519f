-- A list of numbers in blocks.
use Rattle.std.specs.Prelude.{◌≡◌, ℕ, ◌+◌, ◌<◌, ◌⊎◌, ◌==◌, Bool, false, List, [], length, slice_index_or, take}
use Rattle.std.specs.List.{flat_map, list_any}

-- the numbers of blocks, those of one block after those of the one before
abbrev pub joined : List (List ℕ) → List ℕ
joined blocks = flat_map (λ (block : List ℕ). block) blocks

-- whether a number is this one
abbrev pub is_number : ℕ → ℕ → Bool
is_number number other = other == number

-- no number below the one or above the other stands in a list
abbrev pub AreBetween : ℕ → ℕ → List ℕ → Type 0
AreBetween least greatest numbers = (number : ℕ) → (number < least) ⊎ (greatest < number) → list_any (is_number number) numbers ≡ false

-- the number at a place of all stands at a place of a block
pub record IsSpot (blocks : List (List ℕ)) (whole block place : ℕ) : Type 0 where
  pub block_within : block < length blocks
  pub place_within : place < length (slice_index_or blocks block [])
  pub sum : length (joined (take block blocks)) + place ≡ whole
