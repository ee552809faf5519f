-- In a run by this engine the order of making is that of the numbers.
use Rattle.std.specs.Prelude.{◌≡◌, ◌+◌, ◌<◌, ◌≤◌, ℕ, zero, suc, List, [], ◌∷◌, Some, slice_get}
use Rattle.sr_ask.specs.declared.start.Start.{Start}
use Rattle.sr_queue.specs.declared.pending.Pending.{Pending}
use Rattle.sr_world.specs.Names.{IsGreatest}
use Rattle.sr_world.specs.Worlds.{World}

-- ---- new numbers

-- the number that is given out next is one more than the greatest
pub record IsNext (used : List ℕ) (name : ℕ) : Type 0 where
  pub greatest : ℕ
  pub is_greatest : IsGreatest used greatest
  pub one_more : name ≡ greatest + 1

-- what a step makes gets this number, and a step that makes nothing has the number 0
abbrev pub IsNumbered : World → ℕ → Type 0
IsNumbered world zero = Unit {0}
IsNumbered world (suc n) = IsNext world.used (suc n)

-- ---- order

-- the numbers ascend above `low`, and the last of them is the one before `next`
abbrev pub Rise : ℕ → List ℕ → ℕ → Type 0
Rise low [] next = next ≡ suc low
Rise low (name ∷ names) next = (low < name) × Rise name names next

-- the processes ascend by their numbers, above `low` and below `high`
abbrev pub Ascend : ℕ → List Start → ℕ → Type 0
Ascend low [] high = low < high
Ascend low (start ∷ starts) high = (low < start.process) × Ascend start.process starts high

-- the pending invocations ascend by their numbers, above `low` and below `high`
abbrev pub AreInLine : ℕ → List Pending → ℕ → Type 0
AreInLine low [] high = low < high
AreInLine low (p ∷ ps) high = (low < p.id) × AreInLine p.id ps high

-- The numbers were given out in their order, and `next` is the one after the last. The processes and the pending
-- invocations stand in the order of their numbers.
pub record IsOrdered (world : World) (next : ℕ) : Type 0 where
  pub rise : Rise 0 world.used next
  pub ascend : Ascend 0 world.live next
  pub in_line : AreInLine 0 world.pending next

-- who stands before the first place was made no later than the last actor, and who stands from the second on was made after
pub record IsSplit (last : ℕ) (live : List Start) (low high : ℕ) : Type 0 where
  pub before : (place : ℕ) (start : Start) → slice_get live place ≡ Some start → place < low → start.process ≤ last
  pub after : (place : ℕ) (start : Start) → slice_get live place ≡ Some start → high ≤ place → last < start.process
