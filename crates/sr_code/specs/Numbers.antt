-- The values of a quantifier.
use Rattle.std.specs.Prelude.{ℕ, ◌*◌, ◌<◌, ℤ, pos, ◌+ℤ◌, ◌-ℤ◌, List, IsTrue, map}
use Rattle.std.specs.List.{range_with_len}
use Rattle.sr_value.specs.Operators.{is_int}
use Rattle.sr_core.specs.declared.statement.Direction.{Direction}
use Rattle.sr_core.specs.declared.statement.Direction.TheVariants.{Up, Down}

-- so many values, each a step further than the one before
abbrev pub numbers_from : Direction → ℤ → ℕ → ℕ → List ℤ
numbers_from Up next by count = map (λ k. next +ℤ pos (k * by)) (range_with_len 0 count)
numbers_from Down next by count = map (λ k. next -ℤ pos (k * by)) (range_with_len 0 count)

-- the value that is so far from the first
abbrev pub number_from : Direction → ℤ → ℕ → ℤ
number_from Up first far = first +ℤ pos far
number_from Down first far = first -ℤ pos far

-- each of so many values is an int
abbrev pub AllFit : Direction → ℤ → ℕ → ℕ → Type 0
AllFit direction next by count = (k : ℕ) → k < count → IsTrue (is_int (number_from direction next (k * by)))
