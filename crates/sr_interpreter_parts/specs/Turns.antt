-- The values of a quantifier, as the reference interpreter goes through them.
use Rattle.std.specs.Prelude.{ℕ, ◌*◌, ◌<◌, ℤ, pos, ◌+ℤ◌, ◌-ℤ◌, List, map, IsTrue}
use Rattle.std.specs.List.{range_with_len}
use Rattle.sr_value.specs.Operators.{is_int}
use Rattle.sr_core.specs.declared.statement.Direction.{Direction}
use Rattle.sr_core.specs.declared.statement.Direction.TheVariants.{Up, Down}
use Rattle.sr_interpreter_parts.specs.declared.values.Values.{Values}

-- the value at so far from the first
abbrev pub value_from : Direction → ℤ → ℕ → ℤ
value_from Up from far = from +ℤ pos far
value_from Down from far = from -ℤ pos far

-- so many values, from one on
abbrev pub listed_from : Values → ℕ → ℕ → List ℤ
listed_from values at count = map (λ k. value_from values.direction values.from (k * values.step)) (range_with_len at count)

-- all values
abbrev pub listed : Values → List ℤ
listed values = listed_from values 0 values.count

-- each of them is an int
pub record AllFit (values : Values) : Type 0 where
  pub fit : (k : ℕ) → k < values.count → IsTrue (is_int (value_from values.direction values.from (k * values.step)))
