-- A column for each process that makes items.
use Rattle.std.specs.Prelude.{◌≡◌, ◌==◌, ◌<◌, ℕ, not, List, [], ◌∷◌, filter, is_some, length, nat_eq, nat_lt, Option, Some, None}
use Rattle.std.specs.HashMap.{get}
use Rattle.std.specs.List.{list_any}
use Rattle.sr_clock_rows.specs.declared.columns.Columns.{Columns}

-- each number once
abbrev pub each_once : List ℕ → List ℕ
each_once [] = []
each_once (x ∷ xs) = x ∷ filter (λ y. not (y == x)) (each_once xs)

-- how many different numbers, 0 aside
abbrev pub different : List ℕ → ℕ
different owners = length (filter (nat_lt 0) (each_once owners))

abbrev pub column_in : Columns → ℕ → Option ℕ
column_in columns process = get nat_eq columns.places process

-- each process has a column of its own, from 0 on
pub record AreApart (columns : Columns) : Type 0 where
  pub within : (process column : ℕ) → column_in columns process ≡ Some column → column < columns.width
  pub apart : (process other column : ℕ) → column_in columns process ≡ Some column → column_in columns other ≡ Some column → process ≡ other

-- the processes that are among the owners of items have columns; 0 is no process
pub record AreColumns (owners : List ℕ) (columns : Columns) : Type 0 where
  pub places : AreApart columns
  pub none : column_in columns 0 ≡ None
  pub among : (process : ℕ) → 0 < process → is_some (column_in columns process) ≡ list_any (λ owner. owner == process) owners
  pub width : columns.width ≡ different owners
