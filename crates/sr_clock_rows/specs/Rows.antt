-- Rows of counts, one for each item, with a place for each process.
use Rattle.std.specs.Prelude.{◌≡◌, ◌==◌, ◌+◌, ◌<◌, ◌≤◌, ℕ, List, [], length, map, slice_get, slice_index, slice_set, unwrap_or, Option, Some, None, if◌then◌else◌}
use Rattle.sr_clocks.specs.Clocks.{greatest, made}
use Rattle.sr_clock_rows.specs.Columns.{AreApart, AreColumns, column_in}
use Rattle.sr_clock_rows.specs.declared.clocks.Clocks.{Clocks}

-- what an item's row has in a column; 0 where there is no such place
abbrev pub count_at : List (List ℕ) → ℕ → ℕ → ℕ
count_at rows i column = slice_index (unwrap_or (slice_get rows i) []) column

abbrev pub count_in : List (List ℕ) → ℕ → Option ℕ → ℕ
count_in rows i None = 0
count_in rows i (Some column) = count_at rows i column

-- what an item's row has of a process
abbrev pub count_of : Clocks → ℕ → ℕ → ℕ
count_of clocks i process = count_in clocks.rows i (column_in clocks.columns process)

abbrev pub made_in : List ℕ → Option ℕ → ℕ
made_in made None = 0
made_in made (Some column) = slice_index made column

-- how many items a process made
abbrev pub made_by : Clocks → ℕ → ℕ
made_by clocks process = made_in clocks.made (column_in clocks.columns process)

abbrev pub item_count : Clocks → ℕ
item_count clocks = length clocks.rows

-- every row is as long as there are columns, and no count is more than there are items
pub record IsSound (clocks : Clocks) : Type 0 where
  pub places : AreApart clocks.columns
  pub wide : (i : ℕ) (row : List ℕ) → slice_get clocks.rows i ≡ Some row → length row ≡ clocks.columns.width
  pub small : (i column : ℕ) → count_at clocks.rows i column ≤ length clocks.rows
  pub made_wide : length clocks.made ≡ clocks.columns.width
  pub made_small : (column : ℕ) → slice_index clocks.made column ≤ length clocks.rows

-- rows of the first items, so many, whose owners have columns
pub record AreClocks (owners : List ℕ) (count : ℕ) (clocks : Clocks) : Type 0 where
  pub sound : IsSound clocks
  pub columns : AreColumns owners clocks.columns
  pub items : item_count clocks ≡ count
  pub made : (process : ℕ) → 0 < process → made_by clocks process ≡ made owners process count

-- ---- one row more

-- one more in a column
abbrev pub with_one : Option ℕ → List ℕ → List ℕ
with_one None row = row
with_one (Some column) row = slice_set row column (slice_index row column + 1)

-- 1 for the item's own process, and 0 for another
abbrev pub own_of : ℕ → ℕ → ℕ
own_of owner process = if owner == process then 1 else 0

-- one item of a process more, with a row
pub record AddsRow (owner : ℕ) (old new : Clocks) : Type 0 where
  pub items : item_count new ≡ item_count old + 1
  pub columns : new.columns ≡ old.columns
  pub rows : (i process : ℕ) → i < item_count old → count_of new i process ≡ count_of old i process
  pub made : (process : ℕ) → 0 < process → made_by new process ≡ made_by old process + own_of owner process

-- its row has in each place the greatest of some rows, and one more for its own process
abbrev pub IsGreatestRow : List ℕ → ℕ → Clocks → Clocks → Type 0
IsGreatestRow origins owner old new = (process : ℕ) → 0 < process
    → count_of new (item_count old) process ≡ greatest (map (λ i. count_of old i process) origins) + own_of owner process

-- its row has how many items each process made
abbrev pub IsWholeRow : Clocks → Clocks → Type 0
IsWholeRow old new = (process : ℕ) → 0 < process → count_of new (item_count old) process ≡ made_by new process
