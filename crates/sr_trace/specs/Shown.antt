-- What a picture shows of the rows of a trace: those that are an end of a link, a column for each of their processes, and
-- an arrow for each link.
use Rattle.std.specs.Prelude.{ℕ, Bool, true, false, ◌&&◌, ◌||◌, ◌==◌, ◌++◌, ◌∷◌, [], List, Option, Some, None, flat_map, fold, if◌then◌else◌, is_some}
use Rattle.std.specs.List.{list_any}
use Rattle.sr_trace.specs.declared.shown.Arrow.{Arrow}
use Rattle.sr_trace.specs.declared.shown.Column.{Column}
use Rattle.sr_trace.specs.declared.traced.Traced.{Traced}

-- ---- rows

abbrev pub is_from : ℕ → Option ℕ → Bool
is_from item None = false
is_from item (Some from) = from == item

-- a row is linked from this item
abbrev pub is_source : ℕ → Traced → Bool
is_source item row = is_from item row.begun_by || is_from item row.after

-- a row is linked from some item
abbrev pub is_linked : Traced → Bool
is_linked row = is_some row.begun_by || is_some row.after

-- a row is an end of a link
abbrev pub is_shown : List Traced → Traced → Bool
is_shown rows row = is_linked row || list_any (is_source row.item) rows

abbrev pub row_if : Bool → Traced → List Traced
row_if true row = row ∷ []
row_if false row = []

abbrev pub shown : List Traced → List Traced
shown rows = flat_map (λ row. row_if (is_shown rows row) row) rows

-- ---- columns

abbrev pub column_of : Traced → Column
column_of row = record { process = row.process; runs = row.runs }

-- a column is that of a process
abbrev pub is_column_of : ℕ → Column → Bool
is_column_of process column = column.process == process

abbrev pub with_column : List Column → Traced → List Column
with_column columns row = if list_any (is_column_of row.process) columns then columns else columns ++ column_of row ∷ []

-- a column for each process, in the order of their first rows
abbrev pub columns_of : List Traced → List Column
columns_of rows = fold with_column [] rows

-- ---- arrows

abbrev pub arrow_from : Bool → Option ℕ → ℕ → List Arrow
arrow_from begins None to = []
arrow_from begins (Some from) to = record { from = from; to = to; begins = begins } ∷ []

abbrev pub arrows_to : Traced → List Arrow
arrows_to row = arrow_from true row.begun_by row.item ++ arrow_from false row.after row.item

-- an arrow for each link
abbrev pub arrows : List Traced → List Arrow
arrows rows = flat_map arrows_to rows

-- ---- tests of the laws

-- an arrow goes from an item to another
abbrev pub is_arrow : ℕ → ℕ → Arrow → Bool
is_arrow from to arrow = (arrow.from == from) && (arrow.to == to)

-- a row is that of an item, and is linked from another
abbrev pub is_link : ℕ → ℕ → Traced → Bool
is_link from to row = is_source from row && (row.item == to)

-- a row is that of a process
abbrev pub is_row_of : ℕ → Traced → Bool
is_row_of process row = row.process == process
