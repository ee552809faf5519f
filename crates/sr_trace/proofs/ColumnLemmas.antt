-- Each process of some rows has exactly one column.
use Rattle.std.proofs.Common.{◌≡◌, ◌∙◌, ◌==◌, ◌||◌, ◌+◌, ◌++◌, ◌∷◌, [], ℕ, Bool, true, false, List, ap, sym, refl}
use Rattle.std.specs.Prelude.{fold, if◌then◌else◌}
use Rattle.std.specs.List.{count_by, list_any}
use Rattle.std.proofs.Math.Bool.{or-false, or_assoc}
use Rattle.std.proofs.lemmas.Bool.{eqb-true}
use Rattle.std.proofs.lemmas.List.Folds.{list_any-append}
use Rattle.std.proofs.lemmas.List.Sums.{sum_by-append}
use Rattle.sr_trace.specs.Shown.{column_of, columns_of, is_column_of, is_row_of, with_column}
use Rattle.sr_trace.specs.declared.shown.Column.{Column}
use Rattle.sr_trace.specs.declared.traced.Traced.{Traced}

abbrev one_if : Bool → ℕ
one_if b = if b then 1 else 0

-- the columns with that of a row, whose process has one or has none
abbrev joined : Bool → List Column → Traced → List Column
joined has columns row = if has then columns else columns ++ column_of row ∷ []

-- ---- no process has two

one-more : (x y : Bool) → (y ≡ true → x ≡ false) → one_if x + (0 + one_if y) ≡ one_if (x || (y || false))
one-more true true off = let wrong : true ≡ false = off refl in cc
one-more true false off = refl
one-more false true off = refl
one-more false false off = refl

one-step : (process : ℕ) (columns : List Column) (row : Traced) (has : Bool) → list_any (is_column_of row.process) columns ≡ has
    → count_by (is_column_of process) columns ≡ one_if (list_any (is_column_of process) columns)
    → count_by (is_column_of process) (joined has columns row) ≡ one_if (list_any (is_column_of process) (joined has columns row))
one-step process columns row true has once = once
one-step process columns row false has once =
    let off : (row.process == process) ≡ true → list_any (is_column_of process) columns ≡ false =
    λ same. ap (λ q. list_any (is_column_of q) columns) (sym (eqb-true row.process process same)) ∙ has in
    let split : count_by (is_column_of process) (columns ++ column_of row ∷ []) ≡ count_by (is_column_of process) columns + (0 + one_if (row.process == process)) =
    sum_by-append (λ column. one_if (is_column_of process column)) columns (column_of row ∷ []) in
    split ∙ ap (λ n. n + (0 + one_if (row.process == process))) once
    ∙ one-more (list_any (is_column_of process) columns) (row.process == process) off
    ∙ ap one_if (sym (list_any-append (is_column_of process) columns (column_of row ∷ [])))

one : (process : ℕ) (rows : List Traced) (columns : List Column) → count_by (is_column_of process) columns ≡ one_if (list_any (is_column_of process) columns)
    → count_by (is_column_of process) (fold with_column columns rows) ≡ one_if (list_any (is_column_of process) (fold with_column columns rows))
one process [] columns once = once
one process (row ∷ rows) columns once = one process rows (with_column columns row) (one-step process columns row (list_any (is_column_of row.process) columns) refl once)

-- ---- each process of a row has one

kept : (x y : Bool) → (y ≡ true → x ≡ true) → x ≡ (x || y)
kept true y on = refl
kept false true on = on refl
kept false false on = refl

there-step : (process : ℕ) (columns : List Column) (row : Traced) (has : Bool) → list_any (is_column_of row.process) columns ≡ has
    → list_any (is_column_of process) (joined has columns row) ≡ (list_any (is_column_of process) columns || (row.process == process))
there-step process columns row true has =
    kept (list_any (is_column_of process) columns) (row.process == process)
    (λ same. ap (λ q. list_any (is_column_of q) columns) (sym (eqb-true row.process process same)) ∙ has)
there-step process columns row false has =
    list_any-append (is_column_of process) columns (column_of row ∷ [])
    ∙ ap (λ v. list_any (is_column_of process) columns || v) (or-false (row.process == process))

there : (process : ℕ) (rows : List Traced) (columns : List Column)
    → list_any (is_column_of process) (fold with_column columns rows) ≡ (list_any (is_column_of process) columns || list_any (is_row_of process) rows)
there process [] columns = sym (or-false (list_any (is_column_of process) columns))
there process (row ∷ rows) columns =
    there process rows (with_column columns row)
    ∙ ap (λ v. v || list_any (is_row_of process) rows) (there-step process columns row (list_any (is_column_of row.process) columns) refl)
    ∙ or_assoc (list_any (is_column_of process) columns) (row.process == process) (list_any (is_row_of process) rows)

pub one-column : (process : ℕ) (rows : List Traced) → count_by (is_column_of process) (columns_of rows) ≡ one_if (list_any (is_row_of process) rows)
one-column process rows = one process rows [] refl ∙ ap one_if (there process rows [])
