-- The row has the greatest of the rows so far.
use Rattle.std.proofs.Common.{◌≡◌, ℕ, length, map, take}
use Rattle.std.specs.Prelude.{slice_index}
use Rattle.sr_clock_rows.specs.Rows.{count_at}
use Rattle.sr_clocks.specs.Clocks.{greatest}
use Rattle.sr_clock_rows.proofs.clocks.Clocks.raise_all.Given as goal

abbrev pub invariant-loop-origin : goal.invariant-loop-origin
invariant-loop-origin l = record {
  length : length l.row ≡ l.self.columns.width;
  greatest : (column : ℕ) → slice_index l.row column ≡ greatest (map (λ i. count_at l.self.rows i column) (take l.origin-index l.origins));
}
