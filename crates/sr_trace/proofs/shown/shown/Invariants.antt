-- Of the rows that came, those that are an end of a link are there.
use Rattle.std.proofs.Common.{◌≡◌, take}
use Rattle.std.specs.Prelude.{flat_map}
use Rattle.sr_trace.specs.Shown.{is_shown, row_if}
use Rattle.sr_trace.proofs.shown.shown.Given as goal

abbrev pub invariant-loop-row : goal.invariant-loop-row
invariant-loop-row l = l.kept ≡ flat_map (λ row. row_if (is_shown l.rows row) row) (take l.row-index l.rows)
