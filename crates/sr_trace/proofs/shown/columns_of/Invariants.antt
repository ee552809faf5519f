-- The columns of all rows that came are there.
use Rattle.std.proofs.Common.{◌≡◌, [], take}
use Rattle.std.specs.Prelude.{fold}
use Rattle.sr_trace.specs.Shown.{with_column}
use Rattle.sr_trace.proofs.shown.columns_of.Given as goal

abbrev pub invariant-loop-row : goal.invariant-loop-row
invariant-loop-row l = l.columns ≡ fold with_column [] (take l.row-index l.rows)
