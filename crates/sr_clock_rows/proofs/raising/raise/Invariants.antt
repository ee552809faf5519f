-- The places so far have the greater of both.
use Rattle.sr_clock_rows.proofs.RowLemmas.{IsRaised}
use Rattle.sr_clock_rows.proofs.raising.raise.Given as goal

abbrev pub invariant-loop-place : goal.invariant-loop-place
invariant-loop-place l = IsRaised l.fn.row l.other l.place l.row
