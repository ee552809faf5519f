-- So many zeros were added.
use Rattle.std.proofs.Common.{◌≡◌, replicate}
use Rattle.sr_clock_rows.proofs.raising.add_zeros.Given as goal

abbrev pub invariant-loop : goal.invariant-loop
invariant-loop l = l.row ≡ replicate l.counter 0
