-- What there is so far and what the rest adds are what all add.
use Rattle.std.proofs.Common.{drop, ◌++◌, ◌≡◌}
use Rattle.sr_desugar.proofs.program.copied.Given as goal

abbrev pub invariant-loop-number : goal.invariant-loop-number
invariant-loop-number l = l.copies ++ drop l.number-index l.numbers ≡ l.numbers
