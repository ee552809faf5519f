-- The variables so far.
use Rattle.std.proofs.Common.{◌≡◌, None, replicate}
use Rattle.sr_frame.proofs.variables.undeclared.Given as goal

abbrev pub invariant-loop : goal.invariant-loop
invariant-loop l = l.own.items ≡ replicate l.counter None
