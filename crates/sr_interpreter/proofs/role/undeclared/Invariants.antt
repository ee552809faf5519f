-- There are as many as turns were made.
use Rattle.std.proofs.Common.{◌≡◌, None, replicate}
use Rattle.sr_interpreter.proofs.role.undeclared.Given as goal

abbrev pub invariant-loop : goal.invariant-loop
invariant-loop l = l.own ≡ replicate l.counter None
