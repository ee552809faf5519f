-- There are as many copies as turns were made.
use Rattle.std.proofs.Common.{◌≡◌, replicate}
use Rattle.sr_value.proofs.unset.repeated.Given as goal

abbrev pub invariant-loop : goal.invariant-loop
invariant-loop l = l.values.items ≡ replicate l.counter l.value
