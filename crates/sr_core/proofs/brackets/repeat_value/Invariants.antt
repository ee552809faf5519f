-- There are as many copies as turns were made.
use Rattle.std.proofs.Common.{◌≡◌, ◌++◌, replicate}
use Rattle.sr_core.proofs.brackets.repeat_value.Given as goal

abbrev pub invariant-loop : goal.invariant-loop
invariant-loop l = l.items ≡ l.initial.items ++ replicate l.counter l.value
