-- There are as many copies as turns were made.
use Rattle.std.proofs.Common.{◌≡◌, ◌++◌, replicate}
use Rattle.sr_core.specs.Values.{flat}
use Rattle.sr_core.proofs.brackets.repeat_onto.Given as goal

abbrev pub invariant-loop : goal.invariant-loop
invariant-loop l = l.items ≡ l.initial.items ++ flat (replicate l.counter l.row)
