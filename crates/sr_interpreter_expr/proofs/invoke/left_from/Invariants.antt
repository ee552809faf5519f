-- The copies so far, and what is left, is all.
use Rattle.std.proofs.Common.{◌≡◌, ◌-◌, ◌++◌, drop, length}
use Rattle.sr_interpreter_expr.proofs.invoke.left_from.Given as goal

abbrev pub invariant-results : goal.invariant-results
invariant-results l = l.left ++ drop l.at l.results ≡ drop l.initial.at l.results

abbrev pub decreases-results : goal.decreases-results
decreases-results l = length l.results - l.at
