-- What is entered so far and what the rest enter are what all enter.
use Rattle.std.proofs.Common.{◌≡◌, drop}
use Rattle.sr_check_decl.specs.Entering.{ops_entered}
use Rattle.sr_check_decl.proofs.entering.enter_operations.Given as goal

abbrev pub invariant-loop-item : goal.invariant-loop-item
invariant-loop-item l = ops_entered (drop l.item-index l.items) l.facts ≡ ops_entered l.items l.fn.facts
