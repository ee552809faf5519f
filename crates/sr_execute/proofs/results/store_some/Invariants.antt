-- What is left to store, over what is stored so far, is all.
use Rattle.std.proofs.Common.{◌≡◌, length}
use Rattle.sr_execute.specs.Executes.{storing}
use Rattle.sr_execute.proofs.results.store_some.Given as goal

abbrev pub invariant-results : goal.invariant-results
invariant-results l =
    (l.frame.operands ≡ l.initial.frame.operands)
    × (storing l.places l.values l.to l.next l.initial.frame.operands l.frame ≡ storing l.initial.places l.initial.values l.to l.next l.initial.frame.operands l.initial.frame)

abbrev pub decreases-results : goal.decreases-results
decreases-results l = length l.places
