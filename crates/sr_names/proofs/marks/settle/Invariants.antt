-- The marks so far, with the rest of the spots, are the marks with all of them.
use Rattle.std.proofs.Common.{◌≡◌, drop}
use Rattle.sr_names.specs.Marks.{with_settled}
use Rattle.sr_names.proofs.marks.settle.Given as goal

abbrev pub invariant-loop-spot : goal.invariant-loop-spot
invariant-loop-spot l = with_settled l.marks (drop l.spot-index l.spots) l.number ≡ with_settled l.fn.marks l.spots l.number
