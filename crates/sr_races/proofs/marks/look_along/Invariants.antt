-- All from a place on were found.
use Rattle.std.proofs.Common.{◌≤◌, length}
use Rattle.sr_races.proofs.MarkLemmas.{HasLooked}
use Rattle.sr_races.proofs.marks.look_along.Given as goal

abbrev pub invariant-loop-left : goal.invariant-loop-left
invariant-loop-left l = record { within : l.left ≤ length l.marks; looked : HasLooked l.marks l.left l.fn.found l.found }

abbrev pub decreases-loop-left : goal.decreases-loop-left
decreases-loop-left l = l.left
