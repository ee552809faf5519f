-- The quantifiers from here on are closed.
use Rattle.std.proofs.Common.{◌≤◌, length}
use Rattle.sr_gen.proofs.Enclosed.{Closed}
use Rattle.sr_gen.proofs.quantifiers.close_all.Given as goal

abbrev pub invariant-loop-at : goal.invariant-loop-at
invariant-loop-at l = (l.at ≤ length l.quantifiers) × Closed l.core l.place l.quantifiers l.turns l.initial.out l.at l.out

abbrev pub decreases-loop-at : goal.decreases-loop-at
decreases-loop-at l = l.at
