-- The parts so far, with those that are left, are all.
use Rattle.std.proofs.Common.{◌≡◌, ◌+◌, ◌<◌, drop}
use Rattle.sr_core.specs.Values.{count_all}
use Rattle.sr_core.proofs.brackets.high_bound.Given as goal

abbrev pub invariant-loop-piece : goal.invariant-loop-piece
invariant-loop-piece l = (l.total + count_all (drop l.piece-index l.pieces) ≡ count_all l.pieces) × (l.total < 2147483648)
