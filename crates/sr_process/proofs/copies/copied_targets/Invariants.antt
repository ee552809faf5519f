-- The copies so far.
use Rattle.std.proofs.Common.{◌≡◌, take}
use Rattle.sr_process.proofs.copies.copied_targets.Given as goal

abbrev pub invariant-loop-at : goal.invariant-loop-at
invariant-loop-at l = l.copies ≡ take l.at l.targets
