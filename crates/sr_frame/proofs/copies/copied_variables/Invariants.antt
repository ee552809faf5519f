-- The copies so far.
use Rattle.std.proofs.Common.{◌≡◌, take}
use Rattle.sr_frame.proofs.copies.copied_variables.Given as goal

abbrev pub invariant-loop-held : goal.invariant-loop-held
invariant-loop-held l = l.copies ≡ take l.held-index l.own
