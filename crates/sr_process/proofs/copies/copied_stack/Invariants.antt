-- The copies so far.
use Rattle.std.proofs.Common.{◌≡◌, take}
use Rattle.sr_process.proofs.copies.copied_stack.Given as goal

abbrev pub invariant-loop-item : goal.invariant-loop-item
invariant-loop-item g l = l.copies ≡ take l.item-index l.item-items
