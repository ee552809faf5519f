-- The copies so far stand after what was there.
use Rattle.std.proofs.Common.{◌≡◌, ◌++◌, take}
use Rattle.sr_core.proofs.brackets.copy_onto.Given as goal

abbrev pub invariant-loop-value : goal.invariant-loop-value
invariant-loop-value l = l.items ≡ l.initial.items ++ take l.value-index l.row
