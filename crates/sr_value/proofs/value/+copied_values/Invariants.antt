-- The copies so far are the values so far.
use Rattle.std.proofs.Common.{◌≡◌, take}
use Rattle.sr_value.proofs.value.+copied_values.Given as goal

abbrev pub invariant-copied_values-loop-value : goal.invariant-copied_values-loop-value
invariant-copied_values-loop-value l = l.copies ≡ take l.value-index l.values
