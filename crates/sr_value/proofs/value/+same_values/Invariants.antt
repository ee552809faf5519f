-- The values so far are the same, so the whole lists are where their rests are.
use Rattle.std.proofs.Common.{◌≡◌, ◌++◌, take}
use Rattle.sr_value.proofs.value.+same_values.Given as goal

abbrev pub invariant-same_values-loop-value : goal.invariant-same_values-loop-value
invariant-same_values-loop-value l = l.theirs ≡ take l.value-index l.mine ++ l.rest
