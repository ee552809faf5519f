-- The shapes so far are the same, so the whole lists are where their rests are.
use Rattle.std.proofs.Common.{◌≡◌, ◌++◌, take}
use Rattle.sr_value.proofs.shape.+same_shapes.Given as goal

abbrev pub invariant-same_shapes-loop-shape : goal.invariant-same_shapes-loop-shape
invariant-same_shapes-loop-shape l = l.theirs ≡ take l.shape-index l.mine ++ l.rest
