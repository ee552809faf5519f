-- The values so far are those of the shapes so far.
use Rattle.std.proofs.Common.{◌≡◌, map, take}
use Rattle.sr_value.specs.Shapes.{unset_value}
use Rattle.sr_value.proofs.unset.+unset.Given as goal

abbrev pub invariant-unset_fields-loop-shape : goal.invariant-unset_fields-loop-shape
invariant-unset_fields-loop-shape l = l.values ≡ map unset_value (take l.shape-index l.shapes)
