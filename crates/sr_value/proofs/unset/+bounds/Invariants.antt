-- The bounds of the shapes so far are in range, so those of all are where those of the rest are.
use Rattle.std.proofs.Common.{◌≡◌, map, drop}
use Rattle.std.specs.List.{list_all}
use Rattle.sr_value.specs.Shapes.{bounds_in_range}
use Rattle.sr_value.proofs.unset.+bounds.Given as goal

abbrev pub invariant-have_bounds_in_range-loop-shape : goal.invariant-have_bounds_in_range-loop-shape
invariant-have_bounds_in_range-loop-shape l = list_all (λ ok. ok) (map bounds_in_range (drop l.shape-index l.shapes)) ≡ list_all (λ ok. ok) (map bounds_in_range l.shapes)
