-- The total is that of the shapes so far, up to the number that is too many.
use Rattle.std.proofs.Common.{◌≡◌, map, take, min}
use Rattle.std.specs.List.{sum}
use Rattle.sr_value.specs.Shapes.{cell_count}
use Rattle.sr_value.proofs.unset.+cells.Given as goal

abbrev pub invariant-cells_of_all-loop-shape : goal.invariant-cells_of_all-loop-shape
invariant-cells_of_all-loop-shape l = l.total ≡ min (sum (map cell_count (take l.shape-index l.shapes))) 1048577
