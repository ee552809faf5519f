-- The strings of the shapes so far are in range, so those of all are where those of the rest are.
use Rattle.std.proofs.Common.{◌≡◌, map, drop}
use Rattle.std.specs.List.{list_all}
use Rattle.sr_value.specs.Shapes.{strings_in_range}
use Rattle.sr_value.proofs.unset.+strings.Given as goal

abbrev pub invariant-have_strings_in_range-loop-shape : goal.invariant-have_strings_in_range-loop-shape
invariant-have_strings_in_range-loop-shape l = list_all (λ ok. ok) (map strings_in_range (drop l.shape-index l.shapes)) ≡ list_all (λ ok. ok) (map strings_in_range l.shapes)
