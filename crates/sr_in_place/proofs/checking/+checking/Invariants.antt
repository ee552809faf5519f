-- Whether the rest fits, after those that were looked at, is whether all do.
use Rattle.std.proofs.Common.{◌≡◌, drop, map}
use Rattle.sr_value.specs.Parts.{all_fit, each_fits, fitted_in}
use Rattle.sr_in_place.specs.Puts.{outcome}
use Rattle.sr_in_place.proofs.checking.+checking.Given as goal

abbrev pub invariant-check_all-loop-value : goal.invariant-check_all-loop-value
invariant-check_all-loop-value l =
    outcome (all_fit (fitted_in l.shape) (drop l.value-index l.values)) ≡ outcome (all_fit (fitted_in l.shape) l.values)

abbrev pub invariant-check_each-loop-shape : goal.invariant-check_each-loop-shape
invariant-check_each-loop-shape l =
    outcome (each_fits (map fitted_in (drop l.shape-index l.shapes)) l.rest) ≡ outcome (each_fits (map fitted_in l.shapes) l.fn.values)
