-- What holds of the rest of the values holds of all, after those that were looked at.
use Rattle.std.proofs.Common.{◌≡◌, ◌++◌, drop, map, Ok}
use Rattle.sr_value.specs.Parts.{all_fit, each_fits, fitted_in, with_ok}
use Rattle.sr_value.proofs.fits.+fits.Given as goal

abbrev pub invariant-all_fitted-loop-value : goal.invariant-all_fitted-loop-value
invariant-all_fitted-loop-value l =
    with_ok (all_fit (fitted_in l.shape) (drop l.value-index l.values)) (λ rest. Ok (l.held ++ rest)) ≡ all_fit (fitted_in l.shape) l.values

abbrev pub invariant-each_fitted-loop-shape : goal.invariant-each_fitted-loop-shape
invariant-each_fitted-loop-shape l =
    with_ok (each_fits (map fitted_in (drop l.shape-index l.shapes)) l.rest) (λ rest. Ok (l.held ++ rest)) ≡ each_fits (map fitted_in l.shapes) l.fn.values
