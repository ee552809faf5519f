-- What holds of the rest of the values holds of all, after those that were looked at.
use Rattle.std.proofs.Common.{◌≡◌, ◌++◌, drop, map, Ok}
use Rattle.sr_value.specs.Parts.{all_fit, each_fits, with_ok}
use Rattle.sr_select.specs.Guards.{counted_in}
use Rattle.sr_select.proofs.counted.+counting.Given as goal

abbrev pub invariant-all_counted-loop-value : goal.invariant-all_counted-loop-value
invariant-all_counted-loop-value l =
    with_ok (all_fit (counted_in l.shape) (drop l.value-index l.values)) (λ rest. Ok (l.held ++ rest)) ≡ all_fit (counted_in l.shape) l.values

abbrev pub invariant-each_counted-loop-shape : goal.invariant-each_counted-loop-shape
invariant-each_counted-loop-shape l =
    with_ok (each_fits (map counted_in (drop l.shape-index l.shapes)) l.rest) (λ rest. Ok (l.held ++ rest)) ≡ each_fits (map counted_in l.shapes) l.fn.values
