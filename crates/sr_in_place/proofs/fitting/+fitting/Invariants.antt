-- What is left of the items gives, after those that were fitted, what all items give.
use Rattle.std.proofs.Common.{◌≡◌, ◌≤◌, length, map, drop}
use Rattle.sr_value.specs.Parts.{all_fit, each_fits, fitted_in}
use Rattle.sr_in_place.proofs.FittingLemmas.{after_first}
use Rattle.sr_in_place.proofs.fitting.+fitting.Given as goal

abbrev pub invariant-fit_all-loop-at : goal.invariant-fit_all-loop-at
invariant-fit_all-loop-at l = record {
  count : length l.values ≡ length l.initial.values;
  left : after_first l.at (all_fit (fitted_in l.shape)) l.values ≡ all_fit (fitted_in l.shape) l.initial.values;
}

abbrev pub invariant-fit_each-loop-at : goal.invariant-fit_each-loop-at
invariant-fit_each-loop-at l = record {
  within : l.at ≤ length l.values;
  left : after_first l.at (each_fits (map fitted_in (drop l.at l.shapes))) l.values ≡ each_fits (map fitted_in l.shapes) l.initial.values;
}
