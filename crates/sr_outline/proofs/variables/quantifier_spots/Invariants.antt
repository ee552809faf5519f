-- What there is so far and what the rest adds are what all add.
use Rattle.std.proofs.Common.{drop, ◌++◌, ◌≡◌}
use Rattle.sr_outline.specs.Numbers.{quantifier_names}
use Rattle.sr_outline.proofs.variables.quantifier_spots.Given as goal

abbrev pub invariant-loop-quantifier : goal.invariant-loop-quantifier
invariant-loop-quantifier l = l.spots ++ quantifier_names (drop l.quantifier-index l.quantifiers) ≡ quantifier_names l.quantifiers
