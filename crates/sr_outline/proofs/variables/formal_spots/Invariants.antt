-- What there is so far and what the rest adds are what all add.
use Rattle.std.proofs.Common.{drop, ◌++◌, ◌≡◌}
use Rattle.sr_outline.specs.Numbers.{formal_names}
use Rattle.sr_outline.proofs.variables.formal_spots.Given as goal

abbrev pub invariant-loop-formal : goal.invariant-loop-formal
invariant-loop-formal l = l.spots ++ formal_names (drop l.formal-index l.formals) ≡ formal_names l.formals
