-- The targets so far and those of the rest of the links are those of all links.
use Rattle.std.proofs.Common.{◌≡◌, ◌++◌, drop}
use Rattle.sr_names.specs.declared.spot.Spot.{Spot}
use Rattle.sr_names.specs.Targets.{targets_of, targets_in}
use Rattle.sr_names.proofs.targets.gather.Given as goal

abbrev pub invariant-loop-link : goal.invariant-loop-link
invariant-loop-link l = (spot : Spot) → targets_of l.all spot ++ targets_in (drop l.link-index l.links) spot ≡ targets_in l.links spot
