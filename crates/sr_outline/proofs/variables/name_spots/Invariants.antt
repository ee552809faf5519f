-- What there is so far and what the rest adds are what all add.
use Rattle.std.proofs.Common.{drop, map, ◌++◌, ◌≡◌}
use Rattle.sr_tables.specs.Parts.{spot_named}
use Rattle.sr_outline.proofs.variables.name_spots.Given as goal

abbrev pub invariant-loop-name : goal.invariant-loop-name
invariant-loop-name l = l.spots ++ map spot_named (drop l.name-index l.names) ≡ map spot_named l.names
