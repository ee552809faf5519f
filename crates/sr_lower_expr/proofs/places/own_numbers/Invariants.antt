-- What there is so far and what the rest adds are what all add.
use Rattle.std.proofs.Common.{drop, map, ◌++◌, ◌≡◌}
use Rattle.sr_lower_expr.specs.Places.{own_number}
use Rattle.sr_lower_expr.proofs.places.own_numbers.Given as goal

abbrev pub invariant-loop-spot : goal.invariant-loop-spot
invariant-loop-spot l = l.numbers ++ map (own_number l.scene) (drop l.spot-index l.spots) ≡ map (own_number l.scene) l.spots
