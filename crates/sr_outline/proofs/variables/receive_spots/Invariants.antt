-- What there is so far and what the rest adds are what all add.
use Rattle.std.proofs.Common.{drop, ◌++◌, ◌≡◌}
use Rattle.sr_outline.specs.Numbers.{place_spots}
use Rattle.sr_outline.proofs.variables.receive_spots.Given as goal

abbrev pub invariant-loop-place : goal.invariant-loop-place
invariant-loop-place l = l.spots ++ place_spots (drop l.place-index l.places) ≡ place_spots l.places
