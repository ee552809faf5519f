-- What there is so far and what the rest adds are what all add.
use Rattle.std.proofs.Common.{drop, ◌≡◌}
use Rattle.sr_tables.specs.Tables.{with_spots}
use Rattle.sr_outline.proofs.variables.note_spots.Given as goal

abbrev pub invariant-loop-spot : goal.invariant-loop-spot
invariant-loop-spot l = with_spots l.names (drop l.spot-index l.spots) ≡ with_spots l.fn.names l.spots
