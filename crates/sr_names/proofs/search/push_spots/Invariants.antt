-- The spots so far are those that were there and those of the list so far.
use Rattle.std.proofs.Common.{◌≡◌, ◌++◌, take}
use Rattle.sr_names.proofs.search.push_spots.Given as goal

abbrev pub invariant-loop-spot : goal.invariant-loop-spot
invariant-loop-spot l = l.all ≡ l.fn.all ++ take l.spot-index l.spots
