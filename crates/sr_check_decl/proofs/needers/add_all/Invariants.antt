-- What the rest adds to what is added so far is what all add.
use Rattle.std.proofs.Common.{◌≡◌, drop}
use Rattle.sr_check_decl.specs.Needers.{with_needs}
use Rattle.sr_check_decl.proofs.needers.add_all.Given as goal

abbrev pub invariant-loop-spot : goal.invariant-loop-spot
invariant-loop-spot l = with_needs l.needers l.place (drop l.spot-index l.spots) ≡ with_needs l.fn.needers l.place l.spots
