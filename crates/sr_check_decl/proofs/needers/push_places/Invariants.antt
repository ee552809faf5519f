-- The places so far and the rest are all.
use Rattle.std.proofs.Common.{◌≡◌, ◌++◌, drop}
use Rattle.sr_check_decl.proofs.needers.push_places.Given as goal

abbrev pub invariant-loop-place : goal.invariant-loop-place
invariant-loop-place l = l.found ++ drop l.place-index l.places ≡ l.fn.found ++ l.places
