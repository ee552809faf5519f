-- What the rest adds to what is added so far is what all add.
use Rattle.std.proofs.Common.{◌≡◌, [], drop}
use Rattle.sr_check_decl.specs.Needers.{with_all_needs}
use Rattle.sr_check_decl.proofs.needers.needers_of_all.Given as goal

abbrev pub invariant-loop-place : goal.invariant-loop-place
invariant-loop-place l = with_all_needs l.needers l.place (drop l.place l.rows) ≡ with_all_needs [] 0 l.rows
