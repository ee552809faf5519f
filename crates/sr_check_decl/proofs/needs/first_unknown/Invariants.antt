-- All before the place are declared, if all before the first are.
use Rattle.std.proofs.Common.{◌≡◌, true, take}
use Rattle.sr_check_decl.specs.Needs.{are_known}
use Rattle.sr_check_decl.proofs.needs.first_unknown.Given as goal

abbrev pub invariant-loop-place : goal.invariant-loop-place
invariant-loop-place l = are_known l.facts (take l.from l.spots) ≡ true → are_known l.facts (take l.place l.spots) ≡ true
