-- The types so far are equal, so all are where those of the rest are.
use Rattle.std.proofs.Common.{◌≡◌, drop}
use Rattle.sr_check.specs.Results.{are_equal}
use Rattle.sr_check.proofs.results.all_equal.Given as goal

abbrev pub invariant-loop-ty : goal.invariant-loop-ty
invariant-loop-ty l = are_equal (drop l.ty-index l.mine) l.rest ≡ are_equal l.mine l.theirs
