-- The copies so far are the first of the parameters.
use Rattle.std.proofs.Common.{take, ◌≡◌}
use Rattle.sr_outline.proofs.heads.copy_parameters.Given as goal

abbrev pub invariant-loop-parameter : goal.invariant-loop-parameter
invariant-loop-parameter l = l.copies ≡ take l.parameter-index l.parameters
