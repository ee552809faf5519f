-- What there is so far and what the rest adds are what all add.
use Rattle.std.proofs.Common.{drop, ◌++◌, ◌≡◌}
use Rattle.sr_lower_expr.specs.Places.{formals_of}
use Rattle.sr_lower_expr.proofs.places.formals_of.Given as goal

abbrev pub invariant-loop-parameter : goal.invariant-loop-parameter
invariant-loop-parameter l = l.formals ++ formals_of l.rest (drop l.parameter-index l.parameters) ≡ formals_of l.vars l.parameters
