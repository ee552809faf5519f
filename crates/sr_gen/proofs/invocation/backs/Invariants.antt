-- The variables so far stand before those of the formals that are left.
use Rattle.std.proofs.Common.{◌≡◌, ◌++◌, drop, map, filter}
use Rattle.sr_gen.proofs.invocation.backs.Given as goal
use Rattle.sr_core.specs.Formals.{is_back}

abbrev pub invariant-loop-formal : goal.invariant-loop-formal
invariant-loop-formal l = l.vars ++ map (λ formal. formal.var) (filter is_back (drop l.formal-index l.formals)) ≡ map (λ formal. formal.var) (filter is_back l.formals)
