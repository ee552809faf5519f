-- The variables so far stand before those of the quantifiers that are left.
use Rattle.std.proofs.Common.{◌≡◌, ◌++◌, drop, map}
use Rattle.sr_gen.proofs.invocation.variables.Given as goal

abbrev pub invariant-loop-quantifier : goal.invariant-loop-quantifier
invariant-loop-quantifier l = l.vars ++ map (λ q. q.var) (drop l.quantifier-index l.quantifiers) ≡ map (λ q. q.var) l.quantifiers
