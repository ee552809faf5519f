-- What there is so far and what the rest adds are what all add.
use Rattle.std.proofs.Common.{drop, map, ◌++◌, ◌≡◌}
use Rattle.sr_outline.specs.Heads.{int_parameter}
use Rattle.sr_outline.proofs.heads.int_parameters.Given as goal

abbrev pub invariant-loop-quantifier : goal.invariant-loop-quantifier
invariant-loop-quantifier l = l.all ++ map int_parameter (drop l._quantifier-index l.quantifiers) ≡ map int_parameter l.quantifiers
