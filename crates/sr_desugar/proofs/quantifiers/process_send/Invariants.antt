-- What there is so far and what the rest adds are what all add.
use Rattle.std.proofs.Common.{drop, map, ◌++◌, ◌≡◌}
use Rattle.sr_desugar.specs.Bodies.{quantifier_argument}
use Rattle.sr_desugar.proofs.quantifiers.process_send.Given as goal

abbrev pub invariant-loop-quantifier : goal.invariant-loop-quantifier
invariant-loop-quantifier l = l.args ++ map (quantifier_argument l.scene) (drop l.quantifier-index l.quantifier-items) ≡ map (quantifier_argument l.scene) l.quantifier-items
