-- What there is so far and what the rest adds are what all add.
use Rattle.std.proofs.Common.{drop, ◌++◌, ◌≡◌}
use Rattle.sr_desugar.specs.Statements.{quantifiers_core}
use Rattle.sr_desugar.proofs.quantifiers.quantifiers_of.Given as goal

abbrev pub invariant-loop-tree : goal.invariant-loop-tree
invariant-loop-tree l = l.quantifiers ++ quantifiers_core l.scene (drop l.tree-index l.trees) ≡ quantifiers_core l.scene l.trees
