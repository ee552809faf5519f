-- What there is so far and what the rest adds are what all add.
use Rattle.std.proofs.Common.{drop, map, ◌++◌, ◌≡◌}
use Rattle.sr_desugar.specs.Statements.{arms_of, core_arm}
use Rattle.sr_desugar.proofs.statements.arms_of.Given as goal

abbrev pub invariant-loop-tree : goal.invariant-loop-tree
invariant-loop-tree l = l.arms ++ arms_of (map (core_arm l.scene) (drop l.tree-index l.trees)) ≡ arms_of (map (core_arm l.scene) l.trees)
