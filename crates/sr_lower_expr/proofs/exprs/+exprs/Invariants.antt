-- What there is so far and what the rest adds are what all add.
use Rattle.std.proofs.Common.{drop, map, ◌++◌, ◌≡◌}
use Rattle.sr_lower_expr.specs.Expressions.{core_expr, core_part, core_value}
use Rattle.sr_lower_expr.proofs.exprs.+exprs.Given as goal

abbrev pub invariant-core_values-loop-tree : goal.invariant-core_values-loop-tree
invariant-core_values-loop-tree l = l.values ++ map (core_value l.scene) (drop l.tree-index l.trees) ≡ map (core_value l.scene) l.trees

abbrev pub invariant-all_lowered-loop-tree : goal.invariant-all_lowered-loop-tree
invariant-all_lowered-loop-tree l = l.all ++ map (core_expr l.scene) (drop l.tree-index l.trees) ≡ map (core_expr l.scene) l.trees

abbrev pub invariant-core_parts-loop-tree : goal.invariant-core_parts-loop-tree
invariant-core_parts-loop-tree l = l.parts ++ map (core_part l.scene) (drop l.tree-index l.trees) ≡ map (core_part l.scene) l.trees
