-- The first type among all is the first among the rest.
use Rattle.std.proofs.Common.{drop, ◌≡◌}
use Rattle.sr_lower_expr.specs.Expressions.{ends_core, named_types}
use Rattle.sr_lower_expr.proofs.functions.ends.Given as goal

abbrev pub invariant-loop-tree : goal.invariant-loop-tree
invariant-loop-tree l =
    ends_core l.scene l.is_high (named_types l.scene.facts (drop l.tree-index l.trees))
    ≡ ends_core l.scene l.is_high (named_types l.scene.facts l.trees)
