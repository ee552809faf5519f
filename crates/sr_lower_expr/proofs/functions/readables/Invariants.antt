-- What there is so far and what the rest adds are what all add.
use Rattle.std.proofs.Common.{drop, map, ◌++◌, ◌≡◌}
use Rattle.sr_lower_expr.specs.Expressions.{readable_of}
use Rattle.sr_check_expr.specs.Meanings.{type_of}
use Rattle.sr_lower_expr.proofs.functions.readables.Given as goal

abbrev pub invariant-loop-tree : goal.invariant-loop-tree
invariant-loop-tree l =
    l.kinds ++ map (λ tree. readable_of (type_of l.facts tree)) (drop l.tree-index l.trees)
    ≡ map (λ tree. readable_of (type_of l.facts tree)) l.trees
