-- What there is so far and what the rest adds are what all add.
use Rattle.std.proofs.Common.{◌≡◌, ◌++◌, drop, flat_map}
use Rattle.sr_tree.specs.Nested.{formal_types}
use Rattle.sr_outline.specs.Outline.{tree_literals}
use Rattle.sr_outline.proofs.outline.+literals.Given as goal

abbrev pub invariant-push_within_formals-loop-formal : goal.invariant-push_within_formals-loop-formal
invariant-push_within_formals-loop-formal l =
    l.names ++ flat_map tree_literals (flat_map formal_types (drop l.formal-index l.formals)) ≡ l.fn.names ++ flat_map tree_literals (flat_map formal_types l.formals)
