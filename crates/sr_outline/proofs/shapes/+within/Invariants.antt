-- What is put in so far and what the rest puts in are what all put in.
use Rattle.std.proofs.Common.{◌≡◌, drop, flat_map}
use Rattle.std.specs.Prelude.{fold}
use Rattle.sr_tree.specs.Nested.{formal_types}
use Rattle.sr_outline.specs.Shapes.{with_written}
use Rattle.sr_outline.proofs.shapes.+within.Given as goal

abbrev pub invariant-declare_within_formals-loop-formal : goal.invariant-declare_within_formals-loop-formal
invariant-declare_within_formals-loop-formal l =
    fold (with_written l.facts) l.table (flat_map formal_types (drop l.formal-index l.formals)) ≡ fold (with_written l.facts) l.fn.table (flat_map formal_types l.formals)
