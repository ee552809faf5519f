-- What there is so far and what the rest adds are what all add.
use Rattle.std.proofs.Common.{drop, ◌≡◌}
use Rattle.sr_outline.specs.Heads.{ops_opened, with_opened}
use Rattle.sr_outline.proofs.operations.open_ops.Given as goal

abbrev pub invariant-loop-op : goal.invariant-loop-op
invariant-loop-op l =
    (l.opening ≡ record l.fn.opening { operations = l.opening.operations })
    × (with_opened l.opening (ops_opened l.facts l.fn.opening.shapes l.fn.opening.heads l.scope (drop l.op-index l.ops)) ≡ with_opened l.fn.opening (ops_opened l.facts l.fn.opening.shapes l.fn.opening.heads l.scope l.ops))
