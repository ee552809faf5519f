-- What there is so far and what the rest adds are what all add.
use Rattle.std.proofs.Common.{drop, ◌≡◌}
use Rattle.sr_outline.specs.Heads.{block_opened, with_opened}
use Rattle.sr_outline.proofs.operations.open_block.Given as goal

abbrev pub invariant-loop-item : goal.invariant-loop-item
invariant-loop-item l =
    (l.opening ≡ record l.fn.opening { operations = l.opening.operations })
    × (with_opened l.opening (block_opened l.facts l.fn.opening.shapes l.fn.opening.heads (drop l.item-index l.block)) ≡ with_opened l.fn.opening (block_opened l.facts l.fn.opening.shapes l.fn.opening.heads l.block))
