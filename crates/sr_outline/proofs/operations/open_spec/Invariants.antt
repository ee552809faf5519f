-- What there is so far and what the rest adds are what all add.
use Rattle.std.proofs.Common.{drop, flat_map, ◌≡◌}
use Rattle.sr_outline.specs.Heads.{spec_item_opened, with_opened}
use Rattle.sr_outline.proofs.operations.open_spec.Given as goal

abbrev pub invariant-loop-item : goal.invariant-loop-item
invariant-loop-item l =
    (l.opening ≡ record l.fn.opening { operations = l.opening.operations })
    × (with_opened l.opening (flat_map (spec_item_opened l.facts l.fn.opening.shapes l.fn.opening.heads) (drop l.item-index l.items)) ≡ with_opened l.fn.opening (flat_map (spec_item_opened l.facts l.fn.opening.shapes l.fn.opening.heads) l.items))
