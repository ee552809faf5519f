-- What there is so far and what the rest adds are what all add.
use Rattle.std.proofs.Common.{drop, flat_map, ◌≡◌}
use Rattle.sr_outline.specs.Shapes.{spec_item_types, with_types}
use Rattle.sr_tables.specs.Parts.{in_item}
use Rattle.sr_outline.proofs.shapes.declare_body.Given as goal

abbrev pub invariant-loop-item : goal.invariant-loop-item
invariant-loop-item l = with_types l.facts l.table (flat_map (in_item spec_item_types) (drop l.item-index l.items)) ≡ with_types l.facts l.fn.table (flat_map (in_item spec_item_types) l.items)
