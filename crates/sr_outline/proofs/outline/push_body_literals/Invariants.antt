-- What there is so far and what the rest adds are what all add.
use Rattle.std.proofs.Common.{drop, flat_map, ◌++◌, ◌≡◌}
use Rattle.sr_outline.specs.Outline.{item_literals}
use Rattle.sr_tables.specs.Parts.{in_item}
use Rattle.sr_outline.proofs.outline.push_body_literals.Given as goal

abbrev pub invariant-loop-item : goal.invariant-loop-item
invariant-loop-item l = l.names ++ flat_map (in_item item_literals) (drop l.item-index l.items) ≡ l.fn.names ++ flat_map (in_item item_literals) l.items
