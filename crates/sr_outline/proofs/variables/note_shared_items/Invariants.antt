-- What there is so far and what the rest adds are what all add.
use Rattle.std.proofs.Common.{drop, flat_map, ◌≡◌}
use Rattle.sr_outline.specs.Numbers.{item_shared}
use Rattle.sr_tables.specs.Tables.{with_spots}
use Rattle.sr_outline.proofs.variables.note_shared_items.Given as goal

abbrev pub invariant-loop-item : goal.invariant-loop-item
invariant-loop-item l = with_spots l.names (flat_map (item_shared l.facts) (drop l.item-index l.items)) ≡ with_spots l.fn.names (flat_map (item_shared l.facts) l.items)
