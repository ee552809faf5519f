-- What there is so far and what the rest adds are what all add.
use Rattle.std.proofs.Common.{drop, flat_map, ◌≡◌}
use Rattle.sr_outline.specs.Numbers.{item_sites}
use Rattle.sr_tables.specs.Tables.{with_spots}
use Rattle.sr_outline.proofs.waits.note_sites.Given as goal

abbrev pub invariant-loop-item : goal.invariant-loop-item
invariant-loop-item l = with_spots l.sites (flat_map (item_sites l.facts) (drop l.item-index l.item-items)) ≡ with_spots l.fn.sites (flat_map (item_sites l.facts) l.item-items)
