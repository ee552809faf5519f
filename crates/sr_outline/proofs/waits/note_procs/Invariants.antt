-- What there is so far and what the rest adds are what all add.
use Rattle.std.proofs.Common.{drop, flat_map, ◌≡◌}
use Rattle.sr_outline.specs.Numbers.{item_served}
use Rattle.sr_tables.specs.Tables.{with_spots}
use Rattle.sr_outline.proofs.waits.note_procs.Given as goal

abbrev pub invariant-loop-item : goal.invariant-loop-item
invariant-loop-item l = with_spots l.procs (flat_map (item_served l.facts) (drop l.item-index l.item-items)) ≡ with_spots l.fn.procs (flat_map (item_served l.facts) l.item-items)
