-- What there is so far and what the rest adds are what all add.
use Rattle.std.proofs.Common.{◌≡◌, [], drop, flat_map}
use Rattle.sr_outline.specs.Numbers.{item_names}
use Rattle.sr_tables.specs.Tables.{with_spots}
use Rattle.sr_outline.proofs.variables.initial_spots.Given as goal

abbrev pub invariant-loop-item : goal.invariant-loop-item
invariant-loop-item l = with_spots l.names (flat_map (item_names l.facts) (drop l.item-index l.item-items)) ≡ with_spots [] (flat_map (item_names l.facts) l.item-items)
