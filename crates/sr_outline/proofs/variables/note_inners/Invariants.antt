-- What there is so far and what the rest adds are what all add.
use Rattle.std.proofs.Common.{drop, flat_map, ◌≡◌}
use Rattle.sr_outline.specs.Numbers.{inner_names}
use Rattle.sr_tables.specs.Tables.{with_spots}
use Rattle.sr_outline.proofs.variables.note_inners.Given as goal

abbrev pub invariant-loop-item : goal.invariant-loop-item
invariant-loop-item l = with_spots l.names (flat_map (inner_names l.facts) (drop l.item-index l.block)) ≡ with_spots l.fn.names (flat_map (inner_names l.facts) l.block)
