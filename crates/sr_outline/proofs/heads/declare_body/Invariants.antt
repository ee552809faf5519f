-- What there is so far and what the rest adds are what all add.
use Rattle.std.proofs.Common.{drop, flat_map, ◌≡◌}
use Rattle.sr_outline.specs.Heads.{spec_item_optypes, with_heads}
use Rattle.sr_tables.specs.Parts.{in_item}
use Rattle.sr_outline.proofs.heads.declare_body.Given as goal

abbrev pub invariant-loop-item : goal.invariant-loop-item
invariant-loop-item l = with_heads l.facts l.table l.all (flat_map (in_item spec_item_optypes) (drop l.item-index l.items)) ≡ with_heads l.facts l.table l.fn.all (flat_map (in_item spec_item_optypes) l.items)
