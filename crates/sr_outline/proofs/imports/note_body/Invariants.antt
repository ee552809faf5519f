-- What there is so far and what the rest adds are what all add.
use Rattle.std.proofs.Common.{drop, flat_map, fold, ◌≡◌}
use Rattle.sr_outline.specs.Outline.{item_imports, with_number}
use Rattle.sr_tables.specs.Parts.{in_item}
use Rattle.sr_outline.proofs.imports.note_body.Given as goal

abbrev pub invariant-loop-item : goal.invariant-loop-item
invariant-loop-item l =
    fold with_number l.imports (flat_map (in_item (item_imports l.facts l.components)) (drop l.item-index l.items))
    ≡ fold with_number l.fn.imports (flat_map (in_item (item_imports l.facts l.components)) l.items)
