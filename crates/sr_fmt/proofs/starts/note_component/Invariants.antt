-- The spans so far and those of the rest are those of all.
use Rattle.std.proofs.Common.{◌≡◌, ◌++◌, drop, flat_map}
use Rattle.sr_order.specs.Spans.{item_statements}
use Rattle.sr_fmt.proofs.starts.note_component.Given as goal

abbrev pub invariant-loop-item : goal.invariant-loop-item
invariant-loop-item l =
    l.starts ++ flat_map item_statements (drop l.item-index l.item-items)
    ≡ l.fn.starts ++ flat_map item_statements l.item-items
