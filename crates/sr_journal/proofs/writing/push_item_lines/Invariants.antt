use Rattle.std.proofs.Common.{◌≡◌, ◌++◌, take}
use Rattle.std.specs.List.{flat_map}
use Rattle.sr_journal.specs.Journal.{item_line}
use Rattle.sr_journal.proofs.writing.push_item_lines.Given as goal

abbrev pub invariant-loop-item : goal.invariant-loop-item
invariant-loop-item l = l.text ≡ l.fn.text ++ flat_map item_line (take l.item-index l.items)
