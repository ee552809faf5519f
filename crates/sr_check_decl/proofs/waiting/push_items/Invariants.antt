-- The declarations so far and those of the rest are those of all.
use Rattle.std.proofs.Common.{◌≡◌, ◌++◌, map, drop}
use Rattle.sr_check_decl.specs.Waits.{seen}
use Rattle.sr_check_decl.specs.Waiting.{items_waiting}
use Rattle.sr_check_decl.proofs.waiting.push_items.Given as goal

abbrev pub invariant-loop-item : goal.invariant-loop-item
invariant-loop-item l = map seen l.all ++ items_waiting l.component (drop l.item-index l.items) ≡ map seen l.fn.all ++ items_waiting l.component l.items
