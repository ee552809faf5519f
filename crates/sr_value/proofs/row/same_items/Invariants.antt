-- The items so far are the same, so the whole lists are where their rests are.
use Rattle.std.proofs.Common.{◌≡◌, ◌++◌, take}
use Rattle.sr_value.proofs.row.same_items.Given as goal

abbrev pub invariant-loop-item : goal.invariant-loop-item
invariant-loop-item g l = l.theirs ≡ take l.item-index l.mine ++ l.rest
