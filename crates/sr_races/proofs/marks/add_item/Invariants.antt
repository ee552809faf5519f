-- The item is marked where the accesses so far are noted.
use Rattle.std.proofs.Common.{take}
use Rattle.sr_races.specs.Marks.{AddsAll, all_noted_at}
use Rattle.sr_races.proofs.marks.add_item.Given as goal

abbrev pub invariant-loop-access : goal.invariant-loop-access
invariant-loop-access l = AddsAll (all_noted_at l.size (take l.access-index l.accesses)) l.column l.mark l.fn.spots l.spots
