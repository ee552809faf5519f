-- The item is marked at the spots so far.
use Rattle.std.proofs.Common.{take}
use Rattle.sr_races.specs.Marks.{AddsAll}
use Rattle.sr_races.proofs.marks.add_at_each.Given as goal

abbrev pub invariant-loop-spot : goal.invariant-loop-spot
invariant-loop-spot l = AddsAll (take l.spot-index l.at) l.column l.mark l.fn.spots l.spots
