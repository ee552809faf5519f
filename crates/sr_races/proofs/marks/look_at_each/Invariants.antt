-- All was looked at that is marked at the spots so far.
use Rattle.std.proofs.Common.{take}
use Rattle.sr_races.specs.Marks.{LooksAt}
use Rattle.sr_races.proofs.marks.look_at_each.Given as goal

abbrev pub invariant-loop-spot : goal.invariant-loop-spot
invariant-loop-spot l = LooksAt l.clocks l.second l.spots (take l.spot-index l.at) l.fn.found l.found
