-- What may conflict with the accesses so far was looked for.
use Rattle.std.proofs.Common.{take}
use Rattle.sr_races.specs.Marks.{LooksAt, all_looked_at}
use Rattle.sr_races.proofs.marks.look_for_each.Given as goal

abbrev pub invariant-loop-access : goal.invariant-loop-access
invariant-loop-access l = LooksAt l.clocks l.second l.spots (all_looked_at l.size (take l.access-index l.accesses)) l.fn.found l.found
