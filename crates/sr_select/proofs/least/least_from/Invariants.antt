use Rattle.std.proofs.Common.{◌-◌, length}
use Rattle.sr_select.proofs.LeastLemmas.{LeastSoFar}
use Rattle.sr_select.specs.Sights.{seeing}
use Rattle.sr_select.proofs.least.least_from.Given as goal

abbrev pub invariant-loop-next : goal.invariant-loop-next
invariant-loop-next g l = LeastSoFar (seeing (g.R.Reads.reading l.reads) l.scene) l.owner l.arm l.by l.from l.queue.items l.next l.best l.initial.seen l.seen

abbrev pub decreases-loop-next : goal.decreases-loop-next
decreases-loop-next g l = length l.queue.items - l.next
