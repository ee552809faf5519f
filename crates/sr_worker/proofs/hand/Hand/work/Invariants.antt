use Rattle.std.proofs.Common.{◌-◌, length}
use Rattle.sr_worker.proofs.Rounds.{GoesOn}
use Rattle.sr_worker.proofs.hand.Hand.work.Given as goal

abbrev pub invariant-loop-self : goal.invariant-loop-self
invariant-loop-self g l = GoesOn (g.A.Actor.asks_after l.program) (g.D.Desk.rests l.desk) (g.D.Desk.made l.desk) l.initial.self l.self l.initial.seat l.seat

abbrev pub decreases-loop-self : goal.decreases-loop-self
decreases-loop-self g l = l.self.notes.worker.room - length l.self.notes.entries
