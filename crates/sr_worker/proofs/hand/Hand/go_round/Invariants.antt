use Rattle.std.proofs.Common.{◌≡◌, ◌+◌, ◌-◌, ◌*◌, length}
use Rattle.sr_worker.proofs.Rounds.{IsRound}
use Rattle.sr_worker.proofs.hand.Hand.go_round.Given as goal

abbrev pub invariant-loop-idle : goal.invariant-loop-idle
invariant-loop-idle g l = IsRound (g.A.Actor.asks_after l.program) (g.D.Desk.declines l.desk) (g.D.Desk.rests l.desk) (g.D.Desk.made l.desk) l.initial.self l.self l.initial.seat l.seat l.place l.idle

abbrev pub decreases-loop-idle : goal.decreases-loop-idle
decreases-loop-idle g l = (l.self.notes.worker.room - length l.self.notes.entries) * (length l.self.players + 1) + (length l.self.players - l.idle)
