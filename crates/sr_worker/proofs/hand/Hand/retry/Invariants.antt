use Rattle.sr_worker.proofs.Rounds.{IsTrying}
use Rattle.sr_worker.proofs.hand.Hand.retry.Given as goal

abbrev pub invariant-loop : goal.invariant-loop
invariant-loop g l = IsTrying (g.A.Actor.asks_after l.program) (g.D.Desk.declines l.desk) (g.D.Desk.rests l.desk) (g.D.Desk.made l.desk) l.initial.self l.self l.initial.seat l.seat
