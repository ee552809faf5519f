use Rattle.sr_worker.proofs.Rounds.{IsAsking}
use Rattle.sr_worker.proofs.hand.Hand.ask_busy.Given as goal

abbrev pub invariant-loop-place : goal.invariant-loop-place
invariant-loop-place g l = IsAsking (g.A.Actor.asks_after l.program) (g.D.Desk.declines l.desk) (g.D.Desk.rests l.desk) (g.D.Desk.made l.desk) l.initial.self l.self l.initial.seat l.seat
