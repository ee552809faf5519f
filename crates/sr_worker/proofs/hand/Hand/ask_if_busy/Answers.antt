use Rattle.sr_worker.proofs.Loops.{passes-itself}
use Rattle.sr_worker.proofs.Works.{works-itself}
use Rattle.sr_worker.proofs.hand.Hand.ask_if_busy.Goals as goal

pub returns-then-not-is_busy-clause-works : goal.returns-then-not-is_busy-clause-works
returns-then-not-is_busy-clause-works g c = works-itself (g.A.Actor.asks_after c.args.program.now) c.args.self.now

pub returns-then-not-is_busy-clause-turn : goal.returns-then-not-is_busy-clause-turn
returns-then-not-is_busy-clause-turn g c = passes-itself (g.A.Actor.asks_after c.args.program.now) (g.D.Desk.declines c.args.desk.now) (g.D.Desk.rests c.args.desk.now) (g.D.Desk.made c.args.desk.now) c.args.place c.args.self.now c.args.seat.now c.requires.idle
