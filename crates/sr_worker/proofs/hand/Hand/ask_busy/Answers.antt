use Rattle.sr_worker.proofs.Loops.{asking-first, asking-on, turn-waits}
use Rattle.sr_worker.proofs.Works.{works-then}
use Rattle.sr_worker.proofs.hand.Hand.ask_busy.Goals as goal

pub loop-place-init : goal.loop-place-init
loop-place-init g c = asking-first (g.A.Actor.asks_after c.args.program.now) (g.D.Desk.declines c.args.desk.now) (g.D.Desk.rests c.args.desk.now) (g.D.Desk.made c.args.desk.now) c.args.self.now c.args.seat.now c.requires.rests c.requires.room c.requires.idle

pub loop-place-preserved : goal.loop-place-preserved
loop-place-preserved g c =
    asking-on (g.A.Actor.asks_after c.args.program.now) (g.D.Desk.declines c.args.desk.now) (g.D.Desk.rests c.args.desk.now) (g.D.Desk.made c.args.desk.now) c.loop-place.place c.args.self.now c.loop-place.self c.ask_if_busy.new.self c.args.seat.now c.loop-place.seat c.ask_if_busy.new.seat c.loop-place.invariant c.in_ok-went.ensures.works
    (turn-waits c.in_ok-went.went _ _ c.if-went.false c.in_ok-went.ensures.turn) c.in_ok-went.ensures.rests c.in_ok-went.ensures.made

pub returns-then-went-clause-works : goal.returns-then-went-clause-works
returns-then-went-clause-works g c = works-then (g.A.Actor.asks_after c.args.program.now) c.args.self.now c.loop-place.self c.ask_if_busy.new.self c.loop-place.invariant.works c.in_ok-went.ensures.works
