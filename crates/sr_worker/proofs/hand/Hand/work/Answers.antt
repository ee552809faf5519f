use Rattle.sr_worker.proofs.Loops.{goes-first, goes-on, turn-went, whole-falls}
use Rattle.sr_worker.proofs.Works.{works-then}
use Rattle.sr_worker.proofs.hand.Hand.work.Goals as goal

pub loop-self-init : goal.loop-self-init
loop-self-init g c = goes-first (g.A.Actor.asks_after c.args.program.now) (g.D.Desk.declines c.args.desk.now) (g.D.Desk.rests c.args.desk.now) (g.D.Desk.made c.args.desk.now) c.args.self.now c.args.seat.now c.requires.rests

pub loop-self-preserved : goal.loop-self-preserved
loop-self-preserved g c =
    goes-on (g.A.Actor.asks_after c.args.program.now) (g.D.Desk.declines c.args.desk.now) (g.D.Desk.rests c.args.desk.now) (g.D.Desk.made c.args.desk.now) c.args.self.now c.loop-self.self c.go_round.new.self c.retry.new.self c.args.seat.now c.loop-self.seat c.go_round.new.seat c.retry.new.seat
    c.loop-self.invariant c.in_ok-go_round.ensures.works c.in_ok-went.ensures.works c.in_ok-went.ensures.rests c.go_round.ensures.made c.retry.ensures.made

pub loop-self-smaller : goal.loop-self-smaller
loop-self-smaller g c =
    whole-falls (g.A.Actor.asks_after c.args.program.now) (g.D.Desk.declines c.args.desk.now) (g.D.Desk.rests c.args.desk.now) (g.D.Desk.made c.args.desk.now) c.loop-self.self c.go_round.new.self c.retry.new.self c.in_ok-go_round.ensures.works c.in_ok-went.ensures.works (turn-went c.in_ok-went.went _ _ c.if-not-went.false c.in_ok-went.ensures.step)

pub returns-then-not-went-clause-works : goal.returns-then-not-went-clause-works
returns-then-not-went-clause-works g c =
    let after = g.A.Actor.asks_after c.args.program.now in
    works-then after c.args.self.now c.go_round.new.self c.retry.new.self
    (works-then after c.args.self.now c.loop-self.self c.go_round.new.self c.loop-self.invariant.works c.in_ok-go_round.ensures.works) c.in_ok-went.ensures.works
