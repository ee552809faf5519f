use Rattle.std.proofs.Common.{inl, inr, refl, sym, ◌∙◌, arith}
use Rattle.sr_worker.proofs.Loops.{round-first, round-on, round-falls}
use Rattle.sr_worker.proofs.Rounds.{round-whole}
use Rattle.sr_worker.proofs.hand.Hand.go_round.Goals as goal

pub loop-idle-init : goal.loop-idle-init
loop-idle-init g c = round-first (g.A.Actor.asks_after c.args.program.now) (g.D.Desk.declines c.args.desk.now) (g.D.Desk.rests c.args.desk.now) (g.D.Desk.made c.args.desk.now) c.args.self.now c.args.seat.now c.requires.rests

pub loop-idle-preserved : goal.loop-idle-preserved
loop-idle-preserved g c =
    round-on (g.A.Actor.asks_after c.args.program.now) (g.D.Desk.declines c.args.desk.now) (g.D.Desk.rests c.args.desk.now) (g.D.Desk.made c.args.desk.now) c.args.self.now c.loop-idle.self c.turn.new.self c.args.seat.now c.loop-idle.seat c.turn.new.seat c.loop-idle.place c.loop-idle.idle c.after-place.result
    c.loop-idle.invariant c.in_ok-waiting.ensures.works c.after-place.ensures.next c.after-place.ensures.within c.in_ok-waiting.ensures.rests c.in_ok-waiting.ensures.made c.in_ok-waiting.waiting c.in_ok-waiting.ensures.turn (omega arith)

pub loop-idle-smaller : goal.loop-idle-smaller
loop-idle-smaller g c =
    round-falls (g.A.Actor.asks_after c.args.program.now) (g.D.Desk.declines c.args.desk.now) (g.D.Desk.rests c.args.desk.now) (g.D.Desk.made c.args.desk.now) c.loop-idle.place c.loop-idle.self c.turn.new.self c.loop-idle.seat c.turn.new.seat c.loop-idle.idle c.in_ok-waiting.waiting
    c.in_ok-waiting.ensures.works c.in_ok-waiting.ensures.turn (omega arith)
