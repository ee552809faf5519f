use Rattle.std.proofs.Common.{Ok, false, refl, subst}
use Rattle.sr_worker.specs.Desks.{NotesAfter}
use Rattle.sr_worker.specs.declared.desk.Desked.{Desked}
use Rattle.sr_worker.specs.declared.player.Player.{Player}
use Rattle.sr_worker.proofs.Turns.{steps}
use Rattle.sr_worker.proofs.player.Player.ask.Goals as goal

pub returns-in-Done-clause-turn : goal.returns-in-Done-clause-turn
returns-in-Done-clause-turn g c =
    let looked : Player g.row.A.Denot = record { process = c.args.self.now.process; member = c.look.new.self; busy = false } in
    let heard : Player g.row.A.Denot = record { process = c.args.self.now.process; member = c.answer.new.self; busy = false } in
    steps (g.A.Actor.asks_after c.args.program.now) (g.D.Desk.declines c.args.desk.now) c.args.self.now looked c.in_ok-look.ensures.same refl c.asked.result.now (c.asked.ensures c.args.program.now)
    c.in-Asked.ask c.in-Asked.is c.me-me.result c.me-me.ensures c.args.notes.now c.act.new.notes g.A.Actor.can_feed c.in-Done.answer heard c.in_ok-look.ensures.asked (c.answer.ensures c.args.program.now) refl
    (subst (λ (x : Desked). NotesAfter c.me-me.result c.in-Asked.ask (Ok x) c.args.notes.now c.act.new.notes) c.in-Done.is c.in_ok-answer-in-Asked.ensures.notes)
