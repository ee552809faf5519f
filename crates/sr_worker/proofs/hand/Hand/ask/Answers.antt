use Rattle.std.proofs.Common.{refl, slice_set}
use Rattle.sr_worker.specs.declared.hand.Hand.{Hand}
use Rattle.sr_worker.proofs.Turns.{turn-turn, turn-works}
use Rattle.sr_worker.proofs.hand.Hand.ask.Goals as goal

pub returns-clause-works : goal.returns-clause-works
returns-clause-works g c =
    let new : Hand g.row.A.Denot = record { notes = c.ask.new.notes; players = slice_set c.args.self.now.players c.args.place c.ask.new.self } in
    turn-works (g.A.Actor.asks_after c.args.program.now) (g.D.Desk.declines c.args.desk.now) c.args.place c.args.self.now new c.at_mut-player.result.now c.ask.new.self c.args.seat.now c.ask.new.seat c.at_mut-player.ensures.value refl
    c.ask.result c.ask.ensures.turn

pub returns-clause-turn : goal.returns-clause-turn
returns-clause-turn g c =
    let new : Hand g.row.A.Denot = record { notes = c.ask.new.notes; players = slice_set c.args.self.now.players c.args.place c.ask.new.self } in
    turn-turn (g.A.Actor.asks_after c.args.program.now) (g.D.Desk.declines c.args.desk.now) c.args.place c.args.self.now new c.at_mut-player.result.now c.ask.new.self c.args.seat.now c.ask.new.seat c.at_mut-player.ensures.value refl
    c.ask.result c.ask.ensures.turn
