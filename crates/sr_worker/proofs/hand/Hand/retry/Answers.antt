use Rattle.std.proofs.Common.{arith, sym, ◌∙◌}
use Rattle.sr_worker.proofs.Loops.{trying-first, trying-on, turn-waits, turn-went, unspent-passed, works-grow}
use Rattle.sr_worker.proofs.Works.{works-then}
use Rattle.sr_worker.proofs.hand.Hand.retry.Goals as goal

pub loop-init : goal.loop-init
loop-init g c = trying-first (g.A.Actor.asks_after c.args.program.now) (g.D.Desk.declines c.args.desk.now) (g.D.Desk.rests c.args.desk.now) (g.D.Desk.made c.args.desk.now) c.args.self.now c.args.seat.now c.requires.rests c.requires.idle

pub ask_busy-requires-clause-idle : goal.ask_busy-requires-clause-idle
ask_busy-requires-clause-idle g c = unspent-passed (g.A.Actor.asks_after c.args.program.now) (g.D.Desk.declines c.args.desk.now) (g.D.Desk.rests c.args.desk.now) (g.D.Desk.made c.args.desk.now) c.loop.self.notes _ c.loop.invariant.idle (sym c.is_spent.ensures ∙ c.if-is_spent.false)

pub loop-preserved : goal.loop-preserved
loop-preserved g c =
    trying-on (g.A.Actor.asks_after c.args.program.now) (g.D.Desk.declines c.args.desk.now) (g.D.Desk.rests c.args.desk.now) (g.D.Desk.made c.args.desk.now) c.args.self.now c.loop.self c.ask_busy.new.self c.args.seat.now c.loop.seat c.ask_busy.new.seat c.loop.invariant c.in_ok-went.ensures.works
    (turn-waits c.in_ok-went.went _ _ c.if-went.false c.in_ok-went.ensures.step) c.in_ok-went.ensures.rests c.in_ok-went.ensures.made

pub returns-then-went-clause-works : goal.returns-then-went-clause-works
returns-then-went-clause-works g c = works-then (g.A.Actor.asks_after c.args.program.now) c.args.self.now c.loop.self c.ask_busy.new.self c.loop.invariant.works c.in_ok-went.ensures.works

pub returns-then-went-clause-step : goal.returns-then-went-clause-step
returns-then-went-clause-step g c =
    omega (arith, works-grow (g.A.Actor.asks_after c.args.program.now) (g.D.Desk.declines c.args.desk.now) (g.D.Desk.rests c.args.desk.now) (g.D.Desk.made c.args.desk.now) c.args.self.now c.loop.self c.loop.invariant.works, turn-went c.in_ok-went.went _ _ c.if-went.true c.in_ok-went.ensures.step)

pub returns-then-went-clause-made : goal.returns-then-went-clause-made
returns-then-went-clause-made g c = λ was. c.in_ok-went.ensures.made (c.loop.invariant.same_entries was)

pub returns-in_err-went-clause-made : goal.returns-in_err-went-clause-made
returns-in_err-went-clause-made g c = λ was. c.ask_busy.ensures.made (c.loop.invariant.same_entries was)

pub returns-then-is_spent-clause-rests : goal.returns-then-is_spent-clause-rests
returns-then-is_spent-clause-rests g c = c.loop.invariant.at_rest

pub returns-then-is_spent-clause-made : goal.returns-then-is_spent-clause-made
returns-then-is_spent-clause-made g c = c.loop.invariant.same_entries

pub returns-then-is_spent-clause-works : goal.returns-then-is_spent-clause-works
returns-then-is_spent-clause-works g c = c.loop.invariant.works

pub returns-then-not-is_any_busy-clause-rests : goal.returns-then-not-is_any_busy-clause-rests
returns-then-not-is_any_busy-clause-rests g c = c.loop.invariant.at_rest

pub returns-then-not-is_any_busy-clause-made : goal.returns-then-not-is_any_busy-clause-made
returns-then-not-is_any_busy-clause-made g c = c.loop.invariant.same_entries

pub returns-then-not-is_any_busy-clause-works : goal.returns-then-not-is_any_busy-clause-works
returns-then-not-is_any_busy-clause-works g c = c.loop.invariant.works

pub returns-then-not-is_any_busy-clause-step : goal.returns-then-not-is_any_busy-clause-step
returns-then-not-is_any_busy-clause-step g c = c.loop.invariant.idle

pub returns-clause-rests : goal.returns-clause-rests
returns-clause-rests g c = c.loop.invariant.at_rest

pub returns-clause-made : goal.returns-clause-made
returns-clause-made g c = c.loop.invariant.same_entries

pub returns-clause-works : goal.returns-clause-works
returns-clause-works g c = c.loop.invariant.works

pub returns-clause-step : goal.returns-clause-step
returns-clause-step g c = c.loop.invariant.idle
