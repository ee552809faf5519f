use Rattle.std.proofs.Common.{ℕ, None, Option, Some, subst}
use Rattle.std.proofs.lemmas.Result.{err_from_is_err_and}
use Rattle.sr_world.specs.Worlds.{started}
use Rattle.sr_plain.specs.Engine.{last_in}
use Rattle.sr_plain.specs.Turns.{turn, turn_of}
use Rattle.sr_plain.specs.Waiting.{IsNext}
use Rattle.sr_plain.proofs.MemberLemmas.{if_none, nobody_can, nobody_ready, promoted_engine, ready_steps, steps_err, tries_as}
use Rattle.sr_plain.proofs.plain.Plain.take_turn.Goals as goal

pub promote-requires : goal.promote-requires
promote-requires g c = (subst (λ (o : Option ℕ). IsNext c.loop-process.self.waiters c.loop-process.self.last o) c.in-Some.is c.next_after.ensures).goes

pub returns-in_err-promote : goal.returns-in_err-promote
returns-in_err-promote g c = λ limit state events engine.
    let core = g.A.Actor.core_of c.args.program.now in
    let now = c.loop-process.invariant.1 limit state events engine in
    let failed = err_from_is_err_and c.from_residual.result c.from_residual.ensures.1 in
    steps_err (g.A.Actor.asks_after c.args.program.now) g.A.Actor.can_feed core limit state events (turn core limit state (last_in events)) c.from_residual.result failed.0 (record c.loop-process.self { waiters = c.promote.new.self }) failed.1 now.world

pub try_ready-requires-clause-ready : goal.try_ready-requires-clause-ready
try_ready-requires-clause-ready g c = c.in_ok-promote.ensures.ready

pub returns-in_err-plainly : goal.returns-in_err-plainly
returns-in_err-plainly g c = λ limit state events engine.
    let core = g.A.Actor.core_of c.args.program.now in
    let now = c.loop-process.invariant.1 limit state events engine in
    let asked = promoted_engine (g.A.Actor.asks_after c.args.program.now) g.A.Actor.can_feed core limit state events c.loop-process.self now c.loop-process.invariant.0 c.in-Some.process c.promote.new.self c.in_ok-promote.ensures in
    let failed = err_from_is_err_and c.from_residual-in_err-plainly.result c.from_residual-in_err-plainly.ensures.1 in
    steps_err (g.A.Actor.asks_after c.args.program.now) g.A.Actor.can_feed core limit state events (turn core limit state (last_in events)) c.from_residual-in_err-plainly.result failed.0 c.try_ready.new.self failed.1
    (c.in_err-plainly.ensures.tries limit state events asked)

pub returns-in-Some-2 : goal.returns-in-Some-2
returns-in-Some-2 g c = λ limit state events engine.
    let after = g.A.Actor.asks_after c.args.program.now in
    let core = g.A.Actor.core_of c.args.program.now in
    let now = c.loop-process.invariant.1 limit state events engine in
    let asked = promoted_engine (g.A.Actor.asks_after c.args.program.now) g.A.Actor.can_feed core limit state events c.loop-process.self now c.loop-process.invariant.0 c.in-Some.process c.promote.new.self c.in_ok-promote.ensures in
    let next = subst (λ (o : Option ℕ). IsNext c.loop-process.self.waiters c.loop-process.self.last o) c.in-Some.is c.next_after.ensures in
    ready_steps after g.A.Actor.can_feed core limit state events c.loop-process.self now c.loop-process.invariant.0 c.in-Some.process c.in-Some-2.plainly c.try_ready.new.self next
    (tries_as after g.A.Actor.can_feed core limit state events (turn_of core limit state (started state.world c.in-Some.process)) c.in_ok-plainly.field-0 (Some c.in-Some-2.plainly) c.try_ready.new.self c.in-Some-2.is
    (c.in_ok-plainly.ensures.tries limit state events asked))

pub loop-process-preserved : goal.loop-process-preserved
loop-process-preserved g c = (
  if_none c.in_ok-plainly.field-0 c.in_default-2.is c.in_ok-plainly.ensures.awake,
  λ limit state events engine.
      let after = g.A.Actor.asks_after c.args.program.now in
      let core = g.A.Actor.core_of c.args.program.now in
      let now = c.loop-process.invariant.1 limit state events engine in
      let asked = promoted_engine (g.A.Actor.asks_after c.args.program.now) g.A.Actor.can_feed core limit state events c.loop-process.self now c.loop-process.invariant.0 c.in-Some.process c.promote.new.self c.in_ok-promote.ensures in
      (tries_as after g.A.Actor.can_feed core limit state events (turn_of core limit state (started state.world c.in-Some.process)) c.in_ok-plainly.field-0 None c.try_ready.new.self c.in_default-2.is
      (c.in_ok-plainly.ensures.tries limit state events asked)).1,
)

pub returns : goal.returns
returns g c = λ limit state events engine.
    let after = g.A.Actor.asks_after c.args.program.now in
    let core = g.A.Actor.core_of c.args.program.now in
    let now = c.loop-process.invariant.1 limit state events engine in
    let nobody = subst (λ (o : Option ℕ). IsNext c.loop-process.self.waiters c.loop-process.self.last o) c.in_default.is c.next_after.ensures in
    nobody_ready after g.A.Actor.can_feed core limit state events c.loop-process.self now c.loop-process.invariant.0 nobody c.come_to_rest.result c.come_to_rest.new.self
    (c.come_to_rest.ensures limit state events now (nobody_can after g.A.Actor.can_feed core limit state events c.loop-process.self now c.loop-process.invariant.0 nobody))
