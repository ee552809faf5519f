use Rattle.std.proofs.Common.{◌∙◌}
use Rattle.std.proofs.lemmas.Result.{err_from_is_err_and}
use Rattle.sr_plain.proofs.MemberLemmas.{steps_err}
use Rattle.sr_plain.specs.Engine.{last_in}
use Rattle.sr_plain.specs.Turns.{turn}
use Rattle.sr_plain.proofs.plain.Plain.step.Goals as goal

pub returns-in_err-wake_up : goal.returns-in_err-wake_up
returns-in_err-wake_up g c = λ limit state events engine.
    let core = g.A.Actor.core_of c.args.program.now in
    let failed = err_from_is_err_and c.from_residual.result c.from_residual.ensures.1 in
    steps_err (g.A.Actor.asks_after c.args.program.now) g.A.Actor.can_feed core limit state events (turn core limit state (last_in events)) c.from_residual.result failed.0 c.wake_up.new.self failed.1
    (c.wake_up.ensures.world ∙ engine.world)

pub returns-in_err-settle : goal.returns-in_err-settle
returns-in_err-settle g c = λ limit state events engine.
    let core = g.A.Actor.core_of c.args.program.now in
    let failed = err_from_is_err_and c.from_residual-in_err-settle.result c.from_residual-in_err-settle.ensures.1 in
    steps_err (g.A.Actor.asks_after c.args.program.now) g.A.Actor.can_feed core limit state events (turn core limit state (last_in events)) c.from_residual-in_err-settle.result failed.0 c.settle.new.self failed.1
    (c.settle.ensures.world ∙ c.wake_up.ensures.world ∙ engine.world)

pub returns : goal.returns
returns g c = λ limit state events engine.
    c.take_turn.ensures limit state events (c.in_ok-settle.ensures.engine limit state events (c.in_ok-wake_up.ensures.engine c.args.program.now limit state events engine))
