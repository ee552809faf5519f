use Rattle.std.proofs.Common.{◌∙◌, ap, refl}
use Rattle.sr_ask.specs.declared.item.Item.TheVariants.{Tick}
use Rattle.sr_replay.proofs.AskLemmas.{may-is}
use Rattle.sr_replay.proofs.RestLemmas.{no-tick, ticked}
use Rattle.sr_replay.proofs.StepLemmas.{follows-none}
use Rattle.sr_world.specs.Runs.{next}
use Rattle.sr_world.specs.Worlds.{World}
use Rattle.sr_replay.proofs.replayer.Replayer.tick.Goals as goal

pub returns-then-not-may : goal.returns-then-not-may
returns-then-not-may g c = λ limit state at.
    let after = g.A.Actor.asks_after c.args.program.now in
    let core = g.A.Actor.core_of c.args.program.now in
    let stands = c.in_ok-asks.ensures.stands limit state at.1 in
    follows-none after core limit (next core limit state (Tick c.args.to)) _ c.all_asks.new.self
    (no-tick after core limit state c.args.to
    (may-is core limit state c.as_slice.result.now c.moment.result c.args.to c.may_pass-may.result c.may_pass-may.ensures.may (c.as_slice.ensures ∙ c.in_ok-asks.ensures.asks limit state at.1)
    (c.moment.ensures ∙ ap (λ (w : World). w.moment) stands.world) ∙ c.if-not-may.true))
    refl

pub returns : goal.returns
returns g c = λ limit state at.
    let after = g.A.Actor.asks_after c.args.program.now in
    let core = g.A.Actor.core_of c.args.program.now in
    let stands = c.in_ok-asks.ensures.stands limit state at.1 in
    ticked after core limit state c.all_asks.new.self stands (c.all_asks.ensures.ending ∙ at.0) c.args.to
    (may-is core limit state c.as_slice.result.now c.moment.result c.args.to c.may_pass-may.result c.may_pass-may.ensures.may (c.as_slice.ensures ∙ c.in_ok-asks.ensures.asks limit state at.1)
    (c.moment.ensures ∙ ap (λ (w : World). w.moment) stands.world) ∙ c.if-not-may.false)
    c.advance.new.self c.advance.ensures
