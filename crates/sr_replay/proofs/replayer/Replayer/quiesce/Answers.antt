use Rattle.std.proofs.Common.{◌∙◌, refl, sym}
use Rattle.sr_ask.specs.declared.item.Item.TheVariants.{Quiesce}
use Rattle.sr_replay.proofs.RestLemmas.{no-rest}
use Rattle.sr_replay.proofs.StepLemmas.{follows-none}
use Rattle.sr_world.specs.Runs.{next}
use Rattle.sr_replay.proofs.replayer.Replayer.quiesce.Goals as goal

pub returns-then-not-blocked : goal.returns-then-not-blocked
returns-then-not-blocked g c = λ limit state at.
    let after = g.A.Actor.asks_after c.args.program.now in
    let core = g.A.Actor.core_of c.args.program.now in
    follows-none after core limit (next core limit state (Quiesce c.args.name)) _ c.none_can_step.new.self
    (no-rest after core limit state c.args.name (sym (c.in_ok-blocked.ensures.none limit state at.1) ∙ c.if-not-blocked.true)) refl

pub returns : goal.returns
returns g c = λ limit state at.
    c.come_to_rest.ensures limit state (sym (c.in_ok-blocked.ensures.none limit state at.1) ∙ c.if-not-blocked.false)
    (c.none_can_step.ensures.ending ∙ at.0, c.in_ok-blocked.ensures.stands limit state at.1)
