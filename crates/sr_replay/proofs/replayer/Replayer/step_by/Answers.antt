use Rattle.std.proofs.Common.{◌≡◌, ◌∙◌, None, ap, is_some, refl, sym}
use Rattle.sr_actor.proofs.CrewLemmas.{absent-here}
use Rattle.sr_ask.specs.declared.item.Item.TheVariants.{Step}
use Rattle.sr_replay.proofs.StepLemmas.{dead-step, follows-none}
use Rattle.sr_world.specs.Runs.{next}
use Rattle.sr_world.specs.Worlds.{World, started}
use Rattle.sr_replay.proofs.replayer.Replayer.step_by.Goals as goal

pub returns-then-not-lives-clause-follows : goal.returns-then-not-lives-clause-follows
returns-then-not-lives-clause-follows g c = λ limit state at.
    let after = g.A.Actor.asks_after c.args.program.now in
    let core = g.A.Actor.core_of c.args.program.now in
    let none : started c.args.self.now.world c.args.actor ≡ None = absent-here (started c.args.self.now.world c.args.actor) (sym c.in_ok-lives.ensures.lives ∙ c.if-not-lives.true) in
    let gone : started state.world c.args.actor ≡ None = ap (λ (w : World). started w c.args.actor) (sym at.1.world) ∙ none in
    follows-none after core limit (next core limit state (Step c.args.actor c.args.name)) _ c.begin_process.new.self (dead-step after core limit state c.args.actor c.args.name gone) refl

pub step_member-requires : goal.step_member-requires
step_member-requires g c = c.in_ok-lives.ensures.begun c.if-not-lives.false

pub returns-clause-follows : goal.returns-clause-follows
returns-clause-follows g c = λ limit state at.
    c.step_member.ensures.follows limit state (ap (λ (w : World). is_some (started w c.args.actor)) (sym at.1.world) ∙ sym c.in_ok-lives.ensures.lives ∙ c.if-not-lives.false)
    (c.begin_process.ensures.ending ∙ at.0, c.in_ok-lives.ensures.stands c.args.program.now limit state at.1)

pub returns-clause-named : goal.returns-clause-named
returns-clause-named g c = λ limit state at.
    c.step_member.ensures.named limit state (ap (λ (w : World). is_some (started w c.args.actor)) (sym at.1.world) ∙ sym c.in_ok-lives.ensures.lives ∙ c.if-not-lives.false)
    (c.begin_process.ensures.ending ∙ at.0, c.in_ok-lives.ensures.stands c.args.program.now limit state at.1)
