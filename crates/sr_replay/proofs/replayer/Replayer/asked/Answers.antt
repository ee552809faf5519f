use Rattle.std.proofs.Common.{◌≡◌, ◌∙◌, None, ap, is_some, sym}
use Rattle.sr_actor.proofs.CrewLemmas.{absent-here}
use Rattle.sr_replay.proofs.CrewLemmas.{on_ok}
use Rattle.sr_replay.specs.Naming.{asked_from}
use Rattle.sr_world.specs.Worlds.{World, started}
use Rattle.sr_replay.proofs.replayer.Replayer.asked.Goals as goal

pub returns-then-not-lives-clause-asks : goal.returns-then-not-lives-clause-asks
returns-then-not-lives-clause-asks g c = λ limit state stands.
    let core = g.A.Actor.core_of c.args.program.now in
    let none : started c.args.self.now.world c.args.process ≡ None = absent-here (started c.args.self.now.world c.args.process) (sym c.in_ok-lives.ensures.lives ∙ c.if-not-lives.true) in
    let gone : started state.world c.args.process ≡ None = ap (λ (w : World). started w c.args.process) (sym stands.world) ∙ none in
    sym (ap (asked_from core limit state) gone)

pub returns-then-not-lives-clause-stands : goal.returns-then-not-lives-clause-stands
returns-then-not-lives-clause-stands g c = λ limit state stands. c.in_ok-lives.ensures.stands c.args.program.now limit state stands

pub asked_member-requires : goal.asked_member-requires
asked_member-requires g c = c.in_ok-lives.ensures.begun c.if-not-lives.false

pub returns-clause-asks : goal.returns-clause-asks
returns-clause-asks g c = λ limit state stands.
    c.asked_member.ensures.asks limit state (ap (λ (w : World). is_some (started w c.args.process)) (sym stands.world) ∙ sym c.in_ok-lives.ensures.lives ∙ c.if-not-lives.false)
    (c.in_ok-lives.ensures.stands c.args.program.now limit state stands)

pub returns-clause-stands : goal.returns-clause-stands
returns-clause-stands g c =
    on_ok c.asked_member.result
    (λ then_stands limit state stands.
    then_stands limit state (ap (λ (w : World). is_some (started w c.args.process)) (sym stands.world) ∙ sym c.in_ok-lives.ensures.lives ∙ c.if-not-lives.false) (c.in_ok-lives.ensures.stands c.args.program.now limit state stands))
    c.asked_member.ensures.stands
