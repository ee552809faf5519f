use Rattle.std.proofs.Common.{◌≡◌, ◌∙◌, Some, ap, sym}
use Rattle.sr_actor.specs.Crew.{member_of}
use Rattle.sr_actor.specs.declared.member.Member.{Member}
use Rattle.sr_replay.proofs.BeginLemmas.{some-member, started-with}
use Rattle.sr_replay.proofs.CrewLemmas.{if_ok, on_any}
use Rattle.sr_replay.proofs.StepLemmas.{looked-asks, looked-stands}
use Rattle.sr_replay.specs.Naming.{ask_of, asked_from}
use Rattle.sr_world.specs.Worlds.{started}
use Rattle.sr_replay.proofs.replayer.Replayer.asked_member.Goals as goal

pub returns-in_ok-look-in-Some-clause-asks : goal.returns-in_ok-look-in-Some-clause-asks
returns-in_ok-look-in-Some-clause-asks g c = λ limit state lives stands.
    let after = g.A.Actor.asks_after c.args.program.now in
    let core = g.A.Actor.core_of c.args.program.now in
    let old = c.args.self.now in
    let m = c.in-Some.member.now in
    let m' = c.look.new.self in
    let lent = λ (x : Member _). record old { crew = c.get_mut.follows.lender x } in
    let start = started-with (started state.world c.args.process) lives in
    let here : Some m ≡ member_of old.crew c.args.process = c.in-Some.ensures.value in
    let meant = looked-asks after core limit g.A.Actor.can_feed state old old stands lent c.args.process start.0 start.1 m m' here c.in_ok-look-in-Some.ensures.same (λ x. c.get_mut.follows.holds x)
    c.asked.result.now (c.asked.ensures c.args.program.now) in
    if_ok c.copied_ask.result (λ asked is. is ∙ ap ask_of meant ∙ sym (ap (asked_from core limit state) start.1)) c.copied_ask.ensures

pub returns-in_ok-look-in-Some-clause-stands : goal.returns-in_ok-look-in-Some-clause-stands
returns-in_ok-look-in-Some-clause-stands g c = on_any c.copied_ask.result (λ limit state lives stands.
    let after = g.A.Actor.asks_after c.args.program.now in
    let core = g.A.Actor.core_of c.args.program.now in
    let old = c.args.self.now in
    let lent = λ (x : Member _). record old { crew = c.get_mut.follows.lender x } in
    let start = started-with (started state.world c.args.process) lives in
    looked-stands after core limit g.A.Actor.can_feed state old old stands lent c.args.process start.0 start.1 c.in-Some.member.now c.look.new.self c.in-Some.ensures.value c.in_ok-look-in-Some.ensures.same
    (λ x. c.get_mut.follows.holds x))

pub returns-in-None-clause-asks : goal.returns-in-None-clause-asks
returns-in-None-clause-asks g c = absurd (some-member (member_of c.args.self.now.crew c.args.process) c.in-None.ensures.value c.requires)
