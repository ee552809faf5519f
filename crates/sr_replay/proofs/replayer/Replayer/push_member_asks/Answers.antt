use Rattle.std.proofs.Common.{◌≡◌, ◌∙◌, ◌++◌, [], ◌∷◌, Some, ap, ap₂, sym}
use Rattle.sr_actor.specs.Crew.{member_of}
use Rattle.sr_actor.specs.declared.member.Member.{Member}
use Rattle.sr_replay.proofs.BeginLemmas.{some-member, started-with}
use Rattle.sr_replay.proofs.CrewLemmas.{on_any, on_ok}
use Rattle.sr_replay.proofs.StepLemmas.{found-number, looked-asks, looked-stands}
use Rattle.sr_replay.specs.Replaying.{asked_by}
use Rattle.sr_world.specs.Worlds.{started}
use Rattle.sr_replay.proofs.replayer.Replayer.push_member_asks.Goals as goal

pub returns-in_ok-copied-in-Some-clause-asks : goal.returns-in_ok-copied-in-Some-clause-asks
returns-in_ok-copied-in-Some-clause-asks g c = on_ok c.push.result (λ pushed limit state lives stands.
    let after = g.A.Actor.asks_after c.args.program.now in
    let core = g.A.Actor.core_of c.args.program.now in
    let old = c.args.self.now in
    let m = c.in-Some.member.now in
    let m' = c.look.new.self in
    let lent = λ (x : Member _). record old { crew = c.get_mut.follows.lender x } in
    let start = started-with (started state.world c.args.process) lives in
    let here : Some m ≡ member_of old.crew c.args.process = c.in-Some.ensures.value in
    let meant = c.in_ok-copied-in-Some.ensures ∙ looked-asks after core limit g.A.Actor.can_feed state old old stands lent c.args.process start.0 start.1 m m' here c.in_ok-look-in-Some.ensures.same (λ x. c.get_mut.follows.holds x)
    c.asked.result.now (c.asked.ensures c.args.program.now) in
    pushed ∙ ap₂ (λ p a. c.args.asks.now ++ (p, a) ∷ []) (found-number state.world.live c.args.process start.0 start.1) meant ∙ sym (ap (λ o. c.args.asks.now ++ asked_by core limit state o) start.1)) c.push.ensures.ok

pub returns-in_ok-copied-in-Some-clause-stands : goal.returns-in_ok-copied-in-Some-clause-stands
returns-in_ok-copied-in-Some-clause-stands g c = on_any c.push.result (λ limit state lives stands.
    let after = g.A.Actor.asks_after c.args.program.now in
    let core = g.A.Actor.core_of c.args.program.now in
    let old = c.args.self.now in
    let lent = λ (x : Member _). record old { crew = c.get_mut.follows.lender x } in
    let start = started-with (started state.world c.args.process) lives in
    looked-stands after core limit g.A.Actor.can_feed state old old stands lent c.args.process start.0 start.1 c.in-Some.member.now c.look.new.self c.in-Some.ensures.value c.in_ok-look-in-Some.ensures.same
    (λ x. c.get_mut.follows.holds x))

pub returns-in-None-clause-asks : goal.returns-in-None-clause-asks
returns-in-None-clause-asks g c = absurd (some-member (member_of c.args.self.now.crew c.args.process) c.in-None.ensures.value c.requires)
