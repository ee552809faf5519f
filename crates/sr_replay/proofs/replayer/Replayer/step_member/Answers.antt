use Rattle.std.proofs.Common.{◌≡◌, ◌∙◌, [], Some, refl, subst, sym}
use Rattle.sr_actor.specs.Crew.{member_of}
use Rattle.sr_actor.specs.declared.member.Member.{Member}
use Rattle.sr_ask.specs.declared.ask.Asks.TheVariants.{Asked, OverTicks}
use Rattle.sr_ask.specs.declared.item.Item.TheVariants.{Step}
use Rattle.sr_replay.specs.declared.replayer.Replayer.{Replayer}
use Rattle.sr_replay.proofs.BeginLemmas.{some-member, started-with}
use Rattle.sr_replay.proofs.StepLemmas.{follows-none, looked-asks, named-where, over-step, step-follows, step-names}
use Rattle.sr_replay.specs.Naming.{named_at}
use Rattle.sr_replay.specs.Replaying.{Follows}
use Rattle.sr_world.specs.Runs.{next}
use Rattle.sr_world.specs.Worlds.{started}
use Rattle.sr_replay.proofs.replayer.Replayer.step_member.Goals as goal

pub returns-in_ok-acted-in-Asked-clause-follows : goal.returns-in_ok-acted-in-Asked-clause-follows
returns-in_ok-acted-in-Asked-clause-follows g c = λ limit state lives at.
    let after = g.A.Actor.asks_after c.args.program.now in
    let core = g.A.Actor.core_of c.args.program.now in
    let old = c.args.self.now in
    let m = c.in-Some.member.now in
    let m' = c.look.new.self in
    let m'' = c.hear-legal.new.member in
    let lent = λ (x : Member _). record old { crew = c.get_mut.follows.lender x } in
    let carried : Replayer _ = record old { world = c.carry_out.new.world; names = c.carry_out.new.names } in
    let start = started-with (started state.world c.args.actor) lives in
    let here : Some m ≡ member_of old.crew c.args.actor = c.in-Some.ensures.value in
    let known : Asked c.in-Asked.ask ≡ after m'.actor [] = cc (c.in-Asked.is, c.asked.ensures c.args.program.now) in
    let new : Replayer _ = record carried { crew = (lent m'').crew; ending = c.hear-legal.new.ending } in
    subst (λ b. Follows after core limit (next core limit state (Step c.args.actor c.args.name)) b new) (sym c.where_legal.ensures.legal)
    (step-follows after core limit g.A.Actor.can_feed state old carried at.1 lent c.args.actor start.0 start.1 m m' here c.in_ok-look-in-Some.ensures.same (λ x. c.get_mut.follows.holds x)
    at.1.ticks c.args.name c.in-Asked.ask known c.in_ok-look-in-Some.ensures.asked c.in_ok-acted-in-Asked.ensures.notes m'' c.hear-legal.new.ending c.hear-legal.result
    c.core-core.result.now c.core-core.ensures c.in_ok-acted-in-Asked.acted c.in_ok-acted-in-Asked.ensures.carries at.0 (c.hear-legal.ensures c.args.program.now))

pub returns-in_ok-acted-in-Asked-clause-named : goal.returns-in_ok-acted-in-Asked-clause-named
returns-in_ok-acted-in-Asked-clause-named g c = λ limit state lives at.
    let after = g.A.Actor.asks_after c.args.program.now in
    let core = g.A.Actor.core_of c.args.program.now in
    let old = c.args.self.now in
    let m = c.in-Some.member.now in
    let m' = c.look.new.self in
    let m'' = c.hear-legal.new.member in
    let lent = λ (x : Member _). record old { crew = c.get_mut.follows.lender x } in
    let carried : Replayer _ = record old { world = c.carry_out.new.world; names = c.carry_out.new.names } in
    let start = started-with (started state.world c.args.actor) lives in
    let here : Some m ≡ member_of old.crew c.args.actor = c.in-Some.ensures.value in
    let known : Asked c.in-Asked.ask ≡ after m'.actor [] = cc (c.in-Asked.is, c.asked.ensures c.args.program.now) in
    named-where c.where_legal.result c.hear-legal.result c.number_of-number.result (named_at core limit state (Step c.args.actor c.args.name)) c.where_legal.ensures.legal c.where_legal.ensures.number
    (λ is. c.number_of-number.ensures ∙ step-names after core limit g.A.Actor.can_feed state old carried at.1 lent c.args.actor start.0 start.1 m m' here c.in_ok-look-in-Some.ensures.same
    (λ x. c.get_mut.follows.holds x) at.1.ticks c.args.name c.in-Asked.ask known c.in_ok-look-in-Some.ensures.asked c.in_ok-acted-in-Asked.ensures.notes m'' c.hear-legal.new.ending c.hear-legal.result
    c.core-core.result.now c.core-core.ensures c.in_ok-acted-in-Asked.acted c.in_ok-acted-in-Asked.ensures.carries old.ending c.hear-legal.new.ending (c.hear-legal.ensures c.args.program.now) is)

pub returns-in-OverTicks-clause-follows : goal.returns-in-OverTicks-clause-follows
returns-in-OverTicks-clause-follows g c = λ limit state lives at.
    let after = g.A.Actor.asks_after c.args.program.now in
    let core = g.A.Actor.core_of c.args.program.now in
    let old = c.args.self.now in
    let m = c.in-Some.member.now in
    let m' = c.look.new.self in
    let lent = λ (x : Member _). record old { crew = c.get_mut.follows.lender x } in
    let start = started-with (started state.world c.args.actor) lives in
    let here : Some m ≡ member_of old.crew c.args.actor = c.in-Some.ensures.value in
    let known : OverTicks ≡ after m'.actor [] = cc (c.in-OverTicks.is, c.asked.ensures c.args.program.now) in
    follows-none after core limit (next core limit state (Step c.args.actor c.args.name)) _ (lent m')
    (over-step after core limit state c.args.actor c.args.name start.0 start.1
    (looked-asks after core limit g.A.Actor.can_feed state old old at.1 lent c.args.actor start.0 start.1 m m' here c.in_ok-look-in-Some.ensures.same (λ x. c.get_mut.follows.holds x) OverTicks known))
    refl

pub returns-in-None-clause-follows : goal.returns-in-None-clause-follows
returns-in-None-clause-follows g c = absurd (some-member (member_of c.args.self.now.crew c.args.actor) c.in-None.ensures.value c.requires)
