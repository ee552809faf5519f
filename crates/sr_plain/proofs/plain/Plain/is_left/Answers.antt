use Rattle.std.proofs.Common.{◌≡◌, ◌∙◌, subst, sym}
use Rattle.sr_classes.specs.Classes.{class_of}
use Rattle.sr_world.specs.Worlds.{started}
use Rattle.sr_plain.specs.Engine.{IsEngine}
use Rattle.sr_plain.specs.Passing.{is_left}
use Rattle.sr_plain.specs.declared.plain.Plain.{Plain}
use Rattle.sr_plain.proofs.MemberLemmas.{if_none}
use Rattle.sr_plain.proofs.PassLemmas.{ok_as, some_is}
use Rattle.sr_plain.proofs.SettleLemmas.{ok_then}
use Rattle.sr_plain.proofs.plain.Plain.is_left.Goals as goal

pub returns-in-Some-clause-left : goal.returns-in-Some-clause-left
returns-in-Some-clause-left g c = λ limit state events engine.
    let core = g.A.Actor.core_of c.args.program.now in
    some_is c.in_ok-known.known c.in-Some.left (λ is. is ≡ is_left core (class_of c.args.classes.now.of) limit state (started state.world c.args.process)) c.in-Some.is
    (c.in_ok-known.ensures.left limit state events engine)

pub returns-in-None-clause-left : goal.returns-in-None-clause-left
returns-in-None-clause-left g c =
    let same = (if_none c.in_ok-known.known c.in-None.is c.in_ok-known.ensures.unbegun).0 in
    ok_as c.begins_left.result (λ left h limit state events engine.
    h limit state events (subst (λ (p : Plain _). IsEngine (g.A.Actor.asks_after c.args.program.now) g.A.Actor.can_feed (g.A.Actor.core_of c.args.program.now) limit state events p) (sym same) engine))
    c.begins_left.ensures.left

pub returns-in-None-clause-engine : goal.returns-in-None-clause-engine
returns-in-None-clause-engine g c =
    let same = (if_none c.in_ok-known.known c.in-None.is c.in_ok-known.ensures.unbegun).0 in
    ok_then c.begins_left.result c.begins_left.ensures.engine (λ h limit state events engine.
    h limit state events (subst (λ (p : Plain _). IsEngine (g.A.Actor.asks_after c.args.program.now) g.A.Actor.can_feed (g.A.Actor.core_of c.args.program.now) limit state events p) (sym same) engine))

pub returns-in-None-clause-waiters : goal.returns-in-None-clause-waiters
returns-in-None-clause-waiters g c = c.begins_left.ensures.waiters ∙ c.member_is_left.ensures.waiters

pub returns-in-None-clause-woken : goal.returns-in-None-clause-woken
returns-in-None-clause-woken g c = c.begins_left.ensures.woken ∙ c.member_is_left.ensures.woken

pub begins_left-requires : goal.begins_left-requires
begins_left-requires g c = c.member_is_left.ensures.woken ∙ c.requires
