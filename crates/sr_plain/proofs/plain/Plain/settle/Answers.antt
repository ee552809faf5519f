use Rattle.std.proofs.Common.{◌≡◌, [], subst, ℕ, Some}
use Rattle.sr_ask.specs.declared.ask.Ask.{Ask}
use Rattle.sr_ask.specs.declared.ask.Asks.TheVariants.{Asked}
use Rattle.sr_core.specs.declared.component.Core.{Core}
use Rattle.sr_core.specs.declared.owner.Me.{Me}
use Rattle.sr_plain.specs.Crew.{member_of}
use Rattle.sr_plain.specs.Noting.{MaySetAside}
use Rattle.sr_plain.specs.declared.plain.Plain.{Plain}
use Rattle.sr_plain.proofs.CrewLemmas.{written-itself}
use Rattle.sr_plain.proofs.MemberLemmas.{begun_lives, looked_member}
use Rattle.sr_plain.proofs.SettleLemmas.{ok_then, settled}
use Rattle.sr_plain.proofs.plain.Plain.settle.Goals as goal

pub returns-in-Asked-clause-engine : goal.returns-in-Asked-clause-engine
returns-in-Asked-clause-engine g c = ok_then c.set_aside.result c.set_aside.ensures (λ set limit state events engine.
    let after = g.A.Actor.asks_after c.args.program.now in
    let core = g.A.Actor.core_of c.args.program.now in
    let old = c.args.self.now in
    let process : ℕ = old.last in
    let m = c.in-Some.member.now in
    let me : Me = record { process = process; instance = m.instance } in
    let m' = c.look.new.self in
    let asks : Ask = c.in-Asked.ask in
    let looked : Plain _ = record old { crew = c.get_mut.follows.lender m' } in
    let here : Some m ≡ member_of old.crew process = c.in-Some.ensures.value in
    let known : Asked asks ≡ after m'.actor [] = cc (c.in-Asked.is, c.asked.ensures c.args.program.now) in
    let begun = begun_lives after g.A.Actor.can_feed core limit state events old engine c.requires process m here in
    let engine1 = looked_member after g.A.Actor.can_feed core limit state events old looked engine begun.start begun.lives process begun.process_is m m' here (c.get_mut.follows.holds m') c.in_ok-look-in-Some.ensures.same in
    let there : member_of looked.crew begun.start.process ≡ Some m' = subst (λ q. member_of looked.crew q ≡ Some m') begun.process_is (written-itself process old.crew looked.crew m m' here (c.get_mut.follows.holds m')) in
    settled after g.A.Actor.can_feed core limit state events begun.start looked engine1 begun.lives c.requires me begun.me_is m' there asks known c.set_aside.new.waiters
    (subst (λ (k : Core). MaySetAside k old.world me asks old.waiters c.set_aside.new.waiters) c.core.ensures set))

pub returns-in-OverTicks-clause-engine : goal.returns-in-OverTicks-clause-engine
returns-in-OverTicks-clause-engine g c = λ limit state events engine.
    let after = g.A.Actor.asks_after c.args.program.now in
    let core = g.A.Actor.core_of c.args.program.now in
    let old = c.args.self.now in
    let process : ℕ = old.last in
    let m = c.in-Some.member.now in
    let m' = c.look.new.self in
    let looked : Plain _ = record old { crew = c.get_mut.follows.lender m' } in
    let here : Some m ≡ member_of old.crew process = c.in-Some.ensures.value in
    let begun = begun_lives after g.A.Actor.can_feed core limit state events old engine c.requires process m here in
    looked_member after g.A.Actor.can_feed core limit state events old looked engine begun.start begun.lives process begun.process_is m m' here (c.get_mut.follows.holds m') c.in_ok-look-in-Some.ensures.same
