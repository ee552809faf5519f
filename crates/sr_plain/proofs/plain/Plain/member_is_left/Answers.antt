use Rattle.std.proofs.Common.{◌≡◌, ◌∙◌, [], ap, subst, Some, true, refl}
use Rattle.sr_ask.specs.declared.ask.Ask.{Ask}
use Rattle.sr_ask.specs.declared.ask.Asks.TheVariants.{Asked, OverTicks}
use Rattle.sr_classes.specs.Classes.{class_of}
use Rattle.sr_core.specs.declared.component.Core.{Core}
use Rattle.sr_core.specs.declared.owner.Me.{Me}
use Rattle.sr_touch.specs.Touched.{is_wide}
use Rattle.sr_plain.specs.Crew.{member_of}
use Rattle.sr_plain.specs.declared.plain.Plain.{Plain}
use Rattle.sr_plain.proofs.CrewLemmas.{written-itself}
use Rattle.sr_plain.proofs.MemberLemmas.{begun_lives, looked_member}
use Rattle.sr_plain.proofs.PassLemmas.{left-by}
use Rattle.sr_plain.proofs.TurnLemmas.{kept-is}
use Rattle.sr_plain.proofs.plain.Plain.member_is_left.Goals as goal

pub returns-in-Asked-clause-left : goal.returns-in-Asked-clause-left
returns-in-Asked-clause-left g c = λ limit state events engine.
    let after = g.A.Actor.asks_after c.args.program.now in
    let core = g.A.Actor.core_of c.args.program.now in
    let class = class_of c.args.classes.now.of in
    let old = c.args.self.now in
    let process = c.args.process in
    let m = c.in-Some.member.now in
    let me : Me = record { process = process; instance = m.instance } in
    let m' = c.look.new.self in
    let asks : Ask = c.in-Asked.ask in
    let looked : Plain _ = record old { crew = c.get_mut.follows.lender m' } in
    let here : Some m ≡ member_of old.crew process = c.in-Some.ensures.value in
    let known : Asked asks ≡ after m'.actor [] = cc (c.in-Asked.is, c.asked.ensures c.args.program.now) in
    let begun = begun_lives after g.A.Actor.can_feed core limit state events old engine c.requires process m here in
    let engine1 = looked_member after g.A.Actor.can_feed core limit state events old looked engine begun.start begun.lives process begun.process_is m m' here (c.get_mut.follows.holds m') c.in_ok-look-in-Some.ensures.same in
    let there : member_of looked.crew begun.start.process ≡ Some m' = subst (λ q. member_of looked.crew q ≡ Some m') begun.process_is (written-itself process old.crew looked.crew m m' here (c.get_mut.follows.holds m')) in
    let asked = kept-is after g.A.Actor.can_feed core limit state events begun.start looked.crew m' engine1.stands begun.lives there (Asked asks) known in
    let wide = c.is_wide.ensures ∙ ap (λ (k : Core). is_wide k class me asks) c.core.ensures ∙ ap (λ (x : Me). is_wide core class x asks) begun.me_is in
    left-by after g.A.Actor.can_feed core class limit state events process begun.start begun.found (Asked asks) asked c.is_wide.result wide

pub returns-in-Asked-clause-engine : goal.returns-in-Asked-clause-engine
returns-in-Asked-clause-engine g c = λ limit state events engine.
    let after = g.A.Actor.asks_after c.args.program.now in
    let core = g.A.Actor.core_of c.args.program.now in
    let old = c.args.self.now in
    let process = c.args.process in
    let m = c.in-Some.member.now in
    let m' = c.look.new.self in
    let looked : Plain _ = record old { crew = c.get_mut.follows.lender m' } in
    let here : Some m ≡ member_of old.crew process = c.in-Some.ensures.value in
    let begun = begun_lives after g.A.Actor.can_feed core limit state events old engine c.requires process m here in
    looked_member after g.A.Actor.can_feed core limit state events old looked engine begun.start begun.lives process begun.process_is m m' here (c.get_mut.follows.holds m') c.in_ok-look-in-Some.ensures.same

pub returns-in-OverTicks-clause-left : goal.returns-in-OverTicks-clause-left
returns-in-OverTicks-clause-left g c = λ limit state events engine.
    let after = g.A.Actor.asks_after c.args.program.now in
    let core = g.A.Actor.core_of c.args.program.now in
    let class = class_of c.args.classes.now.of in
    let old = c.args.self.now in
    let process = c.args.process in
    let m = c.in-Some.member.now in
    let m' = c.look.new.self in
    let looked : Plain _ = record old { crew = c.get_mut.follows.lender m' } in
    let here : Some m ≡ member_of old.crew process = c.in-Some.ensures.value in
    let known : OverTicks ≡ after m'.actor [] = cc (c.in-OverTicks.is, c.asked.ensures c.args.program.now) in
    let begun = begun_lives after g.A.Actor.can_feed core limit state events old engine c.requires process m here in
    let engine1 = looked_member after g.A.Actor.can_feed core limit state events old looked engine begun.start begun.lives process begun.process_is m m' here (c.get_mut.follows.holds m') c.in_ok-look-in-Some.ensures.same in
    let there : member_of looked.crew begun.start.process ≡ Some m' = subst (λ q. member_of looked.crew q ≡ Some m') begun.process_is (written-itself process old.crew looked.crew m m' here (c.get_mut.follows.holds m')) in
    let asked = kept-is after g.A.Actor.can_feed core limit state events begun.start looked.crew m' engine1.stands begun.lives there OverTicks known in
    left-by after g.A.Actor.can_feed core class limit state events process begun.start begun.found OverTicks asked true refl

pub returns-in-OverTicks-clause-engine : goal.returns-in-OverTicks-clause-engine
returns-in-OverTicks-clause-engine g c = λ limit state events engine.
    let after = g.A.Actor.asks_after c.args.program.now in
    let core = g.A.Actor.core_of c.args.program.now in
    let old = c.args.self.now in
    let process = c.args.process in
    let m = c.in-Some.member.now in
    let m' = c.look.new.self in
    let looked : Plain _ = record old { crew = c.get_mut.follows.lender m' } in
    let here : Some m ≡ member_of old.crew process = c.in-Some.ensures.value in
    let begun = begun_lives after g.A.Actor.can_feed core limit state events old engine c.requires process m here in
    looked_member after g.A.Actor.can_feed core limit state events old looked engine begun.start begun.lives process begun.process_is m m' here (c.get_mut.follows.holds m') c.in_ok-look-in-Some.ensures.same
