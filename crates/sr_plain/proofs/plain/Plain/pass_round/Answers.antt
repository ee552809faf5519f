use Rattle.std.proofs.Common.{◌≤◌, ap, subst, sym, arith, length, List}
use Rattle.std.specs.List.{AllByRecursion}
use Rattle.sr_ask.specs.declared.item.Item.{Item}
use Rattle.sr_classes.specs.Classes.{class_of}
use Rattle.sr_world.specs.Names.{IsGreatest}
use Rattle.sr_world.specs.Worlds.{World}
use Rattle.sr_plain.specs.Passing.{FitsItem}
use Rattle.sr_plain.proofs.PassLemmas.{ok_both, round-passed}
use Rattle.sr_plain.proofs.SettleLemmas.{ok_then}
use Rattle.sr_plain.proofs.plain.Plain.pass_round.Goals as goal

pub returns-clause-passed : goal.returns-clause-passed
returns-clause-passed g c = ok_both c.pass_over-2.result c.pass_over-2.ensures.over c.pass_over-2.ensures.within (λ over within limit state events engine.
    let after = g.A.Actor.asks_after c.args.program.now in
    let core = g.A.Actor.core_of c.args.program.now in
    let class = class_of c.args.classes.now.of in
    let engine1 = c.in_ok-note_step.ensures.engine limit state events engine in
    let greatest = c.greatest_used-greatest.result in
    let is_greatest = subst (λ (w : World). IsGreatest w.used greatest) engine.world c.greatest_used-greatest.ensures in
    let short : length c.args.made.now ≤ c.args.room = omega (arith, ap (λ (is : List Item). length is) c.requires) in
    round-passed after g.A.Actor.can_feed core class limit state events c.note_step.new.self engine1 c.args.room greatest c.args.self.now.last is_greatest engine.last
    c.args.made.now c.pass_over.new.made c.pass_over-2.new.made c.requires c.pass_over.new.self c.pass_over-2.new.self
    (λ passing. c.in_ok-pass_over.ensures.over limit state events greatest (omega arith) passing)
    (λ below passing. over limit state events greatest below passing)
    (within (c.in_ok-pass_over.ensures.within short)))

pub returns-clause-within : goal.returns-clause-within
returns-clause-within g c = ok_then c.pass_over-2.result c.pass_over-2.ensures.within (λ within.
    let short : length c.args.made.now ≤ c.args.room = omega (arith, ap (λ (is : List Item). length is) c.requires) in
    within (c.in_ok-pass_over.ensures.within short))

pub returns-clause-fit : goal.returns-clause-fit
returns-clause-fit g c = ok_then c.pass_over-2.result c.pass_over-2.ensures.fit (λ fit.
    fit (c.in_ok-pass_over.ensures.fit (subst (AllByRecursion FitsItem) (sym c.requires) tt)))
