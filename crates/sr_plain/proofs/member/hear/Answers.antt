use Rattle.std.proofs.Common.{Some, refl, subst, sym}
use Rattle.sr_ask.specs.declared.item.Item.TheVariants.{Step}
use Rattle.sr_world.specs.declared.acted.Acted.{Acted}
use Rattle.sr_plain.specs.Answering.{AnsweredBy}
use Rattle.sr_plain.specs.declared.plainly.Plainly.TheVariants.{Stepped}
use Rattle.sr_plain.proofs.member.hear.Goals as goal

pub returns-in-Done-clause-answered : goal.returns-in-Done-clause-answered
returns-in-Done-clause-answered g c = λ program.
    let name = c.args.carried.name in
    subst
    (λ (a : Acted). AnsweredBy (g.A.Actor.asks_after program) g.A.Actor.can_feed c.args.actor name c.args.carried.output a c.args.member.now c.answer.new.self c.args.last.now c.args.actor (Some (Stepped (Step c.args.actor name) c.args.carried.output)))
    (sym c.in-Done.is) (c.answer.ensures program, refl, refl)
