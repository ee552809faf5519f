use Rattle.std.proofs.Common.{refl, subst, sym, true}
use Rattle.sr_replay.specs.Carrying.{Hears}
use Rattle.sr_world.specs.declared.acted.Acted.{Acted}
use Rattle.sr_replay.proofs.carrying.hear.Goals as goal

pub returns-in-Done : goal.returns-in-Done
returns-in-Done g c = λ program.
    subst (λ (a : Acted). Hears (g.A.Actor.asks_after program) g.A.Actor.can_feed a c.args.member.now c.answer.new.self c.args.ending.now c.args.ending.now true) (sym c.in-Done.is)
    (c.answer.ensures program, refl, refl)
