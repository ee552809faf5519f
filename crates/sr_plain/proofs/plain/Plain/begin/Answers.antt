use Rattle.std.proofs.Common.{refl}
use Rattle.sr_plain.proofs.EngineLemmas.{first_engine}
use Rattle.sr_plain.proofs.plain.Plain.begin.Goals as goal

pub returns : goal.returns
returns g c = λ program.
    first_engine (g.A.Actor.asks_after program) g.A.Actor.can_feed (g.A.Actor.core_of program) c.args.ticks _ c.in_ok-world.ensures refl refl c.new.ensures.empty c.everyone.result refl c.everyone.ensures.change c.everyone.ensures.gone
