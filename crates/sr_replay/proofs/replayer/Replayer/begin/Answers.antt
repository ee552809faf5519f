use Rattle.std.proofs.Common.{refl}
use Rattle.sr_replay.proofs.RestLemmas.{begun-stands}
use Rattle.sr_replay.proofs.replayer.Replayer.begin.Goals as goal

pub returns : goal.returns
returns g c = λ program.
    (refl, begun-stands (g.A.Actor.asks_after program) (g.A.Actor.core_of program) c.args.ticks c.args.input.now _ c.in_ok-world.ensures refl c.in_ok-names.ensures c.new.ensures.empty)
