-- Nothing was made yet.
use Rattle.std.proofs.Common.{arith, refl}
use Rattle.sr_races.proofs.TraceLemmas.{no-traced}
use Rattle.sr_races.proofs.WholeLemmas.{begins}
use Rattle.sr_races.proofs.trail.Trail.begin.Goals as goal

pub returns : goal.returns
returns g c = λ program r limit input core. record {
  within = omega arith;
  at = begins (g.A.Actor.asks_after program) r (g.A.Actor.core_of program) c.args.ticks c.args.input.now c.in_ok-replayer.replayer core limit input (c.in_ok-replayer.ensures program);
  origins = c.new-origins.ensures r;
  rows = no-traced r c.new-rows.result c.new-rows.ensures;
}
