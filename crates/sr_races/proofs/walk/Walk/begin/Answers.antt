use Rattle.std.proofs.Common.{ap, arith, length, map}
use Rattle.sr_ask.specs.Items.{actor_of}
use Rattle.sr_races.proofs.WholeLemmas.{begins, no-entries, no-rows}
use Rattle.sr_races.specs.Items.{actors}
use Rattle.sr_races.proofs.walk.Walk.begin.Goals as goal

pub returns-clause-can : goal.returns-clause-can
returns-clause-can g c = λ items columns.
    let are = c.in_ok-clocks.ensures (map actor_of items) columns in
    record { sound = are.sound; rows = are.items; listed = ap length c.new-entries.ensures; columns = are.columns }

pub returns-clause-walked : goal.returns-clause-walked
returns-clause-walked g c = λ program r limit input core columns.
    let are = c.in_ok-clocks.ensures (actors r) columns in
    record {
      within = omega arith;
      at = begins (g.A.Actor.asks_after program) r (g.A.Actor.core_of program) c.args.ticks c.args.input.now c.in_ok-replayer.replayer core limit input (c.in_ok-replayer.ensures program);
      origins = c.new-origins.ensures r;
      rows = no-rows r c.in_ok-clocks.clocks are;
      entries = no-entries r c.in_ok-clocks.clocks c.new-entries.result c.new-entries.ensures;
    }
