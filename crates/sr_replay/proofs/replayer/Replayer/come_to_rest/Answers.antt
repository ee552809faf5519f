use Rattle.std.proofs.Common.{refl}
use Rattle.sr_replay.specs.declared.replayer.Replayer.{Replayer}
use Rattle.sr_replay.proofs.RestLemmas.{rest-follows}
use Rattle.sr_replay.proofs.replayer.Replayer.come_to_rest.Goals as goal

pub returns : goal.returns
returns g c = λ limit state none at.
    let after = g.A.Actor.asks_after c.args.program.now in
    let core = g.A.Actor.core_of c.args.program.now in
    let old = c.args.self.now in
    let carried : Replayer _ = record old { world = c.quiesce.new.self; names = c.note.new.names; ending = c.come_to.new.ending } in
    rest-follows after core limit state none old carried at.1 c.args.name at.1.ticks c.in_ok-note.ensures refl c.core.result.now c.core.ensures c.in_ok-acted.acted
    c.is_unused-unused.result c.come_to.result c.is_unused-unused.ensures at.0 c.come_to.ensures c.in_ok-acted.ensures
