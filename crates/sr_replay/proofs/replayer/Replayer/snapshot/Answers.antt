use Rattle.std.proofs.Common.{◌∙◌, ap}
use Rattle.sr_replay.proofs.CrewLemmas.{if_ok}
use Rattle.sr_replay.proofs.ShownLemmas.{shown-at}
use Rattle.sr_replay.specs.Parts.{snapshot_with}
use Rattle.sr_replay.proofs.replayer.Replayer.snapshot.Goals as goal

pub returns : goal.returns
returns g c = λ limit now at.
    let new = c.all_asks.new.self in
    if_ok c.show.result
    (λ snapshot is.
    shown-at (g.A.Actor.asks_after c.args.program.now) (g.A.Actor.core_of c.args.program.now) limit now c.args.self.now new at c.all_asks.ensures.ending c.in_ok-asks.asks (c.in_ok-asks.ensures.asks limit)
    (c.in_ok-asks.ensures.stands limit) c.args.items snapshot (is ∙ ap (λ xs. snapshot_with c.args.items new.ending xs new.world) c.as_slice.ensures))
    c.show.ensures
