use Rattle.sr_shard.proofs.PresentLemmas.{stored}
use Rattle.sr_shard.proofs.present.Present.store.Goals as goal

pub returns : goal.returns
returns c = λ standing.
    stored standing c.args.self.now c.store.new.self c.args.block c.args.var c.args.path c.as_slice.result.now c.args.value c.store.result c.as_slice.ensures c.store.ensures.wrote c.store.ensures.room
