use Rattle.sr_shard.proofs.PresentLemmas.{departed}
use Rattle.sr_shard.proofs.present.Present.depart.Goals as goal

pub returns : goal.returns
returns c = λ standing. departed standing c.args.self.now c.take_out.new.queue c.args.owner c.args.op c.args.id c.take_out.ensures.items c.take_out.ensures.few c.take_out.ensures.room
