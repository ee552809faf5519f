use Rattle.sr_shard.proofs.PresentLemmas.{begun}
use Rattle.sr_shard.proofs.present.Present.begin.Goals as goal

pub returns : goal.returns
returns c = λ standing. begun standing c.args.self.now c.add.new.self c.args.start c.add.ensures
