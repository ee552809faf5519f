use Rattle.sr_shard.proofs.PresentLemmas.{declared}
use Rattle.sr_shard.proofs.present.Present.declare.Goals as goal

pub returns : goal.returns
returns c = λ standing. declared standing c.args.self.now c.place.new.self c.args.block c.args.var c.args.shape c.args.value c.place.ensures.variables
