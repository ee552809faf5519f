use Rattle.sr_shard.proofs.PresentLemmas.{taken}
use Rattle.sr_shard.proofs.present.Present.take.Goals as goal

pub returns : goal.returns
returns c = λ standing.
    taken standing c.args.self.now c.take.new.self c.args.process c.args.ids c.take.ensures.replies c.take.ensures.held c.take.ensures.holds c.take.ensures.answers
