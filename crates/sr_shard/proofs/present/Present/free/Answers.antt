use Rattle.sr_shard.proofs.PresentLemmas.{freed}
use Rattle.sr_shard.proofs.present.Present.free.Goals as goal

pub returns : goal.returns
returns c = λ standing.
    freed standing c.args.self.now c.release.new.self c.args.process c.args.id c.release.ensures.held c.release.ensures.replies c.release.ensures.holds c.release.ensures.answers
