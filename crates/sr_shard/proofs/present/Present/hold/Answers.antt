use Rattle.sr_shard.proofs.PresentLemmas.{held}
use Rattle.sr_shard.proofs.ReadyLemmas.{on_ok}
use Rattle.sr_shard.proofs.present.Present.hold.Goals as goal

pub returns : goal.returns
returns c = λ standing.
    held standing c.args.self.now c.hold.new.self c.args.process c.args.held (on_ok c.hold.result (c.hold.ensures.succeeds c.requires) c.hold.ensures.held) c.hold.ensures.replies c.hold.ensures.answers
