use Rattle.sr_shard.proofs.PresentLemmas.{arrived}
use Rattle.sr_shard.proofs.ReadyLemmas.{on_ok}
use Rattle.sr_shard.proofs.present.Present.arrive.Goals as goal

pub returns : goal.returns
returns c = λ standing. arrived standing c.args.self.now c.push.new.self c.args.invocation (on_ok c.push.result (c.push.ensures.succeeds c.requires.room) c.push.ensures.ok)
