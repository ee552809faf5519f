use Rattle.sr_shard.proofs.PresentLemmas.{ended}
use Rattle.sr_shard.proofs.ReadyLemmas.{if_ok}
use Rattle.sr_shard.proofs.present.Present.end.Goals as goal

pub returns : goal.returns
returns c = λ standing.
    ended standing c.args.self.now c.end.new.self c.insert_full.new.self c.forget.new.self c.args.process c.end.ensures.starts c.end.ensures.kept
    (if_ok c.insert_full.result (c.insert_full.ensures.succeeds c.requires) c.insert_full.ensures.keys) c.forget.ensures.held c.forget.ensures.replies c.forget.ensures.answers
