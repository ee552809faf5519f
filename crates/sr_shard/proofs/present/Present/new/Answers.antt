use Rattle.sr_shard.specs.Dividing.{moved_to, with_moved}
use Rattle.sr_shard.proofs.PresentLemmas.{all_live}
use Rattle.sr_shard.proofs.present.Present.new.Goals as goal

pub returns-clause-present : goal.returns-clause-present
returns-clause-present c = λ base k.
    record (with_moved (moved_to c.args.portion) base) { live = all_live base.live c.new-2.result.keys c.new.result.starts c.new-2.ensures.empty c.new.ensures k }
