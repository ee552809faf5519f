use Rattle.sr_shard.proofs.SplitLemmas.{joined_moved}
use Rattle.sr_shard.proofs.divided.Divided.into_loan.Goals as goal

pub returns : goal.returns
returns c = λ class moved order from.
    joined_moved class moved c.args.self c.join-2.result c.in_ok-queue.queue.items c.join-3.result c.requires
    c.join-2.ensures.variables c.in_ok-queue.ensures c.join-3.ensures.held c.join-3.ensures.replies order from
