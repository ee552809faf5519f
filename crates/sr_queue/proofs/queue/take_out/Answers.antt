use Rattle.sr_line.proofs.BlockLemmas.{stands-nowhere}
use Rattle.sr_queue.proofs.queue.take_out.Goals as goal

pub unreachable-requires : goal.unreachable-requires
unreachable-requires c = absurd (stands-nowhere c.args.pending.now.items c.args.i c.requires c.in-None.ensures.item)
