use Rattle.std.proofs.Common.{◌-◌, length}
use Rattle.sr_shard.proofs.DepartLemmas.{IsAfter}
use Rattle.sr_shard.proofs.present.place_of.Given as goal

abbrev pub invariant-seeking : goal.invariant-seeking
invariant-seeking l = IsAfter l.owner l.op l.id l.queue.items l.from

abbrev pub decreases-seeking : goal.decreases-seeking
decreases-seeking l = length l.queue.items - l.from
