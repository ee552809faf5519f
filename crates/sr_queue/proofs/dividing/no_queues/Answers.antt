use Rattle.std.proofs.Common.{◌≡◌, []}
use Rattle.sr_buckets.proofs.PartLemmas.{filled}
use Rattle.sr_queue.specs.Queues.{Queued}
use Rattle.sr_queue.proofs.dividing.no_queues.Goals as goal

pub returns : goal.returns
returns c =
    filled _ (λ (q : Queued). q.items ≡ []) c.from_fn.result 32 c.from_fn.ensures.items.long c.from_fn.ensures.items.at (λ p q i b made. made.met.1)
