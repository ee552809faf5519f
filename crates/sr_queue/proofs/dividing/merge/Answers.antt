use Rattle.sr_queue.proofs.DividingLemmas.{rest-more, rest-none}
use Rattle.sr_queue.proofs.dividing.merge.Goals as goal

pub merging-preserved : goal.merging-preserved
merging-preserved c = λ numbers items order parts.
    rest-more c.merging.queues c.in-Some.ensures.all c.in-Some.head c.index-queues-head.result c.remove_at-invocation.new.self c.remove_at-invocation.result c.merging.joined.items c.append.new.self.items items
    c.in-Some.ensures.first c.remove_at-invocation.ensures.item c.remove_at-invocation.ensures.others c.in_ok-append.ensures (c.merging.invariant numbers items order parts)

pub returns : goal.returns
returns c = λ numbers items order parts.
    rest-none c.merging.queues c.in_default.ensures.all c.merging.joined.items items c.in_default.ensures.first (c.merging.invariant numbers items order parts)
