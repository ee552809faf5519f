use Rattle.sr_queue.proofs.DividingLemmas.{Dealt}
use Rattle.sr_queue.proofs.dividing.deal.Given as goal

abbrev pub invariant-loop-number : goal.invariant-loop-number
invariant-loop-number l = Dealt l.numbers l.number-index l.queues l.pending.items l.fn.pending.items
