use Rattle.std.proofs.Common.{ℕ, List}
use Rattle.sr_queue.specs.Dividing.{AreInOrder, AreParts}
use Rattle.sr_queue.specs.declared.pending.Pending.{Pending}
use Rattle.sr_queue.proofs.DividingLemmas.{Rest, left_in}
use Rattle.sr_queue.proofs.dividing.merge.Given as goal

abbrev pub invariant-merging : goal.invariant-merging
invariant-merging l = (numbers : List ℕ) (items : List Pending) → AreInOrder items → AreParts l.fn.queues numbers items → Rest l.queues l.joined.items items

abbrev pub decreases-merging : goal.decreases-merging
decreases-merging l = left_in l.queues
