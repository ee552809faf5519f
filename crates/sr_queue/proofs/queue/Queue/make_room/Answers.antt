use Rattle.std.proofs.Common.{◌≤◌, length, sym, subst}
use Rattle.sr_queue.specs.Indexed.{IsIndexed}
use Rattle.sr_queue.specs.declared.queue.TheConstants.{MOST_PENDING}
use Rattle.sr_queue.proofs.queue.Queue.make_room.Goals as goal

pub invariant_of-self : goal.invariant_of-self
invariant_of-self c = subst (λ ps. (length ps ≤ MOST_PENDING) × IsIndexed ps c.self.inside.index) (sym c.in_err-reserve.ensures.items) c.self.invariant

pub invariant_of-self-2 : goal.invariant_of-self-2
invariant_of-self-2 c = subst (λ ps. (length ps ≤ MOST_PENDING) × IsIndexed ps c.self.inside.index) (sym c.in_ok-reserve.ensures.items) c.self.invariant
