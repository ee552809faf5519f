use Rattle.std.proofs.Common.{◌≡◌, ◌<◌, ◌≤◌, length, ap, sym, subst, arith}
use Rattle.std.specs.List.{remove}
use Rattle.std.proofs.lemmas.List.Edits.{length-remove}
use Rattle.sr_queue.specs.Indexed.{IsIndexed}
use Rattle.sr_queue.specs.Queues.{Queued}
use Rattle.sr_queue.specs.declared.queue.TheConstants.{MOST_PENDING}
use Rattle.sr_queue.proofs.QueueLemmas.{indexed-removed}
use Rattle.sr_queue.proofs.queue.Queue.remove_at.Goals as goal

pub invariant_of-self : goal.invariant_of-self
invariant_of-self c =
    let items = c.self.inside.pending.items in
    let left = c.take_out-taken.new.pending in
    let others : left.items ≡ remove items c.args.i = c.take_out-taken.ensures.others in
    let same : length items ≡ length c.args.self.now.items = ap (λ (q : Queued). length q.items) c.self.view_is in
    let within : c.args.i < length items = omega (arith, same, c.requires) in
    let few : length left.items ≤ MOST_PENDING = omega (arith, ap length others, length-remove items c.args.i within, c.self.invariant.0) in
    let indexed : IsIndexed left.items c.forget.new.index =
    subst (λ ps. IsIndexed ps c.forget.new.index) (sym others) (indexed-removed items c.self.inside.index c.forget.new.index c.args.i c.self.invariant.1 c.forget.ensures) in
    (few, c.end_empty.ensures left.items indexed)
