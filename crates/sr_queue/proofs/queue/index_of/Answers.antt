use Rattle.std.proofs.Common.{◌<◌, ◌≤◌, length, take, sym, subst, arith}
use Rattle.std.proofs.lemmas.List.{take_all}
use Rattle.std.proofs.lemmas.Option.{get_or_from_slice_get}
use Rattle.sr_queue.specs.Indexed.{IsIndexed}
use Rattle.sr_queue.proofs.QueueLemmas.{indexed-more}
use Rattle.sr_queue.proofs.queue.index_of.Goals as goal

pub loop-place-preserved : goal.loop-place-preserved
loop-place-preserved c =
    let items = c.args.pending.now.items in
    let p = c.at-invocation.result.now in
    let low : c.loop-place.place < length items = omega (arith, c.loop-place-test.true, c.len-place-end.ensures) in
    indexed-more items c.note.new.index c.loop-place.place p low (sym (get_or_from_slice_get items c.loop-place.place p p c.at-invocation.ensures)) (c.note.ensures (take c.loop-place.place items) p (sym c.class_of.ensures) c.loop-place.invariant)

pub returns : goal.returns
returns c =
    let items = c.args.pending.now.items in
    let past : length items ≤ c.loop-place.place = omega (arith, c.loop-place-test.false, c.len-place-end.ensures) in
    subst (λ ps. IsIndexed ps c.loop-place.index) (take_all c.loop-place.place items past) c.loop-place.invariant
