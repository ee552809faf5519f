use Rattle.std.proofs.Common.{◌≡◌, ◌<◌, ◌≤◌, true, false, length, get_or, ap, sym, ◌∙◌, arith}
use Rattle.std.proofs.lemmas.Option.{get_or_from_slice_get}
use Rattle.sr_queue.specs.Queues.{is_of}
use Rattle.sr_queue.proofs.QueueLemmas.{next-here, next-later, next-past}
use Rattle.sr_queue.proofs.queue.found.Goals as goal

pub loop-place-preserved : goal.loop-place-preserved
loop-place-preserved c =
    let items = c.args.pending.now.items in
    let p = c.at.result.now in
    let low : c.loop-place.place < length items = omega (arith, c.loop-place-test.true, c.len-place-end.ensures) in
    let apart : is_of c.args.owner c.args.op (get_or items c.loop-place.place p) ≡ false = ap (is_of c.args.owner c.args.op) (get_or_from_slice_get items c.loop-place.place p p c.at.ensures) ∙ sym c.is_of.ensures ∙ c.if-is_of.false in
    c.loop-place.invariant ∙ next-later c.args.owner c.args.op c.loop-place.place items p low apart

pub returns-then-is_of : goal.returns-then-is_of
returns-then-is_of c =
    let items = c.args.pending.now.items in
    let p = c.at.result.now in
    let low : c.loop-place.place < length items = omega (arith, c.loop-place-test.true, c.len-place-end.ensures) in
    let here : is_of c.args.owner c.args.op (get_or items c.loop-place.place p) ≡ true = ap (is_of c.args.owner c.args.op) (get_or_from_slice_get items c.loop-place.place p p c.at.ensures) ∙ sym c.is_of.ensures ∙ c.if-is_of.true in
    sym (c.loop-place.invariant ∙ next-here c.args.owner c.args.op c.loop-place.place items p low here)

pub returns : goal.returns
returns c =
    let items = c.args.pending.now.items in
    let past : length items ≤ c.loop-place.place = omega (arith, c.loop-place-test.false, c.len-place-end.ensures) in
    sym (c.loop-place.invariant ∙ next-past c.args.owner c.args.op c.loop-place.place items past)
