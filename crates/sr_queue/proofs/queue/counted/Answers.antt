use Rattle.std.proofs.Common.{◌≡◌, ◌<◌, ◌≤◌, length, get_or, take, ap, sym, ◌∙◌, arith}
use Rattle.std.proofs.lemmas.List.{length-take, take_all}
use Rattle.std.proofs.lemmas.List.Sums.{count_by-le-length, count_by_more_no, count_by_more_yes}
use Rattle.std.proofs.lemmas.Option.{get_or_from_slice_get}
use Rattle.sr_queue.specs.Queues.{is_of, waiting}
use Rattle.sr_queue.proofs.queue.counted.Goals as goal
use Rattle.sr_queue.proofs.queue.counted.Goals.{then-is_of, else-is_of}

pub overflow_add-count : goal.overflow_add-count
overflow_add-count c =
    let items = c.args.pending.now.items in
    omega (arith, c.loop-place.invariant, count_by-le-length (is_of c.args.owner c.args.op) (take c.loop-place.place items), length-take c.loop-place.place items)

pub loop-place-preserved : goal.loop-place-preserved
loop-place-preserved c =
    let items = c.args.pending.now.items in
    let place = c.loop-place.place in
    let p = c.at.result.now in
    let is = is_of c.args.owner c.args.op in
    let low : place < length items = omega (arith, c.loop-place-test.true, c.len-place-end.ensures) in
    let here : is (get_or items place p) ≡ c.is_of.result = ap is (get_or_from_slice_get items place p p c.at.ensures) ∙ sym c.is_of.ensures in
    elim c.if-is_of.branch [
      | then-is_of w ↦ let more = count_by_more_yes is items place p low (here ∙ w.if-is_of.true) in omega (arith, more, c.loop-place.invariant)
      | else-is_of w ↦ let more = count_by_more_no is items place p low (here ∙ w.if-is_of.false) in omega (arith, more, c.loop-place.invariant)
    ]

pub returns : goal.returns
returns c =
    let items = c.args.pending.now.items in
    let past : length items ≤ c.loop-place.place = omega (arith, c.loop-place-test.false, c.len-place-end.ensures) in
    c.loop-place.invariant ∙ ap (waiting c.args.owner c.args.op) (take_all c.loop-place.place items past)
