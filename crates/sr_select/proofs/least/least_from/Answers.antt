-- Each step keeps what was found so far, and those between that are of other operations change nothing.
use Rattle.std.proofs.Common.{◌≡◌, ◌<◌, ◌≤◌, Some, length, sym, ◌∙◌, arith}
use Rattle.std.proofs.lemmas.Result.{err_from_is_err_and}
use Rattle.sr_queue.specs.Classes.{next_waiting}
use Rattle.sr_queue.proofs.QueueLemmas.{next-within}
use Rattle.sr_select.specs.Sights.{seeing}
use Rattle.sr_select.proofs.LeastLemmas.{LeastSoFar, end-found, err-found, ok-step}
use Rattle.sr_select.proofs.NamedLemmas.{next-after, none-next, to-next}
use Rattle.sr_select.proofs.least.least_from.Goals as goal

pub at-pending-requires : goal.at-pending-requires
at-pending-requires g c = next-within c.args.owner c.args.arm.now.op c.loop-next.next c.args.queue.now.items c.in-Some.place (sym c.next_of.ensures ∙ c.in-Some.is)

pub returns-in_err-key : goal.returns-in_err-key
returns-in_err-key g c =
    let sees = seeing (g.R.Reads.reading c.args.reads.now) c.args.scene.now in
    let items = c.args.queue.now.items in
    let arm = c.args.arm.now in
    let at : next_waiting c.args.owner arm.op c.loop-next.next items ≡ Some c.in-Some.place = sym c.next_of.ensures ∙ c.in-Some.is in
    let so_far : LeastSoFar sees c.args.owner arm c.args.by.now c.args.from items c.in-Some.place c.loop-next.best c.args.seen.now c.loop-next.seen =
    to-next sees c.args.owner arm c.args.by.now c.args.from items c.loop-next.best c.args.seen.now c.loop-next.seen (length items) c.loop-next.next c.in-Some.place (omega arith) c.loop-next.invariant at in
    let p = err_from_is_err_and c.from_residual.result c.from_residual.ensures.1 in
    rw (p.1, p.2)
    (err-found sees c.args.owner arm c.args.by.now c.args.from items c.in-Some.place c.at-pending.result.now c.loop-next.best c.in_err-key.field-0.0 c.args.seen.now c.loop-next.seen c.key_one.new.seen so_far c.at-pending.ensures c.in_err-key.ensures)

pub loop-next-preserved : goal.loop-next-preserved
loop-next-preserved g c =
    let sees = seeing (g.R.Reads.reading c.args.reads.now) c.args.scene.now in
    let items = c.args.queue.now.items in
    let arm = c.args.arm.now in
    let at : next_waiting c.args.owner arm.op c.loop-next.next items ≡ Some c.in-Some.place = sym c.next_of.ensures ∙ c.in-Some.is in
    let so_far : LeastSoFar sees c.args.owner arm c.args.by.now c.args.from items c.in-Some.place c.loop-next.best c.args.seen.now c.loop-next.seen =
    to-next sees c.args.owner arm c.args.by.now c.args.from items c.loop-next.best c.args.seen.now c.loop-next.seen (length items) c.loop-next.next c.in-Some.place (omega arith) c.loop-next.invariant at in
    ok-step sees c.args.owner arm c.args.by.now c.args.from items c.in-Some.place c.at-pending.result.now c.loop-next.best c.with_next-best.result c.in_ok-key.key c.args.seen.now c.loop-next.seen c.key_one.new.seen so_far c.at-pending.ensures c.in_ok-key.ensures c.with_next-best.ensures

pub overflow_add-next : goal.overflow_add-next
overflow_add-next g c =
    let low : c.in-Some.place < length c.args.queue.now.items = next-within c.args.owner c.args.arm.now.op c.loop-next.next c.args.queue.now.items c.in-Some.place (sym c.next_of.ensures ∙ c.in-Some.is) in
    omega (arith, low, c.len.ensures, c.len.type_inv)

pub loop-next-smaller : goal.loop-next-smaller
loop-next-smaller g c =
    let items = c.args.queue.now.items in
    let at : next_waiting c.args.owner c.args.arm.now.op c.loop-next.next items ≡ Some c.in-Some.place = sym c.next_of.ensures ∙ c.in-Some.is in
    let low : c.in-Some.place < length items = next-within c.args.owner c.args.arm.now.op c.loop-next.next items c.in-Some.place at in
    let after : c.loop-next.next ≤ c.in-Some.place = next-after c.args.owner c.args.arm.now.op c.loop-next.next items c.in-Some.place at in
    omega (arith, low, after)

pub returns-in_default : goal.returns-in_default
returns-in_default g c =
    let items = c.args.queue.now.items in
    none-next (seeing (g.R.Reads.reading c.args.reads.now) c.args.scene.now) c.args.owner c.args.arm.now c.args.by.now c.args.from items c.loop-next.best c.args.seen.now c.loop-next.seen (length items) c.loop-next.next (omega arith) c.loop-next.invariant
    (sym c.next_of.ensures ∙ c.in_default.is)

pub returns : goal.returns
returns g c =
    let items = c.args.queue.now.items in
    let past : length items ≤ c.loop-next.next = omega (arith, c.len.ensures, c.loop-next-test.false) in
    end-found (seeing (g.R.Reads.reading c.args.reads.now) c.args.scene.now) c.args.owner c.args.arm.now c.args.by.now c.args.from items c.loop-next.next c.loop-next.best c.args.seen.now c.loop-next.seen c.loop-next.invariant past
