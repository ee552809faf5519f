use Rattle.std.proofs.Common.{◌≡◌, ◌+◌, ◌<◌, [], ◌∷◌, ◌++◌, Some, length, take, ap, sym, ◌∙◌, arith}
use Rattle.std.specs.List.{slice_get}
use Rattle.std.proofs.lemmas.List.{take_more}
use Rattle.std.proofs.lemmas.Option.{get_or_from_slice_get}
use Rattle.sr_queue.specs.Queues.{Queued}
use Rattle.sr_queue.proofs.queue.Queue.copy.Goals as goal

pub loop-place-preserved : goal.loop-place-preserved
loop-place-preserved c =
    let items = c.args.self.now.items in
    let place = c.loop-place.place in
    let p = c.at-invocation.result.now in
    let same : c.self.inside.pending.items ≡ items = ap (λ (q : Queued). q.items) c.self.view_is in
    let low : place < length items = omega (arith, c.loop-place-test.true, c.len-place-end.ensures, ap length same) in
    let at : slice_get items place ≡ Some p = ap (λ xs. slice_get xs place) (sym same) ∙ c.at-invocation.ensures in
    let one : take place items ++ p ∷ [] ≡ take (place + 1) items = ap (λ x. take place items ++ x ∷ []) (sym (get_or_from_slice_get items place p p at)) ∙ sym (take_more items place p low) in
    c.in_ok-add.ensures ∙ ap (λ ps. ps ++ c.in_ok-copy.copy ∷ []) c.loop-place.invariant ∙ ap (λ x. take place items ++ x ∷ []) c.in_ok-copy.ensures ∙ one
