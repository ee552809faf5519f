use Rattle.std.proofs.Common.{◌<◌, ◌≡◌, get_or, length, arith}
use Rattle.std.proofs.lemmas.Option.{slice_get_within, get_or_from_slice_get}
use Rattle.std.proofs.lemmas.List.Sums.{sum_by-remove}
use Rattle.std.proofs.Common.{cond}
use Rattle.sr_queue.specs.Queues.{is_of}
use Rattle.sr_queue.proofs.laws.departure_takes_one.Goals as goal

pub returns : goal.returns
returns c = λ items i p owner op at.
    let within : i < length items = slice_get_within items i p at in
    let item : get_or items i p ≡ p = get_or_from_slice_get items i p p at in
    let sum = sum_by-remove (λ x. cond (is_of owner op x) 1 0) items i p within in
    omega (arith, rw item at sum)
