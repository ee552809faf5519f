use Rattle.std.proofs.Common.{◌+◌, ◌∙◌, ap, drop, sym}
use Rattle.sr_in_place.specs.Puts.{item_stored, outcome}
use Rattle.sr_in_place.proofs.CheckingLemmas.{outcome-item}
use Rattle.sr_in_place.proofs.checking.+reaching.Goals as goal

pub check_from-returns-in-Some-item_place : goal.check_from-returns-in-Some-item_place
check_from-returns-in-Some-item_place t c =
    let rest = drop (c.args.at + 1) c.args.path.now in
    let spot = c.in-Some-item_place.spot in
    c.check_item-in-Some-item_place.ensures
    ∙ ap (λ s. outcome (item_stored s c.as_slice-in-Some-item_place.result.now spot rest c.args.value.now)) c.get-in-Some-item_place.ensures
    ∙ ap (λ items. outcome (item_stored c.in-Arr.item items spot rest c.args.value.now)) c.as_slice-in-Some-item_place.ensures
    ∙ sym (outcome-item c.args.shape.now c.args.place.now (drop c.args.at c.args.path.now) c.in-Some.step rest c.args.value.now c.in-Arr.dims c.in-Arr-place.dims c.in-Arr.item c.in-Arr-place.items spot c.in-Some.ensures.next
    c.in-Arr.is c.in-Arr-place.is c.in-Some-item_place.ensures)
