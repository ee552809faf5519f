use Rattle.std.proofs.Common.{◌+◌, arith, drop, refl}
use Rattle.sr_in_place.proofs.PuttingLemmas.{no-item, wrote-one, wrote-read}
use Rattle.sr_in_place.proofs.putting.+putting.Goals as goal

pub put_from-returns-in-Some-item_place : goal.put_from-returns-in-Some-item_place
put_from-returns-in-Some-item_place t c =
    wrote-read c.args.shape.now c.args.place.now (drop c.args.at c.args.path.now) c.in-Some.step (drop (c.args.at + 1) c.args.path.now) c.args.value.now c.in-Some.ensures.next
    c.in-Arr.dims c.in-Arr.item c.in-Arr-place.dims c.in-Arr-place.items c.put_item-in-Some-item_place.new.items c.in-Arr.is c.in-Arr-place.is _ c.in-Arr-place.dims-is _ c.in-Arr-place.items-is
    c.get-in-Some-item_place.result.now c.get-in-Some-item_place.ensures c.in-Some-item_place.spot c.in-Some-item_place.ensures c.put_item-in-Some-item_place.result c.put_item-in-Some-item_place.ensures

pub put_item-returns-then-spot-len : goal.put_item-returns-then-spot-len
put_item-returns-then-spot-len t c =
    wrote-one c.put_from.result c.args.items.now c.args.spot c.args.shape.now (drop c.args.at c.args.path.now) c.args.value.now c.at_mut.result.now c.put_from.new.place c.at_mut.ensures.value c.put_from.ensures

pub put_item-returns-else-spot-len : goal.put_item-returns-else-spot-len
put_item-returns-else-spot-len t c = (no-item c.args.items.now c.args.spot c.args.shape.now (drop c.args.at c.args.path.now) c.args.value.now (omega arith), refl)
