use Rattle.std.proofs.Common.{◌<◌, ◌∙◌, length, sym}
use Rattle.sr_line.proofs.BlockLemmas.{spot-inside, spot-item, spot-taken, taken-rest, taken-value}
use Rattle.sr_line.proofs.blocks.take_in.Goals as goal

pub returns-clause-item : goal.returns-clause-item
returns-clause-item g c =
    let blocks = c.args.blocks.now.items in
    let b = c.index_mut-block.result.now in
    let spot = c.spot_of-spot.result in
    let inside : spot.place < length b.items = spot-inside blocks b c.args.place spot.block spot.place c.spot_of-spot.ensures c.index_mut-block.ensures.value in
    taken-value b.items spot.place b.len c.take_at-item.result b.ok.0 inside c.take_at-item.ensures.succeeds ∙ sym (spot-item blocks b c.args.place spot.block spot.place c.spot_of-spot.ensures c.index_mut-block.ensures.value)

pub returns-clause-others : goal.returns-clause-others
returns-clause-others g c =
    let blocks = c.args.blocks.now.items in
    let b = c.index_mut-block.result.now in
    let spot = c.spot_of-spot.result in
    let inside : spot.place < length b.items = spot-inside blocks b c.args.place spot.block spot.place c.spot_of-spot.ensures c.index_mut-block.ensures.value in
    c.drop_empty.ensures ∙ spot-taken blocks b c.args.place spot.block spot.place c.spot_of-spot.ensures c.index_mut-block.ensures.value c.take_at-item.new.list
    (taken-rest b.items spot.place b.len c.take_at-item.result b.ok.0 inside c.take_at-item.ensures.succeeds c.take_at-item.ensures.items)
