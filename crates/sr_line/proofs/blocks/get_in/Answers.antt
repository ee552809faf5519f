use Rattle.std.proofs.Common.{sym, ◌∙◌}
use Rattle.sr_line.proofs.BlockLemmas.{spot-item}
use Rattle.sr_line.proofs.JoinedLemmas.{copied_item}
use Rattle.sr_line.proofs.blocks.get_in.Goals as goal

pub returns : goal.returns
returns g c =
    let b = c.index-block.result.now in
    let spot = c.spot_of-spot.result in
    copied_item b.items spot.place c.get.result c.get.ensures.item ∙ sym (spot-item c.args.blocks.now.items b c.args.place spot.block spot.place c.spot_of-spot.ensures c.index-block.ensures)
