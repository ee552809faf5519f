use Rattle.std.proofs.Common.{sym, ◌∙◌}
use Rattle.sr_ask.proofs.NumberLemmas.{spot_number}
use Rattle.sr_ask.proofs.numbers.get_in.Goals as goal

pub returns : goal.returns
returns c =
    let spot = c.spot_of-spot.result in
    c.get.ensures ∙ sym (spot_number c.args.blocks.now c.index-blocks-spot.result c.args.at spot.block spot.place c.spot_of-spot.ensures c.index-blocks-spot.is)
