use Rattle.std.proofs.Common.{sym}
use Rattle.sr_ask.specs.Numbers.{is_number}
use Rattle.sr_ask.proofs.NumberLemmas.{search_ends, search_goes_on}
use Rattle.sr_ask.proofs.numbers.place_in.Goals as goal

pub returns-in-Some : goal.returns-in-Some
returns-in-Some c =
    sym (search_ends (is_number c.args.number) c.args.blocks.now c.loop-rest.before c.loop-rest.rest.now c.block-item.result c.in-Some.at c.in-len1-up.len_at_least c.block-item.is c.loop-rest.invariant (sym c.in-Some.ensures))

pub loop-rest-preserved : goal.loop-rest-preserved
loop-rest-preserved c =
    search_goes_on (is_number c.args.number) c.args.blocks.now c.loop-rest.before c.loop-rest.rest.now c.block-item.result c.as_slice.result.now c.in-len1-up.len_at_least c.block-item.is c.as_slice.ensures c.loop-rest.invariant
    (sym c.in_default-position.ensures)
