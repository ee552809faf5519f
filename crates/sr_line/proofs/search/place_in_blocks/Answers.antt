use Rattle.std.proofs.Common.{◌-◌, Some, ap, ◌∙◌, arith}
use Rattle.std.proofs.lemmas.Option.{IfSome_then}
use Rattle.sr_line.specs.Lines.{joined}
use Rattle.sr_line.proofs.StartLemmas.{block-ascends, block-fits, block-found, block-part, none-found, part-numbered}
use Rattle.sr_line.proofs.search.place_in_blocks.Goals as goal

pub returns-in_err-items-clause-found : goal.returns-in_err-items-clause-found
returns-in_err-items-clause-found g c = λ place item at is.
    let spot = c.block_of-spot.result in
    absurd (none-found g.T.HasNumber.number_of c.args.blocks.now.items c.requires.up c.args.number spot.block spot.place c.block_of-spot.ensures c.in_err-items.ensures.item.3 place item at is)

pub place_after-requires-clause-small : goal.place_after-requires-clause-small
place_after-requires-clause-small g c =
    let spot = c.block_of-spot.result in
    let blocks = c.args.blocks.now.items in
    let items = c.in_ok-items.items.now in
    let fits = block-fits g.T.HasNumber.number_of blocks c.requires.up c.args.number spot.block spot.place c.block_of-spot.ensures items c.in_ok-items.ensures.item.3.0 c.in_ok-items.ensures.lookup in
    omega (arith, fits, c.requires.small)

pub place_after-requires-clause-up : goal.place_after-requires-clause-up
place_after-requires-clause-up g c =
    let spot = c.block_of-spot.result in
    block-ascends g.T.HasNumber.number_of c.args.blocks.now.items c.requires.up c.args.number spot.block spot.place c.block_of-spot.ensures c.in_ok-items.items.now c.in_ok-items.ensures.item.3.0 c.in_ok-items.ensures.lookup

pub returns-clause-found : goal.returns-clause-found
returns-clause-found g c = λ place item at is.
    let spot = c.block_of-spot.result in
    let found = block-found g.T.HasNumber.number_of c.args.blocks.now.items c.requires.up c.args.number spot.block spot.place c.block_of-spot.ensures c.in_ok-items.items.now c.in_ok-items.ensures.item.3.0 c.in_ok-items.ensures.lookup place item at is in
    c.place_after.ensures.found (place - spot.place) item found.0 is ∙ ap Some found.1

pub returns-clause-there : goal.returns-clause-there
returns-clause-there g c =
    let spot = c.block_of-spot.result in
    let part = block-part c.args.blocks.now.items spot.block spot.place c.in_ok-items.items.now c.in_ok-items.ensures.item.3.0 c.in_ok-items.ensures.lookup c.block_of-spot.ensures.sum in
    IfSome_then c.place_after.result c.place_after.ensures.there (λ place there. part-numbered g.T.HasNumber.number_of (joined c.args.blocks.now.items) spot.place c.in_ok-items.items.now.items part c.args.number place there)
