use Rattle.std.proofs.Common.{◌<◌, ◌≤◌, ◌∙◌, length, arith}
use Rattle.sr_line.proofs.StartLemmas.{start-end, start-fits, start-here, start-more}
use Rattle.sr_line.proofs.search.block_of.Goals as goal

pub returns-then-reaches : goal.returns-then-reaches
returns-then-reaches g c =
    let blocks = c.args.blocks.now.items in
    let low : c.loop-block.block < length blocks = omega (arith, c.loop-block-test.true, c.len-end.ensures, c.args.blocks.now.ok.0) in
    start-here g.T.HasNumber.number_of blocks c.args.number c.loop-block.block c.loop-block.before c.index-items.result.now low c.index-items.ensures c.loop-block.invariant.0 c.loop-block.invariant.1 (c.reaches.ensures.yes c.if-reaches.true)

pub overflow_add-before : goal.overflow_add-before
overflow_add-before g c =
    let blocks = c.args.blocks.now.items in
    let low : c.loop-block.block < length blocks = omega (arith, c.loop-block-test.true, c.len-end.ensures, c.args.blocks.now.ok.0) in
    let fits = start-fits g.T.HasNumber.number_of blocks c.args.number c.loop-block.block c.loop-block.before c.index-items.result.now low c.index-items.ensures c.loop-block.invariant.0 c.len-len.result (c.len-len.ensures ∙ c.index-items.result.now.ok.0) in
    omega (arith, fits, c.requires.small)

pub loop-block-preserved : goal.loop-block-preserved
loop-block-preserved g c =
    let blocks = c.args.blocks.now.items in
    let low : c.loop-block.block < length blocks = omega (arith, c.loop-block-test.true, c.len-end.ensures, c.args.blocks.now.ok.0) in
    start-more g.T.HasNumber.number_of blocks c.args.number c.loop-block.block c.loop-block.before c.index-items.result.now low c.index-items.ensures c.loop-block.invariant.0 c.len-len.result (c.len-len.ensures ∙ c.index-items.result.now.ok.0)
    c.requires.up c.loop-block.invariant.1 (c.reaches.ensures.no c.if-reaches.false)

pub returns : goal.returns
returns g c =
    let blocks = c.args.blocks.now in
    let past : length blocks.items ≤ c.loop-block.block = omega (arith, c.loop-block-test.false, c.len-end.ensures, blocks.ok.0) in
    start-end g.T.HasNumber.number_of blocks.items c.args.number c.loop-block.block c.len-end.result c.loop-block.before past (c.len-end.ensures ∙ blocks.ok.0) c.loop-block.invariant.0 c.loop-block.invariant.1
