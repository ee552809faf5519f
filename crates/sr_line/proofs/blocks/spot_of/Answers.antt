use Rattle.std.proofs.Common.{◌<◌, ◌≤◌, ◌∙◌, length, arith}
use Rattle.sr_line.proofs.BlockLemmas.{spot-here, spot-more, spot-past}
use Rattle.sr_line.proofs.blocks.spot_of.Goals as goal

pub returns-then-left-len : goal.returns-then-left-len
returns-then-left-len g c =
    let blocks = c.args.blocks.now.items in
    let low : c.loop-block.block < length blocks = omega (arith, c.loop-block-test.true, c.len-block-end.ensures, c.args.blocks.now.ok.0) in
    spot-here blocks c.loop-block.block c.loop-block.left c.len-len.result c.args.place c.index-items.result.now low c.index-items.ensures (c.len-len.ensures ∙ c.index-items.result.now.ok.0) c.if-left-len.true c.loop-block.invariant

pub loop-block-preserved : goal.loop-block-preserved
loop-block-preserved g c =
    let blocks = c.args.blocks.now.items in
    let low : c.loop-block.block < length blocks = omega (arith, c.loop-block-test.true, c.len-block-end.ensures, c.args.blocks.now.ok.0) in
    spot-more blocks c.loop-block.block c.loop-block.left c.len-len.result c.args.place c.index-items.result.now low c.index-items.ensures (c.len-len.ensures ∙ c.index-items.result.now.ok.0) c.if-left-len.false c.loop-block.invariant

pub unreachable-requires : goal.unreachable-requires
unreachable-requires g c =
    let blocks = c.args.blocks.now.items in
    let past : length blocks ≤ c.loop-block.block = omega (arith, c.loop-block-test.false, c.len-block-end.ensures, c.args.blocks.now.ok.0) in
    absurd (spot-past blocks c.loop-block.block c.loop-block.left c.args.place past c.requires c.loop-block.invariant)
