use Rattle.sr_store.proofs.CopyLemmas.{blocks-left-first, blocks-left-more, blocks-left-none, blocks-more, distinct-blocks, none-empty-first, none-empty-more}
use Rattle.sr_store.proofs.bucket.Bucket.add_copies.Goals as goal

pub loop-block-init : goal.loop-block-init
loop-block-init c =
    let gives = c.into_iter-block-iterator.ensures.into_iter_gives in record {
      distinct = distinct-blocks c.into_iter-block-iterator.result c.other.inside.tables.entries gives.0 gives.5;
      no_empty = none-empty-first c.args.self.now.variables c.requires;
      left = blocks-left-first c.into_iter-block-iterator.result c.other.inside.tables.entries c.args.self.now.variables c.args.other.now gives.0 c.other.view_is c.requires;
    }

pub loop-block-preserved : goal.loop-block-preserved
loop-block-preserved c = record {
  distinct = blocks-more c.loop-block.block-iterator c.next.new.self c.in-Some.block.now c.in-Some.kept.now c.in-Some.ensures.steps c.loop-block.invariant.distinct;
  no_empty = none-empty-more c.loop-block.self.variables c.add.new.self.variables c.in-Some.block.now c.in_ok-copy.copy.variables c.loop-block.invariant.no_empty c.in_ok-add.ensures;
  left = blocks-left-more c.loop-block.block-iterator c.next.new.self c.in-Some.block.now c.in-Some.kept.now c.in-Some.ensures.steps c.loop-block.invariant.distinct
      c.loop-block.self.variables c.add.new.self.variables c.args.other.now.variables c.in_ok-copy.copy.variables c.loop-block.invariant.left c.in_ok-add.ensures c.in_ok-copy.ensures;
}

pub returns : goal.returns
returns c =
    blocks-left-none c.loop-block.block-iterator c.other.inside.tables.entries c.loop-block.self.variables c.args.other.now c.in-None.ensures.steps.0 c.other.view_is c.loop-block.invariant.no_empty
    c.loop-block.invariant.left
