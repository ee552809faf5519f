use Rattle.std.proofs.Common.{ap, nat_eq, subst, sym}
use Rattle.std.specs.List.{IsDistinct}
use Rattle.std.specs.Map.{keys_of}
use Rattle.sr_store.proofs.CopyLemmas.{distinct-more, left-first, left-more, left-none}
use Rattle.sr_store.proofs.block.Block.add_copies.Goals as goal

pub loop-var-init : goal.loop-var-init
loop-var-init c =
    let gives = c.into_iter-var-iterator.ensures.into_iter_gives in record {
      distinct = subst (λ r. IsDistinct nat_eq (keys_of r)) (sym gives.0) gives.4;
      left = left-first c.into_iter-var-iterator.result c.other.inside.variables.entries c.args.self.now.variables c.args.other.now.variables gives.0 (ap (λ k. k.variables) c.other.view_is) c.requires;
    }

pub loop-var-preserved : goal.loop-var-preserved
loop-var-preserved c = record {
  distinct = distinct-more c.loop-var.var-iterator c.next.new.self c.in-Some.var.now c.in-Some.variable.now c.in-Some.ensures.steps c.loop-var.invariant.distinct;
  left = left-more c.loop-var.var-iterator c.next.new.self c.in-Some.var.now c.in-Some.variable.now c.in-Some.ensures.steps c.loop-var.invariant.distinct
      c.loop-var.self.variables c.set.new.self.variables c.args.other.now.variables c.in_ok-copy.copy c.loop-var.invariant.left c.in_ok-set.ensures.ok c.in_ok-copy.ensures;
}

pub returns : goal.returns
returns c = left-none c.loop-var.var-iterator c.loop-var.self.variables c.args.other.now.variables c.in-None.ensures.steps.0 c.loop-var.invariant.left
