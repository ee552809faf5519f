use Rattle.std.proofs.Common.{◌≡◌, ◌∙◌, ℕ, Some, ap, get_or, sym}
use Rattle.std.proofs.lemmas.Option.{slice_get-get_or}
use Rattle.std.specs.Prelude.{slice_get}
use Rattle.sr_plain.specs.Waiting.{at_operation, waits}
use Rattle.sr_plain.proofs.JoinLemmas.{each-passed}
use Rattle.sr_plain.proofs.ListedLemmas.{count-more}
use Rattle.sr_plain.proofs.aside.wait_for_counts.Goals as goal

pub loop-op-preserved : goal.loop-op-preserved
loop-op-preserved c =
    let items = c.as_slice-op-items.result.now in
    let op : ℕ = get_or items c.loop-op.op-index 0 in
    let is : slice_get c.args.site.now.counts c.loop-op.op-index ≡ Some op =
    ap (λ xs. slice_get xs c.loop-op.op-index) (sym c.as_slice-op-items.ensures) ∙ slice_get-get_or items c.loop-op.op-index 0 c.loop-op-test.true in
    count-more c.args.core.now c.args.me c.args.site.now c.loop-op.op-index op c.args.waiters.now c.loop-op.waiters c.wait_for_count.new.waiters is c.in_ok-wait_for_count.ensures c.loop-op.invariant

pub returns : goal.returns
returns c =
    let done = c.loop-op.invariant in
    record {
      still = done.0;
      itself = each-passed (λ (op : ℕ). at_operation (λ key. waits c.loop-op.waiters key c.args.me.process) c.args.me op (slice_get c.args.core.now.operations op))
          c.as_slice-op-items.result.now c.args.site.now.counts _ c.as_slice-op-items.ensures c.loop-op-test.false c.loop-op.auto.op-index-end done.1;
    }
