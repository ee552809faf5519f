use Rattle.std.proofs.Common.{◌≡◌, Some, sym, ◌∙◌, ap, slice_get}
use Rattle.sr_ask.specs.declared.ask.Role.TheVariants.{Proc as proc_role}
use Rattle.sr_gen.proofs.Programs.{lays_all, lays_more, lays_none}
use Rattle.sr_gen.proofs.Services.{item_at}
use Rattle.sr_gen.proofs.program.enter_procs.Goals as goal

pub loop-proc-init : goal.loop-proc-init
loop-proc-init c = lays_none c.args.core.now proc_role _ c.new-entries.ensures

pub loop-proc-preserved : goal.loop-proc-preserved
loop-proc-preserved c =
    let is : slice_get c.args.core.now.procs c.loop-proc.proc-index ≡ Some c.proc-item.result =
    ap (λ xs. slice_get xs c.loop-proc.proc-index) (sym c.as_slice-procs.ensures) ∙ item_at c.as_slice-procs.result.now c.loop-proc.proc-index c.proc-item.result c.loop-proc-test.true c.proc-item.is in
    lays_more c.loop-proc.entries c.in_ok-entry.entry c.in_ok-push.ensures.ok c.loop-proc.invariant c.in_ok-entry.ensures.grows (c.in_ok-entry.ensures.enters c.loop-proc.proc-index is)

pub returns : goal.returns
returns c = lays_all c.as_slice-procs.result.now c.args.core.now.procs c.as_slice-procs.ensures c.loop-proc-test.false c.loop-proc.auto.proc-index-end c.loop-proc.invariant
