use Rattle.std.proofs.Common.{◌≡◌, Some, sym, ◌∙◌, ap, slice_get}
use Rattle.sr_ask.specs.declared.ask.Role.TheVariants.{Final}
use Rattle.sr_gen.proofs.Programs.{lays_all, lays_more, lays_none}
use Rattle.sr_gen.proofs.Services.{item_at}
use Rattle.sr_gen.proofs.program.enter_finals.Goals as goal

pub loop-component-init : goal.loop-component-init
loop-component-init c = lays_none c.args.core.now Final _ c.new-entries.ensures

pub loop-component-preserved : goal.loop-component-preserved
loop-component-preserved c =
    let is : slice_get c.args.core.now.components c.loop-component.component-index ≡ Some c.component-item.result =
    ap (λ xs. slice_get xs c.loop-component.component-index) (sym c.as_slice-components.ensures) ∙ item_at c.as_slice-components.result.now c.loop-component.component-index c.component-item.result c.loop-component-test.true c.component-item.is in
    lays_more c.loop-component.entries c.in_ok-entry.entry c.in_ok-push.ensures.ok c.loop-component.invariant c.in_ok-entry.ensures.grows (c.in_ok-entry.ensures.enters c.loop-component.component-index is)

pub returns : goal.returns
returns c = lays_all c.as_slice-components.result.now c.args.core.now.components c.as_slice-components.ensures c.loop-component-test.false c.loop-component.auto.component-index-end c.loop-component.invariant
