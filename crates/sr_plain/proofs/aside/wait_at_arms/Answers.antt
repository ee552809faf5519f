use Rattle.std.proofs.Common.{◌≡◌, ◌∙◌, ℕ, true, Some, ap, subst, sym}
use Rattle.std.specs.Prelude.{slice_get}
use Rattle.sr_core.specs.declared.site.Arm.{Arm}
use Rattle.sr_plain.specs.Waiting.{key_of, waits}
use Rattle.sr_plain.specs.declared.waiters.Place.TheVariants.{Served}
use Rattle.sr_plain.proofs.JoinLemmas.{each-passed, item-at, one-more}
use Rattle.sr_plain.proofs.ListedLemmas.{served-elsewhere, still-one, still-then}
use Rattle.sr_plain.proofs.aside.wait_at_arms.Goals as goal

pub loop-arm-preserved : goal.loop-arm-preserved
loop-arm-preserved c =
    let before = c.loop-arm.invariant in
    let there = c.in_ok-wait.ensures in
    let me = c.args.me in
    let owner = c.owner_of-owner.result in
    let is : slice_get c.args.site.now.arms c.loop-arm.arm-index ≡ Some c.arm-item.result =
    ap (λ xs. slice_get xs c.loop-arm.arm-index) (sym c.as_slice-arm-items.ensures) ∙ item-at c.as_slice-arm-items.result.now c.loop-arm.arm-index c.arm-item.result c.loop-arm-test.true c.arm-item.is in (
      still-then c.args.waiters.now c.loop-arm.waiters c.wait.new.self before.0 (still-one (Served c.class_of.result) me.process c.loop-arm.waiters c.wait.new.self (served-elsewhere c.class_of.result) there),
      one-more (λ (a : Arm). waits c.loop-arm.waiters (key_of owner a.op) me.process) (λ (a : Arm). waits c.wait.new.self (key_of owner a.op) me.process) c.args.site.now.arms c.loop-arm.arm-index c.arm-item.result is
          (λ a here. there.others (key_of owner a.op) me.process here) (ap (λ k. waits c.wait.new.self (Served k) me.process) (sym c.class_of.ensures) ∙ there.itself) before.1,
    )

pub returns : goal.returns
returns c =
    let done = c.loop-arm.invariant in
    record {
      still = done.0;
      itself = subst (λ o. (number : ℕ) (arm : Arm) → slice_get c.args.site.now.arms number ≡ Some arm → waits c.loop-arm.waiters (key_of o arm.op) c.args.me.process ≡ true) c.owner_of-owner.ensures
          (each-passed (λ (a : Arm). waits c.loop-arm.waiters (key_of c.owner_of-owner.result a.op) c.args.me.process) c.as_slice-arm-items.result.now c.args.site.now.arms _ c.as_slice-arm-items.ensures c.loop-arm-test.false c.loop-arm.auto.arm-index-end done.1);
    }
