use Rattle.std.proofs.Common.{◌≡◌, ◌∙◌, ℕ, true, Some, ap, arith, inl, refl, subst, sym}
use Rattle.std.specs.Prelude.{slice_get}
use Rattle.sr_core.specs.declared.site.Arm.{Arm}
use Rattle.sr_value.specs.declared.capability.Owner.{Owner}
use Rattle.sr_plain.specs.Waiting.{idle_of, waits}
use Rattle.sr_plain.specs.declared.waiters.Place.TheVariants.{Idle}
use Rattle.sr_plain.proofs.JoinLemmas.{each-passed, item-at, one-more}
use Rattle.sr_plain.proofs.ListedLemmas.{ClosedAt, closed-more}
use Rattle.sr_plain.proofs.aside.idle_at_arms.Goals as goal

pub loop-arm-init : goal.loop-arm-init
loop-arm-init c = record {
  ready = refl;
  others = λ k other here. here;
  closed = λ class other here. inl here;
  less = omega arith;
  here = λ number arm is below. absurd (omega arith);
}

pub loop-arm-preserved : goal.loop-arm-preserved
loop-arm-preserved c =
    let before = c.loop-arm.invariant in
    let there = c.in_ok-wait.ensures in
    let me = c.args.me in
    let owner = c.owner_of-owner.result in
    let is : slice_get c.args.site.now.arms c.loop-arm.arm-index ≡ Some c.arm-item.result =
    ap (λ xs. slice_get xs c.loop-arm.arm-index) (sym c.as_slice-arm-items.ensures) ∙ item-at c.as_slice-arm-items.result.now c.loop-arm.arm-index c.arm-item.result c.loop-arm-test.true c.arm-item.is in
    record {
      ready = there.ready ∙ before.ready;
      others = λ k other here. there.others k other (before.others k other here);
      closed = closed-more owner c.args.site.now.arms c.loop-arm.arm-index c.arm-item.result c.class_of.result me.process c.args.waiters.now c.loop-arm.waiters c.wait.new.self is c.class_of.ensures before.closed there;
      less = let one = before.less in let two = there.less in omega arith;
      here = one-more (λ (a : Arm). waits c.loop-arm.waiters (idle_of owner a.op) me.process) (λ (a : Arm). waits c.wait.new.self (idle_of owner a.op) me.process) c.args.site.now.arms c.loop-arm.arm-index c.arm-item.result is
          (λ a here. there.others (idle_of owner a.op) me.process here) (ap (λ k. waits c.wait.new.self (Idle k) me.process) (sym c.class_of.ensures) ∙ there.itself) before.here;
    }

pub returns : goal.returns
returns c =
    let done = c.loop-arm.invariant in
    let arms = c.args.site.now.arms in
    record {
      ready = done.ready;
      itself = subst (λ o. (number : ℕ) (arm : Arm) → slice_get arms number ≡ Some arm → waits c.loop-arm.waiters (idle_of o arm.op) c.args.me.process ≡ true) c.owner_of-owner.ensures
          (each-passed (λ (a : Arm). waits c.loop-arm.waiters (idle_of c.owner_of-owner.result a.op) c.args.me.process) c.as_slice-arm-items.result.now arms _ c.as_slice-arm-items.ensures c.loop-arm-test.false c.loop-arm.auto.arm-index-end done.here);
      others = done.others;
      closed = subst (λ (o : Owner). ClosedAt o arms c.args.waiters.now c.loop-arm.waiters) c.owner_of-owner.ensures done.closed;
      less = done.less;
    }
