-- it waits at the arms so far
use Rattle.std.proofs.Common.{◌≡◌, ◌<◌, ◌≤◌, ℕ, true, Some}
use Rattle.std.specs.Prelude.{slice_get}
use Rattle.sr_core.specs.declared.site.Arm.{Arm}
use Rattle.sr_plain.specs.Waiting.{idle_of, turns_len, waits}
use Rattle.sr_plain.specs.declared.waiters.Place.{Place}
use Rattle.sr_plain.proofs.ListedLemmas.{ClosedAt}
use Rattle.sr_plain.proofs.aside.idle_at_arms.Given as goal

abbrev pub invariant-loop-arm : goal.invariant-loop-arm
invariant-loop-arm l = record {
  ready : l.waiters.ready ≡ l.fn.waiters.ready;
  others : (k : Place) (other : ℕ) → waits l.fn.waiters k other ≡ true → waits l.waiters k other ≡ true;
  closed : ClosedAt l.owner l.site.arms l.fn.waiters l.waiters;
  less : turns_len l.waiters ≤ turns_len l.fn.waiters;
  here : (number : ℕ) (arm : Arm) → slice_get l.site.arms number ≡ Some arm → number < l.arm-index → waits l.waiters (idle_of l.owner arm.op) l.me.process ≡ true;
}
