-- it waits at the arms so far
use Rattle.std.proofs.Common.{◌≡◌, ◌<◌, ℕ, true, Some}
use Rattle.std.specs.Prelude.{slice_get}
use Rattle.sr_core.specs.declared.site.Arm.{Arm}
use Rattle.sr_plain.specs.Noting.{StillWait}
use Rattle.sr_plain.specs.Waiting.{key_of, waits}
use Rattle.sr_plain.proofs.aside.wait_at_arms.Given as goal

abbrev pub invariant-loop-arm : goal.invariant-loop-arm
invariant-loop-arm l = StillWait l.fn.waiters l.waiters × ((number : ℕ) (arm : Arm) → slice_get l.site.arms number ≡ Some arm → number < l.arm-index → waits l.waiters (key_of l.owner arm.op) l.me.process ≡ true)
