-- it waits for the operations so far
use Rattle.std.proofs.Common.{◌≡◌, ◌<◌, ℕ, true, Some}
use Rattle.std.specs.Prelude.{slice_get}
use Rattle.sr_plain.specs.Noting.{StillWait}
use Rattle.sr_plain.specs.Waiting.{at_operation, waits}
use Rattle.sr_plain.proofs.aside.wait_for_counts.Given as goal

abbrev pub invariant-loop-op : goal.invariant-loop-op
invariant-loop-op l = StillWait l.fn.waiters l.waiters
    × ((number op : ℕ) → slice_get l.site.counts number ≡ Some op → number < l.op-index → at_operation (λ key. waits l.waiters key l.me.process) l.me op (slice_get l.core.operations op) ≡ true)
