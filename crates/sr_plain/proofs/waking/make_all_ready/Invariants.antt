use Rattle.std.proofs.Common.{◌≡◌, ◌<◌, ℕ, false, Some}
use Rattle.std.specs.Prelude.{slice_get}
use Rattle.sr_plain.specs.Waiting.{is_ready}
use Rattle.sr_plain.proofs.waking.make_all_ready.Given as goal

-- those so far are ready
abbrev pub invariant-loop-process : goal.invariant-loop-process
invariant-loop-process l =
    (l.waiters.idle ≡ l.fn.waiters.idle) × ((place process : ℕ) → slice_get l.processes place ≡ Some process → place < l.process-index → is_ready l.waiters process ≡ false → ⊥)
