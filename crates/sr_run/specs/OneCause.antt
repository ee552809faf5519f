-- When a run has one cause.
use Rattle.std.specs.Prelude.{◌≡◌, ◌≢◌, ◌<◌, ◌-◌, ◌^◌, ℕ, List, Some}
use Rattle.sr_run.specs.Causes.{HasCause}
use Rattle.sr_run.specs.Runs.{Call}
use Rattle.sr_run.specs.declared.end.RunEnd.{RunEnd}
use Rattle.sr_run.specs.declared.end.RunEnd.TheVariants.{NoMemory}

-- the input tells its bytes, and the counts of faults can still rise
pub record IsTold (call : Call) : Type 0 where
  pub input : List ℕ
  pub told : call.before.left ≡ Some input
  pub reads : call.before.read_faults < 2 ^ 64 - 1
  pub writes : call.before.write_faults < 2 ^ 64 - 1

-- The causes exclude each other, but for that of memory, which may run out at any time.
abbrev pub OneCause : Type 0
OneCause = (call : Call) (end other : RunEnd) → IsTold call → end ≢ NoMemory → other ≢ NoMemory → HasCause call end → HasCause call other → end ≡ other
