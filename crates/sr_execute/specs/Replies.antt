-- Replies of a `co`.
use Rattle.std.specs.Prelude.{ℕ, List, Option, None, slice_get}
use Rattle.sr_value.specs.declared.value.Value.{Value}
use Rattle.sr_code.specs.Operands.{no_out}
use Rattle.sr_code.specs.declared.operands.Completed.{Completed}
use Rattle.sr_execute.specs.Executes.{Moved, completing, led}
use Rattle.sr_execute.specs.declared.frame.Frame.{Frame}

abbrev pub no_completed : Completed
no_completed = record { out = no_out; results = None }

-- what a reply leads to that answers the invocation at a place among those that are out
abbrev pub completed_at : ℕ → Option (List Value) → List ℕ → ℕ → Frame → Option Moved
completed_at at results arms next frame =
    led (slice_get frame.out at) (λ out. completing (slice_get arms out.arm) (record { out = out; results = results }) next frame.operands frame)
