-- Laws of running code.
use Rattle.std.specs.Prelude.{◌≡◌, ℕ, ◌<◌, ◌≤◌, ◌⊎◌}
use Rattle.sr_ask.specs.Behaviors.{Stage, Outcome, Came, Stops, room}
use Rattle.sr_ask.specs.Here.{Here}
use Rattle.sr_core.specs.declared.component.Core.{Core}
use Rattle.sr_code.specs.Acts.{Point, act}
use Rattle.sr_code.specs.Runs.{Machine, go, step, then_asks}
use Rattle.sr_code.specs.declared.instruction.Instruction.{Instruction}
use Rattle.sr_code.specs.declared.operands.Operands.{Operands}

-- less room for ticks than so much, or no more and an address that is no higher than this
abbrev pub Falls : ℕ → ℕ → Outcome Point → ℕ → Type 0
Falls limit next (Came at stage) most = (room limit stage < most) ⊎ ((room limit stage ≤ most) × (at.address ≤ next))
Falls limit next (Stops asks) most = Unit {0}

-- An instruction goes no higher than the next one, or it takes a tick or an answer. It never leaves more room for
-- ticks than there was.
abbrev pub InstructionsFall : Type 0
InstructionsFall = (core : Core) (instruction : Instruction) (here : Here) (next : ℕ) (on : Operands) (stage : Stage)
    → Falls here.limit next (act core instruction here next on stage) (room here.limit stage)

-- Running code is one instruction and then the rest, for any code.
abbrev pub OneInstructionThenTheRest : Type 0
OneInstructionThenTheRest = (m : Machine) (at : Point) (stage : Stage) → go m at stage ≡ then_asks (step m at stage) (go m)
