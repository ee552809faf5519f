-- What an instruction does up to a request and what answers lead to, as one piece of work.
use Rattle.std.specs.Prelude.{◌≡◌, ℕ, List, [], ◌∷◌, Option, Some, None}
use Rattle.sr_ask.specs.Behaviors.{Stage, Outcome, Came, Stops}
use Rattle.sr_ask.specs.Here.{Here, ask_of}
use Rattle.sr_ask.specs.declared.answer.Answer.{Answer}
use Rattle.sr_ask.specs.declared.ask.Asks.{Asks}
use Rattle.sr_ask.specs.declared.ask.Asks.TheVariants.{OverTicks}
use Rattle.sr_ask.specs.declared.request.Request.TheVariants.{Fail}
use Rattle.sr_core.specs.declared.component.Core.{Core}
use Rattle.sr_code.specs.Acts.{Point, point, act}
use Rattle.sr_code.specs.declared.instruction.Instruction.{Instruction}
use Rattle.sr_execute.specs.Executes.{Began, Went, Waits, Fails, NoTicks, Moved, begun, resumed}
use Rattle.sr_execute.specs.declared.frame.Frame.{Frame}

-- how far a process has come that holds this, with the answers that it will get
abbrev pub stage_of : Frame → List Answer → Stage
stage_of frame answers = record { ticks = frame.ticks; answers = answers; own = frame.own; service = frame.service; out = frame.out }

-- after an answer that was taken a process has all its ticks again
abbrev pub heard_by : Option Moved → ℕ → List Answer → Outcome Point → Outcome Point
heard_by None limit answers later = later
heard_by (Some to) limit answers later = Came (point to.address to.frame.operands) (stage_of (record to.frame { ticks = limit }) answers)

-- a process that waits for the first answer that leads on
abbrev pub waiting : (Answer → Option Moved) → Asks → ℕ → List Answer → Outcome Point
waiting leads asks limit [] = Stops asks
waiting leads asks limit (answer ∷ answers) = heard_by (leads answer) limit answers (waiting leads asks limit answers)

abbrev pub from_begun : Began → (Frame → Answer → Option Moved) → Here → List Answer → Outcome Point
from_begun (Went to frame) resume here answers = Came (point to frame.operands) (stage_of frame answers)
from_begun (Waits request frame) resume here answers = waiting (resume frame) (ask_of request here) here.limit answers
from_begun (Fails fault) resume here answers = Stops (ask_of (Fail fault) here)
from_begun NoTicks resume here answers = Stops OverTicks

-- what an answer leads to at an instruction
abbrev pub resumes : Instruction → ℕ → Frame → Answer → Option Moved
resumes instruction next frame answer = resumed instruction next frame.operands frame answer

-- An instruction does up to a request, and after the answers to it, what it is to do.
abbrev pub InstructionsAreCarriedOut : Type 0
InstructionsAreCarriedOut = (core : Core) (instruction : Instruction) (here : Here) (next : ℕ) (frame : Frame) (answers : List Answer)
    → act core instruction here next frame.operands (stage_of frame answers)
    ≡ from_begun (begun core.names instruction here next frame.operands frame) (resumes instruction next) here answers
