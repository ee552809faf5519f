-- What a process asks, and what its moves keep.
use Rattle.std.specs.Prelude.{◌≡◌, ◌<◌, ℕ, zero, suc, Bool, true, false, List, [], ◌∷◌, ◌++◌, Option, Some, None, Result, Ok, Err, replicate, slice_get}
use Rattle.sr_value.specs.declared.memory.NoMemory.{NoMemory}
use Rattle.sr_value.specs.declared.place.Place.{Place}
use Rattle.sr_ask.specs.Here.{Here, ask_of}
use Rattle.sr_ask.specs.declared.answer.Answer.{Answer}
use Rattle.sr_ask.specs.declared.ask.Asks.{Asks}
use Rattle.sr_ask.specs.declared.ask.Asks.TheVariants.{OverTicks as over_ticks}
use Rattle.sr_ask.specs.declared.ask.Role.{Role}
use Rattle.sr_ask.specs.declared.ask.Role.TheVariants.{Boot, Initial, Proc as proc_role, Final}
use Rattle.sr_ask.specs.declared.environment.Own.{Own}
use Rattle.sr_ask.specs.declared.environment.Service.{Service}
use Rattle.sr_ask.specs.declared.request.Request.{Request}
use Rattle.sr_ask.specs.declared.request.Request.TheVariants.{Fail}
use Rattle.sr_ask.specs.declared.start.Start.{Start}
use Rattle.sr_core.specs.declared.owner.Me.{Me}
use Rattle.sr_code.specs.Acts.{point}
use Rattle.sr_code.specs.Operands.{no_operands}
use Rattle.sr_code.specs.Runs.{Machine, code_ask, entry_of, first_line, go, machine_at, no_line, service_at, then_asks, work}
use Rattle.sr_code.specs.declared.code.Code.{Code}
use Rattle.sr_code.specs.declared.code.Coded.{Coded}
use Rattle.sr_code.specs.declared.code.Entry.{Entry}
use Rattle.sr_code.specs.declared.code.Program.{Program}
use Rattle.sr_execute.specs.Executes.{Moved}
use Rattle.sr_execute.specs.Meant.{resumes, stage_of, waiting}
use Rattle.sr_execute.specs.declared.frame.Frame.{Frame}
use Rattle.sr_process.specs.declared.process.Phase.{Phase}
use Rattle.sr_process.specs.declared.process.Phase.TheVariants.{New, Running, Waiting, Stopped, OutOfMemory}
use Rattle.sr_process.specs.declared.process.Process.{Process}
use Rattle.sr_execute.specs.declared.step.Step.{Step}
use Rattle.sr_execute.specs.declared.step.Step.TheVariants.{Goes, Asks as a_request, Faults, OverTicks}

-- ---- where code begins

-- the entry of a role, where the program has code for it
abbrev pub entry_found : Code → Role → ℕ → Option Entry
entry_found code Boot number = Some code.boot
entry_found code Initial number = slice_get code.initial number
entry_found code proc_role number = slice_get code.procs number
entry_found code Final number = slice_get code.final_code number

-- the line at which a process without code ends
abbrev pub line_without : Code → Role → Place
line_without code proc_role = first_line code.initial
line_without code _ = no_line

-- what a process holds at first
abbrev pub frame_at : Entry → Start → ℕ → Frame
frame_at entry start limit = record {
  operands = no_operands;
  ticks = limit;
  own = replicate entry.owns None;
  service = service_at entry start;
  out = [];
}

abbrev pub frame_with : List (Option Own) → Service → ℕ → Frame
frame_with own service limit = record { operands = no_operands; ticks = limit; own = own; service = service; out = [] }

-- the instruction at an address
abbrev pub coded_at : List Coded → ℕ → Option Coded
coded_at items zero = None
coded_at items (suc next) = slice_get items next

-- ---- what is asked

-- the running code of a process
abbrev pub machine_of : Program → Start → ℕ → Machine
machine_of program start limit = machine_at (entry_of program.code start.role start.code) program.core program.code start limit

-- what a process asks that waits at an instruction
abbrev pub asks_at : Machine → Option Coded → ℕ → Frame → Asks → List Answer → Asks
asks_at m None next frame asks answers = asks
asks_at m (Some coded) next frame asks answers = then_asks (waiting (resumes coded.instruction next frame) asks m.limit answers) (go m)

abbrev pub asks_from : Machine → ℕ → Frame → Asks → List Answer → Asks
asks_from m zero frame asks answers = asks
asks_from m (suc next) frame asks answers = asks_at m (slice_get m.code next) next frame asks answers

-- an answer that was fed comes first
abbrev pub with_fed : Option Answer → List Answer → List Answer
with_fed None answers = answers
with_fed (Some answer) answers = answer ∷ answers

abbrev pub asks_in : Phase → Program → Start → ℕ → ℕ → Frame → Asks → Option Answer → List Answer → Asks
asks_in New program start limit address frame asks fed answers = code_ask program.core program.code start limit answers
asks_in Running program start limit address frame asks fed answers =
    go (machine_of program start limit) (point address frame.operands) (stage_of frame answers)
asks_in Waiting program start limit address frame asks fed answers = asks_from (machine_of program start limit) address frame asks (with_fed fed answers)
asks_in Stopped program start limit address frame asks fed answers = asks
asks_in OutOfMemory program start limit address frame asks fed answers = over_ticks

-- what a process asks after these answers more
abbrev pub asks_after : Program → Process → List Answer → Asks
asks_after program p answers = asks_in p.phase program p.start p.limit p.address p.frame p.asks p.fed answers

-- A process stands for a start that has got these answers: whatever answers come, it asks what the code asks.
pub record StandsFor (program : Program) (process : Process) (start : Start) (limit : ℕ) (answers : List Answer) : Type 0 where
  pub same : (more : List Answer) → asks_after program process more ≡ code_ask program.core program.code start limit (answers ++ more)

-- A process asks what it asked before, whatever answers come.
pub record SameAsks (program : Program) (old new : Process) : Type 0 where
  pub same : (more : List Answer) → asks_after program new more ≡ asks_after program old more

-- ---- what is found

abbrev pub asked_in : Phase → Asks → Option Answer → Option Asks
asked_in Waiting asks None = Some asks
asked_in Stopped asks None = Some asks
asked_in _ asks fed = None

-- what a process is known to ask, where it ran and no answer was fed since
abbrev pub asked_by : Process → Option Asks
asked_by p = asked_in p.phase p.asks p.fed

abbrev pub me_of : Process → Me
me_of p = record { process = p.start.process; instance = p.start.instance }

abbrev pub Failed : Process → Type 0
Failed p = p.phase ≡ OutOfMemory

-- ---- moves

-- it runs, or has found what it asks
abbrev pub ReadyIn : Phase → Type 0
ReadyIn New = ⊥
ReadyIn OutOfMemory = ⊥
ReadyIn _ = Unit {0}

pub record Ready (p : Process) : Type 0 where
  pub phase : ReadyIn p.phase
  pub unfed : p.fed ≡ None

pub record Runs (p : Process) : Type 0 where
  pub phase : p.phase ≡ Running
  pub unfed : p.fed ≡ None

-- how much is left to run before the process asks
abbrev pub left_in : Phase → Machine → ℕ → Frame → ℕ
left_in Running m address frame = suc (work m address (stage_of frame []))
left_in _ m address frame = 0

abbrev pub left : Program → Process → ℕ
left program p = left_in p.phase (machine_of program p.start p.limit) p.address p.frame

abbrev pub here_in : Process → Place → Here
here_in p place = record { start = p.start; limit = p.limit; place = place }

-- a process after an instruction
abbrev pub stepped : Step → Place → Process → Process
stepped (Goes to) place p = record p { address = to }
stepped (a_request request) place p = record p { phase = Waiting; asks = ask_of request (here_in p place) }
stepped (Faults fault) place p = record p { phase = Stopped; asks = ask_of (Fail fault) (here_in p place) }
stepped OverTicks place p = record p { phase = Stopped; asks = over_ticks }

-- an instruction was carried out, or nothing has changed; or memory ran out
abbrev pub Carries : Program → Result Bool NoMemory → Process → Process → Type 0
Carries program (Ok true) old new = SameAsks program old new × (Ready new × (left program new < left program old))
Carries program (Ok false) old new = new ≡ old
Carries program (Err out) old new = Unit {0}

-- a process that asks at a line
abbrev pub asking : Request → Place → Process → Process
asking request place p = record p { asks = ask_of request (here_in p place) }

-- after an answer that leads on a process runs, with all its ticks; after any other it is as before
abbrev pub HearsBy : Option Moved → Process → Process → Type 0
HearsBy None old new = new ≡ old
HearsBy (Some to) old new = new ≡ record old { phase = Running; address = to.address; frame = record to.frame { ticks = old.limit } }

abbrev pub heard_at : Coded → Answer → ℕ → Frame → Option Moved
heard_at coded answer zero frame = None
heard_at coded answer (suc next) frame = resumes coded.instruction next frame answer

abbrev pub Hears : Coded → Answer → Process → Process → Type 0
Hears coded answer old new = HearsBy (heard_at coded answer old.address old.frame) old new
