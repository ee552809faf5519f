-- Instructions on numbers that are carried out together.
use Rattle.std.specs.Prelude.{◌≡◌, ℕ, ℤ, Bool, true, List, [], ◌∷◌, Option, Some, None, Ok}
use Rattle.sr_value.specs.declared.value.Value.TheVariants.{Int, Bool as truth_value}
use Rattle.sr_value.specs.declared.shape.Sel.{Sel}
use Rattle.sr_value.specs.declared.shape.Sel.TheVariants.{At}
use Rattle.sr_ask.specs.Here.{Here}
use Rattle.sr_ask.specs.declared.environment.Located.{Located}
use Rattle.sr_ask.specs.declared.environment.Own.{Own}
use Rattle.sr_ask.specs.declared.environment.Spot.TheVariants.{Own as an_own}
use Rattle.sr_code.specs.Operands.{put_place, put_value}
use Rattle.sr_code.specs.declared.code.Code.{Code}
use Rattle.sr_code.specs.declared.code.Program.{Program}
use Rattle.sr_code.specs.declared.operands.Operands.{Operands}
use Rattle.sr_code.specs.declared.instruction.Instruction.{Instruction}
use Rattle.sr_execute.specs.Executes.{begun, ticking, went}
use Rattle.sr_execute.specs.declared.frame.Frame.{Frame}
use Rattle.sr_frame.specs.Variables.{own_stored}
use Rattle.sr_process.specs.Processes.{Carries, Runs}
use Rattle.sr_process.specs.declared.process.Process.{Process}
use Rattle.sr_process.specs.declared.together.Part.{Part}
use Rattle.sr_process.specs.declared.together.Stretch.{Stretch}
use Rattle.sr_process.specs.declared.together.Stretch.TheVariants.{Puts as puts_number, Stores as stores_number}
use Rattle.sr_process.specs.declared.together.Found.{Found}

-- Where a process stands: its own variables, its address and its operands.
pub record Standing : Type 0 where
  pub own : List (Option Own)
  pub address : ℕ
  pub operands : Operands

abbrev pub stand : List (Option Own) → ℕ → Operands → Standing
stand own address on = record { own = own; address = address; operands = on }

abbrev pub frame_in : Standing → Frame → Frame
frame_in at frame = record frame { operands = at.operands; own = at.own }

abbrev pub placed : Standing → Process → Process
placed at p = record p { address = at.address; frame = frame_in at p.frame }

-- A process that runs this code and stands here is led there.
pub record LeadsTo (code : Code) (here there : Standing) : Type 0 where
  pub carries : (program : Program) (p : Process) → program.code ≡ code → Runs p → Carries program (Ok true) (placed here p) (placed there p)

-- a number is put
abbrev pub Puts : Code → List (Option Own) → ℕ → Found → Type 0
Puts code own address found =
    (on : Operands) → LeadsTo code (stand own address on) (stand own found.after (put_value (Int found.number) on))

-- ---- an own variable, or its item at an index

abbrev pub path_of : Option ℤ → List Sel
path_of None = []
path_of (Some index) = At index ∷ []

abbrev pub whole_of : ℕ → Part
whole_of var = record { var = var; index = None }

abbrev pub place_in : Part → Located
place_in part = record { spot = an_own part.var; path = path_of part.index }

-- the number of the part on top is put in its place
abbrev pub Loads : Code → List (Option Own) → Part → ℕ → Found → Type 0
Loads code own part address found =
    (on : Operands) → LeadsTo code (stand own address (put_place (place_in part) on)) (stand own found.after (put_value (Int found.number) on))

-- a number is put after the part
abbrev pub Follows : Code → List (Option Own) → Part → ℕ → Found → Type 0
Follows code own part address found =
    (on : Operands) → LeadsTo code (stand own address (put_place (place_in part) on)) (stand own found.after (put_value (Int found.number) (put_place (place_in part) on)))

-- a number that was put after a variable becomes the index of its item
abbrev pub Indexes : Code → Found → Found → Type 0
Indexes code first index =
    (own : List (Option Own)) (var : ℕ) (on : Operands) → LeadsTo code (stand own first.after (put_value (Int first.number) (put_place (place_in (whole_of var)) on)))
    (stand own index.after (put_place (place_in (record { var = var; index = Some index.number })) on))

-- a number that was put becomes another
abbrev pub Replaces : Code → List (Option Own) → Found → Found → Type 0
Replaces code own first found =
    (on : Operands) → LeadsTo code (stand own first.after (put_value (Int first.number) on)) (stand own found.after (put_value (Int found.number) on))

-- a truth that was put decides where the process goes on
abbrev pub Jumps : Code → List (Option Own) → Bool → ℕ → ℕ → Type 0
Jumps code own truth address to = (on : Operands) → LeadsTo code (stand own address (put_value (truth_value truth) on)) (stand own to on)

-- a number that was put decides where the process goes on
abbrev pub Decides : Code → List (Option Own) → Found → ℕ → Type 0
Decides code own first to = (on : Operands) → LeadsTo code (stand own first.after (put_value (Int first.number) on)) (stand own to on)

-- From an address, with these operands put: a number is put, or it is stored in a part, where it fits there.
abbrev pub Does : Code → List (Option Own) → (Operands → Operands) → ℕ → Stretch → Type 0
Does code own puts address (puts_number found) = (on : Operands) → LeadsTo code (stand own address (puts on)) (stand own found.after (put_value (Int found.number) on))
Does code own puts address (stores_number assigned) =
    (stored : List (Option Own)) → own_stored own assigned.part.var (path_of assigned.part.index) (Int assigned.found.number) ≡ Ok stored
    → (on : Operands) → LeadsTo code (stand own address (puts on)) (stand stored assigned.found.after on)

-- ---- single instructions that go on

-- an instruction takes a tick, and goes on there
abbrev pub TicksTo : Instruction → ℕ → ℕ → Type 0
TicksTo instruction next to =
    (names : List (List (List ℕ))) (here : Here) (frame : Frame) → begun names instruction here next frame.operands frame ≡ ticking frame.ticks (λ f. went to frame.operands f) frame
