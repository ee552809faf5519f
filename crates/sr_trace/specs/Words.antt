-- The words for what runs and for what it does.
use Rattle.std.specs.Prelude.{ℕ, List, [], ◌∷◌, ◌++◌, codes, Option, Some, None, slice_get}
use Rattle.sr_ask.specs.declared.ask.Role.{Role}
use Rattle.sr_ask.specs.declared.ask.Role.TheVariants as role
use Rattle.sr_core.specs.declared.component.Component.{Component}
use Rattle.sr_core.specs.declared.component.Core.{Core}
use Rattle.sr_core.specs.declared.component.Operation.{Operation}
use Rattle.sr_core.specs.declared.component.Proc.{Proc}
use Rattle.sr_trace.specs.declared.traced.Act.{Act}
use Rattle.sr_trace.specs.declared.traced.Act.TheVariants as act
use Rattle.sr_trace.specs.declared.traced.Runs.{Runs}
use Rattle.sr_trace.specs.declared.traced.Runs.TheVariants as runs
use Rattle.sr_trace.specs.declared.traced.Subject.{Subject}
use Rattle.sr_trace.specs.declared.traced.Subject.TheVariants as subject

-- ---- names, each after a space

abbrev pub component_words : Option Component → List ℕ
component_words None = []
component_words (Some component) = 32 ∷ component.name

-- an operation: the name of its component, a point, and its own name
abbrev pub operation_words : Core → Option Operation → List ℕ
operation_words core None = []
operation_words core (Some operation) = component_words (slice_get core.components operation.component) ++ 46 ∷ operation.name

-- a proc is called as the operation that it services
abbrev pub proc_words : Core → Option Proc → List ℕ
proc_words core None = []
proc_words core (Some proc) = operation_words core (slice_get core.operations proc.op)

-- ---- what runs

abbrev pub role_name : Role → List ℕ
role_name role.Boot = codes "boot"
role_name role.Initial = codes "initial"
role_name role.Proc = codes "proc"
role_name role.Final = codes "final"

abbrev pub code_words : Core → Role → ℕ → List ℕ
code_words core role.Boot code = []
code_words core role.Initial code = component_words (slice_get core.components code)
code_words core role.Proc code = proc_words core (slice_get core.procs code)
code_words core role.Final code = component_words (slice_get core.components code)

abbrev pub runs_words : Core → Runs → List ℕ
runs_words core runs.Machine = codes "machine"
runs_words core (runs.Process role code) = role_name role ++ code_words core role code

-- ---- what is done

abbrev pub act_words : Act → List ℕ
act_words act.Declare = codes "declares a variable"
act_words act.Load = codes "reads a variable"
act_words act.Store = codes "assigns a variable"
act_words act.Call = codes "calls"
act_words act.Send = codes "sends"
act_words act.Service = codes "services"
act_words act.Take = codes "takes a reply"
act_words act.Reply = codes "replies"
act_words act.Forward = codes "forwards"
act_words act.Count = codes "counts"
act_words act.Write = codes "writes"
act_words act.Read = codes "reads input"
act_words act.Import = codes "imports"
act_words act.Create = codes "creates"
act_words act.MakeMachine = codes "creates vm"
act_words act.Destroy = codes "destroys an instance"
act_words act.Finish = codes "ends"
act_words act.Stop = codes "stops"
act_words act.Fail = codes "fails"
act_words act.Age = codes "asks the time"
act_words act.Nap = codes "naps"
act_words act.Close = codes "begins the final code"
act_words act.End = codes "ends the run"
act_words act.Tick = codes "lets time pass"

abbrev pub subject_words : Core → Subject → List ℕ
subject_words core subject.Nothing = []
subject_words core (subject.Operation op) = operation_words core (slice_get core.operations op)
subject_words core (subject.Component component) = component_words (slice_get core.components component)

-- what an item does, and what that names
abbrev pub deed_words : Core → Act → Subject → List ℕ
deed_words core act subject = act_words act ++ subject_words core subject
