-- The text of a snapshot, line by line.
use Rattle.std.specs.Prelude.{ℕ, List, [], ◌∷◌, ◌++◌, codes, flat_map, Option, Some, None, slice_get}
use Rattle.std.specs.Fmt.{decimal}
use Rattle.sr_ask.specs.declared.ask.Asks.{Asks}
use Rattle.sr_ask.specs.declared.ask.Asks.TheVariants.{Asked, OverTicks}
use Rattle.sr_ask.specs.declared.ask.Role.{Role}
use Rattle.sr_ask.specs.declared.ask.Role.TheVariants as role
use Rattle.sr_ask.specs.declared.request.Request.{Request}
use Rattle.sr_ask.specs.declared.request.Request.TheVariants as request
use Rattle.sr_core.specs.declared.component.Component.{Component}
use Rattle.sr_core.specs.declared.component.Core.{Core}
use Rattle.sr_core.specs.declared.component.Operation.{Operation}
use Rattle.sr_instances.specs.declared.state.State.{State}
use Rattle.sr_instances.specs.declared.state.State.TheVariants as state
use Rattle.sr_queue.specs.declared.pending.Pending.{Pending}
use Rattle.sr_value.specs.declared.fault.Fault.{Fault}
use Rattle.sr_value.specs.declared.fault.Fault.TheVariants as fault
use Rattle.sr_world.specs.declared.ends.End.{End}
use Rattle.sr_world.specs.declared.ends.End.TheVariants as end
use Rattle.sr_replay.specs.declared.snapshot.ShownInstance.{ShownInstance}
use Rattle.sr_replay.specs.declared.snapshot.ShownProcess.{ShownProcess}
use Rattle.sr_replay.specs.declared.snapshot.Snapshot.{Snapshot}

-- ---- names

abbrev pub state_name : State → List ℕ
state_name state.Starting = codes "Starting"
state_name state.Ready = codes "Ready"
state_name state.Closing = codes "Closing"
state_name state.Gone = codes "Gone"

abbrev pub role_name : Role → List ℕ
role_name role.Boot = codes "boot"
role_name role.Initial = codes "initial"
role_name role.Proc = codes "proc"
role_name role.Final = codes "final"

abbrev pub fault_name : Fault → List ℕ
fault_name fault.Overflow = codes "E1 Overflow"
fault_name fault.ZeroDivisor = codes "E2 ZeroDivisor"
fault_name fault.Index = codes "E3 Index"
fault_name fault.Shape = codes "E4 Shape"
fault_name fault.StringLength = codes "E5 StringLength"
fault_name fault.Range = codes "E6 Range"
fault_name fault.NullCap = codes "E7 NullCap"
fault_name fault.Gone = codes "E8 Gone"
fault_name fault.BadStatus = codes "E9 BadStatus"
fault_name fault.TooLarge = codes "E10 TooLarge"
fault_name fault.Early = codes "E11 Early"

abbrev pub request_name : Request → List ℕ
request_name (request.Declare block var shape) = codes "Declare"
request_name (request.Load block var path) = codes "Load"
request_name (request.Store block var path value) = codes "Store"
request_name (request.Invoke target args wants) = codes "Invoke"
request_name (request.Select site env) = codes "Select"
request_name (request.Take ids) = codes "Take"
request_name (request.Reply held back results) = codes "Reply"
request_name (request.Forward held back target args) = codes "Forward"
request_name (request.Count op) = codes "Count"
request_name (request.Write bytes) = codes "Write"
request_name (request.Read kind) = codes "Read"
request_name (request.EnsureGlobal global vm) = codes "EnsureGlobal"
request_name (request.Create resource args vm) = codes "Create"
request_name request.MakeVm = codes "MakeVm"
request_name (request.Destroy target) = codes "Destroy"
request_name (request.Finish answered back results) = codes "Finish"
request_name (request.Stop status) = codes "Stop"
request_name (request.Fail fault) = codes "Fail"
request_name request.Age = codes "Age"
request_name (request.Wake until) = codes "Wake"

abbrev pub asks_name : Asks → List ℕ
asks_name (Asked ask) = request_name ask.request
asks_name OverTicks = codes "OverTicks"

abbrev pub own_name : Option Component → List ℕ
own_name None = []
own_name (Some component) = component.name

abbrev pub component_name : Core → ℕ → List ℕ
component_name core component = own_name (slice_get core.components component)

-- an operation: the name of its component, a point, and its own name
abbrev pub full_name : Core → Option Operation → List ℕ
full_name core None = []
full_name core (Some operation) = component_name core operation.component ++ 46 ∷ operation.name

-- ---- lines

-- each word of a line but the first comes after a space
abbrev pub word : List ℕ → List ℕ
word text = 32 ∷ text

abbrev pub ending_words : Option End → List ℕ
ending_words None = word (codes "none")
ending_words (Some end.Quiet) = word (codes "quiet")
ending_words (Some (end.Stopped status)) = word (codes "stopped") ++ word (decimal status)
ending_words (Some (end.Failed fault place)) = word (codes "failed") ++ word (fault_name fault) ++ word (decimal place.line)

abbrev pub number_line : List ℕ → ℕ → List ℕ
number_line name number = name ++ word (decimal number) ++ 10 ∷ []

abbrev pub head_lines : Snapshot → List ℕ
head_lines snapshot =
    number_line (codes "items") snapshot.items ++ (codes "ending" ++ ending_words snapshot.ending ++ 10 ∷ [])
    ++ number_line (codes "moment") snapshot.moment ++ number_line (codes "output") snapshot.output

abbrev pub instance_line : Core → ShownInstance → List ℕ
instance_line core instance =
    codes "instance" ++ word (decimal instance.name) ++ word (component_name core instance.component) ++ word (state_name instance.state) ++ 10 ∷ []

abbrev pub process_line : ShownProcess → List ℕ
process_line process =
    codes "process" ++ word (decimal process.process) ++ word (role_name process.role) ++ word (codes "instance") ++ word (decimal process.instance)
    ++ word (codes "asks") ++ word (asks_name process.asks) ++ 10 ∷ []

abbrev pub pending_words : Core → ℕ → ℕ → List ℕ
pending_words core id op = codes "pending" ++ word (decimal id) ++ word (full_name core (slice_get core.operations op)) ++ 10 ∷ []

abbrev pub pending_line : Core → Pending → List ℕ
pending_line core pending = pending_words core pending.id pending.op

abbrev pub snapshot_text : Core → Snapshot → List ℕ
snapshot_text core snapshot =
    head_lines snapshot ++ flat_map (instance_line core) snapshot.instances ++ flat_map process_line snapshot.processes
    ++ flat_map (pending_line core) snapshot.pending
