-- Which parts of the world a request of a process touches: those where it reads something or changes it. A request is
-- wide where it changes what stands in no part, as instances, machines, input and output, or touches more than three.
use Rattle.std.specs.List.{list_all}
use Rattle.std.specs.Option.{option_map}
use Rattle.std.specs.Prelude.{ℕ, zero, suc, ◌==◌, Bool, true, false, not, ◌&&◌, List, [], ◌∷◌, ◌++◌, filter_map, is_some, length, nat_le, Option, Some, None, Result, Ok, Err, slice_get, if◌then◌else◌}
use Rattle.sr_value.specs.declared.capability.Cap.{Cap}
use Rattle.sr_value.specs.declared.capability.Cap.TheVariants as cap
use Rattle.sr_value.specs.declared.capability.Owner.{Owner}
use Rattle.sr_value.specs.declared.capability.Owner.TheVariants.{Inst, Proc}
use Rattle.sr_value.specs.declared.fault.Fault.{Fault}
use Rattle.sr_value.specs.declared.value.Value.{Value}
use Rattle.sr_ask.specs.declared.ask.Ask.{Ask}
use Rattle.sr_ask.specs.declared.ask.Role.{Role}
use Rattle.sr_ask.specs.declared.ask.Role.TheVariants.{Proc as proc_role}
use Rattle.sr_ask.specs.declared.request.Request.{Request}
use Rattle.sr_ask.specs.declared.request.Request.TheVariants as request
use Rattle.sr_core.specs.declared.component.Core.{Core}
use Rattle.sr_core.specs.declared.component.Operation.{Operation}
use Rattle.sr_core.specs.declared.owner.Me.{Me}
use Rattle.sr_core.specs.declared.site.Arm.{Arm}
use Rattle.sr_core.specs.declared.site.Named.{Named}
use Rattle.sr_core.specs.declared.site.SharedRead.{SharedRead}
use Rattle.sr_core.specs.declared.site.Site.{Site}
use Rattle.sr_select.specs.Choices.{owner_in}
use Rattle.sr_select.specs.Guards.{guard_block, home_seen}
use Rattle.sr_select.specs.Worlds.{listed, reads_only}
use Rattle.sr_buckets.specs.Parts.{home}
use Rattle.sr_touch.specs.Homes.{line_home}
use Rattle.sr_touch.specs.Orders.{in_order}

-- ---- invocations

-- an operation of a process can be invoked as long as that process lives
abbrev pub owner_parts : Owner → List ℕ
owner_parts (Inst instance) = []
owner_parts (Proc process) = home process ∷ []

-- a proc gets a process with the number of the step; else the invocation waits in the line of its class
abbrev pub arrival_part : (ℕ → ℕ) → ℕ → Owner → ℕ → Option ℕ → ℕ
arrival_part class name owner op (Some proc) = home name
arrival_part class name owner op None = line_home class owner op

abbrev pub operation_parts : (ℕ → ℕ) → ℕ → Owner → ℕ → Option Operation → List ℕ
operation_parts class name owner op None = []
operation_parts class name owner op (Some operation) = owner_parts owner ++ arrival_part class name owner op operation.proc ∷ []

-- the one that gets an answer; process 0 is nobody
abbrev pub caller_parts : ℕ → List ℕ
caller_parts zero = []
caller_parts (suc n) = home (suc n) ∷ []

-- an invocation that is answered to `back`, by `noop` at once
abbrev pub invoked_parts : Core → (ℕ → ℕ) → ℕ → ℕ → Cap → List ℕ
invoked_parts core class name back cap.Noop = caller_parts back
invoked_parts core class name back (cap.Op owner op) = operation_parts class name owner op (slice_get core.operations op)
invoked_parts core class name back _ = []

-- ---- selection

-- the line of an operation, as a process means it
abbrev pub count_part : Core → (ℕ → ℕ) → Me → ℕ → Option ℕ
count_part core class me op = option_map (λ operation. line_home class (owner_in operation.scope me) op) (slice_get core.operations op)

abbrev pub block_part : Result ℕ Fault → Option ℕ
block_part (Ok block) = Some (home block)
block_part (Err fault) = None

-- the block of a shared variable that guards read; where its instance isn't known they read nothing
abbrev pub read_part : Me → List Named → List Value → SharedRead → Option ℕ
read_part me names env read = block_part (guard_block me (home_seen names env) read.home)

-- the line from which a statement services, by its first arm
abbrev pub line_parts : (ℕ → ℕ) → Owner → List Arm → List ℕ
line_parts class owner [] = []
line_parts class owner (arm ∷ arms) = line_home class owner arm.op ∷ []

-- the line of a statement, the blocks that its guards read, and the lines that they count
abbrev pub site_parts : Core → (ℕ → ℕ) → Me → List Value → Site → List ℕ
site_parts core class me env site =
    line_parts class (owner_in site.scope me) site.arms ++ (filter_map (read_part me site.names env) site.reads ++ filter_map (count_part core class me) site.counts)

abbrev pub select_parts : Core → (ℕ → ℕ) → Me → List Value → Option Site → List ℕ
select_parts core class me env None = []
select_parts core class me env (Some site) = site_parts core class me env site

-- ---- the table

abbrev pub one_part : Option ℕ → List ℕ
one_part None = []
one_part (Some part) = part ∷ []

abbrev pub answer_parts : Bool → ℕ → List ℕ
answer_parts true back = []
answer_parts false back = caller_parts back

-- the parts that a request touches beside that of its process, where the step has this number
abbrev pub parts_beside : Core → (ℕ → ℕ) → Me → ℕ → Request → List ℕ
parts_beside core class me name (request.Declare block var shape) = home block ∷ []
parts_beside core class me name (request.Load block var path) = home block ∷ []
parts_beside core class me name (request.Store block var path value) = home block ∷ []
parts_beside core class me name (request.Invoke target args wants) = invoked_parts core class name me.process target
parts_beside core class me name (request.Select site env) = select_parts core class me env (slice_get core.sites site)
parts_beside core class me name (request.Reply held back results) = caller_parts back
parts_beside core class me name (request.Forward held back target args) = invoked_parts core class name back target
parts_beside core class me name (request.Count op) = one_part (count_part core class me op)
parts_beside core class me name (request.Finish answered back results) = answer_parts answered back
parts_beside core class me name _ = []

abbrev pub parts_of : Core → (ℕ → ℕ) → Me → ℕ → Request → List ℕ
parts_of core class me name request = in_order (home me.process ∷ parts_beside core class me name request)

-- ---- wide requests

abbrev pub is_proc : Role → Bool
is_proc proc_role = true
is_proc role = false

-- all arms are of one class
abbrev pub has_one_class : (ℕ → ℕ) → List Arm → Bool
has_one_class class [] = true
has_one_class class (arm ∷ arms) = list_all (λ other. class other.op == class arm.op) arms

-- a statement whose guards read no more than it lists, with one line and at most three parts in all
abbrev pub is_narrow : Core → (ℕ → ℕ) → Me → List Value → Site → Bool
is_narrow core class me env site =
    has_one_class class site.arms && (reads_only (listed site) site && nat_le (length (in_order (home me.process ∷ site_parts core class me env site))) 3)

-- A process that begins for an operation of another process would take over what that other's part says of it. No
-- operation of a process has a proc in any program.
abbrev pub is_wide_arrival : Owner → Option Operation → Bool
is_wide_arrival (Proc process) (Some operation) = is_some operation.proc
is_wide_arrival owner operation = false

abbrev pub is_wide_target : Core → Cap → Bool
is_wide_target core (cap.Op owner op) = is_wide_arrival owner (slice_get core.operations op)
is_wide_target core _ = false

-- a statement that isn't in the program can't be done
abbrev pub is_wide_site : Core → (ℕ → ℕ) → Me → List Value → Option Site → Bool
is_wide_site core class me env None = false
is_wide_site core class me env (Some site) = not (is_narrow core class me env site)

-- a reply and an end change nothing but parts where a proc runs
abbrev pub is_wide_request : Core → (ℕ → ℕ) → Me → Role → Request → Bool
is_wide_request core class me role (request.Declare block var shape) = false
is_wide_request core class me role (request.Load block var path) = false
is_wide_request core class me role (request.Store block var path value) = false
is_wide_request core class me role (request.Invoke target args wants) = is_wide_target core target
is_wide_request core class me role (request.Select site env) = is_wide_site core class me env (slice_get core.sites site)
is_wide_request core class me role (request.Take ids) = false
is_wide_request core class me role (request.Reply held back results) = not (is_proc role)
is_wide_request core class me role (request.Forward held back target args) = is_wide_target core target
is_wide_request core class me role (request.Count op) = false
is_wide_request core class me role (request.Write bytes) = true
is_wide_request core class me role (request.Read kind) = true
is_wide_request core class me role (request.EnsureGlobal global vm) = true
is_wide_request core class me role (request.Create resource args vm) = true
is_wide_request core class me role request.MakeVm = true
is_wide_request core class me role (request.Destroy target) = true
is_wide_request core class me role (request.Finish answered back results) = not (is_proc role)
is_wide_request core class me role (request.Stop status) = true
is_wide_request core class me role (request.Fail fault) = true
is_wide_request core class me role request.Age = true
is_wide_request core class me role (request.Wake until) = false

-- whether a request is wide; that doesn't depend on the number of its step
abbrev pub is_wide : Core → (ℕ → ℕ) → Me → Ask → Bool
is_wide core class me ask = is_wide_request core class me ask.role ask.request

-- the parts that a request touches, in order, each once; none where it is wide
abbrev pub touched : Core → (ℕ → ℕ) → Me → Ask → ℕ → Option (List ℕ)
touched core class me ask name = if is_wide core class me ask then None else Some (parts_of core class me name ask.request)
