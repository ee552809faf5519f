-- The acts that steps are made of. Each is on one part of a world: it says what it demands there, and what it does there.
use Rattle.std.specs.Prelude.{◌≡◌, ◌==◌, ◌&&◌, ℕ, Bool, true, false, List, Option, Some, Result, Ok, Err, nat_lt}
use Rattle.std.specs.List.{list_all}
use Rattle.sr_ask.specs.declared.ask.Role.TheVariants.{Proc as proc_role}
use Rattle.sr_ask.specs.declared.entry.Seen.{Seen}
use Rattle.sr_calls.specs.Calls.{earliest_reply, without_first}
use Rattle.sr_calls.specs.declared.held.Held.{Held}
use Rattle.sr_calls.specs.declared.held.Reply.{Reply}
use Rattle.sr_core.specs.declared.component.Core.{Core}
use Rattle.sr_core.specs.declared.owner.Me.{Me}
use Rattle.sr_core.specs.declared.site.Site.{Site}
use Rattle.sr_instances.specs.Instances.{state_of}
use Rattle.sr_queue.specs.Queues.{is_of, waiting}
use Rattle.sr_queue.specs.declared.pending.Pending.{Pending}
use Rattle.sr_select.specs.Choices.{choice, owner_in}
use Rattle.sr_select.specs.Laws.{Chosen, Services_it, Runs_else, chosen_in}
use Rattle.sr_select.specs.Readings.{Reading}
use Rattle.sr_select.specs.Shown.{ShowsAll}
use Rattle.sr_select.specs.Worlds.{listed, reads_only}
use Rattle.sr_store.specs.Variables.{Variables, declared_in, loaded_in, stored_in}
use Rattle.sr_buckets.specs.Parts.{home}
use Rattle.sr_touch.specs.Homes.{line_home}
use Rattle.sr_value.specs.declared.capability.Owner.{Owner}
use Rattle.sr_value.specs.declared.fault.Fault.{Fault}
use Rattle.sr_value.specs.declared.shape.Sel.{Sel}
use Rattle.sr_value.specs.declared.shape.Shape.{Shape}
use Rattle.sr_value.specs.declared.value.Value.{Value}
use Rattle.sr_world.specs.Answering.{answer, duty_held}
use Rattle.sr_world.specs.Invoking.{instance_gone, instance_of_process}
use Rattle.sr_world.specs.Making.{start_in}
use Rattle.sr_world.specs.Updates.{add_pending, add_process, drop_reply, end_process, hold, release, with_variables}
use Rattle.sr_world.specs.Worlds.{World, is_live}
use Rattle.sr_world.specs.declared.duty.Duty.{Duty}

pub data Act : Type 0 where
  -- the process lives, and runs the code of this instance
  Lives : (process : ℕ) → Act
  RunsIn : (process instance : ℕ) → Act
  -- the process finds that the instance is there, and that this moment has come
  Finds : (process instance : ℕ) → Act
  HasCome : (process until : ℕ) → Act
  -- a variable is declared; the value at a path is this; this value is stored there
  Declares : (block var : ℕ) → Shape → Act
  Sees : (block var : ℕ) → List Sel → Value → Act
  Stores : (block var : ℕ) → List Sel → Value → Act
  -- so many invocations of an operation are pending; an invocation arrives
  Counts : Owner → (op count : ℕ) → Act
  Comes : Pending → Act
  -- the process holds an invocation from now on; it has this duty under a number; it holds that no longer
  Holds : (process : ℕ) → Held → Act
  Owes : (process id : ℕ) → Duty → Act
  Frees : (process id : ℕ) → Act
  -- the one who waits gets an answer, if it lives; the process takes its earliest reply to one of these invocations
  Answers : Duty → Option (List Value) → Act
  Takes : (process : ℕ) → List ℕ → Reply → Act
  -- a process begins to run a proc of an instance, for the one that waits; a process ends
  Begins : (process instance proc : ℕ) → List Value → (back : ℕ) → Act
  Goes : (process : ℕ) → Act
  -- the choice of a statement, after its guards have seen this: the process services an invocation of a line by an arm, or
  -- runs its `else`
  Serves : Me → Site → List Value → List Seen → Pending → (arm : ℕ) → Act
  Passes : Me → Site → List Value → List Seen → (op : ℕ) → Act
  -- no step is like this
  Never : (process : ℕ) → Act

-- ---- the part

abbrev pub part : (ℕ → ℕ) → Act → ℕ
part class (Lives process) = home process
part class (RunsIn process instance) = home process
part class (Finds process instance) = home process
part class (HasCome process until) = home process
part class (Declares block var shape) = home block
part class (Sees block var path value) = home block
part class (Stores block var path value) = home block
part class (Counts owner op count) = line_home class owner op
part class (Comes pending) = line_home class pending.owner pending.op
part class (Holds process held) = home process
part class (Owes process id duty) = home process
part class (Frees process id) = home process
part class (Answers duty results) = home duty.back
part class (Takes process ids reply) = home process
part class (Begins process instance proc args back) = home process
part class (Goes process) = home process
part class (Serves me site env seen invocation arm) = line_home class invocation.owner invocation.op
part class (Passes me site env seen op) = line_home class (owner_in site.scope me) op
part class (Never process) = home process

-- ---- what it demands

abbrev pub IsDone : {A : Type 0} → Result A Fault → Type 0
IsDone (Ok result) = Unit {0}
IsDone (Err fault) = ⊥

-- ---- a choice

-- all arms are of the class of an operation, and guards read no more than the statement lists
abbrev pub StandsInLine : (ℕ → ℕ) → ℕ → Site → Type 0
StandsInLine class op site = (list_all (λ arm. class arm.op == class op) site.arms ≡ true) × (reads_only (listed site) site ≡ true)

-- whatever else the guards may read: as long as they find what was seen, this is the choice among these invocations
abbrev pub Chooses : Core → Me → Site → List Value → List Seen → Chosen → List Pending → Type 0
Chooses core me site env seen chosen items =
    (reading : Reading) → reading.names ≡ core.names → ShowsAll reading seen → chosen_in items (choice reading site me env items) ≡ chosen

-- ---- the demands

abbrev pub Fits : Core → (ℕ → ℕ) → Act → World → Type 0
Fits core class (Lives process) world = is_live world process ≡ true
Fits core class (RunsIn process instance) world = instance_of_process world process ≡ instance
Fits core class (Finds process instance) world = instance_gone (state_of world.places instance) ≡ false
Fits core class (HasCome process until) world = nat_lt world.moment until ≡ false
Fits core class (Declares block var shape) world = IsDone (declared_in world.variables block var shape)
Fits core class (Sees block var path value) world = loaded_in world.variables block var path ≡ Ok value
Fits core class (Stores block var path value) world = IsDone (stored_in world.variables block var path value)
Fits core class (Counts owner op count) world = waiting owner op world.pending ≡ count
Fits core class (Owes process id duty) world = duty_held world process id ≡ duty
Fits core class (Takes process ids reply) world = earliest_reply world.replies process ids ≡ Some reply
Fits core class (Serves me site env seen invocation arm) world =
    (invocation.owner ≡ owner_in site.scope me) × StandsInLine class invocation.op site × Chooses core me site env seen (Services_it (Some invocation) arm) world.pending
Fits core class (Passes me site env seen op) world = StandsInLine class op site × Chooses core me site env seen Runs_else world.pending
Fits core class (Never process) world = ⊥
Fits core class _ world = Unit {0}

-- ---- what it does

abbrev pub or_same : Variables → Result Variables Fault → Variables
or_same before (Ok later) = later
or_same before (Err fault) = before

-- the same invocation, by its number and its operation
abbrev pub is_it : Pending → Pending → Bool
is_it invocation other = (other.id == invocation.id) && is_of invocation.owner invocation.op other

abbrev pub apply : Core → Act → World → World
apply core (Declares block var shape) world = with_variables (or_same world.variables (declared_in world.variables block var shape)) world
apply core (Stores block var path value) world = with_variables (or_same world.variables (stored_in world.variables block var path value)) world
apply core (Comes pending) world = add_pending pending world
apply core (Holds process held) world = hold process held world
apply core (Frees process id) world = release process id world
apply core (Answers duty results) world = answer duty results world
apply core (Takes process ids reply) world = drop_reply process ids world
apply core (Begins process instance proc args back) world = add_process (start_in core world process instance proc_role proc args back) world
apply core (Goes process) world = end_process process world
apply core (Serves me site env seen invocation arm) world = record world { pending = without_first (is_it invocation) world.pending }
apply core _ world = world
