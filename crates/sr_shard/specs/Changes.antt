-- What acts change.
use Rattle.std.specs.Prelude.{ℕ, ◌==◌, ◌&&◌, Bool, List, [], ◌∷◌, Result, Ok, Err, flat_map}
use Rattle.sr_ask.specs.declared.ask.Role.TheVariants.{Proc as proc_role}
use Rattle.sr_calls.specs.Calls.{without_first}
use Rattle.sr_core.specs.declared.component.Core.{Core}
use Rattle.sr_instances.specs.Instances.{Placed}
use Rattle.sr_queue.specs.Queues.{is_of}
use Rattle.sr_queue.specs.declared.pending.Pending.{Pending}
use Rattle.sr_store.specs.Variables.{stored_in, with_variable}
use Rattle.sr_value.specs.Shapes.{default_value}
use Rattle.sr_value.specs.declared.capability.Owner.{Owner}
use Rattle.sr_value.specs.declared.fault.Fault.{Fault}
use Rattle.sr_value.specs.declared.shape.Shape.{Shape}
use Rattle.sr_value.specs.declared.value.Value.{Value}
use Rattle.sr_world.specs.Answering.{answer}
use Rattle.sr_world.specs.Making.{start_in}
use Rattle.sr_world.specs.Updates.{add_pending, add_process, drop_reply, end_process, hold, release, with_variables}
use Rattle.sr_world.specs.Worlds.{World, beginning}
use Rattle.sr_shard.specs.Acts as act
use Rattle.sr_shard.specs.declared.change.Change.{Change}
use Rattle.sr_shard.specs.declared.change.Change.TheVariants as change

-- ---- what a change does

abbrev pub is_numbered : Owner → ℕ → ℕ → Pending → Bool
is_numbered owner op id pending = (pending.id == id) && is_of owner op pending

abbrev pub changed : Change → World → World
changed (change.Declare block var shape value) world = with_variables (with_variable world.variables block var (record { shape = shape; value = value })) world
changed (change.Store block var path value) world = with_variables (act.or_same world.variables (stored_in world.variables block var path value)) world
changed (change.Arrive invocation) world = add_pending invocation world
changed (change.Depart owner op id) world = record world { pending = without_first (is_numbered owner op id) world.pending }
changed (change.Hold process held) world = hold process held world
changed (change.Free process id) world = release process id world
changed (change.Answer process id results) world = answer (record { back = process; back_id = id }) results world
changed (change.Take process ids) world = drop_reply process ids world
changed (change.Begin start) world = add_process start world
changed (change.End process) world = end_process process world

-- one after another
abbrev pub all_changed : List Change → World → World
all_changed [] world = world
all_changed (one ∷ others) world = all_changed others (changed one world)

-- ---- what an act changes

-- a variable gets the default of its shape, where the shape has one
abbrev pub declared : ℕ → ℕ → Shape → Result Value Fault → List Change
declared block var shape (Ok value) = change.Declare block var shape value ∷ []
declared block var shape (Err fault) = []

-- a process is made from what stands in no part: instances and machines
abbrev pub standing : Placed → World
standing places = record beginning { places = places }

-- the demands of an act change nothing
abbrev pub changes_of : Core → Placed → act.Act → List Change
changes_of core places (act.Declares block var shape) = declared block var shape (default_value shape)
changes_of core places (act.Stores block var path value) = change.Store block var path value ∷ []
changes_of core places (act.Comes pending) = change.Arrive pending ∷ []
changes_of core places (act.Holds process held) = change.Hold process held ∷ []
changes_of core places (act.Frees process id) = change.Free process id ∷ []
changes_of core places (act.Answers duty results) = change.Answer duty.back duty.back_id results ∷ []
changes_of core places (act.Takes process ids reply) = change.Take process ids ∷ []
changes_of core places (act.Begins process instance proc args back) = change.Begin (start_in core (standing places) process instance proc_role proc args back) ∷ []
changes_of core places (act.Goes process) = change.End process ∷ []
changes_of core places (act.Serves me site env seen invocation arm) = change.Depart invocation.owner invocation.op invocation.id ∷ []
changes_of core places _ = []

abbrev pub all_changes : Core → Placed → List act.Act → List Change
all_changes core places acts = flat_map (changes_of core places) acts
