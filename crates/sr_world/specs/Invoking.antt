-- What an invocation does: it starts a process where its operation has a proc, and else it waits to be serviced.
use Rattle.std.specs.Prelude.{ℕ, Bool, true, false, not, List, Option, Some, None, unwrap_or, slice_get, if◌then◌else◌}
use Rattle.std.specs.Option.{option_map}
use Rattle.sr_ask.specs.declared.answer.Answer.TheVariants as answer
use Rattle.sr_core.specs.declared.component.Core.{Core}
use Rattle.sr_core.specs.declared.component.Operation.{Operation}
use Rattle.sr_core.specs.declared.statement.Scope.{Scope}
use Rattle.sr_core.specs.declared.statement.Scope.TheVariants.{Own, Shared}
use Rattle.sr_instances.specs.Instances.{state_of}
use Rattle.sr_instances.specs.declared.state.State.{State}
use Rattle.sr_instances.specs.declared.state.State.TheVariants.{Gone}
use Rattle.sr_value.specs.declared.capability.Cap.{Cap}
use Rattle.sr_value.specs.declared.capability.Cap.TheVariants as cap
use Rattle.sr_value.specs.declared.capability.Owner.{Owner}
use Rattle.sr_value.specs.declared.capability.Owner.TheVariants.{Inst, Proc}
use Rattle.sr_value.specs.declared.fault.Fault.TheVariants as fault
use Rattle.sr_value.specs.declared.place.Place.{Place}
use Rattle.sr_value.specs.declared.value.Value.{Value}
use Rattle.sr_world.specs.Answering.{answer as answered}
use Rattle.sr_world.specs.Does.{Does, Cannot, Makes, failed, where_some}
use Rattle.sr_world.specs.Making.{run_proc}
use Rattle.sr_world.specs.Updates.{add_pending, use_name}
use Rattle.sr_world.specs.Worlds.{World, is_live, started}
use Rattle.sr_world.specs.declared.duty.Duty.{Duty}

-- ---- owners

abbrev pub instance_gone : Option State → Bool
instance_gone None = true
instance_gone (Some Gone) = true
instance_gone _ = false

-- an instance is gone when it has ended, and a process too; what never was counts as gone
abbrev pub is_gone : World → Owner → Bool
is_gone world (Inst instance) = instance_gone (state_of world.places instance)
is_gone world (Proc process) = not (is_live world process)

-- the instance that a process runs the code of; 0 for one that doesn't live
abbrev pub instance_of_process : World → ℕ → ℕ
instance_of_process world process = unwrap_or (option_map (λ start. start.instance) (started world process)) 0

abbrev pub owner_instance : World → Owner → ℕ
owner_instance world (Inst instance) = instance
owner_instance world (Proc process) = instance_of_process world process

-- an operation of a scope, as a process of this instance means it
abbrev pub owner_for : World → ℕ → Scope → Owner
owner_for world process Shared = Inst (instance_of_process world process)
owner_for world process Own = Proc process

-- ---- an invocation with its number

-- it waits for its service, after all that are pending
abbrev pub wait : ℕ → Owner → ℕ → List Value → Duty → World → World
wait name owner op args duty world = add_pending
    (record { id = name; op = op; owner = owner; args = args; back = duty.back; back_id = duty.back_id }) (use_name name world)

abbrev pub arrive : Core → ℕ → Owner → ℕ → List Value → Duty → Option ℕ → World → World
arrive core name owner op args duty (Some proc) world = run_proc core name (owner_instance world owner) proc args duty world
arrive core name owner op args duty None world = wait name owner op args duty world

-- an invocation of an operation that has this proc, or none: E8 where its owner is gone
abbrev pub invoke_found : Core → Place → ℕ → Owner → ℕ → List Value → Duty → World → Option ℕ → Does
invoke_found core place name owner op args duty world proc =
    if is_gone world owner then failed place fault.Gone else Makes (arrive core name owner op args duty proc world) (answer.Made name)

abbrev pub invoke_operation : Core → Place → ℕ → Owner → ℕ → List Value → Duty → World → Operation → Does
invoke_operation core place name owner op args duty world operation = invoke_found core place name owner op args duty world operation.proc

-- `null` is E7; `noop` answers at once, without results; an operation that isn't in the program, and a capability of no operation, can't be invoked
abbrev pub invoke : Core → Place → ℕ → Cap → List Value → Duty → World → Does
invoke core place name cap.Null args duty world = failed place fault.NullCap
invoke core place name cap.Noop args duty world = Makes (answered duty None (use_name name world)) (answer.Made name)
invoke core place name (cap.Op owner op) args duty world =
    where_some (slice_get core.operations op) (invoke_operation core place name owner op args duty world)
invoke core place name _ args duty world = Cannot
