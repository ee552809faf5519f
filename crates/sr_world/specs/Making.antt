-- How processes and instances are made.
use Rattle.std.specs.Prelude.{ℕ, Bool, true, false, List, [], map, Option, Some, unwrap_or, slice_get, is_some}
use Rattle.std.specs.List.{list_all}
use Rattle.std.specs.Option.{option_and_then, option_map}
use Rattle.sr_ask.specs.declared.ask.Role.{Role}
use Rattle.sr_ask.specs.declared.ask.Role.TheVariants.{Initial, Final, Proc as proc_role}
use Rattle.sr_ask.specs.declared.start.Start.{Start}
use Rattle.sr_core.specs.declared.component.Core.{Core}
use Rattle.sr_instances.specs.Instances.{component_of, global_in, machine_of, state_of}
use Rattle.sr_instances.specs.declared.state.State.{State}
use Rattle.sr_instances.specs.declared.state.State.TheVariants.{Starting, Ready, Closing}
use Rattle.sr_value.specs.declared.value.Value.{Value}
use Rattle.sr_world.specs.Answering.{held_of}
use Rattle.sr_world.specs.Updates.{add_instance, add_process, hold, set_state, use_name}
use Rattle.sr_world.specs.Worlds.{World}
use Rattle.sr_world.specs.declared.duty.Duty.{Duty}

-- ---- what is there

abbrev pub is_ready : Option State → Bool
is_ready (Some Ready) = true
is_ready _ = false

-- an instance that is starting or ready lives on; one that closes, is gone or never was doesn't
abbrev pub is_open : Option State → Bool
is_open (Some Starting) = true
is_open (Some Ready) = true
is_open _ = false

-- the machine and the component of an instance; 0 for one that never was, which no request of a program names
abbrev pub machine_at : World → ℕ → ℕ
machine_at world instance = unwrap_or (machine_of world.places instance) 0

abbrev pub component_at : World → ℕ → ℕ
component_at world instance = unwrap_or (component_of world.places instance) 0

abbrev pub needs_at : Core → ℕ → List ℕ
needs_at core component = unwrap_or (option_map (λ c. c.needs) (slice_get core.components component)) []

abbrev pub imports_at : Core → ℕ → List ℕ
imports_at core component = unwrap_or (option_map (λ c. c.imports) (slice_get core.components component)) []

abbrev pub has_final_code : Core → ℕ → Bool
has_final_code core component = is_some (option_and_then (λ c. c.final_code) (slice_get core.components component))

-- whether a global's instance on a machine is ready
abbrev pub global_ready : World → ℕ → ℕ → Bool
global_ready world machine global = is_ready (option_and_then (state_of world.places) (global_in world.places global machine))

-- whether all globals are that a component needs
abbrev pub needs_ready : Core → World → ℕ → ℕ → Bool
needs_ready core world component machine = list_all (global_ready world machine) (needs_at core component)

-- the instances of what a component imports, on a machine; each is there when a process of the component begins
abbrev pub homes_on : Core → World → ℕ → ℕ → List ℕ
homes_on core world component machine = map (λ global. unwrap_or (global_in world.places global machine) 0) (imports_at core component)

-- ---- processes

-- a process that runs code of an instance
abbrev pub start_in : Core → World → ℕ → ℕ → Role → ℕ → List Value → ℕ → Start
start_in core world name instance role code args back = record {
  process = name;
  instance = instance;
  vm = machine_at world instance;
  homes = homes_on core world (component_at world instance) (machine_at world instance);
  role = role;
  code = code;
  args = args;
  back = back;
}

-- a process of this number for an invocation of a proc, which it holds
abbrev pub run_proc : Core → ℕ → ℕ → ℕ → List Value → Duty → World → World
run_proc core name instance proc args duty world =
    hold name (held_of name duty) (add_process (start_in core world name instance proc_role proc args duty.back) (use_name name world))

-- an instance of this number on a machine, and its initial process of that number
abbrev pub run_initial : Core → ℕ → ℕ → ℕ → List Value → ℕ → World → World
run_initial core name component machine args back world =
    let made : World = add_instance name component machine (use_name name world) in
    add_process (start_in core made name name Initial component args back) made

-- an instance closes, and a process of this number runs its final code
abbrev pub run_final : Core → ℕ → ℕ → ℕ → World → World
run_final core name instance back world =
    add_process (start_in core world name instance Final (component_at world instance) [] back) (set_state instance Closing (use_name name world))

abbrev pub ready_from : Option State → ℕ → World → World
ready_from (Some Starting) instance world = set_state instance Ready world
ready_from _ instance world = world

-- only a starting instance becomes ready
abbrev pub make_ready : ℕ → World → World
make_ready instance world = ready_from (state_of world.places instance) instance world
