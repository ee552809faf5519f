-- Instances and machines.
use Rattle.std.specs.Prelude.{ℕ, Bool, ◌&&◌, ◌==◌, if◌then◌else◌, Option, IsSome, List, [], ◌∷◌, ◌++◌, find, map}
use Rattle.std.specs.Option.{option_map}
use Rattle.sr_instances.specs.declared.state.State.{State}
use Rattle.sr_instances.specs.declared.state.State.TheVariants.{Starting}

-- an instance of a component stands on a machine, and has come as far as its state says
pub record Instance : Type 0 where
  pub name : ℕ
  pub component : ℕ
  pub machine : ℕ
  pub state : State

-- a world has instances and machines, each in the order in which they were added
pub record Placed : Type 0 where
  pub instances : List Instance
  pub machines : List ℕ

-- an instance is known by its name
abbrev pub instance_of : Placed → ℕ → Option Instance
instance_of places name = find (λ i. name == i.name) places.instances

abbrev pub IsAdded : Placed → ℕ → Type 0
IsAdded places name = IsSome (instance_of places name)

abbrev pub state_of : Placed → ℕ → Option State
state_of places name = option_map (λ i. i.state) (instance_of places name)

abbrev pub component_of : Placed → ℕ → Option ℕ
component_of places name = option_map (λ i. i.component) (instance_of places name)

abbrev pub machine_of : Placed → ℕ → Option ℕ
machine_of places name = option_map (λ i. i.machine) (instance_of places name)

abbrev pub names_of : Placed → List ℕ
names_of places = map (λ i. i.name) places.instances

abbrev pub is_global : ℕ → ℕ → Instance → Bool
is_global global machine i = (global == i.component) && (machine == i.machine)

-- a global has one instance on each machine that needs it: the first that was added there
abbrev pub global_in : Placed → ℕ → ℕ → Option ℕ
global_in places global machine = option_map (λ i. i.name) (find (is_global global machine) places.instances)

-- the first instance of a component, on whatever machine, and its state
abbrev pub first_among : ℕ → List Instance → Option (ℕ × State)
first_among component instances = option_map (λ i. (i.name, i.state)) (find (λ i. i.component == component) instances)

-- an instance that is made goes after all others, and is starting
abbrev pub with_instance : Placed → ℕ → ℕ → ℕ → Placed
with_instance places name component machine =
    record places { instances = places.instances ++ record { name = name; component = component; machine = machine; state = Starting } ∷ [] }

-- a machine that is made goes after all others
abbrev pub with_machine : Placed → ℕ → Placed
with_machine places name = record places { machines = places.machines ++ name ∷ [] }

-- the instance of this name comes into a state; any other stays as it is
abbrev pub in_state : ℕ → State → Instance → Instance
in_state name state i = if name == i.name then record i { state = state } else i

abbrev pub with_state : Placed → ℕ → State → Placed
with_state places name state = record places { instances = map (in_state name state) places.instances }
