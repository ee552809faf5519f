-- The tables in which instances are found.
use Rattle.std.specs.Prelude.{◌≡◌, ℕ, Bool, ◌&&◌, ◌==◌, List, Option, None, Some, find, map}
use Rattle.std.specs.Map.{keys_of, lookup}
use Rattle.std.specs.Option.{option_map}
use Rattle.sr_instances.specs.Instances.{Instance, is_global}
use Rattle.sr_instances.specs.declared.tables.InstanceInfo.{InstanceInfo}
use Rattle.sr_instances.specs.declared.tables.Spot.{Spot}

abbrev pub instance_in : ℕ × InstanceInfo → Instance
instance_in entry = record { name = entry.0; component = entry.1.component; machine = entry.1.machine; state = entry.1.state }

abbrev pub instances_in : List (ℕ × InstanceInfo) → List Instance
instances_in entries = map instance_in entries

-- both are one component on one machine
abbrev pub same_spot : Spot → Spot → Bool
same_spot a b = (a.component == b.component) && (a.machine == b.machine)

-- the first, where there is one, and else the second
abbrev pub first_of : {A : Type 0} → Option A → Option A → Option A
first_of None o = o
first_of (Some x) o = Some x

-- the names are those of the instances, and the globals those that are found among them
pub record IsIndexed (entries : List (ℕ × InstanceInfo)) (names : List ℕ) (globals : List (Spot × ℕ)) : Type 0 where
  pub named : names ≡ keys_of entries
  pub found : (spot : Spot) → lookup (same_spot spot) globals ≡ option_map (λ i. i.name) (find (is_global spot.component spot.machine) (instances_in entries))
