-- The parts of a snapshot, as they are found.
use Rattle.std.specs.Prelude.{ℕ, List, [], ◌∷◌, flat_map, length, Option, Some, None}
use Rattle.sr_ask.specs.declared.ask.Asks.{Asks}
use Rattle.sr_ask.specs.declared.start.Start.{Start}
use Rattle.sr_instances.specs.Instances.{Instance, Placed, instance_of, names_of}
use Rattle.sr_world.specs.Worlds.{World, started}
use Rattle.sr_world.specs.declared.ends.End.{End}
use Rattle.sr_replay.specs.Snapshots.{shown_instance}
use Rattle.sr_replay.specs.declared.snapshot.ShownInstance.{ShownInstance}
use Rattle.sr_replay.specs.declared.snapshot.ShownProcess.{ShownProcess}
use Rattle.sr_replay.specs.declared.snapshot.Snapshot.{Snapshot}

-- an instance, where there is one
abbrev pub instance_at : Option Instance → List ShownInstance
instance_at None = []
instance_at (Some instance) = shown_instance instance ∷ []

-- the instance of each name
abbrev pub instances_at : Placed → List ShownInstance
instances_at places = flat_map (λ name. instance_at (instance_of places name)) (names_of places)

-- a process that asks this, where it lives
abbrev pub process_at : Asks → Option Start → List ShownProcess
process_at asks None = []
process_at asks (Some start) = record { process = start.process; instance = start.instance; role = start.role; asks = asks } ∷ []

-- a world whose processes ask this
abbrev pub snapshot_with : ℕ → Option End → List (ℕ × Asks) → World → Snapshot
snapshot_with items ending asks world = record {
  items = items;
  ending = ending;
  moment = world.moment;
  output = length world.output;
  instances = instances_at world.places;
  processes = flat_map (λ one. process_at one.1 (started world one.0)) asks;
  pending = world.pending;
}
