-- What is shown of a run after some of its items.
use Rattle.std.specs.Prelude.{ℕ, map, length, Option, Some, None}
use Rattle.sr_ask.specs.declared.start.Start.{Start}
use Rattle.sr_core.specs.declared.component.Core.{Core}
use Rattle.sr_instances.specs.Instances.{Instance}
use Rattle.sr_world.specs.Runs.{Next, Goes, Over, Illegal, State, asks_next}
use Rattle.sr_world.specs.declared.ends.End.{End}
use Rattle.sr_replay.specs.declared.snapshot.ShownInstance.{ShownInstance}
use Rattle.sr_replay.specs.declared.snapshot.ShownProcess.{ShownProcess}
use Rattle.sr_replay.specs.declared.snapshot.Snapshot.{Snapshot}

-- an instance: its number, its component and how far it has come
abbrev pub shown_instance : Instance → ShownInstance
shown_instance instance = record { name = instance.name; component = instance.component; state = instance.state }

-- a living process: its number, its instance, its role and what it asks
abbrev pub shown_process : Core → ℕ → State → Start → ShownProcess
shown_process core limit state start =
    record { process = start.process; instance = start.instance; role = start.role; asks = asks_next core limit state start }

-- a state after so many items
abbrev pub snapshot_of : Core → ℕ → ℕ → Option End → State → Snapshot
snapshot_of core limit items ending state = record {
  items = items;
  ending = ending;
  moment = state.world.moment;
  output = length state.world.output;
  instances = map shown_instance state.world.places.instances;
  processes = map (shown_process core limit state) state.world.live;
  pending = state.world.pending;
}

-- Where the run has ended, the state before the item that ended it. What isn't a run shows nothing.
abbrev pub shown : Core → ℕ → ℕ → Next → Option Snapshot
shown core limit items (Goes state) = Some (snapshot_of core limit items None state)
shown core limit items (Over ending state) = Some (snapshot_of core limit items (Some ending) state)
shown core limit items Illegal = None
