-- The numbers that stand in the items of a run.
use Rattle.std.specs.Prelude.{◌<◌, ◌≤◌, ◌^◌}
use Rattle.sr_ask.specs.declared.item.Item.{Item}
use Rattle.sr_ask.specs.declared.item.Item.TheVariants.{Step, Quiesce, Tick}

-- a step is made by a process, and processes are numbered from 1; the engine lets no time pass
abbrev pub HasActor : Item → Type 0
HasActor (Step actor name) = 1 ≤ actor
HasActor (Quiesce name) = Unit {0}
HasActor (Tick to) = ⊥

-- both
abbrev pub IsNumbered : Item → Type 0
IsNumbered (Step actor name) = (1 ≤ actor) × (actor < 2 ^ 32) × (name < 2 ^ 32)
IsNumbered (Quiesce name) = name < 2 ^ 32
IsNumbered (Tick to) = ⊥
