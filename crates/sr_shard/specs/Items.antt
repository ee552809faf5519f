-- Entries as items of a run.
use Rattle.std.specs.Prelude.{◌≡◌, ℕ, ◌==◌, Bool, true, false, List, Some}
use Rattle.sr_ask.specs.declared.ask.Asks.TheVariants.{Asked}
use Rattle.sr_ask.specs.declared.entry.Entry.{Entry}
use Rattle.sr_ask.specs.declared.item.Item.TheVariants.{Step}
use Rattle.sr_ask.specs.declared.request.Request.{Request}
use Rattle.sr_ask.specs.declared.request.Request.TheVariants as request
use Rattle.sr_ask.specs.declared.start.Start.{Start}
use Rattle.sr_core.specs.declared.component.Core.{Core}
use Rattle.sr_touch.specs.Touched.{is_wide}
use Rattle.sr_world.specs.Runs.{Goes, IsValid, State, asks_next, is_new, next, with_answer}
use Rattle.sr_world.specs.Updates.{use_name}
use Rattle.sr_world.specs.Worlds.{World, started}
use Rattle.sr_shard.specs.Acts.{Act}
use Rattle.sr_shard.specs.Entries.{acts_of, me_in}
use Rattle.sr_shard.specs.Laws.{ReplaysIn, world_after}

-- an invocation gets a number that wasn't given out, and every other step has 0
abbrev pub is_numbered : World → Request → ℕ → Bool
is_numbered world (request.Invoke target args wants) name = is_new world name
is_numbered world (request.Forward held back target args) name = is_new world name
is_numbered world request name = name == 0

abbrev pub with_number : Request → ℕ → World → World
with_number (request.Invoke target args wants) name world = use_name name world
with_number (request.Forward held back target args) name world = use_name name world
with_number request name world = world

-- Where an entry is what its process asks next, has a number as it must, and its acts replay, it is an item of the run: the
-- process gets the answer, and the world after it is that after the acts.
abbrev pub EntriesAreItems : Type 0
EntriesAreItems = (core : Core) (class : ℕ → ℕ) (limit : ℕ) (entry : Entry) (state : State) (start : Start) → IsValid core limit state
    → started state.world entry.actor ≡ Some start → asks_next core limit state start ≡ Asked entry.ask → is_wide core class (me_in entry) entry.ask ≡ false
    → is_numbered state.world entry.ask.request entry.name ≡ true → ReplaysIn core class (acts_of core entry) state.world
    → next core limit state (Step entry.actor entry.name)
    ≡ Goes (record {
      world = with_number entry.ask.request entry.name (world_after core class (acts_of core entry) state.world);
      given = with_answer entry.actor entry.answer state.given;
    })

-- acts neither ask for the numbers that were given out nor change them
abbrev pub ActsLeaveNumbers : Type 0
ActsLeaveNumbers = (core : Core) (class : ℕ → ℕ) (acts : List Act) (name : ℕ) (world : World) → ReplaysIn core class acts world
    → ReplaysIn core class acts (use_name name world) × (world_after core class acts (use_name name world) ≡ use_name name (world_after core class acts world))
