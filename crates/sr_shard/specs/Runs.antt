-- A list of entries as a run.
use Rattle.std.specs.List.{list_all}
use Rattle.std.specs.Prelude.{◌≡◌, ◌≢◌, ◌⊎◌, ℕ, ◌<◌, ◌==◌, Bool, true, false, not, List, [], ◌∷◌, ◌++◌, map, Some, AllPairs, filter, flat_map}
use Rattle.sr_ask.specs.declared.answer.Answer.{Answer}
use Rattle.sr_ask.specs.declared.ask.Asks.TheVariants.{Asked}
use Rattle.sr_ask.specs.declared.ask.Role.TheVariants.{Proc as proc_role}
use Rattle.sr_ask.specs.declared.entry.Entry.{Entry}
use Rattle.sr_ask.specs.declared.item.Item.{Item}
use Rattle.sr_ask.specs.declared.item.Item.TheVariants.{Step}
use Rattle.sr_ask.specs.declared.start.Start.{Start}
use Rattle.sr_core.specs.declared.component.Core.{Core}
use Rattle.sr_meaning.specs.Processes.{ask}
use Rattle.sr_touch.specs.Touched.{is_wide}
use Rattle.sr_world.specs.Making.{start_in}
use Rattle.sr_world.specs.Runs.{Goes, IsValid, State, run_from, with_answer}
use Rattle.sr_world.specs.Worlds.{World, started}
use Rattle.sr_shard.specs.Acts.{Act, Begins, part}
use Rattle.sr_shard.specs.Entries.{acts_of, me_in}
use Rattle.sr_shard.specs.Items.{is_numbered, with_number}
use Rattle.sr_shard.specs.Laws.{ReplaysIn, world_after}
use Rattle.sr_shard.specs.Masks.{mask}

-- ---- who asks

abbrev pub is_by : ℕ → Entry → Bool
is_by process entry = entry.actor == process

-- what a process asks after these answers is what its entries say, one after another, each with its answer
abbrev pub AsksInTurn : Core → ℕ → Start → List Answer → List Entry → Type 0
AsksInTurn core limit start given [] = Unit {0}
AsksInTurn core limit start given (entry ∷ entries) = (ask core start limit given ≡ Asked entry.ask) × AsksInTurn core limit start (given ++ entry.answer ∷ []) entries

-- an act begins a process, with this start
abbrev pub BeginsIt : Core → World → ℕ → Start → Act → Type 0
BeginsIt core world process start (Begins new instance proc args back) = (new ≡ process) × (start ≡ start_in core world new instance proc_role proc args back)
BeginsIt core world process start _ = ⊥

abbrev pub IsBegun : Core → World → ℕ → Start → List Act → Type 0
IsBegun core world process start [] = ⊥
IsBegun core world process start (act ∷ acts) = BeginsIt core world process start act ⊎ IsBegun core world process start acts

abbrev pub acts_in : Core → List Entry → List Act
acts_in core entries = flat_map (acts_of core) entries

-- what a process was started with: it lives, or an entry begins it
abbrev pub IsStarted : Core → World → ℕ → Start → List Entry → Type 0
IsStarted core world process start entries = (started world process ≡ Some start) ⊎ IsBegun core world process start (acts_in core entries)

-- ---- the entries of a round

-- Entries of steps from a state on: none is wide; numbers are new and all differ; each process asks its own in turn, those
-- that an entry begins too; and the acts on each part replay from what the part has of the world.
pub record AreEntries (core : Core) (class : ℕ → ℕ) (limit : ℕ) (state : State) (entries : List Entry) : Type 0 where
  pub narrow : list_all (λ entry. not (is_wide core class (me_in entry) entry.ask)) entries ≡ true
  pub numbered : list_all (λ entry. is_numbered state.world entry.ask.request entry.name) entries ≡ true
  pub different : AllPairs (λ entry other. (entry.name == 0) ≡ false → entry.name ≢ other.name) entries
  pub asks : (process : ℕ) (start : Start) → IsStarted core state.world process start entries → AsksInTurn core limit start (state.given process) (filter (is_by process) entries)
  pub replay : (s : ℕ) → s < 32 → ReplaysIn core class (filter (λ act. part class act == s) (acts_in core entries)) (mask class s state.world)

-- ---- where they lead

abbrev pub item_of : Entry → Item
item_of entry = Step entry.actor entry.name

abbrev pub given_after : List Entry → (ℕ → List Answer) → ℕ → List Answer
given_after [] given = given
given_after (entry ∷ entries) given = given_after entries (with_answer entry.actor entry.answer given)

abbrev pub numbers_after : List Entry → World → World
numbers_after [] world = world
numbers_after (entry ∷ entries) world = numbers_after entries (with_number entry.ask.request entry.name world)

-- the world after the acts, with the numbers that were given out, and each process with its answers
abbrev pub state_after : Core → (ℕ → ℕ) → List Entry → State → State
state_after core class entries state = record {
  world = numbers_after entries (world_after core class (acts_in core entries) state.world);
  given = given_after entries state.given;
}

-- Whatever their order, as long as it keeps that of each part and that of each process, such entries are a run.
abbrev pub EntriesAreARun : Type 0
EntriesAreARun = (core : Core) (class : ℕ → ℕ) (limit : ℕ) (state : State) (entries : List Entry) → IsValid core limit state → AreEntries core class limit state entries
    → run_from core limit (Goes state) (map item_of entries) ≡ Goes (state_after core class entries state)
