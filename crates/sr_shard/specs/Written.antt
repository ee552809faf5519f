-- The entry that a worker writes down of a step: what was asked and answered, what the guards read, and whose duty it was.
use Rattle.std.specs.Prelude.{◌≡◌, ℕ, true, false, List, Option, Some, None, Contains, slice_get}
use Rattle.sr_ask.specs.declared.answer.Answer.{Answer}
use Rattle.sr_ask.specs.declared.ask.Ask.{Ask}
use Rattle.sr_ask.specs.declared.entry.Entry.{Entry}
use Rattle.sr_ask.specs.declared.request.Request.{Request}
use Rattle.sr_ask.specs.declared.request.Request.TheVariants as request
use Rattle.sr_core.specs.declared.component.Core.{Core}
use Rattle.sr_core.specs.declared.site.Site.{Site}
use Rattle.sr_queue.specs.declared.pending.Pending.{Pending}
use Rattle.sr_select.specs.declared.choice.Choice.{Choice}
use Rattle.sr_select.specs.declared.choice.Choice.TheVariants as chosen
use Rattle.sr_touch.specs.Touched.{is_wide, touched}
use Rattle.sr_value.specs.declared.value.Value.{Value}
use Rattle.sr_world.specs.Answering.{duty_held}
use Rattle.sr_world.specs.Does.{Does, Did, Makes}
use Rattle.sr_world.specs.Invoking.{instance_of_process}
use Rattle.sr_world.specs.Seeing.{seen_by}
use Rattle.sr_world.specs.Selecting.{choice_of, me_of}
use Rattle.sr_world.specs.Steps.{does}
use Rattle.sr_world.specs.Worlds.{World, is_live}
use Rattle.sr_shard.specs.Entries.{acts_of}
use Rattle.sr_shard.specs.Laws.{ReplaysIn, Stands}
use Rattle.sr_shard.specs.Masks.{mask}

-- the answer, where a request is done
abbrev pub given_by : Does → Option Answer
given_by (Did world answer) = Some answer
given_by (Makes world answer) = Some answer
given_by _ = None

-- and the world after it
abbrev pub left_by : Does → Option World
left_by (Did world answer) = Some world
left_by (Makes world answer) = Some world
left_by _ = None

-- ---- duties

-- the invocation whose duty to answer goes with the one that was picked
abbrev pub duty_at : Option Pending → ℕ
duty_at (Some invocation) = invocation.back_id
duty_at None = 0

abbrev pub duty_of_choice : World → Choice → ℕ
duty_of_choice world (chosen.Service place arm) = duty_at (slice_get world.pending place)
duty_of_choice world _ = 0

abbrev pub duty_of_select : Core → World → ℕ → List Value → Option Site → ℕ
duty_of_select core world process env None = 0
duty_of_select core world process env (Some site) = duty_of_choice world (choice_of core world process env site)

-- the invocation whose duty a step takes over, answers or moves, or 0
abbrev pub duty_number : Core → World → ℕ → Request → ℕ
duty_number core world process (request.Select site env) = duty_of_select core world process env (slice_get core.sites site)
duty_number core world process (request.Reply held back results) = (duty_held world process held).back_id
duty_number core world process (request.Forward held back target args) = (duty_held world process held).back_id
duty_number core world process (request.Finish answered back results) = (duty_held world process process).back_id
duty_number core world process _ = 0

-- a request to answer or to hand on names the one who waits, as the process holds it
abbrev pub NamesCaller : World → ℕ → Request → Type 0
NamesCaller world process (request.Reply held back results) = (duty_held world process held).back ≡ back
NamesCaller world process (request.Forward held back target args) = (duty_held world process held).back ≡ back
NamesCaller world process (request.Finish false back results) = (duty_held world process process).back ≡ back
NamesCaller world process _ = Unit {0}

-- ---- entries

-- the entry of a step by a worker, with this stamp
abbrev pub entry_of : Core → World → (worker stamp process name : ℕ) → Ask → Answer → Entry
entry_of core world worker stamp process name ask answer = record {
  worker = worker;
  stamp = stamp;
  actor = process;
  instance = instance_of_process world process;
  name = name;
  ask = ask;
  answer = answer;
  duty = duty_number core world process ask.request;
  reads = seen_by core world process ask.request;
}

-- ---- laws

-- Each step that isn't wide has an entry: its acts replay in the world in which it is made. So what can be done can be
-- written down.
abbrev pub StepsHaveEntries : Type 0
StepsHaveEntries = (core : Core) (class : ℕ → ℕ) (world : World) (worker stamp process name : ℕ) (ask : Ask) (answer : Answer) → is_live world process ≡ true
    → is_wide core class (me_of world process) ask ≡ false → NamesCaller world process ask.request → given_by (does core world process ask name) ≡ Some answer
    → ReplaysIn core class (acts_of core (entry_of core world worker stamp process name ask answer)) world

-- A request is done in this world with this answer; it leaves the same in the parts that it touches as it left in another.
pub record IsDoneAlike (core : Core) (class : ℕ → ℕ) (world : World) (process name : ℕ) (ask : Ask) (answer : Answer) (parts : List ℕ) (left : World) : Type 0 where
  pub later : World
  pub given : given_by (does core world process ask name) ≡ Some answer
  pub leaves : left_by (does core world process ask name) ≡ Some later
  pub same : (s : ℕ) → Contains parts s → mask class s later ≡ mask class s left

-- Steps are local: where a request is done in one world, it is done alike in every other that has the same in the parts that
-- it touches; and it leaves all other parts as they were.
abbrev pub StepsAreLocal : Type 0
StepsAreLocal = (core : Core) (class : ℕ → ℕ) (world other left : World) (process name : ℕ) (ask : Ask) (answer : Answer) (parts : List ℕ) → Stands world → Stands other
    → is_live world process ≡ true → NamesCaller world process ask.request → touched core class (me_of world process) ask name ≡ Some parts
    → given_by (does core world process ask name) ≡ Some answer → left_by (does core world process ask name) ≡ Some left
    → ((s : ℕ) → Contains parts s → mask class s world ≡ mask class s other)
    → IsDoneAlike core class other process name ask answer parts left × ((s : ℕ) → ¬ Contains parts s → mask class s left ≡ mask class s world)
