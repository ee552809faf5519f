-- Laws of whole runs, in the language's own words.
use Rattle.std.specs.Prelude.{◌≡◌, ℕ, ◌<◌, ◌≤◌, ◌==◌, Bool, true, false, List, [], ◌∷◌, ◌++◌, Option, Some, count_by, filter, slice_get}
use Rattle.sr_ask.specs.declared.ask.Ask.{Ask}
use Rattle.sr_ask.specs.declared.ask.Asks.TheVariants.{Asked}
use Rattle.sr_ask.specs.declared.item.Item.{Item}
use Rattle.sr_ask.specs.declared.item.Item.TheVariants.{Step}
use Rattle.sr_ask.specs.declared.start.Start.{Start}
use Rattle.sr_calls.specs.Calls.{items_of}
use Rattle.sr_core.specs.declared.component.Core.{Core}
use Rattle.sr_core.specs.declared.owner.Me.{Me}
use Rattle.sr_core.specs.declared.site.Site.{Site}
use Rattle.sr_queue.specs.declared.pending.Pending.{Pending}
use Rattle.sr_select.specs.Choices.{choice, owner_in}
use Rattle.sr_select.specs.Laws.{chosen_in, is_named}
use Rattle.sr_select.specs.Readings.{Reading}
use Rattle.sr_select.specs.declared.choice.Choice.{Choice}
use Rattle.sr_select.specs.declared.choice.Choice.TheVariants as chosen
use Rattle.sr_value.specs.declared.fault.Fault.{Fault}
use Rattle.sr_value.specs.declared.value.Value.{Value}
use Rattle.sr_value.specs.declared.capability.Owner.{Owner}
use Rattle.sr_world.specs.Answering.{duty_held}
use Rattle.sr_world.specs.Callers.{duty_by, makes_duty}
use Rattle.sr_world.specs.Does.{comes_to, is_possible}
use Rattle.sr_world.specs.Endings.{quiesce}
use Rattle.sr_world.specs.Histories.{Class, IsLegalHistory, history}
use Rattle.sr_world.specs.Runs.{Event, Makes_item, Closes, Goes, Illegal, IsValid, Next, Over, State, asks_next, bytes_in, is_legal, is_new, items_in, led, next, output_of, run, run_from, with_input, without_more}
use Rattle.sr_world.specs.Selecting.{choice_of}
use Rattle.sr_world.specs.Waking.{SameForSite}
use Rattle.sr_world.specs.Worlds.{World, started}
use Rattle.sr_world.specs.Sound.{IsSound, is_call, names_in}
use Rattle.sr_world.specs.Spots.{IsOnce, Spot, TakenBy, Thing, DutyOf, is_picked, is_took, stands, tests_of}

-- ---- runs

-- A run's prefix is a run.
abbrev pub PrefixIsARun : Type 0
PrefixIsARun = (core : Core) (limit : ℕ) (input : List ℕ) (items more : List Item)
    → is_legal (run core limit input (items ++ more)) ≡ true → is_legal (run core limit input items) ≡ true

-- A longer run goes on where the shorter one led.
abbrev pub RunGoesOn : Type 0
RunGoesOn = (core : Core) (limit : ℕ) (input : List ℕ) (items more : List Item)
    → run core limit input (items ++ more) ≡ run_from core limit (run core limit input items) more

-- Output only grows.
abbrev pub OutputGrows : Type 0
OutputGrows = (core : Core) (limit : ℕ) (input : List ℕ) (items more : List Item) → is_legal (run core limit input (items ++ more)) ≡ true
    → (rest : List ℕ) × (output_of (run core limit input (items ++ more)) ≡ output_of (run core limit input items) ++ rest)

-- The states of runs are valid.
abbrev pub RunsLeadToValidStates : Type 0
RunsLeadToValidStates = (core : Core) (limit : ℕ) (input : List ℕ) (items : List Item) (state : State) → run core limit input items ≡ Goes state → IsValid core limit state

-- ---- what every state keeps

-- Each item keeps it.
abbrev pub ItemsKeepSoundness : Type 0
ItemsKeepSoundness = (core : Core) (limit : ℕ) (items : List Item) (state later : State) (item : Item)
    → IsSound items state → next core limit state item ≡ Goes later → IsSound (items ++ item ∷ []) later

-- Every state has it to which events lead.
abbrev pub EveryStateIsSound : Type 0
EveryStateIsSound = (core : Core) (limit : ℕ) (events : List Event) (state : State) → led core limit events ≡ Goes state → IsSound (items_in events) state

-- ---- numbers

-- how often a number was given out: 1 is the boot process's, and each item gives out its own
abbrev pub times_given : ℕ → List Event → ℕ
times_given name events = count_by (λ n. n == name) (1 ∷ names_in (items_in events))

-- A number is given out once, and 0 never. Only what has got a number makes steps under it.
pub record NumbersAreUsedOnce : Type 0 where
  pub once : (core : Core) (limit : ℕ) (events : List Event) (state : State) (name : ℕ) → led core limit events ≡ Goes state → times_given name events ≤ 1
  pub zero_never : (core : Core) (limit : ℕ) (events : List Event) (state : State) → led core limit events ≡ Goes state → times_given 0 events ≡ 0
  pub made_before_use : (core : Core) (limit : ℕ) (events : List Event) (state : State) (actor name : ℕ) → led core limit events ≡ Goes state
      → is_legal (next core limit state (Step actor name)) ≡ true → times_given actor events ≡ 1

-- ---- at most once

-- Whatever has a number stands in one place at most.
abbrev pub EachStandsOnce : Type 0
EachStandsOnce = (core : Core) (limit : ℕ) (state : State) (thing : Thing) → IsValid core limit state → IsOnce (tests_of thing) state

-- how often a process took up the service of an invocation
abbrev pub services : State → ℕ → ℕ → ℕ
services state process id = count_by (is_picked id) (state.given process)

-- An invocation is serviced at most once, by one process, and doesn't wait any more then.
pub record ServicedOnce : Type 0 where
  pub once : (core : Core) (limit : ℕ) (state : State) (process id : ℕ) → IsValid core limit state → services state process id ≤ 1
  pub by_one : (core : Core) (limit : ℕ) (state : State) (process other id : ℕ) → IsValid core limit state → 0 < services state process id → 0 < services state other id → process ≡ other
  pub waits_no_more : (core : Core) (limit : ℕ) (state : State) (process id : ℕ) → IsValid core limit state → 0 < services state process id
      → count_by (λ p. p.id == id) state.world.pending ≡ 0

-- how often a process took a reply of a number
abbrev pub replies_taken : State → ℕ → ℕ → ℕ
replies_taken state process id = count_by (is_took id) (state.given process)

-- how many replies of a number wait for a process
abbrev pub replies_waiting : State → ℕ → ℕ → ℕ
replies_waiting state process id = count_by (λ r. r.id == id) (items_of state.world.replies process)

-- A call gets at most one reply. Only the process gets it that made the call; and once it has it, the duty to give one
-- stands nowhere else, however it was handed on.
pub record AnsweredOnce : Type 0 where
  pub once : (core : Core) (limit : ℕ) (state : State) (process id : ℕ) → IsValid core limit state → replies_waiting state process id ≤ 1 × (replies_taken state process id ≤ 1)
  pub duty_ends : (core : Core) (limit : ℕ) (state : State) (process id : ℕ) (other : Spot) → IsValid core limit state → 0 < replies_taken state process id
      → 0 < stands (tests_of (DutyOf id)) state other → other ≡ TakenBy process
  pub to_its_caller : (core : Core) (limit : ℕ) (events : List Event) (state : State) (process id : ℕ) → led core limit events ≡ Goes state
      → 0 < replies_taken state process id → is_call (items_in events) process id ≡ true
  pub for_its_caller : (core : Core) (limit : ℕ) (events : List Event) (state : State) (process id : ℕ) → led core limit events ≡ Goes state
      → 0 < replies_waiting state process id → is_call (items_in events) process id ≡ true
  pub one_caller : (core : Core) (limit : ℕ) (events : List Event) (state : State) (process other id : ℕ) → led core limit events ≡ Goes state → (id == 0) ≡ false
      → is_call (items_in events) process id ≡ true → is_call (items_in events) other id ≡ true → process ≡ other

-- a step of a run is a call: the process asked for what makes the duty to answer it, and got a number that nothing had
pub record MakesCall (core : Core) (limit : ℕ) (events : List Event) (process id : ℕ) : Type 0 where
  pub earlier : List Event
  pub later : List Event
  pub splits : earlier ++ Makes_item (Step process id) ∷ later ≡ events
  pub before : State
  pub leads : led core limit earlier ≡ Goes before
  pub start : Start
  pub lives : started before.world process ≡ Some start
  pub ask : Ask
  pub asks : asks_next core limit before start ≡ Asked ask
  pub calls : makes_duty ask.request ≡ true
  pub duty : duty_by before.world process id ask.request ≡ record { back = process; back_id = id }
  pub unused : is_new before.world id ≡ true

-- Whatever is owed or given is the answer to a call of the process that gets it: a reply that it took or that waits for
-- it, and the duty of an invocation that waits or that some process holds.
pub record RepliesGoToCallers : Type 0 where
  pub taken : (core : Core) (limit : ℕ) (events : List Event) (state : State) (process id : ℕ) → led core limit events ≡ Goes state
      → 0 < replies_taken state process id → MakesCall core limit events process id
  pub replied : (core : Core) (limit : ℕ) (events : List Event) (state : State) (process id : ℕ) → led core limit events ≡ Goes state
      → 0 < replies_waiting state process id → MakesCall core limit events process id
  pub held : (core : Core) (limit : ℕ) (events : List Event) (state : State) (process number : ℕ) → led core limit events ≡ Goes state
      → ((duty_held state.world process number).back == 0) ≡ false
      → MakesCall core limit events (duty_held state.world process number).back (duty_held state.world process number).back_id
  pub waiting : (core : Core) (limit : ℕ) (events : List Event) (state : State) (place : ℕ) (p : Pending) → led core limit events ≡ Goes state
      → slice_get state.world.pending place ≡ Some p → (p.back == 0) ≡ false → MakesCall core limit events p.back p.back_id

-- ---- histories

-- Every history of a class of an owner in a run is legal.
abbrev pub EveryHistoryIsLegal : Type 0
EveryHistoryIsLegal = (core : Core) (limit : ℕ) (input : List ℕ) (items : List Item) (owner : Owner) (class : Class) → is_legal (run core limit input items) ≡ true
    → IsLegalHistory core limit (history core limit input items owner class)

-- ---- input

-- a world with all of its input: these bytes come after what is there, and no more
abbrev pub with_all : List ℕ → World → World
with_all bytes world = without_more (with_input bytes world)

abbrev pub with_all_in : List ℕ → State → State
with_all_in bytes state = record state { world = with_all bytes state.world }

abbrev pub next_with_all : List ℕ → Next → Next
next_with_all bytes (Goes state) = Goes (with_all_in bytes state)
next_with_all bytes (Over ending state) = Over ending (with_all_in bytes state)
next_with_all bytes Illegal = Illegal

-- whether the end of the input came
abbrev pub closes : List Event → Bool
closes [] = false
closes (Closes ∷ events) = true
closes (event ∷ events) = closes events

-- The items and the whole input give the run: in whatever pieces the input came, what events lead to is what the run of
-- their items leads to, with the bytes that haven't come yet after the rest.
abbrev pub ItemsGiveTheRun : Type 0
ItemsGiveTheRun = (core : Core) (limit : ℕ) (events : List Event) (more : List ℕ) → is_legal (led core limit events) ≡ true → (closes events ≡ true → more ≡ [])
    → run core limit (bytes_in events ++ more) (items_in events) ≡ next_with_all more (led core limit events)

-- ---- classes

-- what a choice comes to, wherever the invocation stands that it takes up
pub data Taken : Type 0 where
  Takes : Option Pending → ℕ → Taken
  TakesElse : Taken
  TakesNothing : Taken
  Faults : Fault → ℕ → Taken

abbrev pub taken : List Pending → Choice → Taken
taken items (chosen.Service place arm) = Takes (slice_get items place) arm
taken items chosen.Else = TakesElse
taken items chosen.Nothing = TakesNothing
taken items (chosen.Bad fault arm) = Faults fault arm

-- Classes are separate: where two lists have the same invocations that a statement can service, in the same order, and
-- its guards read the same, the statement makes the same choice.
abbrev pub ClassesAreSeparate : Type 0
ClassesAreSeparate = (reading : Reading) (site : Site) (me : Me) (env : List Value) (items others : List Pending)
    → filter (is_named (owner_in site.scope me) site.arms) items ≡ filter (is_named (owner_in site.scope me) site.arms) others
    → taken items (choice reading site me env items) ≡ taken others (choice reading site me env others)

-- The same for two worlds: where they have the same invocations of the statement's class and owner that wait, and hold the
-- same in what its guards name, the statement makes the same choice, whatever else they hold and whatever else waits.
abbrev pub OneClassDecides : Type 0
OneClassDecides = (core : Core) (process : ℕ) (env : List Value) (site : Site) (world other : World) → SameForSite core process env site world other
    → chosen_in world.pending (choice_of core world process env site) ≡ chosen_in other.pending (choice_of core other process env site)

-- ---- rest

-- Where no process can step, something always happens: final code begins, or the run ends.
abbrev pub RestIsNeverRefused : Type 0
RestIsNeverRefused = (core : Core) (name : ℕ) (world : World) → is_possible (comes_to (quiesce core name world)) ≡ true
