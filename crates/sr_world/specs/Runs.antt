-- Runs: which items lead from the beginning to which state, and how a run ends.
use Rattle.std.specs.Prelude.{◌≡◌, ℕ, ◌==◌, ◌&&◌, ◌||◌, Bool, true, false, not, List, [], ◌∷◌, ◌++◌, map, nat_le, nat_lt, Option, Some, None, if◌then◌else◌}
use Rattle.std.specs.List.{list_all, list_any}
use Rattle.sr_ask.specs.declared.answer.Answer.{Answer}
use Rattle.sr_ask.specs.declared.ask.Asks.{Asks}
use Rattle.sr_ask.specs.declared.ask.Asks.TheVariants.{Asked, OverTicks}
use Rattle.sr_ask.specs.declared.item.Item.{Item}
use Rattle.sr_ask.specs.declared.item.Item.TheVariants.{Step, Quiesce, Tick}
use Rattle.sr_ask.specs.declared.request.Request.{Request}
use Rattle.sr_ask.specs.declared.request.Request.TheVariants as request
use Rattle.sr_ask.specs.declared.start.Start.{Start}
use Rattle.sr_core.specs.declared.component.Core.{Core}
use Rattle.sr_meaning.specs.Processes.{ask}
use Rattle.sr_world.specs.Does.{Does, Did, Makes, Cannot, Ends, Undecided, comes_to, is_possible}
use Rattle.sr_world.specs.Endings.{quiesce}
use Rattle.sr_world.specs.Steps.{does}
use Rattle.sr_world.specs.Updates.{pass_to}
use Rattle.sr_world.specs.Worlds.{World, beginning, started}
use Rattle.sr_world.specs.declared.ends.End.{End}

-- ---- states

-- a world, and the answers that each process got so far
pub record State : Type 0 where
  pub world : World
  pub given : ℕ → List Answer

-- at the beginning no process has got an answer
abbrev pub none_given : ℕ → List Answer
none_given process = []

abbrev pub first : State
first = record { world = beginning; given = none_given }

-- one more answer to a process
abbrev pub with_answer : ℕ → Answer → (ℕ → List Answer) → ℕ → List Answer
with_answer actor answer given process = if process == actor then given process ++ answer ∷ [] else given process

-- ---- input

-- bytes come
abbrev pub with_input : List ℕ → World → World
with_input bytes world = record world { rest = world.rest ++ bytes }

-- no more bytes will come
abbrev pub without_more : World → World
without_more world = record world { ended = true }

-- the beginning of a run that has all of its input
abbrev pub begun : List ℕ → State
begun input = record { world = without_more (with_input input beginning); given = none_given }

-- ---- what processes ask

-- what a process asks after its answers
abbrev pub asks_next : Core → ℕ → State → Start → Asks
asks_next core limit state start = ask core start limit (state.given start.process)

-- what comes of it; a process that is over its ticks makes no step
abbrev pub asks_for : Core → World → ℕ → ℕ → Asks → Does
asks_for core world actor name (Asked request) = does core world actor request name
asks_for core world actor name OverTicks = Cannot

-- a process is blocked where its request can't be done. One that is over its ticks isn't blocked, and neither is one
-- that waits for bytes that may still come.
abbrev pub is_blocked : Core → World → ℕ → Asks → Bool
is_blocked core world process (Asked request) = not (is_possible (comes_to (does core world process request 0)))
is_blocked core world process OverTicks = false

-- each living process, with what it asks
abbrev pub asks_in : Core → ℕ → State → List (ℕ × Asks)
asks_in core limit state = map (λ start. (start.process, asks_next core limit state start)) state.world.live

-- no process can make a step
abbrev pub no_step : Core → ℕ → State → Bool
no_step core limit state = list_all (λ start. is_blocked core state.world start.process (asks_next core limit state start)) state.world.live

-- ---- time

-- a process waits for a moment after this one
abbrev pub waits_after : ℕ → Request → Bool
waits_after moment (request.Wake until) = nat_lt moment until
waits_after moment _ = false

-- a process naps at this moment
abbrev pub naps : ℕ → Asks → Bool
naps moment (Asked request) = waits_after moment request.request
naps moment OverTicks = false

abbrev pub is_age : Request → Bool
is_age request.Age = true
is_age _ = false

-- a process asks what the moment is
abbrev pub asks_age : Asks → Bool
asks_age (Asked request) = is_age request.request
asks_age OverTicks = false

-- some process naps, or asks what the moment is
abbrev pub heeds_time : Core → ℕ → State → Bool
heeds_time core limit state =
    list_any (λ start. naps state.world.moment (asks_next core limit state start) || asks_age (asks_next core limit state start)) state.world.live

-- a moment comes after another, and is at most 2,147,483,647
abbrev pub comes_after : ℕ → ℕ → Bool
comes_after moment to = nat_lt moment to && nat_le to 2147483647

-- ---- what an item does

pub data Next : Type 0 where
  -- the run goes on
  Goes : State → Next
  -- it ends, in the state before the item
  Over : End → State → Next
  -- there is no such item here
  Illegal : Next

abbrev pub and_then : Next → (State → Next) → Next
and_then (Goes state) next = next state
and_then (Over ending state) next = Illegal
and_then Illegal next = Illegal

abbrev pub where_true : Bool → Next → Next
where_true true next = next
where_true false next = Illegal

-- whether a number was given out
abbrev pub is_used : World → ℕ → Bool
is_used world name = list_any (λ used. used == name) world.used

-- what a step makes gets a number that wasn't given out, and not 0
abbrev pub is_new : World → ℕ → Bool
is_new world name = not (name == 0) && not (is_used world name)

-- the number of a step that makes nothing is 0
abbrev pub stepped : State → ℕ → ℕ → Does → Next
stepped state actor name (Did world answer) = where_true (name == 0) (Goes (record { world = world; given = with_answer actor answer state.given }))
stepped state actor name (Makes world answer) = where_true (is_new state.world name) (Goes (record { world = world; given = with_answer actor answer state.given }))
stepped state actor name Cannot = Illegal
stepped state actor name (Ends ending) = where_true (name == 0) (Over ending state)
stepped state actor name Undecided = Illegal

-- a process that lives makes the step that it asks for
abbrev pub step_of : Core → ℕ → State → ℕ → ℕ → Option Start → Next
step_of core limit state actor name None = Illegal
step_of core limit state actor name (Some start) = stepped state actor name (asks_for core state.world actor name (asks_next core limit state start))

-- where no process can, main's final code begins or the run ends; nobody gets an answer
abbrev pub rested : State → ℕ → Does → Next
rested state name (Makes world answer) = where_true (is_new state.world name) (Goes (record state { world = world }))
rested state name (Ends ending) = where_true (name == 0) (Over ending state)
rested state name _ = Illegal

abbrev pub next : Core → ℕ → State → Item → Next
next core limit state (Step actor name) = step_of core limit state actor name (started state.world actor)
next core limit state (Quiesce name) = where_true (no_step core limit state) (rested state name (quiesce core name state.world))
next core limit state (Tick to) = where_true (comes_after state.world.moment to && heeds_time core limit state) (Goes (record state { world = pass_to to state.world }))

-- ---- runs

abbrev pub run_from : Core → ℕ → Next → List Item → Next
run_from core limit now [] = now
run_from core limit now (item ∷ items) = run_from core limit (and_then now (λ state. next core limit state item)) items

-- where these items lead, with this input
abbrev pub run : Core → ℕ → List ℕ → List Item → Next
run core limit input items = run_from core limit (Goes (begun input)) items

abbrev pub is_legal : Next → Bool
is_legal Illegal = false
is_legal _ = true

abbrev pub output_of : Next → List ℕ
output_of (Goes state) = state.world.output
output_of (Over ending state) = state.world.output
output_of Illegal = []

abbrev pub ending_of : Next → Option End
ending_of (Over ending state) = Some ending
ending_of _ = None

-- ---- valid states

-- what changes a state: an item, bytes that come, and the end of the input
pub data Event : Type 0 where
  Makes_item : Item → Event
  Gives : List ℕ → Event
  Closes : Event

abbrev pub after_event : Core → ℕ → State → Event → Next
after_event core limit state (Makes_item item) = next core limit state item
after_event core limit state (Gives bytes) = where_true (not state.world.ended) (Goes (record state { world = with_input bytes state.world }))
after_event core limit state Closes = where_true (not state.world.ended) (Goes (record state { world = without_more state.world }))

abbrev pub after : Core → ℕ → Next → List Event → Next
after core limit now [] = now
after core limit now (event ∷ events) = after core limit (and_then now (λ state. after_event core limit state event)) events

-- where these events lead, from the beginning
abbrev pub led : Core → ℕ → List Event → Next
led core limit events = after core limit (Goes first) events

abbrev pub item_in : Event → List Item
item_in (Makes_item item) = item ∷ []
item_in _ = []

abbrev pub items_in : List Event → List Item
items_in [] = []
items_in (event ∷ events) = item_in event ++ items_in events

abbrev pub bytes_in : List Event → List ℕ
bytes_in [] = []
bytes_in (Gives bytes ∷ events) = bytes ++ bytes_in events
bytes_in (event ∷ events) = bytes_in events

-- a state is valid where some events lead to it
abbrev pub IsValid : Core → ℕ → State → Type 0
IsValid core limit state = (events : List Event) × (led core limit events ≡ Goes state)
