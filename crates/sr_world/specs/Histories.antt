-- The history of one class of operations of one owner: which invocations arrived, and which were serviced.
use Rattle.std.specs.Prelude.{◌≡◌, ℕ, ◌≤◌, ◌==◌, ◌&&◌, Bool, false, List, [], ◌∷◌, ◌++◌, drop, filter, length, map, count_by, slice_get, Option, Some, None}
use Rattle.sr_ask.specs.declared.answer.Answer.{Answer}
use Rattle.sr_ask.specs.declared.answer.Answer.TheVariants.{Picked}
use Rattle.sr_ask.specs.declared.ask.Ask.{Ask}
use Rattle.sr_ask.specs.declared.ask.Asks.TheVariants.{Asked}
use Rattle.sr_ask.specs.declared.item.Item.{Item}
use Rattle.sr_ask.specs.declared.item.Item.TheVariants.{Step, Quiesce, Tick}
use Rattle.sr_ask.specs.declared.request.Request.TheVariants.{Select}
use Rattle.sr_ask.specs.declared.start.Start.{Start}
use Rattle.sr_core.specs.declared.component.Core.{Core}
use Rattle.sr_core.specs.declared.site.Site.{Site}
use Rattle.sr_queue.specs.Queues.{is_of}
use Rattle.sr_queue.specs.declared.pending.Pending.{Pending}
use Rattle.sr_select.specs.declared.choice.Choice.TheVariants.{Service}
use Rattle.sr_value.specs.declared.capability.Owner.{Owner}
use Rattle.sr_value.specs.declared.value.Value.{Value}
use Rattle.sr_world.specs.Does.{Does, Did, Makes}
use Rattle.sr_world.specs.Runs.{Next, Goes, State, asks_for, asks_next, begun, next}
use Rattle.sr_world.specs.Selecting.{choice_of}
use Rattle.sr_world.specs.Worlds.{World, started}

-- ---- what happens to invocations

pub data Mark : Type 0 where
  -- an invocation arrives, after all that wait
  Arrives : Pending → Mark
  -- a process takes an invocation up, by an arm of its statement
  Serves : ℕ → Pending → ℕ → Mark

-- in which state of the run
pub record Entry : Type 0 where
  pub state : State
  pub mark : Mark

-- the invocation of a number that waits
abbrev pub waiting_as : ℕ → World → List Pending
waiting_as id world = filter (λ p. p.id == id) world.pending

abbrev pub arrived : World → World → List Mark
arrived before after = map (λ p. Arrives p) (drop (length before.pending) after.pending)

-- what the answer says that a process took up
abbrev pub taken_up : World → ℕ → Answer → List Mark
taken_up world actor (Picked id arm args back) = map (λ p. Serves actor p arm) (waiting_as id world)
taken_up world actor _ = []

abbrev pub marks_of : World → ℕ → Does → List Mark
marks_of world actor (Did after answer) = taken_up world actor answer
marks_of world actor (Makes after answer) = arrived world after
marks_of world actor _ = []

abbrev pub marks_by : Core → ℕ → State → ℕ → ℕ → Option Start → List Mark
marks_by core limit state actor name None = []
marks_by core limit state actor name (Some start) = marks_of state.world actor (asks_for core state.world actor name (asks_next core limit state start))

abbrev pub marks_in : Core → ℕ → State → Item → List Mark
marks_in core limit state (Step actor name) = marks_by core limit state actor name (started state.world actor)
marks_in core limit state (Quiesce name) = []
marks_in core limit state (Tick to) = []

abbrev pub entries_in : Core → ℕ → State → Item → List Entry
entries_in core limit state item = map (λ mark. record { state = state; mark = mark }) (marks_in core limit state item)

-- ---- histories

abbrev pub all_from : Core → ℕ → Next → List Item → List Entry
all_from core limit now [] = []
all_from core limit (Goes state) (item ∷ items) = entries_in core limit state item ++ all_from core limit (next core limit state item) items
all_from core limit now (item ∷ items) = []

-- the operations of a class
abbrev pub Class : Type 0
Class = ℕ → Bool

abbrev pub is_in : Owner → Class → Pending → Bool
is_in owner class p = class p.op && is_of owner p.op p

abbrev pub is_mark_in : Owner → Class → Mark → Bool
is_mark_in owner class (Arrives p) = is_in owner class p
is_mark_in owner class (Serves process p arm) = is_in owner class p

-- the arrivals and services of one class of one owner, in their order
abbrev pub history : Core → ℕ → List ℕ → List Item → Owner → Class → List Entry
history core limit input items owner class = filter (λ entry. is_mark_in owner class entry.mark) (all_from core limit (Goes (begun input)) items)

-- ---- legal histories

-- the process asks for a choice, and this is it
pub record IsChosen (core : Core) (limit : ℕ) (state : State) (process : ℕ) (p : Pending) (arm : ℕ) : Type 0 where
  pub start : Start
  pub lives : started state.world process ≡ Some start
  pub ask : Ask
  pub asks : asks_next core limit state start ≡ Asked ask
  pub number : ℕ
  pub env : List Value
  pub selects : ask.request ≡ Select number env
  pub site : Site
  pub is_site : slice_get core.sites number ≡ Some site
  pub place : ℕ
  pub waits : slice_get state.world.pending place ≡ Some p
  pub chosen : choice_of core state.world process env site ≡ Service place arm

abbrev pub IsLegalMark : Core → ℕ → State → Mark → Type 0
IsLegalMark core limit state (Arrives p) = waiting_as p.id state.world ≡ []
IsLegalMark core limit state (Serves process p arm) = IsChosen core limit state process p arm

abbrev pub serves : ℕ → Mark → Bool
serves id (Arrives p) = false
serves id (Serves process p arm) = p.id == id

abbrev pub AllLegal : Core → ℕ → List Entry → Type 0
AllLegal core limit [] = Unit {0}
AllLegal core limit (entry ∷ entries) = IsLegalMark core limit entry.state entry.mark × AllLegal core limit entries

-- each service is the choice in its state, and no invocation is serviced twice
pub record IsLegalHistory (core : Core) (limit : ℕ) (entries : List Entry) : Type 0 where
  pub chosen : AllLegal core limit entries
  pub once : (id : ℕ) → count_by (λ entry. serves id entry.mark) entries ≤ 1
