-- What an engine stands for, and what a step of it does.
use Rattle.std.specs.Prelude.{◌≡◌, ◌++◌, ℕ, List, [], ◌∷◌, Option, Some, None, Result, Ok, Err, IsSome, fold}
use Rattle.std.specs.HashMap.{HashMap}
use Rattle.sr_ask.specs.Items.{number_of}
use Rattle.sr_ask.specs.declared.answer.Answer.{Answer}
use Rattle.sr_ask.specs.declared.ask.Ask.{Ask}
use Rattle.sr_ask.specs.declared.ask.Asks.{Asks}
use Rattle.sr_ask.specs.declared.ask.Asks.TheVariants.{Asked, OverTicks}
use Rattle.sr_ask.specs.declared.item.Item.{Item}
use Rattle.sr_ask.specs.declared.start.Start.{Start}
use Rattle.sr_core.specs.declared.component.Core.{Core}
use Rattle.sr_meaning.specs.Processes.{ask}
use Rattle.sr_value.specs.declared.memory.NoMemory.{NoMemory}
use Rattle.sr_world.specs.Acting.{Acts}
use Rattle.sr_world.specs.Does.{IsOpen, comes_to}
use Rattle.sr_world.specs.Runs.{Event, Makes_item, Goes, Over as run_over, State, asks_for, asks_next, led, next}
use Rattle.sr_world.specs.Sound.{times_used}
use Rattle.sr_world.specs.Steps.{does}
use Rattle.sr_world.specs.Worlds.{started}
use Rattle.sr_world.specs.declared.acted.Acted.{Acted}
use Rattle.sr_world.specs.declared.ends.End.{End}
use Rattle.sr_plain.specs.Carrying.{Names}
use Rattle.sr_plain.specs.Crew.{AreLiving, Plays, member_of}
use Rattle.sr_plain.specs.Order.{IsNumbered, IsOrdered}
use Rattle.sr_plain.specs.Ready.{AreAside, IsNoted}
use Rattle.sr_plain.specs.Turns.{IsTurn, last_after}
use Rattle.sr_actor.specs.declared.member.Member.{Member}
use Rattle.sr_plain.specs.declared.plain.Plain.{Plain}
use Rattle.sr_plain.specs.declared.plainly.Plainly.{Plainly}
use Rattle.sr_plain.specs.declared.plainly.Plainly.TheVariants.{Stepped, Wants, Over, Ended}
use Rattle.sr_plain.specs.declared.tried.Tried.{Tried}
use Rattle.sr_plain.specs.declared.tried.Tried.TheVariants as tried

-- who made the last step
abbrev pub last_by : ℕ → Event → ℕ
last_by last (Makes_item item) = last_after last item
last_by last _ = last

abbrev pub last_in : List Event → ℕ
last_in events = fold last_by 0 events

-- a process stands for the answers that it got; one that hasn't begun has got none
abbrev pub StandsFor : {A : Type 0} → (A → List Answer → Asks) → (List Answer → Asks) → List Answer → Option (Member A) → Type 0
StandsFor after meant answers None = answers ≡ []
StandsFor after meant answers (Some member) = Plays after (λ more. meant (answers ++ more)) member

-- The events lead to the state, and each living process stands for its answers. Nobody has begun under a number that
-- wasn't given out. The numbers were given out in their order.
pub record Stands {A S : Type 0} (after : A → List Answer → Asks) (core : Core) (limit : ℕ) (state : State) (events : List Event)
    (members : HashMap ℕ (Member A) S) : Type 0 where
  pub leads : led core limit events ≡ Goes state
  pub living : (process : ℕ) (start : Start) → started state.world process ≡ Some start
      → StandsFor after (ask core start limit) (state.given process) (member_of members process)
  pub unborn : (process : ℕ) → times_used state.world process ≡ 0 → member_of members process ≡ None
  pub next : ℕ
  pub order : IsOrdered state.world next

-- an engine stands for a state, and asks whoever may be able to make a step
pub record IsEngine {A : Type 0} (after : A → List Answer → Asks) (can_feed : A → Type 0) (core : Core) (limit : ℕ) (state : State) (events : List Event)
    (plain : Plain A) : Type 0 where
  pub world : plain.world ≡ state.world
  pub ticks : plain.ticks ≡ limit
  pub last : plain.last ≡ last_in events
  pub stands : Stands after core limit state events plain.crew
  pub living : AreLiving state.world plain.woken plain.crew
  pub aside : AreAside core limit state plain.waiters plain.woken

-- the machine has carried out what a process asks, and it isn't answered yet
pub record IsCarried {A : Type 0} (after : A → List Answer → Asks) (can_feed : A → Type 0) (core : Core) (limit : ℕ) (state : State) (events : List Event)
    (start : Start) (name : ℕ) (acted : Acted) (plain : Plain A) : Type 0 where
  pub member : Member A
  pub asks : Ask
  pub here : member_of plain.crew start.process ≡ Some member
  pub asked : Asked asks ≡ after member.actor []
  pub can_hear : can_feed member.actor
  pub lives : started state.world start.process ≡ Some start
  pub acts : Acts (does core state.world start.process asks name) state.world plain.world (Ok acted)
  pub names : Names (does core state.world start.process asks name) state.world name
  pub ticks : plain.ticks ≡ limit
  pub last : plain.last ≡ last_in events
  pub stands : Stands after core limit state events plain.crew
  pub living : AreLiving state.world None plain.crew
  pub aside : AreAside core limit state plain.waiters None
  pub noted : IsNoted core state.world start asks name acted plain.waiters plain.woken

-- ---- what a step does

-- the item was made, in its turn and with the next number, and this text was written
pub record HasStepped {A : Type 0} (after : A → List Answer → Asks) (can_feed : A → Type 0) (core : Core) (limit : ℕ) (state : State) (events : List Event)
    (turn : Option Start) (item : Item) (output : List ℕ) (plain : Plain A) : Type 0 where
  pub later : State
  pub goes : next core limit state item ≡ Goes later
  pub turn_of : IsTurn turn item
  pub named : IsNumbered state.world (number_of item)
  pub written : later.world.output ≡ state.world.output ++ output
  pub engine : IsEngine after can_feed core limit later (events ++ Makes_item item ∷ []) plain

-- the item would end the run
pub record IsLast (core : Core) (limit : ℕ) (state : State) (turn : Option Start) (item : Item) (ending : End) : Type 0 where
  pub ends : next core limit state item ≡ run_over ending state
  pub turn_of : IsTurn turn item
  pub named : IsNumbered state.world (number_of item)

-- whose turn it is reads, and bytes that may still come decide what
abbrev pub WaitsForInput : Core → ℕ → State → Option Start → Type 0
WaitsForInput core limit state None = ⊥
WaitsForInput core limit state (Some start) = comes_to (asks_for core state.world start.process 0 (asks_next core limit state start)) ≡ IsOpen

-- whose turn it is has no tick left
abbrev pub IsOver : Core → ℕ → State → ℕ → Option Start → Type 0
IsOver core limit state process None = ⊥
IsOver core limit state process (Some start) = (process ≡ start.process) × (asks_next core limit state start ≡ OverTicks)

module _ {A : Type 0} (after : A → List Answer → Asks) (can_feed : A → Type 0) (core : Core) (limit : ℕ) (state : State) (events : List Event) (turn : Option Start) where
  abbrev pub Comes : Plainly → Plain A → Type 0
  Comes (Stepped item output) plain = HasStepped after can_feed core limit state events turn item output plain
  Comes Wants plain = WaitsForInput core limit state turn × IsEngine after can_feed core limit state events plain
  Comes (Over process) plain = IsOver core limit state process turn × IsEngine after can_feed core limit state events plain
  Comes (Ended item ending) plain = IsLast core limit state turn item ending × IsEngine after can_feed core limit state events plain

  -- what comes of whose turn it is; once memory has run out, only the world is as before
  abbrev pub Steps : Result Plainly NoMemory → Plain A → Type 0
  Steps (Ok plainly) plain = Comes plainly plain
  Steps (Err out_of_memory) plain = plain.world ≡ state.world

  -- the same of some processes, where nobody among them may take a turn
  abbrev pub Tries : Result (Option Plainly) NoMemory → Plain A → Type 0
  Tries (Ok (Some plainly)) plain = IsSome turn × Comes plainly plain
  Tries (Ok None) plain = (turn ≡ None) × IsEngine after can_feed core limit state events plain
  Tries (Err out_of_memory) plain = plain.world ≡ state.world

  -- the same of one process, which may not have begun
  abbrev pub TriesIfBegun : Result Tried NoMemory → Plain A → Type 0
  TriesIfBegun (Ok (tried.Asked came)) plain = Tries (Ok came) plain
  TriesIfBegun (Ok tried.Unbegun) plain = Unit {0}
  TriesIfBegun (Err out_of_memory) plain = plain.world ≡ state.world

-- what holds of one that hasn't begun
abbrev pub IfUnbegun : Tried → Type 0 → Type 0
IfUnbegun tried.Unbegun holds = holds
IfUnbegun (tried.Asked came) holds = Unit {0}

-- what holds of one that was asked
abbrev pub IfAsked : Tried → (Option Plainly → Type 0) → Type 0
IfAsked tried.Unbegun holds = Unit {0}
IfAsked (tried.Asked came) holds = holds came
