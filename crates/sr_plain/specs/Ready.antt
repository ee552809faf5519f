-- Who may be able to make a step.
use Rattle.std.specs.Prelude.{◌≡◌, ◌⊎◌, ℕ, false, true, [], Option, Some, None, filter}
use Rattle.sr_ask.specs.declared.ask.Ask.{Ask}
use Rattle.sr_ask.specs.declared.ask.Asks.TheVariants.{Asked}
use Rattle.sr_ask.specs.declared.start.Start.{Start}
use Rattle.sr_core.specs.declared.component.Core.{Core}
use Rattle.sr_core.specs.declared.owner.Me.{Me}
use Rattle.sr_queue.specs.Classes.{class_of}
use Rattle.sr_queue.specs.Queues.{is_of}
use Rattle.sr_value.specs.declared.capability.Owner.{Owner}
use Rattle.sr_world.specs.Callers.{caller_in}
use Rattle.sr_world.specs.Does.{IsNot, comes_to}
use Rattle.sr_world.specs.Runs.{State, asks_next}
use Rattle.sr_world.specs.Steps.{does}
use Rattle.sr_world.specs.Worlds.{World, started}
use Rattle.sr_world.specs.declared.acted.Acted.{Acted}
use Rattle.sr_world.specs.declared.acted.Acted.TheVariants.{Done}
use Rattle.sr_plain.specs.Changes.{change_of, gone_by}
use Rattle.sr_plain.specs.Waiting.{WaitsFor, WaitsIdle, is_closed, is_opened, is_ready, is_woken, waits}
use Rattle.sr_plain.specs.declared.change.Woken.{Woken}
use Rattle.sr_plain.specs.declared.waiters.Waiters.{Waiters}

abbrev pub me_at : Start → Me
me_at start = record { process = start.process; instance = start.instance }

-- a process asks for what can't be done now, and waits for what lets it go on
pub record IsAside (core : Core) (limit : ℕ) (state : State) (waiters : Waiters) (start : Start) : Type 0 where
  pub asks : Ask
  pub asked : asks_next core limit state start ≡ Asked asks
  pub cannot : comes_to (does core state.world start.process asks 0) ≡ IsNot
  pub waiting : WaitsFor core (me_at start) (λ key. waits waiters key start.process) asks.request

-- a process asks for no more than an invocation of an operation of its statement, and waits for them
pub record IsIdle (core : Core) (limit : ℕ) (state : State) (waiters : Waiters) (start : Start) : Type 0 where
  pub asks : Ask
  pub asked : asks_next core limit state start ≡ Asked asks
  pub waiting : WaitsIdle core (me_at start) (λ key. waits waiters key start.process) asks.request

-- One of the two holds of each living process that is neither ready nor woken. Of an operation that some wait for and
-- that isn't open, no invocation is pending.
pub record AreAside (core : Core) (limit : ℕ) (state : State) (waiters : Waiters) (woken : Option Woken) : Type 0 where
  pub aside : (process : ℕ) (start : Start) → started state.world process ≡ Some start → is_ready waiters process ≡ false → is_woken waiters woken process ≡ false
      → IsAside core limit state waiters start ⊎ IsIdle core limit state waiters start
  pub closed : (owner : Owner) (op process : ℕ) → is_closed waiters (class_of owner op) process ≡ true → is_opened woken owner op ≡ false → filter (is_of owner op) state.world.pending ≡ []

-- what is noted of a request that was carried out; who made a step stays ready
abbrev pub IsNoted : Core → World → Start → Ask → ℕ → Acted → Waiters → Option Woken → Type 0
IsNoted core world start asks name (Done answer) waiters woken =
    (woken ≡ Some (record { change = change_of core (me_at start) asks answer; caller = caller_in world start.process asks.request; made = name; gone = gone_by asks.request start.process }))
    × (is_ready waiters start.process ≡ true)
IsNoted core world start asks name _ waiters woken = woken ≡ None
