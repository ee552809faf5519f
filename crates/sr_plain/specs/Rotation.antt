-- Which events make their items in turn.
use Rattle.std.specs.Prelude.{◌≡◌, ◌++◌, ℕ, true, List, [], ◌∷◌}
use Rattle.sr_ask.specs.Items.{number_of}
use Rattle.sr_core.specs.declared.component.Core.{Core}
use Rattle.sr_world.specs.Laws.{closes}
use Rattle.sr_world.specs.Names.{IsLeastUnused}
use Rattle.sr_world.specs.Runs.{Event, Makes_item, Next, Goes, State, after_event, bytes_in, first, is_legal, items_in, led}
use Rattle.sr_plain.specs.Engine.{last_by, last_in}
use Rattle.sr_plain.specs.Order.{IsNext, IsNumbered}
use Rattle.sr_plain.specs.Turns.{IsRotation, IsTurn, turn}

-- an item stands where its turn is, with the next number; input may come at any time
abbrev pub IsInTurn : Core → ℕ → State → ℕ → Event → Type 0
IsInTurn core limit state last (Makes_item item) = IsTurn (turn core limit state last) item × IsNumbered state.world (number_of item)
IsInTurn core limit state last _ = Unit {0}

abbrev pub GoOnInTurn : Core → ℕ → Next → ℕ → List Event → Type 0
GoOnInTurn core limit now last [] = Unit {0}
GoOnInTurn core limit (Goes state) last (event ∷ events) =
    IsInTurn core limit state last event × GoOnInTurn core limit (after_event core limit state event) (last_by last event) events
GoOnInTurn core limit now last (event ∷ events) = ⊥

-- the items among these events, from the beginning, stand where their turns are
abbrev pub AreInTurn : Core → ℕ → List Event → Type 0
AreInTurn core limit events = GoOnInTurn core limit (Goes first) 0 events

-- ---- laws

-- Where events are in turn, one more is that comes in turn.
abbrev pub OneMoreInTurn : Type 0
OneMoreInTurn = (core : Core) (limit : ℕ) (events : List Event) (state : State) (event : Event) → led core limit events ≡ Goes state
    → AreInTurn core limit events → IsInTurn core limit state (last_in events) event → AreInTurn core limit (events ++ event ∷ [])

-- Where all items came in turn, the number that is given out next is the least unused one.
abbrev pub NextIsLeastUnused : Type 0
NextIsLeastUnused = (core : Core) (limit : ℕ) (events : List Event) (state : State) (name : ℕ) → led core limit events ≡ Goes state
    → AreInTurn core limit events → IsNext state.world.used name → IsLeastUnused state.world.used name

-- In whatever pieces the input came, the items of events in turn are a rotation over the whole of it.
abbrev pub InTurnIsRotation : Type 0
InTurnIsRotation = (core : Core) (limit : ℕ) (events : List Event) (more : List ℕ) → is_legal (led core limit events) ≡ true → (closes events ≡ true → more ≡ [])
    → AreInTurn core limit events → IsRotation core limit (bytes_in events ++ more) (items_in events)
