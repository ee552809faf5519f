-- Whose turn it is.
use Rattle.std.specs.Prelude.{◌≡◌, ◌++◌, ℕ, zero, suc, Bool, not, List, [], ◌∷◌, drop, take, find, Option, Some, None}
use Rattle.sr_ask.specs.Items.{number_of}
use Rattle.sr_ask.specs.declared.item.Item.{Item}
use Rattle.sr_ask.specs.declared.item.Item.TheVariants.{Step, Quiesce, Tick}
use Rattle.sr_ask.specs.declared.start.Start.{Start}
use Rattle.sr_core.specs.declared.component.Core.{Core}
use Rattle.sr_world.specs.Names.{IsLeastUnused, made_after}
use Rattle.sr_world.specs.Runs.{Next, Goes, State, asks_next, begun, is_blocked, next}
use Rattle.sr_world.specs.Worlds.{World}

-- who is asked one after the other: those made after the last actor, and then the others from the front
abbrev pub walk : World → ℕ → List Start
walk world last = drop (made_after world last) world.live ++ take (made_after world last) world.live

-- a process that isn't blocked takes its turn
abbrev pub takes_turn : Core → ℕ → State → Start → Bool
takes_turn core limit state start = not (is_blocked core state.world start.process (asks_next core limit state start))

-- The first that takes its turn. Before any step the last actor is 0, and the walk begins at the front.
abbrev pub turn : Core → ℕ → State → ℕ → Option Start
turn core limit state last = find (takes_turn core limit state) (walk state.world last)

-- a process, where it lives and takes its turn
abbrev pub turn_of : Core → ℕ → State → Option Start → Option Start
turn_of core limit state None = None
turn_of core limit state (Some start) = find (takes_turn core limit state) (start ∷ [])

-- ---- rotation

-- a step is made by whose turn it is, and the machine comes to rest where there is none
abbrev pub IsTurn : Option Start → Item → Type 0
IsTurn (Some start) (Step actor name) = actor ≡ start.process
IsTurn None (Quiesce name) = Unit {0}
IsTurn turn item = ⊥

-- a step that makes something gives it the least unused number
abbrev pub IsName : World → ℕ → Type 0
IsName world zero = Unit {0}
IsName world (suc n) = IsLeastUnused world.used (suc n)

-- the last actor after one more item
abbrev pub last_after : ℕ → Item → ℕ
last_after last (Step actor name) = actor
last_after last (Quiesce name) = last
last_after last (Tick to) = last

-- each item stands where its turn is, and what it makes gets the least unused number
abbrev pub Rotates : Core → ℕ → Next → ℕ → List Item → Type 0
Rotates core limit now last [] = Unit {0}
Rotates core limit (Goes state) last (item ∷ items) =
    IsTurn (turn core limit state last) item × IsName state.world (number_of item) × Rotates core limit (next core limit state item) (last_after last item) items
Rotates core limit now last (item ∷ items) = ⊥

-- the items of a run with this input are in rotation
abbrev pub IsRotation : Core → ℕ → List ℕ → List Item → Type 0
IsRotation core limit input items = Rotates core limit (Goes (begun input)) 0 items
