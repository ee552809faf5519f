-- What a replay stands for, and what an item does to it.
use Rattle.std.specs.Prelude.{◌≡◌, ◌+◌, ◌<◌, ℕ, Bool, true, false, List, [], ◌∷◌, take, Option, Some, None}
use Rattle.sr_ask.specs.declared.answer.Answer.{Answer}
use Rattle.sr_ask.specs.declared.ask.Asks.{Asks}
use Rattle.sr_ask.specs.declared.item.Item.{Item}
use Rattle.sr_ask.specs.declared.start.Start.{Start}
use Rattle.sr_core.specs.declared.component.Core.{Core}
use Rattle.sr_world.specs.Runs.{IsValid, Next, Goes, Over, Illegal, State, asks_next, is_legal, run_from}
use Rattle.sr_replay.specs.Living.{AreMembers}
use Rattle.sr_replay.specs.Names.{KnowsNames}
use Rattle.sr_replay.specs.declared.replayer.Replayer.{Replayer}

-- a replay has come to a valid state
pub record StandsAt {A : Type 0} (after : A → List Answer → Asks) (core : Core) (limit : ℕ) (state : State) (replayer : Replayer A) : Type 0 where
  pub valid : IsValid core limit state
  pub world : replayer.world ≡ state.world
  pub ticks : replayer.ticks ≡ limit
  pub names : KnowsNames replayer.names state.world
  pub members : AreMembers after core limit state replayer.crew

-- it has come to where a run goes on or has ended
abbrev pub IsAt : {A : Type 0} → (A → List Answer → Asks) → Core → ℕ → Next → Replayer A → Type 0
IsAt after core limit (Goes state) replayer = (replayer.ending ≡ None) × StandsAt after core limit state replayer
IsAt after core limit (Over ending state) replayer = (replayer.ending ≡ Some ending) × StandsAt after core limit state replayer
IsAt after core limit Illegal replayer = ⊥

-- the item was made, where there is such an item
abbrev pub Follows : {A : Type 0} → (A → List Answer → Asks) → Core → ℕ → Next → Bool → Replayer A → Type 0
Follows after core limit Illegal legal replayer = legal ≡ false
Follows after core limit now legal replayer = (legal ≡ true) × IsAt after core limit now replayer

-- the first items, so many, were made; or those before this place, from 0, and there there is none
abbrev pub FollowsAll : {A : Type 0} → (A → List Answer → Asks) → Core → ℕ → Next → List Item → ℕ → Option ℕ → Replayer A → Type 0
FollowsAll after core limit now items count None replayer = IsAt after core limit (run_from core limit now (take count items)) replayer
FollowsAll after core limit now items count (Some place) replayer = (place < count)
    × (is_legal (run_from core limit now (take place items)) ≡ true) × (is_legal (run_from core limit now (take (place + 1) items)) ≡ false)

-- ---- what processes ask

-- what a process asks, where it lives
abbrev pub asked_by : Core → ℕ → State → Option Start → List (ℕ × Asks)
asked_by core limit state None = []
asked_by core limit state (Some start) = (start.process, asks_next core limit state start) ∷ []
