-- What the replay of a list of items comes to.
use Rattle.std.specs.Prelude.{◌≡◌, ◌<◌, ◌≤◌, ◌+◌, ◌-◌, ◌⊎◌, ℕ, true, false, List, take, Some}
use Rattle.sr_ask.specs.declared.item.Item.{Item}
use Rattle.sr_core.specs.declared.component.Core.{Core}
use Rattle.sr_world.specs.Runs.{Next, is_legal, run}
use Rattle.sr_replay.specs.Snapshots.{shown}
use Rattle.sr_replay.specs.declared.whole.Replayed.{Replayed}
use Rattle.sr_replay.specs.declared.whole.Replayed.TheVariants as replayed
use Rattle.sr_replay.specs.declared.snapshot.Snapshot.{Snapshot}

-- An item, counted from 1 and among those that are asked for, is the first that isn't a step of the run: those before it
-- are a run, and with it they aren't, or it is one more than a run may have.
pub record IsFirstIllegal (core : Core) (steps ticks : ℕ) (input : List ℕ) (items : List Item) (upto at : ℕ) : Type 0 where
  pub first : 1 ≤ at
  pub within : at ≤ upto
  pub most : at ≤ steps + 1
  pub before : is_legal (run core ticks input (take (at - 1) items)) ≡ true
  pub here : (at ≡ steps + 1) ⊎ (is_legal (run core ticks input (take at items)) ≡ false)

-- all that are asked for are a run, and no more than it may have
pub record HasReached (core : Core) (steps ticks : ℕ) (input : List ℕ) (items : List Item) (upto : ℕ) (snapshot : Snapshot) : Type 0 where
  pub most : upto ≤ steps
  pub shows : shown core ticks upto (run core ticks input (take upto items)) ≡ Some snapshot

-- once all items were made that were to be, at most as many as a run may have: there are more, or this is what is shown
abbrev pub Reaches : Core → ℕ → ℕ → ℕ → Next → Replayed → Type 0
Reaches core steps ticks upto now (replayed.Illegal at) = (at ≡ steps + 1) × (steps < upto)
Reaches core steps ticks upto now (replayed.Reached snapshot) = (upto ≤ steps) × (shown core ticks upto now ≡ Some snapshot)

abbrev pub Replays : Core → ℕ → ℕ → List ℕ → List Item → ℕ → Replayed → Type 0
Replays core steps ticks input items upto (replayed.Illegal at) = IsFirstIllegal core steps ticks input items upto at
Replays core steps ticks input items upto (replayed.Reached snapshot) = HasReached core steps ticks input items upto snapshot
