-- How the items of a run are arranged: each in its turn where one worker makes it, and with stretches where several do.
use Rattle.std.specs.Prelude.{◌≡◌, ◌⊎◌, ◌↔◌, ◌+◌, ◌<◌, ◌≤◌, ℕ, Bool, true, List, [], ◌∷◌, drop, length, take, IsSome}
use Rattle.sr_ask.specs.declared.item.Item.{Item}
use Rattle.sr_ask.specs.declared.item.Item.TheVariants.{Step, Quiesce, Tick}
use Rattle.sr_core.specs.declared.component.Core.{Core}
use Rattle.sr_plain.specs.Stretches.{IsStretch, nobody_could}
use Rattle.sr_plain.specs.Turns.{IsRotation}
use Rattle.sr_run.specs.declared.stretch.Stretch.{Stretch}
use Rattle.sr_world.specs.Runs.{Goes, Illegal, Next, Over, State, begun, ending_of, run_from}

-- ---- stretches

-- a step, or the machine comes to rest
abbrev pub TakesNoTime : Item → Type 0
TakesNoTime (Step actor name) = Unit {0}
TakesNoTime (Quiesce name) = Unit {0}
TakesNoTime (Tick to) = ⊥

module _ (core : Core) (class : ℕ → ℕ) (ticks steps workers : ℕ) where
  -- These items are a stretch from where a run has come to. There are none exactly where nobody could take part.
  abbrev pub IsStretchFrom : Next → List Item → Type 0
  IsStretchFrom (Goes state) items = ((later : State) × IsStretch core class ticks state items later) × (items ≡ [] ↔ nobody_could core class ticks state ≡ true)
  IsStretchFrom (Over ending state) items = ⊥
  IsStretchFrom Illegal items = ⊥

  -- after so many items there may be as many more as there are workers
  abbrev pub HasRoom : ℕ → Type 0
  HasRoom made = made + workers ≤ steps

  module _ (cut : Bool) where
    -- An item has no stretch after it where there is no room for one, or where it is the last and ends the run, or the run was
    -- cut off there.
    abbrev pub LacksStretch : Next → ℕ → Item → List Item → Type 0
    LacksStretch now made item items = (steps < made + 1 + workers) ⊎ ((items ≡ []) × (IsSome (ending_of (run_from core ticks now (item ∷ []))) ⊎ (cut ≡ true)))

    -- no item among these has one
    abbrev pub LackStretches : Next → ℕ → List Item → Type 0
    LackStretches now made [] = Unit {0}
    LackStretches now made (item ∷ items) = TakesNoTime item × LacksStretch now made item items × LackStretches (run_from core ticks now (item ∷ [])) (made + 1) items

    -- Each item that stands in no stretch is followed by one, unless it lacks it. No time passes. A stretch tells where it
    -- begins and how many items it has.
    abbrev pub AreStretches : Next → ℕ → List Item → List Stretch → Type 0
    AreStretches now made items [] = LackStretches now made items
    AreStretches now made [] (stretch ∷ stretches) = ⊥
    AreStretches now made (item ∷ items) (stretch ∷ stretches) =
        TakesNoTime item × (stretch.from ≡ made + 1) × (stretch.count ≤ length items) × HasRoom (made + 1)
        × IsStretchFrom (run_from core ticks now (item ∷ [])) (take stretch.count items)
        × AreStretches (run_from core ticks now (item ∷ take stretch.count items)) (made + 1 + stretch.count) (drop stretch.count items) stretches

-- ---- arrangements

pub data Arrangement : Type 0 where
  -- one worker makes each item in its turn
  InTurn : Arrangement
  -- so many workers make these stretches, over the classes of operations
  InRounds : (ℕ → ℕ) → ℕ → List Stretch → Arrangement

-- The items of a run with this input, of at most so many, are arranged so. Where the run was cut off, the last may lack its
-- stretch.
abbrev pub IsArranged : Arrangement → Core → ℕ → ℕ → Bool → List ℕ → List Item → Type 0
IsArranged InTurn core ticks steps cut input items = IsRotation core ticks input items
IsArranged (InRounds class workers stretches) core ticks steps cut input items = AreStretches core class ticks steps workers cut (Goes (begun input)) 0 items stretches
