-- What a whole run is: what it was lent, what it took from its input, and which items are a run of the machine.
use Rattle.std.specs.Prelude.{◌≡◌, ◌≤◌, ◌++◌, ℕ, Bool, true, List, [], length, fold, Option, None, IfSome}
use Rattle.std.specs.Io.KnownBytes.{append_known, prepend_known}
use Rattle.sr_ask.specs.declared.item.Item.{Item}
use Rattle.sr_ask.specs.declared.start.Start.{Start}
use Rattle.sr_core.specs.declared.component.Core.{Core}
use Rattle.sr_plain.specs.Turns.{last_after, turn}
use Rattle.sr_run.specs.Arranged.{Arrangement, IsArranged}
use Rattle.sr_world.specs.Laws.{closes}
use Rattle.sr_world.specs.Runs.{Event, Goes, State, bytes_in, ending_of, is_legal, items_in, led, output_of, run}
use Rattle.sr_world.specs.declared.ends.End.{End}

-- what the input has left and the output holds, where they tell it, and the counts of their faults
pub record Devices : Type 0 where
  pub left : Option (List ℕ)
  pub read_faults : ℕ
  pub held : Option (List ℕ)
  pub write_faults : ℕ

-- A call of the run: the core, the most items, the most ticks of a process between two answers, the devices before and
-- after, and the items that it made.
pub record Call : Type 0 where
  pub core : Core
  pub steps : ℕ
  pub ticks : ℕ
  pub before : Devices
  pub now : Devices
  pub items : List Item

-- ---- the items

-- The items of a call are a run of the machine with this input, arranged so; this is its ending, where it has one, and its
-- output.
pub record IsRun (arrangement : Arrangement) (call : Call) (cut : Bool) (input : List ℕ) (ending : Option End) (output : List ℕ) : Type 0 where
  pub legal : is_legal (run call.core call.ticks input call.items) ≡ true
  pub ends : ending_of (run call.core call.ticks input call.items) ≡ ending
  pub writes : output_of (run call.core call.ticks input call.items) ≡ output
  pub arranged : IsArranged arrangement call.core call.ticks call.steps cut input call.items

-- ---- the input

-- These bytes were taken, at most 67,108,864. Where the input said that there are no more, it has none left.
pub record Took (call : Call) (taken : List ℕ) (ended : Bool) : Type 0 where
  pub passed : call.before.left ≡ prepend_known taken call.now.left
  pub at_end : ended ≡ true → IfSome call.now.left (λ rest. rest ≡ [])
  pub most : length taken ≤ 67108864

-- The items are a run with all of the input, where it tells what it holds. Where it tells nothing, they are a run with
-- every input of which the bytes that were taken are the beginning, or the whole, where it said that there are no more.
pub record Runs (arrangement : Arrangement) (call : Call) (cut : Bool) (taken : List ℕ) (ended : Bool) (ending : Option End) (output : List ℕ) : Type 0 where
  pub took : Took call taken ended
  pub told : IfSome call.before.left (λ input. IsRun arrangement call cut input ending output)
  pub untold : (more : List ℕ) → (ended ≡ true → more ≡ []) → IsRun arrangement call cut (taken ++ more) ending output

-- ---- where the items lead

-- Items lead to this state with the input as far as it came: some events do that have these items and bytes.
pub record Reaches (call : Call) (items : List Item) (taken : List ℕ) (ended : Bool) (state : State) : Type 0 where
  pub events : List Event
  pub leads : led call.core call.ticks events ≡ Goes state
  pub makes : items_in events ≡ items
  pub gives : bytes_in events ≡ taken
  pub closed : closes events ≡ ended

-- whose turn it is after the items
abbrev pub turn_after : Call → State → Option Start
turn_after call state = turn call.core call.ticks state (fold last_after 0 call.items)

-- The items are a run that hasn't ended and lead to this state, and all its output was put.
pub record GoesOn (arrangement : Arrangement) (call : Call) (cut : Bool) (taken : List ℕ) (ended : Bool) (state : State) : Type 0 where
  pub runs : Runs arrangement call cut taken ended None state.world.output
  pub reaches : Reaches call call.items taken ended state
  pub put : call.now.held ≡ append_known call.before.held state.world.output
