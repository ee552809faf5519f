-- A run that is under way, as the code carries it on.
use Rattle.std.specs.Prelude.{◌≡◌, ◌⊎◌, ◌+◌, true, false, ◌-◌, ◌<◌, ◌≤◌, ◌++◌, ◌∷◌, ℕ, List, [], length, Option, None, Some, if◌then◌else◌}
use Rattle.std.specs.Io.KnownBytes.{append_known}
use Rattle.sr_ask.specs.declared.answer.Answer.{Answer}
use Rattle.sr_ask.specs.declared.ask.Asks.{Asks}
use Rattle.sr_ask.specs.declared.item.Item.{Item}
use Rattle.sr_core.specs.declared.component.Core.{Core}
use Rattle.sr_plain.specs.Engine.{IsEngine, WaitsForInput}
use Rattle.sr_plain.specs.Rotation.{AreInTurn}
use Rattle.sr_plain.specs.declared.plain.Plain.{Plain}
use Rattle.sr_ports.specs.Faults.{Rose}
use Rattle.sr_ports.specs.Streams.{PutInPart}
use Rattle.sr_run.specs.Arranged.{Arrangement, InTurn, InRounds, IsArranged, TakesNoTime}
use Rattle.sr_run.specs.Causes.{HasCauseIn, NoFaults}
use Rattle.sr_run.specs.Runs.{Call, Devices, Took, turn_after}
use Rattle.sr_run.specs.declared.end.RunEnd.{RunEnd}
use Rattle.sr_run.specs.declared.end.RunEnd.TheVariants as end
use Rattle.sr_run.specs.declared.intake.Intake.{Intake}
use Rattle.sr_run.specs.declared.stretch.Stretch.{Stretch}
use Rattle.sr_world.specs.Laws.{closes, with_all_in}
use Rattle.sr_world.specs.Runs.{Event, Goes, State, bytes_in, items_in, led, run}
use Rattle.sr_world.specs.declared.ends.End.{End}

-- a call as far as it has come: over this core, with the devices and the items as they are now
abbrev pub as_of : Call → Core → Devices → List Item → Call
as_of call core now items = record call { core = core; now = now; items = items }

-- ---- a run that goes on

-- where a run of several workers is: before a plain step, or after one, whose stretch isn't made yet
pub data Stage : Type 0 where
  Whole : Stage
  Open : Stage

-- all items but the last are arranged so, whatever input still comes
pub record LacksLast (class : ℕ → ℕ) (workers : ℕ) (stretches : List Stretch) (core : Core) (ticks steps : ℕ) (events : List Event) (items : List Item) : Type 0 where
  pub before : List Item
  pub item : Item
  pub last : items ≡ before ++ item ∷ []
  pub plain : TakesNoTime item
  pub state : State
  pub leads : (more : List ℕ) → (closes events ≡ true → more ≡ []) → run core ticks (bytes_in events ++ more) before ≡ Goes (with_all_in more state)
  pub arranged : (more : List ℕ) → (closes events ≡ true → more ≡ []) → IsArranged (InRounds class workers stretches) core ticks steps false (bytes_in events ++ more) before

-- the items that events made are arranged so, as far as they have come, whatever input still comes
abbrev pub ArrangedSoFar : Arrangement → Stage → Core → ℕ → ℕ → List Event → List Item → Type 0
ArrangedSoFar InTurn stage core ticks steps events items = AreInTurn core ticks events
ArrangedSoFar (InRounds class workers stretches) Whole core ticks steps events items = (more : List ℕ) → (closes events ≡ true → more ≡ [])
    → IsArranged (InRounds class workers stretches) core ticks steps false (bytes_in events ++ more) items
ArrangedSoFar (InRounds class workers stretches) Open core ticks steps events items = LacksLast class workers stretches core ticks steps events items

-- Events lead to this state; they make the items, arranged so, and give the bytes that were taken; and all output was put.
pub record HasCome (arrangement : Arrangement) (stage : Stage) (call : Call) (intake : Intake) (state : State) (events : List Event) : Type 0 where
  pub leads : led call.core call.ticks events ≡ Goes state
  pub arranged : ArrangedSoFar arrangement stage call.core call.ticks call.steps events call.items
  pub makes : items_in events ≡ call.items
  pub took : Took call (bytes_in events) intake.ended
  pub count : length (bytes_in events) ≡ intake.taken
  pub closed : closes events ≡ intake.ended
  pub ended : state.world.ended ≡ intake.ended
  pub put : call.now.held ≡ append_known call.before.held state.world.output

-- no device has failed, and an engine stands for the state that the run has come to
pub record IsUnderWay {A : Type 0} (after : A → List Answer → Asks) (can_feed : A → Type 0) (arrangement : Arrangement) (stage : Stage) (call : Call) (intake : Intake) (plain : Plain A) : Type 0 where
  pub state : State
  pub events : List Event
  pub come : HasCome arrangement stage call intake state events
  pub no_faults : NoFaults call
  pub engine : IsEngine after can_feed call.core call.ticks state events plain

-- it is under way, and whose turn it is reads what the bytes that were taken don't decide
pub record IsWaiting {A : Type 0} (after : A → List Answer → Asks) (can_feed : A → Type 0) (arrangement : Arrangement) (call : Call) (intake : Intake) (plain : Plain A) : Type 0 where
  pub under_way : IsUnderWay after can_feed arrangement Whole call intake plain
  pub fewer : length call.items < call.steps
  pub waits : WaitsForInput call.core call.ticks under_way.state (turn_after call under_way.state)

-- ---- what each turn brings

-- the run goes on, with more input or with an item, or it ends so
abbrev pub Advances : {A : Type 0} → (A → List Answer → Asks) → (A → Type 0) → Arrangement → List Item → Call → Intake → Plain A → Option RunEnd → Type 0
Advances after can_feed arrangement items call intake plain None =
    ((call.items ≡ items) × IsUnderWay after can_feed arrangement Whole call intake plain)
    ⊎ ((length items < length call.items) × IsUnderWay after can_feed arrangement Open call intake plain)
Advances after can_feed arrangement items call intake plain (Some ending) = HasCauseIn arrangement call ending

-- how many bytes of input may still come, and its end
abbrev pub open_input : Intake → ℕ
open_input intake = (67108864 - intake.taken) + (if intake.ended then 0 else 1)

-- there is one item more, or the input is nearer to its end
pub record Moves (items items_now : List Item) (intake intake_now : Intake) : Type 0 where
  pub no_fewer : length items ≤ length items_now
  pub nearer : length items + open_input intake_now < length items_now + open_input intake

-- ---- an item

-- the item was added
abbrev pub Adds : Item → List Item → List Item → Type 0
Adds item old new = new ≡ old ++ item ∷ []

-- What becomes of an item and its text: both are there; or the sink failed, or memory ran out. So much for what the sink
-- holds and the count of its faults, before and after.
abbrev pub PutsItem : Item → List ℕ → List Item → List Item → Option (List ℕ) → Option (List ℕ) → ℕ → ℕ → Option RunEnd → Type 0
PutsItem item text old new held held_now faults faults_now None =
    Adds item old new × (held_now ≡ append_known held text) × (faults_now ≡ faults)
PutsItem item text old new held held_now faults faults_now (Some end.WriteFault) =
    Adds item old new × PutInPart held held_now text × Rose faults faults_now
PutsItem item text old new held held_now faults faults_now (Some end.NoMemory) =
    ((Adds item old new × PutInPart held held_now text) ⊎ ((new ≡ old) × (held_now ≡ held))) × (faults_now ≡ faults)
PutsItem item text old new held held_now faults faults_now (Some ending) = ⊥

-- the item that ends the run is there, or memory ran out
abbrev pub EndsWith : Item → End → List Item → List Item → RunEnd → Type 0
EndsWith item given old new (end.Ended ending) = Adds item old new × (ending ≡ given)
EndsWith item given old new end.NoMemory = new ≡ old
EndsWith item given old new ending = ⊥
