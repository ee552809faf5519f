-- Why a run ends as it does.
use Rattle.std.specs.Prelude.{◌≡◌, ◌<◌, ◌⊎◌, ◌∷◌, ◌++◌, ℕ, Bool, false, true, List, [], length, None, Some}
use Rattle.std.specs.Io.KnownBytes.{append_known}
use Rattle.sr_ask.specs.declared.item.Item.{Item}
use Rattle.sr_ask.specs.declared.item.Item.TheVariants.{Step}
use Rattle.sr_ask.specs.declared.start.Start.{Start}
use Rattle.sr_plain.specs.Carrying.{written_of}
use Rattle.sr_plain.specs.Engine.{IsOver, WaitsForInput}
use Rattle.sr_ports.specs.Faults.{Rose}
use Rattle.sr_ports.specs.Streams.{PutInPart}
use Rattle.sr_run.specs.Arranged.{Arrangement, InTurn}
use Rattle.sr_run.specs.Runs.{Call, GoesOn, Reaches, Runs, turn_after}
use Rattle.sr_run.specs.declared.end.LimitKind.{LimitKind}
use Rattle.sr_run.specs.declared.end.LimitKind.TheVariants as limit
use Rattle.sr_run.specs.declared.end.RunEnd.{RunEnd}
use Rattle.sr_run.specs.declared.end.RunEnd.TheVariants as end
use Rattle.sr_world.specs.Runs.{State, asks_next}
use Rattle.sr_world.specs.Worlds.{started}
use Rattle.sr_world.specs.declared.ends.End.{End}

-- no call of the input or of the output failed
pub record NoFaults (call : Call) : Type 0 where
  pub read : call.now.read_faults ≡ call.before.read_faults
  pub write : call.now.write_faults ≡ call.before.write_faults

-- ---- the run's own endings

-- the run has this ending, and all its output was put
pub record EndsItself (arrangement : Arrangement) (call : Call) (ending : End) : Type 0 where
  pub taken : List ℕ
  pub ended : Bool
  pub output : List ℕ
  pub runs : Runs arrangement call false taken ended (Some ending) output
  pub put : call.now.held ≡ append_known call.before.held output
  pub no_faults : NoFaults call

-- ---- limits

-- there are as many items as there may be, and the run hasn't ended
pub record EndsAtSteps (arrangement : Arrangement) (call : Call) : Type 0 where
  pub taken : List ℕ
  pub ended : Bool
  pub state : State
  pub goes_on : GoesOn arrangement call false taken ended state
  pub all : length call.items ≡ call.steps
  pub no_faults : NoFaults call

-- there are fewer items, and the process whose turn it is has no tick left
pub record EndsAtTicks (arrangement : Arrangement) (call : Call) (process : ℕ) : Type 0 where
  pub taken : List ℕ
  pub ended : Bool
  pub state : State
  pub goes_on : GoesOn arrangement call false taken ended state
  pub fewer : length call.items < call.steps
  pub over : IsOver call.core call.ticks state process (turn_after call state)
  pub no_faults : NoFaults call

-- There are fewer items, and the first 67,108,864 bytes of input, which weren't seen to be all, don't decide what the
-- process reads whose turn it is.
pub record EndsAtInput (arrangement : Arrangement) (call : Call) : Type 0 where
  pub taken : List ℕ
  pub state : State
  pub goes_on : GoesOn arrangement call false taken false state
  pub fewer : length call.items < call.steps
  pub full : length taken ≡ 67108864
  pub waits : WaitsForInput call.core call.ticks state (turn_after call state)
  pub no_faults : NoFaults call

-- ---- faults of the devices

-- the input failed when the process whose turn it is read, and the bytes that were taken don't decide what
pub record EndsAtRead (arrangement : Arrangement) (call : Call) : Type 0 where
  pub taken : List ℕ
  pub state : State
  pub goes_on : GoesOn arrangement call false taken false state
  pub fewer : length call.items < call.steps
  pub waits : WaitsForInput call.core call.ticks state (turn_after call state)
  pub failed : Rose call.before.read_faults call.now.read_faults
  pub no_write_fault : call.now.write_faults ≡ call.before.write_faults

-- The last item is a write of which not all bytes were put, but all output before it. The run hasn't ended.
pub record IsCutInWrite (arrangement : Arrangement) (call : Call) : Type 0 where
  pub taken : List ℕ
  pub ended : Bool
  pub items : List Item
  pub actor : ℕ
  pub name : ℕ
  pub start : Start
  pub state : State
  pub bytes : List ℕ
  pub last : call.items ≡ items ++ Step actor name ∷ []
  pub reaches : Reaches call items taken ended state
  pub lives : started state.world actor ≡ Some start
  pub writes : written_of (Some (asks_next call.core call.ticks state start)) ≡ bytes
  pub runs : Runs arrangement call true taken ended None (state.world.output ++ bytes)
  pub put : PutInPart (append_known call.before.held state.world.output) call.now.held bytes

-- the output failed in a write
pub record EndsAtWrite (arrangement : Arrangement) (call : Call) : Type 0 where
  pub cut : IsCutInWrite arrangement call
  pub failed : Rose call.before.write_faults call.now.write_faults
  pub no_read_fault : call.now.read_faults ≡ call.before.read_faults

-- ---- memory

-- the run hasn't ended, and all its output was put
pub record IsCutBetween (arrangement : Arrangement) (call : Call) : Type 0 where
  pub taken : List ℕ
  pub ended : Bool
  pub state : State
  pub goes_on : GoesOn arrangement call true taken ended state

-- memory ran out, between two items or in a write
pub record EndsEarly (arrangement : Arrangement) (call : Call) : Type 0 where
  pub cut : IsCutBetween arrangement call ⊎ IsCutInWrite arrangement call
  pub no_faults : NoFaults call

-- ---- all of them

abbrev pub LimitCause : Arrangement → Call → LimitKind → Type 0
LimitCause arrangement call limit.Steps = EndsAtSteps arrangement call
LimitCause arrangement call (limit.Ticks process) = EndsAtTicks arrangement call process
LimitCause arrangement call limit.Input = EndsAtInput arrangement call

-- what each ending says of the call, whose items are arranged so
abbrev pub HasCauseIn : Arrangement → Call → RunEnd → Type 0
HasCauseIn arrangement call (end.Ended ending) = EndsItself arrangement call ending
HasCauseIn arrangement call (end.Limit kind) = LimitCause arrangement call kind
HasCauseIn arrangement call end.ReadFault = EndsAtRead arrangement call
HasCauseIn arrangement call end.WriteFault = EndsAtWrite arrangement call
HasCauseIn arrangement call end.NoMemory = EndsEarly arrangement call

-- the same where one worker makes each item in its turn
abbrev pub HasCause : Call → RunEnd → Type 0
HasCause call ending = HasCauseIn InTurn call ending
