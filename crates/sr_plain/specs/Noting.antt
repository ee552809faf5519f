-- What is noted of a request that the machine has carried out.
use Rattle.std.specs.Prelude.{◌≡◌, ◌⊎◌, ◌<◌, ◌≤◌, ℕ, true, List, Option, Some, None, Result, slice_get}
use Rattle.sr_ask.specs.declared.ask.Ask.{Ask}
use Rattle.sr_core.specs.declared.component.Core.{Core}
use Rattle.sr_core.specs.declared.owner.Me.{Me}
use Rattle.sr_core.specs.declared.site.Arm.{Arm}
use Rattle.sr_core.specs.declared.site.SharedRead.{SharedRead}
use Rattle.sr_core.specs.declared.site.Site.{Site}
use Rattle.sr_queue.specs.Classes.{class_of}
use Rattle.sr_queue.specs.declared.class.Class.{Class}
use Rattle.sr_select.specs.Guards.{guard_block, home_seen}
use Rattle.sr_value.specs.declared.fault.Fault.{Fault}
use Rattle.sr_value.specs.declared.value.Value.{Value}
use Rattle.sr_world.specs.Does.{IsNot, comes_to}
use Rattle.sr_world.specs.Steps.{does}
use Rattle.sr_world.specs.Worlds.{World}
use Rattle.sr_world.specs.declared.acted.Acted.{Acted}
use Rattle.sr_world.specs.declared.acted.Acted.TheVariants.{Done, Cannot}
use Rattle.sr_plain.specs.Changes.{change_of, gone_by, owner_at}
use Rattle.sr_plain.specs.Waiting.{IsTakenOut, IsWaiting, WaitsAtSite, at_block, at_operation, idle_of, is_closed, is_ready, key_of, turns_len, waits}
use Rattle.sr_plain.specs.declared.carrying.Carried.{Carried}
use Rattle.sr_plain.specs.declared.change.Woken.{Woken}
use Rattle.sr_plain.specs.declared.waiters.Place.{Place}
use Rattle.sr_plain.specs.declared.waiters.Waiters.{Waiters}

-- whoever waited waits, and nobody more is ready
pub record StillWait (old new : Waiters) : Type 0 where
  pub ready : new.ready ≡ old.ready
  pub others : (k : Place) (other : ℕ) → waits old k other ≡ true → waits new k other ≡ true
  pub closed : (class : Class) (other : ℕ) → is_closed new class other ≡ true → is_closed old class other ≡ true
  pub less : turns_len new ≤ turns_len old

-- a process waits at each arm of a statement, and for nothing else
pub record IdlesAtArms (me : Me) (site : Site) (old new : Waiters) : Type 0 where
  pub ready : new.ready ≡ old.ready
  pub itself : (number : ℕ) (arm : Arm) → slice_get site.arms number ≡ Some arm → waits new (idle_of (owner_at site.scope me) arm.op) me.process ≡ true
  pub others : (k : Place) (other : ℕ) → waits old k other ≡ true → waits new k other ≡ true
  pub closed : (class : Class) (other : ℕ) → is_closed new class other ≡ true
      → (is_closed old class other ≡ true) ⊎ ((number : ℕ) × (arm : Arm) × (slice_get site.arms number ≡ Some arm) × (class ≡ class_of (owner_at site.scope me) arm.op))
  pub less : turns_len new ≤ turns_len old

-- a process waits at each arm of a statement
pub record WaitsAtArms (me : Me) (site : Site) (old new : Waiters) : Type 0 where
  pub still : StillWait old new
  pub itself : (number : ℕ) (arm : Arm) → slice_get site.arms number ≡ Some arm → waits new (key_of (owner_at site.scope me) arm.op) me.process ≡ true

-- a process waits for a variable of this block
pub record WaitsForRead (me : Me) (var : ℕ) (block : Result ℕ Fault) (old new : Waiters) : Type 0 where
  pub still : StillWait old new
  pub itself : at_block (λ key. waits new key me.process) var block ≡ true

-- a process waits for each variable that a statement lists
pub record WaitsForReads (me : Me) (env : List Value) (site : Site) (old new : Waiters) : Type 0 where
  pub still : StillWait old new
  pub itself : (number : ℕ) (read : SharedRead) → slice_get site.reads number ≡ Some read
      → at_block (λ key. waits new key me.process) read.var (guard_block me (home_seen site.names env) read.home) ≡ true

-- a process waits for invocations of an operation that it counts
pub record WaitsForCount (core : Core) (me : Me) (op : ℕ) (old new : Waiters) : Type 0 where
  pub still : StillWait old new
  pub itself : at_operation (λ key. waits new key me.process) me op (slice_get core.operations op) ≡ true

-- a process waits for each operation that a statement lists as counted
pub record WaitsForCounts (core : Core) (me : Me) (site : Site) (old new : Waiters) : Type 0 where
  pub still : StillWait old new
  pub itself : (number op : ℕ) → slice_get site.counts number ≡ Some op → at_operation (λ key. waits new key me.process) me op (slice_get core.operations op) ≡ true

-- a process waits for what lets a statement go on
pub record WaitsAt (core : Core) (me : Me) (env : List Value) (site : Site) (old new : Waiters) : Type 0 where
  pub still : StillWait old new
  pub itself : WaitsAtSite core me (λ key. waits new key me.process) env site

-- a process waits, and isn't asked any more
pub record IsSetAside (core : Core) (me : Me) (ask : Ask) (old new : Waiters) : Type 0 where
  pub between : Waiters
  pub waiting : IsWaiting core me ask.request old between
  pub out : IsTakenOut me.process between new
  pub less : is_ready old me.process ≡ true → turns_len new < turns_len old

abbrev pub NotesBy : Core → Me → Ask → ℕ → ℕ → Acted → Waiters → Waiters → Option Woken → Type 0
NotesBy core me ask caller name (Done answer) old new woken =
    (new ≡ old) × (woken ≡ Some (record { change = change_of core me ask answer; caller = caller; made = name; gone = gone_by ask.request me.process }))
NotesBy core me ask caller name Cannot old new woken = IsSetAside core me ask old new × (woken ≡ None)
NotesBy core me ask caller name _ old new woken = (new ≡ old) × (woken ≡ None)

abbrev pub Notes : Core → Me → Ask → Carried → Waiters → Waiters → Option Woken → Type 0
Notes core me ask carried old new woken = NotesBy core me ask carried.caller carried.name carried.acted old new woken

-- a process whose request can't be done is set aside, or all wait as before
abbrev pub MaySetAside : Core → World → Me → Ask → Waiters → Waiters → Type 0
MaySetAside core world me ask old new = (new ≡ old) ⊎ ((comes_to (does core world me.process ask 0) ≡ IsNot) × IsSetAside core me ask old new)
