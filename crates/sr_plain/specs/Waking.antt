-- How those are made ready whom a step woke.
use Rattle.std.specs.Prelude.{◌≡◌, ◌<◌, ◌==◌, ℕ, true, false, List, Some, slice_get}
use Rattle.sr_ask.specs.declared.start.Start.{Start}
use Rattle.sr_queue.specs.Classes.{class_of}
use Rattle.sr_queue.specs.declared.class.Class.{Class}
use Rattle.sr_value.specs.declared.capability.Owner.{Owner}
use Rattle.sr_world.specs.Worlds.{World, started}
use Rattle.sr_plain.specs.Waiting.{GoOn, is_closed, is_ready, opens, waits, wakes, wakes_by}
use Rattle.sr_plain.specs.declared.change.Change.{Change}
use Rattle.sr_plain.specs.declared.change.Woken.{Woken}
use Rattle.sr_plain.specs.declared.waiters.Place.{Place}
use Rattle.sr_plain.specs.declared.waiters.Waiters.{Waiters}

-- each of these processes is ready, and who waits for invocations alone stays there
pub record AreMadeReady (processes : List ℕ) (old new : Waiters) : Type 0 where
  pub idle : new.idle ≡ old.idle
  pub ready : (place process : ℕ) → slice_get processes place ≡ Some process → is_ready new process ≡ false → ⊥

-- each living process is ready
pub record ReadiesAll (world : World) (new : Waiters) : Type 0 where
  pub nobody : (class : Class) (process : ℕ) → is_closed new class process ≡ false
  pub all : (process : ℕ) (start : Start) → started world process ≡ Some start → is_ready new process ≡ false → ⊥

-- no process is numbered 0
pub record ReadiesIfLives (world : World) (process : ℕ) (old new : Waiters) : Type 0 where
  pub go_on : GoOn old new
  pub idle : new.idle ≡ old.idle
  pub apart : (other : ℕ) (start : Start) → 0 < other → started world other ≡ Some start → is_ready new other ≡ false → (process == other) ≡ false

-- who lives and isn't ready wasn't, and waits where it waited
pub record LivingGoOn (world : World) (old new : Waiters) : Type 0 where
  pub ready : (process : ℕ) (start : Start) → started world process ≡ Some start → is_ready new process ≡ false → is_ready old process ≡ false
  pub waiting : (process : ℕ) (start : Start) → started world process ≡ Some start → is_ready new process ≡ false → (key : Place) → waits old key process ≡ true → waits new key process ≡ true

-- where operations may have got an invocation nobody stays closed
abbrev pub Opens : Change → Waiters → Waiters → Type 0
Opens change old new = (owner : Owner) (op process : ℕ) → is_closed new (class_of owner op) process ≡ true → (is_closed old (class_of owner op) process ≡ true) × (opens change owner op ≡ false)

pub record WakesByChange (world : World) (change : Change) (old new : Waiters) : Type 0 where
  pub go_on : LivingGoOn world old new
  pub opens : Opens change old new
  pub woken : (process : ℕ) (start : Start) → started world process ≡ Some start → is_ready new process ≡ false → wakes change (λ key. waits old key process) ≡ false

pub record WakesUp (world : World) (woken : Woken) (old new : Waiters) : Type 0 where
  pub go_on : LivingGoOn world old new
  pub opens : Opens woken.change old new
  pub unwoken : (process : ℕ) (start : Start) → 0 < process → started world process ≡ Some start → is_ready new process ≡ false → wakes_by old woken process ≡ false
