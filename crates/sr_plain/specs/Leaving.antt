-- What a step leaves of who lives and of what was written.
use Rattle.std.specs.Prelude.{◌≡◌, ◌⊎◌, ◌++◌, ℕ, List, [], ◌∷◌, Option, Some, false}
use Rattle.sr_ask.specs.declared.request.Request.{Request}
use Rattle.sr_ask.specs.declared.request.Request.TheVariants.{Write}
use Rattle.sr_ask.specs.declared.start.Start.{Start}
use Rattle.sr_queue.specs.declared.pending.Pending.{Pending}
use Rattle.sr_world.specs.Does.{Does, Did, Makes}
use Rattle.sr_world.specs.Worlds.{World, started}
use Rattle.sr_plain.specs.Changes.{is_everything}
use Rattle.sr_plain.specs.Crew.{HasEnded, is_gone}
use Rattle.sr_plain.specs.Order.{AreInLine, Ascend}
use Rattle.sr_plain.specs.declared.change.Change.{Change}

-- only a write writes
abbrev pub written_by : Request → List ℕ
written_by (Write bytes) = bytes
written_by _ = []

-- one process more, of this number, stands after all of them
pub record Adds (name : ℕ) (old new : List Start) : Type 0 where
  pub start : Start
  pub named : start.process ≡ name
  pub added : new ≡ old ++ start ∷ []

-- one invocation more, of this number, waits after all of them
pub record Arrives (name : ℕ) (old new : List Pending) : Type 0 where
  pub invocation : Pending
  pub named : invocation.id ≡ name
  pub added : new ≡ old ++ invocation ∷ []

-- Who lives lived before, as it was started, unless it has the step's number; and this text was written. Those who stay
-- are in the order in which they were, and so are the invocations that still wait.
pub record Leaves (name : ℕ) (text : List ℕ) (old new : World) : Type 0 where
  pub lives : (process : ℕ) (start : Start) → started new process ≡ Some start → (started old process ≡ Some start) ⊎ (process ≡ name)
  pub output : new.output ≡ old.output ++ text
  pub stay : List Start
  pub ascend : (low high : ℕ) → Ascend low old.live high → Ascend low stay high
  pub live : (new.live ≡ stay) ⊎ Adds name stay new.live
  pub wait : List Pending
  pub in_line : (low high : ℕ) → AreInLine low old.pending high → AreInLine low wait high
  pub pending : (new.pending ≡ wait) ⊎ Arrives name wait new.pending

abbrev pub LeavesIf : ℕ → List ℕ → World → Does → Type 0
LeavesIf name text old (Did new answer) = Leaves name text old new
LeavesIf name text old (Makes new answer) = Leaves name text old new
LeavesIf name text old _ = Unit {0}

-- Who lived lives, as it was started, unless it ended itself, or anything may have changed.
pub record LiveOn (change : Change) (gone : Option ℕ) (old new : World) : Type 0 where
  pub stay : is_everything change ≡ false → (process : ℕ) (start : Start) → started old process ≡ Some start → is_gone gone process ≡ false → started new process ≡ Some start
  pub ended : HasEnded new gone

abbrev pub LiveOnIf : Change → Option ℕ → World → Does → Type 0
LiveOnIf change ending old (Did new answer) = LiveOn change ending old new
LiveOnIf change ending old (Makes new answer) = LiveOn change ending old new
LiveOnIf change ending old _ = Unit {0}
