-- Who lives, and who has begun.
use Rattle.std.specs.Prelude.{◌≡◌, ◌⊎◌, ℕ, List, [], ◌++◌, Option, Some, None, IsSome}
use Rattle.std.specs.HashMap.{HashMap}
use Rattle.sr_actor.specs.Crew.{Plays, member_of}
use Rattle.sr_actor.specs.declared.member.Member.{Member}
use Rattle.sr_ask.specs.declared.answer.Answer.{Answer}
use Rattle.sr_ask.specs.declared.ask.Asks.{Asks}
use Rattle.sr_ask.specs.declared.start.Start.{Start}
use Rattle.sr_core.specs.declared.component.Core.{Core}
use Rattle.sr_meaning.specs.Processes.{ask}
use Rattle.sr_world.specs.Does.{Does, Did, Makes}
use Rattle.sr_world.specs.Runs.{State}
use Rattle.sr_world.specs.Sound.{times_used}
use Rattle.sr_world.specs.Worlds.{World, started}

-- ---- who has begun

-- a process stands for the answers that it got; one that hasn't begun has got none
abbrev pub StandsFor : {A : Type 0} → (A → List Answer → Asks) → (List Answer → Asks) → List Answer → Option (Member A) → Type 0
StandsFor after meant answers None = answers ≡ []
StandsFor after meant answers (Some member) = Plays after (λ more. meant (answers ++ more)) member

-- each living process stands for its answers, and nobody has begun under a number that wasn't given out
pub record AreMembers {A S : Type 0} (after : A → List Answer → Asks) (core : Core) (limit : ℕ) (state : State) (members : HashMap ℕ (Member A) S) : Type 0 where
  pub living : (process : ℕ) (start : Start) → started state.world process ≡ Some start
      → StandsFor after (ask core start limit) (state.given process) (member_of members process)
  pub unborn : (process : ℕ) → times_used state.world process ≡ 0 → member_of members process ≡ None

-- who lives stays as it is, and nobody begins
pub record KeepsLiving {A S : Type 0} (world : World) (old new : HashMap ℕ (Member A) S) : Type 0 where
  pub living : (process : ℕ) → IsSome (started world process) → member_of new process ≡ member_of old process
  pub stays : (process : ℕ) (member : Member A) → member_of new process ≡ Some member → member_of old process ≡ Some member

-- ---- who lives after a step

-- who lives lived before, as it was started, unless it has the step's number
pub record Leaves (name : ℕ) (old new : World) : Type 0 where
  pub lives : (process : ℕ) (start : Start) → started new process ≡ Some start → (started old process ≡ Some start) ⊎ (process ≡ name)

abbrev pub LeavesIf : ℕ → World → Does → Type 0
LeavesIf name old (Did new answer) = Leaves name old new
LeavesIf name old (Makes new answer) = Leaves name old new
LeavesIf name old _ = Unit {0}
