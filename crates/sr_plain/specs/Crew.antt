-- Which of the processes that have begun live, and who leaves.
pub use Rattle.sr_actor.specs.Crew.{Answers, Begins, HasBegun, IsFed, IsSame, KeepsOthers, Looks, LooksAt, Plays, member_of}
use Rattle.std.specs.Prelude.{◌≡◌, ◌⊎◌, ◌==◌, ◌||◌, ℕ, Bool, false, Option, Some, None, IsSome}
use Rattle.std.specs.HashMap.{HashMap}
use Rattle.sr_ask.specs.declared.start.Start.{Start}
use Rattle.sr_world.specs.Worlds.{World, started}
use Rattle.sr_plain.specs.Changes.{is_everything}
use Rattle.sr_plain.specs.declared.change.Woken.{Woken}
use Rattle.sr_actor.specs.declared.member.Member.{Member}

-- ---- who lives

-- who lives stays as it is, and nobody begins
pub record KeepsLiving {A S : Type 0} (world : World) (old new : HashMap ℕ (Member A) S) : Type 0 where
  pub living : (process : ℕ) → IsSome (started world process) → member_of new process ≡ member_of old process
  pub stays : (process : ℕ) (member : Member A) → member_of new process ≡ Some member → member_of old process ≡ Some member

-- ---- who leaves

abbrev pub is_gone : Option ℕ → ℕ → Bool
is_gone None process = false
is_gone (Some gone) process = gone == process

-- who may have ended by the last step
abbrev pub may_leave : Option Woken → ℕ → Bool
may_leave None process = false
may_leave (Some woken) process = is_everything woken.change || is_gone woken.gone process

-- who ended itself by a step lives no more
abbrev pub HasEnded : World → Option ℕ → Type 0
HasEnded world None = Unit {0}
HasEnded world (Some gone) = started world gone ≡ None

-- each of them lives
abbrev pub AllLive : {A S : Type 0} → World → HashMap ℕ (Member A) S → Type 0
AllLive world members = (process : ℕ) (member : Member _) → member_of members process ≡ Some member → IsSome (started world process)

-- who may have ended by a step leaves, unless it lives
pub record LetsGo {A S : Type 0} (world : World) (woken : Woken) (old new : HashMap ℕ (Member A) S) : Type 0 where
  pub keeps : HasEnded world woken.gone → KeepsLiving world old new
  pub live : (process : ℕ) (member : Member A) → member_of new process ≡ Some member → (may_leave (Some woken) process ≡ false) ⊎ IsSome (started world process)

-- Each that has begun lives, unless it may have ended by the last step; and each that lives runs in its own instance.
pub record AreLiving {A S : Type 0} (world : World) (woken : Option Woken) (members : HashMap ℕ (Member A) S) : Type 0 where
  pub live : (process : ℕ) (member : Member A) → member_of members process ≡ Some member → may_leave woken process ≡ false → IsSome (started world process)
  pub named : (process : ℕ) (start : Start) (member : Member A) → started world process ≡ Some start → member_of members process ≡ Some member → member.instance ≡ start.instance
  pub gone : (last : Woken) → woken ≡ Some last → HasEnded world last.gone
