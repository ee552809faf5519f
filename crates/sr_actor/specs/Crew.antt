-- The processes that have begun.
use Rattle.std.specs.Prelude.{◌≡◌, ◌⊎◌, ◌==◌, ℕ, false, List, ◌∷◌, Option, Some, None, nat_eq}
use Rattle.std.specs.HashMap.{HashMap, get}
use Rattle.sr_ask.specs.declared.answer.Answer.{Answer}
use Rattle.sr_ask.specs.declared.ask.Asks.{Asks}
use Rattle.sr_ask.specs.declared.start.Start.{Start}
use Rattle.sr_core.specs.declared.component.Core.{Core}
use Rattle.sr_meaning.specs.Processes.{ask}
use Rattle.sr_actor.specs.declared.member.Member.{Member}

-- a process, where it has begun
abbrev pub member_of : {A S : Type 0} → HashMap ℕ (Member A) S → ℕ → Option (Member A)
member_of members process = get nat_eq members process

-- ---- what a process asks

-- a process asks what is meant
pub record Plays {A : Type 0} (after : A → List Answer → Asks) (meant : List Answer → Asks) (member : Member A) : Type 0 where
  pub actor : (more : List Answer) → after member.actor more ≡ meant more

-- a process goes on as it would have
pub record IsSame {A : Type 0} (after : A → List Answer → Asks) (old new : Member A) : Type 0 where
  pub instance : new.instance ≡ old.instance
  pub actor : (more : List Answer) → after new.actor more ≡ after old.actor more

-- a process has got an answer, where it had asked
pub record IsFed {A : Type 0} (after : A → List Answer → Asks) (can_feed : A → Type 0) (answer : Answer) (old new : Member A) : Type 0 where
  pub instance : new.instance ≡ old.instance
  pub actor : can_feed old.actor → (more : List Answer) → after new.actor more ≡ after old.actor (answer ∷ more)

-- ---- one process of many

-- all others are as before
abbrev pub KeepsOthers : {A S : Type 0} → ℕ → HashMap ℕ (Member A) S → HashMap ℕ (Member A) S → Type 0
KeepsOthers process old new = (other : ℕ) → (process == other) ≡ false → member_of new other ≡ member_of old other

-- one more has begun, which does what a process with this start does
pub record HasBegun {A P S : Type 0} (after : P → A → List Answer → Asks) (core_of : P → Core) (start : Start) (limit : ℕ) (old new : HashMap ℕ (Member A) S) : Type 0 where
  pub member : Member A
  pub itself : member_of new start.process ≡ Some member
  pub others : KeepsOthers start.process old new
  pub instance : member.instance ≡ start.instance
  pub actor : (program : P) (more : List Answer) → after program member.actor more ≡ ask (core_of program) start limit more

-- it has begun already, or it begins
abbrev pub Begins : {A P S : Type 0} → (P → A → List Answer → Asks) → (P → Core) → Start → ℕ → HashMap ℕ (Member A) S → HashMap ℕ (Member A) S → Type 0
Begins after core_of start limit old new = (new ≡ old) ⊎ ((member_of old start.process ≡ None) × HasBegun after core_of start limit old new)

-- ---- a look at a process

-- it goes on as it would have, or it has begun
abbrev pub LooksAt : {A : Type 0} → (A → List Answer → Asks) → (List Answer → Asks) → Option (Member A) → Option (Member A) → Type 0
LooksAt after meant None None = Unit {0}
LooksAt after meant None (Some new) = Plays after meant new
LooksAt after meant (Some old) (Some new) = IsSame after old new
LooksAt after meant (Some old) None = ⊥

pub record Looks {A S : Type 0} (after : A → List Answer → Asks) (meant : List Answer → Asks) (process : ℕ) (old new : HashMap ℕ (Member A) S) : Type 0 where
  pub itself : LooksAt after meant (member_of old process) (member_of new process)
  pub others : KeepsOthers process old new

-- ---- an answer

-- a process has got an answer
pub record Answers {A S : Type 0} (after : A → List Answer → Asks) (can_feed : A → Type 0) (process : ℕ) (answer : Answer) (member : Member A)
    (old new : HashMap ℕ (Member A) S) : Type 0 where
  pub fed : Member A
  pub itself : member_of new process ≡ Some fed
  pub is_fed : IsFed after can_feed answer member fed
  pub others : KeepsOthers process old new
