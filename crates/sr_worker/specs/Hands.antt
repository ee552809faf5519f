-- What a hand does with the processes that it has.
use Rattle.std.specs.Prelude.{◌≡◌, ◌⊎◌, ◌++◌, ◌+◌, ℕ, List, [], Some, length, map, slice_get}
use Rattle.sr_ask.specs.declared.answer.Answer.{Answer}
use Rattle.sr_ask.specs.declared.ask.Ask.{Ask}
use Rattle.sr_ask.specs.declared.ask.Asks.{Asks}
use Rattle.sr_ask.specs.declared.entry.Entry.{Entry}
use Rattle.sr_core.specs.declared.owner.Me.{Me}
use Rattle.sr_worker.specs.Desks.{Stays}
use Rattle.sr_worker.specs.Notes.{IsNamed, maker_of}
use Rattle.sr_worker.specs.Players.{IsPassedOver, me_of}
use Rattle.sr_worker.specs.Playing.{Follows, IsPlayed}
use Rattle.sr_worker.specs.declared.hand.Hand.{Hand}
use Rattle.sr_worker.specs.declared.notes.Notes.{Notes}
use Rattle.sr_worker.specs.declared.notes.Worker.{Worker}
use Rattle.sr_worker.specs.declared.player.Player.{Player}

-- ---- whose processes

abbrev pub processes_of : {A : Type 0} → List (Player A) → List Me
processes_of players = map me_of players

-- no process stands at two places
abbrev pub AreApart : List Me → Type 0
AreApart mes = (j k : ℕ) (a b : Me) → slice_get mes j ≡ Some a → slice_get mes k ≡ Some b → a.process ≡ b.process → j ≡ k

pub record IsAmong (mes : List Me) (me : Me) : Type 0 where
  pub place : ℕ
  pub here : slice_get mes place ≡ Some me

-- ---- what is written down

-- the worker made the entry that follows on so many others, for one of its processes
pub record IsMade (worker : Worker) (mes : List Me) (count : ℕ) (entry : Entry) : Type 0 where
  pub by : entry.worker ≡ worker.number
  pub among : IsAmong mes (maker_of entry)
  pub named : IsNamed worker count entry

-- entries are added after the others, each for one of these processes
pub record Adds (mes : List Me) (old new : Notes) : Type 0 where
  pub added : List Entry
  pub entries : new.entries ≡ old.entries ++ added
  pub worker : new.worker ≡ old.worker
  pub made : (place : ℕ) (entry : Entry) → slice_get added place ≡ Some entry → IsMade old.worker mes (length old.entries + place) entry

-- ---- what is asked

-- each entry is what its process asks, and each player stands for the answers that it got
pub record IsPlaying {A : Type 0} (plays : ℕ → List Answer → Asks) (after : A → List Answer → Asks) (hand : Hand A) : Type 0 where
  pub asked : IsPlayed plays hand.notes.entries
  pub follows : (place : ℕ) (player : Player A) → slice_get hand.players place ≡ Some player
      → Follows plays hand.notes.entries player.process (after player.member.actor)

-- who stands at a place asks what a player asks
pub record AsksLike {A : Type 0} (after : A → List Answer → Asks) (players : List (Player A)) (place : ℕ) (player : Player A) : Type 0 where
  pub other : Player A
  pub here : slice_get players place ≡ Some other
  pub me : me_of other ≡ me_of player
  pub same : (more : List Answer) → after other.member.actor more ≡ after player.member.actor more

-- at each place of the first players somebody stands who asks the same
abbrev pub AskLike : {A : Type 0} → (A → List Answer → Asks) → List (Player A) → List (Player A) → Type 0
AskLike after players others = (place : ℕ) (player : Player _) → slice_get players place ≡ Some player → AsksLike after others place player

-- ---- who makes no step

-- each player was declined, or is over its ticks
abbrev pub ArePassedOver : {A S : Type 0} → (A → List Answer → Asks) → (S → Me → Ask → Type 0) → S → List (Player A) → Type 0
ArePassedOver after declines seat players = (place : ℕ) (player : Player _) → slice_get players place ≡ Some player
    → IsPassedOver (declines seat) (me_of player) (after player.member.actor [])

-- nothing was written down, and all ask what they asked
pub record IsUnchanged {A : Type 0} (after : A → List Answer → Asks) (old new : Hand A) : Type 0 where
  pub nothing : new.notes ≡ old.notes
  pub forth : AskLike after old.players new.players
  pub back : AskLike after new.players old.players

-- the player at a place made no step
pub record PassesOver {A S : Type 0} (after : A → List Answer → Asks) (declines : S → Me → Ask → Type 0) (place : ℕ) (old new : Hand A) (seat seat_later : S) : Type 0 where
  pub unchanged : IsUnchanged after old new
  pub itself : (player : Player A) → slice_get old.players place ≡ Some player → IsPassedOver (declines seat_later) (me_of player) (after player.member.actor [])
  pub stays : Stays declines seat seat_later

-- ---- turns

-- the place after this one, of so many, or the first after the last
abbrev pub IsNext : ℕ → ℕ → ℕ → Type 0
IsNext count place next = (next ≡ place + 1) ⊎ ((place + 1 ≡ count) × (next ≡ 0))

-- the player at a place made a step, or so many made none since the last that did
abbrev pub Turns : {A S : Type 0} → (A → List Answer → Asks) → (S → Me → Ask → Type 0) → ℕ → ℕ → ℕ → Hand A → Hand A → S → S → Type 0
Turns after declines place further waiting old new seat later =
    ((waiting ≡ 0) × (length new.notes.entries ≡ length old.notes.entries + 1)) ⊎ ((waiting ≡ further) × PassesOver after declines place old new seat later)

-- ---- work

-- what a hand does, whatever comes of it
pub record Works {A : Type 0} (after : A → List Answer → Asks) (old new : Hand A) : Type 0 where
  pub adds : Adds (processes_of old.players) old.notes new.notes
  pub players : processes_of new.players ≡ processes_of old.players
  pub playing : AreApart (processes_of old.players) → (plays : ℕ → List Answer → Asks) → IsPlaying plays after old → IsPlaying plays after new
  pub none : length new.notes.entries ≡ length old.notes.entries → IsUnchanged after old new
