-- A player's turn.
use Rattle.std.specs.Prelude.{◌≡◌, List, [], ◌∷◌}
use Rattle.sr_ask.specs.declared.answer.Answer.{Answer}
use Rattle.sr_ask.specs.declared.ask.Ask.{Ask}
use Rattle.sr_ask.specs.declared.ask.Asks.{Asks}
use Rattle.sr_ask.specs.declared.ask.Asks.TheVariants.{Asked, OverTicks}
use Rattle.sr_core.specs.declared.owner.Me.{Me}
use Rattle.sr_worker.specs.Desks.{Stays}
use Rattle.sr_worker.specs.Notes.{WritesDown}
use Rattle.sr_worker.specs.declared.notes.Notes.{Notes}
use Rattle.sr_worker.specs.declared.player.Player.{Player}

-- a player's process and instance
abbrev pub me_of : {A : Type 0} → Player A → Me
me_of player = record { process = player.process; instance = player.member.instance }

-- a process was declined, or it is over its ticks and asks nothing
abbrev pub IsPassedOver : (Me → Ask → Type 0) → Me → Asks → Type 0
IsPassedOver declines me (Asked ask) = declines me ask
IsPassedOver declines me OverTicks = Unit {0}

-- a player made a step: what it asked is written down, and it heard the answer
pub record MakesStep {A : Type 0} (after : A → List Answer → Asks) (old new : Player A) (notes later : Notes) : Type 0 where
  pub ask : Ask
  pub answer : Answer
  pub me : me_of new ≡ me_of old
  pub asked : after old.member.actor [] ≡ Asked ask
  pub heard : (more : List Answer) → after new.member.actor more ≡ after old.member.actor (answer ∷ more)
  pub written : WritesDown (me_of old) ask answer notes later

-- a player made none, and asks what it asked before
pub record Waits {A S : Type 0} (after : A → List Answer → Asks) (declines : S → Me → Ask → Type 0) (old new : Player A) (notes later : Notes) (seat seat_later : S) : Type 0 where
  pub me : me_of new ≡ me_of old
  pub same : (more : List Answer) → after new.member.actor more ≡ after old.member.actor more
  pub nothing : later ≡ notes
  pub passed : IsPassedOver (declines seat_later) (me_of old) (after old.member.actor [])
  pub stays : Stays declines seat seat_later
