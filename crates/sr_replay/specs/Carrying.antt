-- What becomes of a request whose step has a number.
use Rattle.std.specs.Prelude.{◌≡◌, ◌==◌, ℕ, Bool, true, false, List, Ok, Option, Some}
use Rattle.sr_ask.specs.declared.answer.Answer.{Answer}
use Rattle.sr_ask.specs.declared.ask.Asks.{Asks}
use Rattle.sr_actor.specs.Crew.{IsFed}
use Rattle.sr_actor.specs.declared.member.Member.{Member}
use Rattle.sr_world.specs.Acting.{Acts}
use Rattle.sr_world.specs.Does.{Does}
use Rattle.sr_world.specs.Worlds.{World}
use Rattle.sr_world.specs.declared.acted.Acted.{Acted}
use Rattle.sr_world.specs.declared.acted.Acted.TheVariants as acted
use Rattle.sr_world.specs.declared.ends.End.{End}

-- the machine did what was meant, where the step may have its number; elsewhere it can't be done
abbrev pub Carries : Bool → Does → World → World → Acted → Type 0
Carries true meant old new came = Acts meant old new (Ok came)
Carries false meant old new came = came ≡ acted.Cannot

-- a process gets the answer to what was done, or the run has ended so; else there is no such step
abbrev pub Hears : {A : Type 0} → (A → List Answer → Asks) → (A → Type 0) → Acted → Member A → Member A → Option End → Option End → Bool → Type 0
Hears after can_feed (acted.Done answer) old new before now legal = IsFed after can_feed answer old new × (now ≡ before) × (legal ≡ true)
Hears after can_feed (acted.Ends ending) old new before now legal = (new ≡ old) × (now ≡ Some ending) × (legal ≡ true)
Hears after can_feed acted.Cannot old new before now legal = legal ≡ false
Hears after can_feed acted.Undecided old new before now legal = legal ≡ false

-- final code begins, if its number is unused, or the run ends, if there is no number; nobody gets an answer
abbrev pub Rests : Acted → Bool → ℕ → Option End → Option End → Bool → Type 0
Rests (acted.Done answer) unused name before now legal = (now ≡ before) × (legal ≡ unused)
Rests (acted.Ends ending) unused name before now legal = (now ≡ Some ending) × (legal ≡ (name == 0))
Rests acted.Cannot unused name before now legal = legal ≡ false
Rests acted.Undecided unused name before now legal = legal ≡ false
