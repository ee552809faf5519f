-- What comes of a request that was carried out.
use Rattle.std.specs.Prelude.{◌≡◌, ℕ, List, Option, Some, None}
use Rattle.sr_ask.specs.declared.answer.Answer.{Answer}
use Rattle.sr_ask.specs.declared.ask.Asks.{Asks}
use Rattle.sr_ask.specs.declared.item.Item.TheVariants.{Step}
use Rattle.sr_world.specs.declared.acted.Acted.{Acted}
use Rattle.sr_world.specs.declared.acted.Acted.TheVariants as acted
use Rattle.sr_plain.specs.Crew.{IsFed}
use Rattle.sr_actor.specs.declared.member.Member.{Member}
use Rattle.sr_plain.specs.declared.plainly.Plainly.{Plainly}
use Rattle.sr_plain.specs.declared.plainly.Plainly.TheVariants.{Stepped, Wants, Ended}

-- a process that was answered made a step, which wrote this; any other is as before
abbrev pub AnsweredBy : {A : Type 0} → (A → List Answer → Asks) → (A → Type 0) → ℕ → ℕ → List ℕ → Acted → Member A → Member A → ℕ → ℕ → Option Plainly → Type 0
AnsweredBy after can_feed actor name output (acted.Done answer) old new before last came =
    IsFed after can_feed answer old new × (last ≡ actor) × (came ≡ Some (Stepped (Step actor name) output))
AnsweredBy after can_feed actor name output acted.Cannot old new before last came = (new ≡ old) × (last ≡ before) × (came ≡ None)
AnsweredBy after can_feed actor name output (acted.Ends ending) old new before last came = (new ≡ old) × (last ≡ before) × (came ≡ Some (Ended (Step actor name) ending))
AnsweredBy after can_feed actor name output acted.Undecided old new before last came = (new ≡ old) × (last ≡ before) × (came ≡ Some Wants)
