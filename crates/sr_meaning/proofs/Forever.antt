-- A request that takes no answer is asked for good.
use Rattle.std.proofs.Common.{◌≡◌, ℕ, List, [], ◌∷◌, refl}
use Rattle.sr_ask.specs.Asking.{none_takes}
use Rattle.sr_ask.specs.Behaviors.{Stage, Stops, heard, asking}
use Rattle.sr_ask.specs.declared.answer.Answer.{Answer}
use Rattle.sr_ask.specs.declared.ask.Asks.{Asks}

pub never : {A : Type 0} (asks : Asks) (limit : ℕ) (answers : List Answer) (stage : Stage) → heard {A = A} none_takes asks limit answers stage ≡ Stops asks
never asks limit [] stage = refl
never asks limit (answer ∷ answers) stage = never asks limit answers (record stage { answers = answers })

pub forever : {A : Type 0} (asks : Asks) (limit : ℕ) (stage : Stage) → asking {A = A} none_takes asks limit stage ≡ Stops asks
forever asks limit stage = never asks limit stage.answers stage
