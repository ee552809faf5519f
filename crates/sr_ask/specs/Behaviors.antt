-- What a process does, as a function of the answers that it gets.
use Rattle.std.specs.Prelude.{ℕ, zero, suc, ◌+◌, ◌*◌, List, [], ◌∷◌, length, Option, Some, None}
use Rattle.sr_ask.specs.declared.answer.Answer.{Answer}
use Rattle.sr_ask.specs.declared.ask.Asks.{Asks}
use Rattle.sr_ask.specs.declared.ask.Asks.TheVariants.{OverTicks}
use Rattle.sr_ask.specs.declared.environment.Out.{Out}
use Rattle.sr_ask.specs.declared.environment.Own.{Own}
use Rattle.sr_ask.specs.declared.environment.Service.{Service}

-- How far a process has come: how many statements it may still begin before it asks, the answers that it
-- hasn't used, its own variables, the invocation that it services, and those of its `co` that are out.
pub record Stage : Type 0 where
  pub ticks : ℕ
  pub answers : List Answer
  pub own : List (Option Own)
  pub service : Service
  pub out : List Out

-- A piece of work comes to its end with a result, or stops where an answer or a tick is missing.
pub data Outcome (A : Type 0) : Type 0 where
  Came : A → Stage → Outcome A
  Stops : Asks → Outcome A

-- a piece of work
abbrev pub Doing : Type 0 → Type 0
Doing A = Stage → Outcome A

-- no work at all
abbrev pub give : {A : Type 0} → A → Doing A
give a stage = Came a stage

abbrev pub and_then : {A B : Type 0} → Outcome A → (A → Doing B) → Outcome B
and_then (Came a stage) next = next a stage
and_then (Stops asks) next = Stops asks

-- one piece of work and then another, which is handed its result
infixl 10 ◌>>=◌
abbrev pub ◌>>=◌ : {A B : Type 0} → Doing A → (A → Doing B) → Doing B
(first >>= next) stage = and_then (first stage) next

-- the same where the result isn't used
infixl 10 ◌>>◌
abbrev pub ◌>>◌ : {A B : Type 0} → Doing A → Doing B → Doing B
(first >> next) stage = and_then (first stage) (λ _. next)

-- one statement begun: a process that has no tick left stops
abbrev pub ticked : ℕ → Doing (Unit {0})
ticked zero stage = Stops OverTicks
ticked (suc left) stage = Came tt (record stage { ticks = left })

abbrev pub tick : Doing (Unit {0})
tick stage = ticked stage.ticks stage

abbrev pub hear : {A : Type 0} → Option A → Stage → Outcome A → Outcome A
hear (Some a) stage later = Came a stage
hear None stage later = later

-- After the first answer that has a form which the request takes, the process goes on, with all its ticks
-- again. Any other answer leaves it asking the same.
abbrev pub heard : {A : Type 0} → (Answer → Option A) → Asks → ℕ → List Answer → Doing A
heard takes asks limit [] stage = Stops asks
heard takes asks limit (answer ∷ answers) stage =
    hear (takes answer) (record stage { ticks = limit; answers = answers })
    (heard takes asks limit answers (record stage { answers = answers }))

-- a process that asks, where it may begin `limit` statements between two answers
abbrev pub asking : {A : Type 0} → (Answer → Option A) → Asks → ℕ → Doing A
asking takes asks limit stage = heard takes asks limit stage.answers stage

-- How often a process can tick before it stops, whatever it does.
abbrev pub room : ℕ → Stage → ℕ
room limit stage = stage.ticks + suc limit * length stage.answers

abbrev pub turned : {A : Type 0} → Option A → Doing A → Doing A
turned (Some a) again = give a
turned None again = again

-- A turn of a loop ends the loop with a result, or another turn follows. Each turn takes a tick.
abbrev pub turns : {A : Type 0} → ℕ → Doing (Option A) → Doing A
turns zero turn stage = Stops OverTicks
turns (suc most) turn stage = and_then (tick stage) (λ _ begun. and_then (turn begun) (λ end. turned end (turns most turn)))

-- A loop takes a tick for each turn, so it has no more turns than there is room for.
abbrev pub looped : {A : Type 0} → ℕ → Doing (Option A) → Doing A
looped limit turn stage = turns (suc (room limit stage)) turn stage

-- What a process asks whose whole work this is.
abbrev pub asked : {A : Type 0} → Outcome A → Asks
asked (Came a stage) = OverTicks
asked (Stops asks) = asks
