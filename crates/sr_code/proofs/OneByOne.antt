-- Running code is one instruction and then the rest.
use Rattle.std.proofs.Common.{◌≡◌, ℕ, zero, suc, ◌+◌, ◌*◌, ◌<◌, min, List, [], ◌∷◌, length, Option, Some, None, inl, inr, refl, subst, slice_get, arith}
use Rattle.std.proofs.Math.Nat.{mul-le-mul_right}
use Rattle.std.proofs.lemmas.Option.{slice_get_within}
use Rattle.sr_ask.specs.Asking.{none_takes}
use Rattle.sr_ask.specs.Behaviors.{Stage, Outcome, Came, Stops, heard, room}
use Rattle.sr_ask.specs.declared.answer.Answer.{Answer}
use Rattle.sr_ask.specs.declared.ask.Asks.{Asks}
use Rattle.sr_code.specs.Acts.{Point}
use Rattle.sr_code.specs.Laws.{Falls, OneInstructionThenTheRest}
use Rattle.sr_code.specs.Runs.{Machine, go, here_at, step, step_at, steps, then_asks, carried, work, finish}
use Rattle.sr_code.specs.declared.code.Coded.{Coded}
use Rattle.sr_code.specs.declared.operands.Operands.{Operands}
use Rattle.sr_code.proofs.Lowering.{act_lowers}

-- less work than so much
abbrev Less : Machine → Outcome Point → ℕ → Type 0
Less m (Came at stage) most = work m at.address stage < most
Less m (Stops asks) most = Unit {0}

-- less room outweighs any address
pub less_room : (before after size address : ℕ) → after < before → after * suc size + min address size < before * suc size
less_room before after size address less =
    let more = mul-le-mul_right {m = suc after} {n = before} (suc size) less in
    omega arith

falls_less : (m : Machine) (next : ℕ) (o : Outcome Point) (stage : Stage) → next < length m.code → Falls m.limit next o (room m.limit stage)
    → Less m o (work m (suc next) stage)
falls_less m next (Came at after) stage within (inl h) =
    let less = less_room (room m.limit stage) (room m.limit after) (length m.code) at.address h in omega arith
falls_less m next (Came at after) stage within (inr h) =
    let kept = h.0 in let lower = h.1 in
    let more = mul-le-mul_right {m = room m.limit after} {n = room m.limit stage} (suc (length m.code)) kept in omega arith
falls_less m next (Stops asks) stage within h = tt

-- a request that takes no answer leads nowhere
never : (m : Machine) (asks : Asks) (limit : ℕ) (answers : List Answer) (stage : Stage) (most : ℕ) → Less m (heard none_takes asks limit answers stage) most
never m asks limit [] stage most = tt
never m asks limit (answer ∷ answers) stage most = never m asks limit answers (record stage { answers = answers }) most

-- the end of a process leads nowhere
ends : (m : Machine) (address : ℕ) (stage : Stage) → Less m (finish (here_at m m.line) stage) (work m address stage)
ends m address stage = never m _ m.limit stage.answers stage (work m address stage)

-- each step leaves less work
less_carried : (m : Machine) (found : Option Coded) (next : ℕ) (on : Operands) (stage : Stage) → slice_get m.code next ≡ found
    → Less m (carried found m next on stage) (work m (suc next) stage)
less_carried m None next on stage is = ends m (suc next) stage
less_carried m (Some coded) next on stage is =
    let within = slice_get_within m.code next coded is in
    falls_less m next (carried (Some coded) m next on stage) stage within ((act_lowers m.core coded.instruction (here_at m coded.place) next on).falls stage)

less_step : (m : Machine) (address : ℕ) (on : Operands) (stage : Stage) → Less m (step_at m address on stage) (work m address stage)
less_step m zero on stage = ends m zero stage
less_step m (suc next) on stage = less_carried m (slice_get m.code next) next on stage refl

came_less : (m : Machine) (o : Outcome Point) (at : Point) (after : Stage) (most : ℕ) → o ≡ Came at after → Less m o most → work m at.address after < most
came_less m o at after most e h = let P : Outcome Point → Type 0 = λ o. Less m o most in subst P e h

then_same : (o : Outcome Point) (next next' : Point → Stage → Asks) → ((at : Point) (after : Stage) → o ≡ Came at after → next at after ≡ next' at after)
    → then_asks o next ≡ then_asks o next'
then_same (Came at after) next next' h = h at after refl
then_same (Stops asks) next next' h = refl

-- any bounds above the work serve
enough : (n n' : ℕ) (m : Machine) (at : Point) (stage : Stage) → work m at.address stage < n → work m at.address stage < n' → steps n m at stage ≡ steps n' m at stage
enough zero n' m at stage h h' = absurd (omega arith)
enough (suc n) zero m at stage h h' = absurd (omega arith)
enough (suc n) (suc n') m at stage h h' =
    then_same (step m at stage) (steps n m) (steps n' m) (λ to after is.
    let less = came_less m (step m at stage) to after (work m at.address stage) is (less_step m at.address at.operands stage) in
    enough n n' m to after (omega arith) (omega arith))

pub one_by_one : OneInstructionThenTheRest
unfolding go
one_by_one m at stage =
    then_same (step m at stage) (steps (work m at.address stage) m) (go m) (λ to after is.
    let less = came_less m (step m at stage) to after (work m at.address stage) is (less_step m at.address at.operands stage) in
    enough (work m at.address stage) (suc (work m to.address after)) m to after less (omega arith))
