-- Work that goes on in the same way with more ticks and with more answers after its own, and that leaves no more
-- room for ticks than there was. It is made of pieces of the same kind.
use Rattle.std.proofs.Common.{◌≡◌, ℕ, zero, suc, ◌+◌, ◌*◌, ◌<◌, ◌≤◌, Bool, true, false, List, [], ◌∷◌, ◌++◌, length, Option, Some, None, Result, Ok, Err, ◌⊎◌, inl, inr, refl, sym, ap, subst, arith}
use Rattle.sr_value.specs.declared.fault.Fault.{Fault}
use Rattle.sr_ask.specs.Asking.{none_takes}
use Rattle.sr_ask.specs.Behaviors.{Stage, Outcome, Came, Stops, Doing, and_then, asking, hear, heard, tick, ticked, turned, turns, looped, room}
use Rattle.sr_ask.specs.declared.answer.Answer.{Answer}
use Rattle.sr_ask.specs.declared.ask.Ask.{Ask}
use Rattle.sr_ask.specs.declared.ask.Asks.{Asks}
use Rattle.sr_ask.specs.declared.ask.Asks.TheVariants.{Asked, OverTicks}
use Rattle.sr_ask.specs.declared.environment.Out.{Out}
use Rattle.sr_ask.specs.declared.environment.Own.{Own}
use Rattle.sr_ask.specs.declared.environment.Service.{Service}
use Rattle.sr_ask.specs.declared.request.Request.{Request}
use Rattle.sr_ask.specs.declared.request.Request.TheVariants.{Fail}
use Rattle.sr_meaning.specs.Expressions.{Meaning, choice, in_order}
use Rattle.sr_meaning.specs.Here.{Here, ask_of, request, settle}
use Rattle.sr_meaning.specs.WholeLaws.{is_last}
use Rattle.sr_meaning.proofs.Forever.{forever}

-- the same process with another number of ticks
abbrev pub with_limit : ℕ → Here → Here
with_limit limit here = record here { limit = limit }

-- a stage with more ticks, and more answers after its own
abbrev pub raised : ℕ → List Answer → Stage → Stage
raised extra more stage = record stage { ticks = stage.ticks + extra; answers = stage.answers ++ more }

-- an ask that isn't changed by these answers after the others
abbrev pub Stays : List Answer → Ask → Type 0
Stays more made = (more ≡ []) ⊎ (is_last made.request ≡ true)

-- What comes with more ticks and more answers: the same, where it came to its end; more answers don't help where
-- the ticks are used up; and the same is asked where the answers change nothing.
abbrev pub Follows : {A : Type 0} → ℕ → List Answer → Outcome A → Outcome A → Type 0
Follows extra more (Came a stage) o = o ≡ Came a (raised extra more stage)
Follows extra more (Stops OverTicks) o = extra ≡ 0 → o ≡ Stops OverTicks
Follows extra more (Stops (Asked made)) o = Stays more made → o ≡ Stops (Asked made)

-- no more room than so much
abbrev pub Leaves : {A : Type 0} → ℕ → Outcome A → ℕ → Type 0
Leaves limit (Came a stage) most = room limit stage ≤ most
Leaves limit (Stops asks) most = Unit {0}

pub record Regular {A : Type 0} (doing : ℕ → Doing A) : Type 0 where
  pub leaves : (limit : ℕ) (stage : Stage) → Leaves limit (doing limit stage) (room limit stage)
  pub follows : (extra limit : ℕ) (more : List Answer) (stage : Stage) → Follows extra more (doing limit stage) (doing (limit + extra) (raised extra more stage))

-- ---- one piece after the other

pub fewer : {A : Type 0} (limit : ℕ) (o : Outcome A) (n m : ℕ) → n ≤ m → Leaves limit o n → Leaves limit o m
fewer limit (Came a stage) n m less h = omega arith
fewer limit (Stops asks) n m less h = tt

pub leaves_then : {A B : Type 0} (limit : ℕ) (o : Outcome A) (next : A → Doing B) (most : ℕ) → Leaves limit o most
    → ((a : A) (after : Stage) → o ≡ Came a after → Leaves limit (next a after) (room limit after)) → Leaves limit (and_then o next) most
leaves_then limit (Came a after) next most h k = fewer limit (next a after) (room limit after) most h (k a after refl)
leaves_then limit (Stops asks) next most h k = tt

pub follows_then : {A B : Type 0} (extra : ℕ) (more : List Answer) (o o' : Outcome A) (next next' : A → Doing B) → Follows extra more o o'
    → ((a : A) (after : Stage) → o ≡ Came a after → o' ≡ Came a (raised extra more after) → Follows extra more (next a after) (next' a (raised extra more after)))
    → Follows extra more (and_then o next) (and_then o' next')
follows_then extra more (Came a after) o' next next' h k =
    let P : Outcome _ → Type 0 = λ o. Follows extra more (next a after) (and_then o next') in
    subst P (sym h) (k a after refl h)
follows_then extra more (Stops OverTicks) o' next next' h k = λ none. ap (λ o. and_then o next') (h none)
follows_then extra more (Stops (Asked made)) o' next next' h k = λ stays. ap (λ o. and_then o next') (h stays)

pub regular_then : {A B : Type 0} {first : ℕ → Doing A} {next : ℕ → A → Doing B} → Regular first → ((a : A) → Regular (λ limit. next limit a))
    → Regular (λ limit stage. and_then (first limit stage) (next limit))
regular_then {first = first} {next = next} f n = record {
  leaves = λ limit stage. leaves_then limit (first limit stage) (next limit) (room limit stage) (f.leaves limit stage) (λ a after is. (n a).leaves limit after);
  follows = λ extra limit more stage. follows_then extra more (first limit stage) (first (limit + extra) (raised extra more stage)) (next limit) (next (limit + extra))
      (f.follows extra limit more stage) (λ a after is is'. (n a).follows extra limit more after);
}

pub regular_give : {A : Type 0} (a : A) → Regular (λ limit stage. Came a stage)
regular_give a = record { leaves = λ limit stage. omega arith; follows = λ extra limit more stage. refl }

-- the same work in another form
pub regular_equal : {A : Type 0} (doing other : ℕ → Doing A) → ((limit : ℕ) → doing limit ≡ other limit) → Regular other → Regular doing
regular_equal doing other same h = record {
  leaves = λ limit stage.
      let P : Doing _ → Type 0 = λ d. Leaves limit (d stage) (room limit stage) in subst P (sym (same limit)) (h.leaves limit stage);
  follows = λ extra limit more stage.
      let P : Doing _ → Type 0 = λ d. Follows extra more (d stage) (doing (limit + extra) (raised extra more stage)) in
      let Q : Doing _ → Type 0 = λ d. Follows extra more (other limit stage) (d (raised extra more stage)) in
      subst P (sym (same limit)) (subst Q (sym (same (limit + extra))) (h.follows extra limit more stage));
}

pub regular_choice : {A : Type 0} {one other : ℕ → Doing A} (b : Bool) → Regular one → Regular other → Regular (λ limit. choice b (one limit) (other limit))
regular_choice true f g = f
regular_choice false f g = g

-- ---- what changes a stage without asking

pub regular_own : (change : List (Option Own) → List (Option Own)) → Regular {A = Unit {0}} (λ limit stage. Came tt (record stage { own = change stage.own }))
regular_own change = record { leaves = λ limit stage. omega arith; follows = λ extra limit more stage. refl }

pub regular_service : (change : Service → Service) → Regular {A = Unit {0}} (λ limit stage. Came tt (record stage { service = change stage.service }))
regular_service change = record { leaves = λ limit stage. omega arith; follows = λ extra limit more stage. refl }

pub regular_out : (change : List Out → List Out) → Regular {A = Unit {0}} (λ limit stage. Came tt (record stage { out = change stage.out }))
regular_out change = record { leaves = λ limit stage. omega arith; follows = λ extra limit more stage. refl }

-- work that depends on what the process holds
pub regular_by : {A : Type 0} (doing : List (Option Own) → Service → List Out → ℕ → Doing A)
    → ((own : List (Option Own)) (service : Service) (out : List Out) → Regular (doing own service out))
    → Regular (λ limit stage. doing stage.own stage.service stage.out limit stage)
regular_by doing h = record {
  leaves = λ limit stage. (h stage.own stage.service stage.out).leaves limit stage;
  follows = λ extra limit more stage. (h stage.own stage.service stage.out).follows extra limit more stage;
}

-- ---- ticks

leaves_ticked : (limit ticks : ℕ) (stage : Stage) → stage.ticks ≡ ticks → Leaves limit (ticked ticks stage) (room limit stage)
leaves_ticked limit zero stage is = tt
leaves_ticked limit (suc ticks) stage is = omega arith

follows_ticked : (extra : ℕ) (more : List Answer) (ticks : ℕ) (stage : Stage) → Follows extra more (ticked ticks stage) (ticked (ticks + extra) (raised extra more stage))
follows_ticked extra more zero stage =
    λ none. let e : zero + extra ≡ zero = omega arith in ap (λ n. ticked n (raised extra more stage)) e
follows_ticked extra more (suc ticks) stage =
    let e : suc ticks + extra ≡ suc (ticks + extra) = omega arith in
    ap (λ n. ticked n (raised extra more stage)) e

pub regular_tick : Regular (λ limit. tick)
regular_tick = record {
  leaves = λ limit stage. leaves_ticked limit stage.ticks stage refl;
  follows = λ extra limit more stage. follows_ticked extra more stage.ticks stage;
}

-- ---- requests

leaves_heard : {A : Type 0} (takes : Answer → Option A) (asks : Asks) (limit : ℕ) (answers : List Answer) (stage : Stage)
    → Leaves limit (heard takes asks limit answers stage) (suc limit * length answers)
leaves_heard takes asks limit [] stage = tt
leaves_heard takes asks limit (answer ∷ answers) stage =
    let later = leaves_heard takes asks limit answers (record stage { answers = answers }) in
    leaves_hear (takes answer) limit (record stage { ticks = limit; answers = answers }) _ (suc limit * length (answer ∷ answers)) (omega arith)
    (fewer limit _ (suc limit * length answers) (suc limit * length (answer ∷ answers)) (omega arith) later) where
      leaves_hear : {A : Type 0} (got : Option A) (limit : ℕ) (stage : Stage) (later : Outcome A) (most : ℕ) → room limit stage ≤ most → Leaves limit later most
          → Leaves limit (hear got stage later) most
      leaves_hear (Some a) limit stage later most h k = h
      leaves_hear None limit stage later most h k = k

follows_hear : {A : Type 0} (extra : ℕ) (more : List Answer) (got : Option A) (stage : Stage) (later later' : Outcome A) → Follows extra more later later'
    → Follows extra more (hear got stage later) (hear got (raised extra more stage) later')
follows_hear extra more (Some a) stage later later' h = refl
follows_hear extra more None stage later later' h = h

-- whatever ticks and answers the stage had, only those that are heard count
follows_heard : {A : Type 0} (takes : Answer → Option A) (asks : Asks) (limit extra : ℕ) (more : List Answer)
    → ((stage : Stage) → Follows {A = A} extra more (Stops asks) (heard takes asks (limit + extra) more stage))
    → (answers : List Answer) (stage : Stage) (ticks : ℕ) (others : List Answer)
    → Follows extra more (heard takes asks limit answers stage) (heard takes asks (limit + extra) (answers ++ more) (record stage { ticks = ticks; answers = others }))
follows_heard takes asks limit extra more ends [] stage ticks others = ends (record stage { ticks = ticks; answers = others })
follows_heard takes asks limit extra more ends (answer ∷ answers) stage ticks others =
    follows_hear extra more (takes answer) (record stage { ticks = limit; answers = answers }) _ _
    (follows_heard takes asks limit extra more ends answers (record stage { answers = answers }) ticks (answers ++ more))

regular_asking : {A : Type 0} (takes : Answer → Option A) (asks : Asks)
    → ((limit : ℕ) (extra : ℕ) (more : List Answer) (stage : Stage) → Follows {A = A} extra more (Stops asks) (heard takes asks limit more stage))
    → Regular (λ limit. asking takes asks limit)
regular_asking takes asks ends = record {
  leaves = λ limit stage. fewer limit (asking takes asks limit stage) (suc limit * length stage.answers) (room limit stage) (omega arith) (leaves_heard takes asks limit stage.answers stage);
  follows = λ extra limit more stage. follows_heard takes asks limit extra more (λ stage'. ends (limit + extra) extra more stage') stage.answers stage (stage.ticks + extra) (stage.answers ++ more);
}

asked_again : {A : Type 0} (takes : Answer → Option A) (made : Ask) → is_last made.request ≡ false
    → (limit extra : ℕ) (more : List Answer) (stage : Stage) → Follows {A = A} extra more (Stops (Asked made)) (heard takes (Asked made) limit more stage)
asked_again takes made other limit extra [] stage (inl none) = refl
asked_again takes made other limit extra (answer ∷ more) stage (inl none) = cc
asked_again takes made other limit extra more stage (inr last) = cc

-- a request that takes answers
pub regular_request : {A : Type 0} (here : Here) (takes : Answer → Option A) (asked : Request) → is_last asked ≡ false
    → Regular (λ limit. request takes asked (with_limit limit here))
regular_request here takes asked other = regular_asking takes (ask_of asked here) (asked_again takes (record { place = here.place; role = here.start.role; request = asked }) other)

-- a request that takes none
pub regular_last : {A : Type 0} (here : Here) (asked : Request) → Regular {A = A} (λ limit. request none_takes asked (with_limit limit here))
regular_last {A = A} here asked = record {
  leaves = λ limit stage. let P : Outcome A → Type 0 = λ o. Leaves limit o (room limit stage) in subst P (sym (forever (ask_of asked here) limit stage)) tt;
  follows = λ extra limit more stage.
      let P : Outcome A → Type 0 = λ o. Follows extra more o (request none_takes asked (with_limit (limit + extra) here) (raised extra more stage)) in
      subst P (sym (forever (ask_of asked here) limit stage)) (λ stays. forever (ask_of asked here) (limit + extra) (raised extra more stage));
}

pub regular_settle : {A : Type 0} (here : Here) (found : Result A Fault) → Regular (λ limit. settle found (with_limit limit here))
regular_settle here (Ok a) = regular_give a
regular_settle here (Err fault) = regular_last here (Fail fault)

-- ---- loops

pub leaves_turns : {A : Type 0} (limit : ℕ) (turn : ℕ → Doing (Option A)) → Regular turn → (n : ℕ) (stage : Stage) → Leaves limit (turns n (turn limit) stage) (room limit stage)
leaves_turns limit turn h zero stage = tt
leaves_turns limit turn h (suc n) stage =
    leaves_then limit (tick stage) _ (room limit stage) (regular_tick.leaves limit stage) (λ _ begun is.
    leaves_then limit (turn limit begun) _ (room limit begun) (h.leaves limit begun) (λ end after is'. leaves_turned limit end (turns n (turn limit)) after (leaves_turns limit turn h n after))) where
      leaves_turned : {A : Type 0} (limit : ℕ) (end : Option A) (again : Doing A) (after : Stage) → Leaves limit (again after) (room limit after) → Leaves limit (turned end again after) (room limit after)
      leaves_turned limit (Some a) again after k = omega arith
      leaves_turned limit None again after k = k

pub came_leaves : {A : Type 0} (limit : ℕ) (o : Outcome A) (a : A) (after : Stage) (most : ℕ) → o ≡ Came a after → Leaves limit o most → room limit after ≤ most
came_leaves limit o a after most e h = let P : Outcome _ → Type 0 = λ o. Leaves limit o most in subst P e h

-- a tick leaves less room than there was
abbrev Lessens : {A : Type 0} → ℕ → Outcome A → ℕ → Type 0
Lessens limit (Came a stage) most = room limit stage < most
Lessens limit (Stops asks) most = Unit {0}

ticked_lessens : (limit ticks : ℕ) (stage : Stage) → stage.ticks ≡ ticks → Lessens limit (ticked ticks stage) (room limit stage)
ticked_lessens limit zero stage is = tt
ticked_lessens limit (suc ticks) stage is = omega arith

tick_lessens : (limit : ℕ) (stage : Stage) (u : Unit {0}) (begun : Stage) → tick stage ≡ Came u begun → room limit begun < room limit stage
tick_lessens limit stage u begun e =
    let P : Outcome (Unit {0}) → Type 0 = λ o. Lessens limit o (room limit stage) in
    subst P e (ticked_lessens limit stage.ticks stage refl)

follows_turned : {A : Type 0} (extra : ℕ) (more : List Answer) (end : Option A) (again again' : Doing A) (after : Stage)
    → Follows extra more (again after) (again' (raised extra more after)) → Follows extra more (turned end again after) (turned end again' (raised extra more after))
follows_turned extra more (Some a) again again' after h = refl
follows_turned extra more None again again' after h = h

-- two bounds of a loop that are above its room both serve
follows_turns : {A : Type 0} (extra limit : ℕ) (more : List Answer) (turn : ℕ → Doing (Option A)) → Regular turn → (n n' : ℕ) (stage : Stage)
    → room limit stage < n → room (limit + extra) (raised extra more stage) < n'
    → Follows extra more (turns n (turn limit) stage) (turns n' (turn (limit + extra)) (raised extra more stage))
follows_turns extra limit more turn h zero n' stage below below' = absurd (omega arith)
follows_turns extra limit more turn h (suc n) zero stage below below' = absurd (omega arith)
follows_turns extra limit more turn h (suc n) (suc n') stage below below' =
    follows_then extra more (tick stage) (tick (raised extra more stage)) _ _ (regular_tick.follows extra limit more stage) (λ u begun is is'.
    follows_then extra more (turn limit begun) (turn (limit + extra) (raised extra more begun)) _ _ (h.follows extra limit more begun) (λ end after came came'.
    let less : room limit begun < room limit stage = tick_lessens limit stage u begun is in
    let less' : room (limit + extra) (raised extra more begun) < room (limit + extra) (raised extra more stage) = tick_lessens (limit + extra) (raised extra more stage) u (raised extra more begun) is' in
    let kept : room limit after ≤ room limit begun = came_leaves limit (turn limit begun) end after (room limit begun) came (h.leaves limit begun) in
    let kept' : room (limit + extra) (raised extra more after) ≤ room (limit + extra) (raised extra more begun) =
    came_leaves (limit + extra) (turn (limit + extra) (raised extra more begun)) end (raised extra more after) (room (limit + extra) (raised extra more begun)) came' (h.leaves (limit + extra) (raised extra more begun)) in
    follows_turned extra more end (turns n (turn limit)) (turns n' (turn (limit + extra))) after
    (follows_turns extra limit more turn h n n' after (omega arith) (omega arith))))

pub regular_looped : {A : Type 0} {turn : ℕ → Doing (Option A)} → Regular turn → Regular (λ limit. looped limit (turn limit))
regular_looped {turn = turn} h = record {
  leaves = λ limit stage. leaves_turns limit turn h (suc (room limit stage)) stage;
  follows = λ extra limit more stage. follows_turns extra limit more turn h (suc (room limit stage)) (suc (room (limit + extra) (raised extra more stage))) stage (omega arith) (omega arith);
}

-- ---- meanings

-- what is regular at each line
pub record RegularMeaning {A : Type 0} (meaning : Meaning A) : Type 0 where
  pub at : (here : Here) → Regular (λ limit. meaning (with_limit limit here))

-- each of them
abbrev pub AllRegular : {A : Type 0} → List (Meaning A) → Type 0
AllRegular [] = Unit {0}
AllRegular (meaning ∷ meanings) = RegularMeaning meaning × AllRegular meanings

pub regular_in_order : {A : Type 0} (parts : List (Meaning A)) (here : Here) → AllRegular parts → Regular (λ limit. in_order parts (with_limit limit here))
regular_in_order [] here h = regular_give []
regular_in_order (part ∷ parts) here h = regular_then (h.0.at here) (λ first. regular_then (regular_in_order parts here h.1) (λ rest. regular_give (first ∷ rest)))
