-- Laws of what a process asks, in the language's own words.
use Rattle.std.specs.Prelude.{◌≡◌, ℕ, ◌≤◌, ℤ, true, false, List, ◌∷◌, Option, Some, Ok}
use Rattle.sr_value.specs.declared.capability.Cap.{Cap}
use Rattle.sr_value.specs.declared.fault.Fault.{Fault}
use Rattle.sr_value.specs.declared.shape.Shape.{Shape}
use Rattle.sr_value.specs.declared.value.Value.{Value}
use Rattle.sr_value.specs.declared.value.Value.TheVariants.{Bool as truth_value}
use Rattle.sr_ask.specs.Asking.{none_takes, made}
use Rattle.sr_ask.specs.Behaviors.{Stage, Came, Stops, Doing, give, and_then, ◌>>=◌, tick, looped, turned, room}
use Rattle.sr_ask.specs.declared.environment.Located.{Located}
use Rattle.sr_ask.specs.declared.forms.Pick.{Pick}
use Rattle.sr_ask.specs.declared.request.Request.TheVariants.{Invoke, Finish, Stop, Fail}
use Rattle.sr_core.specs.declared.expression.Argument.TheOpen.{Expr-F}
use Rattle.sr_core.specs.declared.site.Arm.{Arm}
use Rattle.sr_meaning.specs.declared.ending.Ending.{Ending}
use Rattle.sr_ask.specs.declared.environment.Sent.{Sent}
use Rattle.sr_meaning.specs.Expressions.{Meaning, node_meaning, in_order, called, taken, give_back}
use Rattle.sr_meaning.specs.Here.{Here, ask_of, request, fail}
use Rattle.sr_meaning.specs.Places.{store_place, store_results}
use Rattle.sr_meaning.specs.Processes.{finish}
use Rattle.sr_meaning.specs.Statements.{block_meaning, results_now, reply_meaning, forward_meaning, service_meaning, service_for, served, make_formals, make_returned}
use Rattle.sr_core.specs.Values.{cap_of}
use Rattle.sr_core.specs.declared.statement.Scope.{Scope}
use Rattle.sr_ask.specs.Invocations.{values_sent, places_back}

-- ---- the end of a process

-- Whatever answers it is given, a process asks the same again after `Finish`, after `Stop` and after `Fail`.
pub record AsksForGood : Type 0 where
  pub finish_again : (here : Here) (stage : Stage)
      → finish here stage ≡ Stops (ask_of (Finish stage.service.answered stage.service.back (results_now here stage)) here)
  pub stop_again : (status : ℤ) (here : Here) (stage : Stage) → request {A = Ending} none_takes (Stop status) here stage ≡ Stops (ask_of (Stop status) here)
  pub fail_again : (fault : Fault) (here : Here) (stage : Stage) → fail {A = Ending} fault here stage ≡ Stops (ask_of (Fail fault) here)

-- ---- operators that decide

-- Where the left side decides, the right side is never asked for: whatever it would ask, the value is there.
pub record LeftDecides : Type 0 where
  pub and_false : (left right : Meaning Value) (here : Here) (stage after : Stage)
      → left here stage ≡ Came (truth_value false) after → node_meaning (Expr-F.And left right) here stage ≡ Came (truth_value false) after
  pub or_true : (left right : Meaning Value) (here : Here) (stage after : Stage)
      → left here stage ≡ Came (truth_value true) after → node_meaning (Expr-F.Or left right) here stage ≡ Came (truth_value true) after

-- ---- invocations

-- What a call does once its target and its arguments are there: it invokes, takes the reply, and stores.
abbrev pub after_arguments : Cap → List Sent → Option Shape → Meaning Value
after_arguments cap sent returns here =
    request made (Invoke cap (values_sent sent) true) here >>= λ id. taken id here >>= λ reply. give_back (places_back sent) returns reply here

-- The target comes first, then the arguments from left to right, then the invocation, its reply, and the stores
-- in the order of the formals.
pub record CallsInOrder : Type 0 where
  pub first_first : (first : Meaning Sent) (rest : List (Meaning Sent)) (here : Here) (stage next : Stage) (sent : Sent)
      → first here stage ≡ Came sent next → in_order (first ∷ rest) here stage ≡ and_then (in_order rest here next) (λ others. give (sent ∷ others))
  pub then_invoke : (target : Meaning Value) (args : List (Meaning Sent)) (returns : Option Shape) (here : Here) (stage next last : Stage) (value : Value) (cap : Cap) (sent : List Sent)
      → target here stage ≡ Came value next → cap_of value ≡ Ok cap → in_order args here next ≡ Came sent last
      → called target args returns here stage ≡ after_arguments cap sent returns here last
  pub then_store : (place : Located) (places : List Located) (value : Value) (values : List Value) (here : Here) (stage next : Stage)
      → store_place place value here stage ≡ Came tt next → store_results (place ∷ places) (value ∷ values) here stage ≡ store_results places values here next

-- ---- services

-- However a block in a service ends, the service replies before it ends, and no more where it had replied or
-- had been forwarded.
pub record RepliesOnce : Type 0 where
  pub at_the_end : (pick : Pick) (arm : Arm) (block : List (Meaning Ending)) (here : Here) (stage made_formals begun left : Stage) (ending : Ending)
      → make_formals Scope.Own arm.formals pick.args here (record stage { service = service_for pick arm }) ≡ Came tt made_formals
      → make_returned arm.returned here made_formals ≡ Came tt begun
      → block_meaning block here begun ≡ Came ending left
      → service_meaning pick (Some arm) (Some block) here stage
      ≡ and_then (reply_meaning here left) (λ _ replied. Came (served ending) (record replied { service = stage.service }))
  pub after_reply : (here : Here) (stage after : Stage) → reply_meaning here stage ≡ Came tt after → after.service.answered ≡ true
  pub no_second : (here : Here) (stage : Stage) → stage.service.answered ≡ true → reply_meaning here stage ≡ Came tt stage
  pub after_forward : (target : Cap) (args : List Value) (here : Here) (stage after : Stage) → stage.service.answered ≡ false
      → forward_meaning target args here stage ≡ Came tt after → after.service.answered ≡ true

-- ---- loops

-- Work that leaves no more room for ticks than there was.
pub record GainsNothing {A : Type 0} (limit : ℕ) (doing : Doing A) : Type 0 where
  pub gains : (stage after : Stage) (a : A) → doing stage ≡ Came a after → room limit after ≤ room limit stage

-- A loop is one turn, with its tick, and then the loop again.
abbrev pub OneTurnThenTheLoop : Type 0
OneTurnThenTheLoop = (limit : ℕ) (turn : Doing (Option Ending)) (stage : Stage) → GainsNothing limit turn
    → looped limit turn stage ≡ and_then (tick stage) (λ _ begun. and_then (turn begun) (λ end. turned end (looped limit turn)))
