-- Invocations: what is sent with them, what comes back, and the instances that are made.
use Rattle.std.specs.Prelude.{ℕ, zero, suc, pos, negsuc, List, [], ◌∷◌, Option, Some, None}
use Rattle.sr_value.specs.declared.capability.Cap.{Cap}
use Rattle.sr_value.specs.declared.capability.Cap.TheVariants.{Null}
use Rattle.sr_value.specs.declared.shape.Shape.{Shape}
use Rattle.sr_value.specs.declared.value.Value.{Value}
use Rattle.sr_value.specs.declared.value.Value.TheVariants.{Int, Capa}
use Rattle.sr_value.specs.Operators.{int_result}
use Rattle.sr_value.specs.Shapes.{default_value}
use Rattle.sr_ask.specs.Asking.{made, ready, took, read_item}
use Rattle.sr_ask.specs.Behaviors.{Doing, give, ◌>>=◌}
use Rattle.sr_ask.specs.Here.{Here, request, settle}
use Rattle.sr_ask.specs.Places.{nothing, store_place, store_results}
use Rattle.sr_ask.specs.declared.environment.ReadTarget.{ReadTarget}
use Rattle.sr_ask.specs.declared.environment.Located.{Located}
use Rattle.sr_ask.specs.declared.environment.Sent.{Sent}
use Rattle.sr_ask.specs.declared.forms.InputItem.{InputItem}
use Rattle.sr_ask.specs.declared.forms.InputItem.TheVariants.{NotOfKind, NoMore}
use Rattle.sr_ask.specs.declared.request.Request.TheVariants.{Take, Read as read_request, EnsureGlobal, Create as create_request}

-- ---- arguments and results

abbrev pub with_some : {A : Type 0} → Option A → List A → List A
with_some None rest = rest
with_some (Some a) rest = a ∷ rest

-- a value is sent for each `val` and `var` formal
abbrev pub values_sent : List Sent → List Value
values_sent [] = []
values_sent (sent ∷ rest) = with_some sent.value (values_sent rest)

-- a result goes to the place of each `var` and `res` argument
abbrev pub places_back : List Sent → List Located
places_back [] = []
places_back (sent ∷ rest) = with_some sent.back (places_back rest)

-- the value after the results; an operation that returns nothing gives one that nobody uses
abbrev pub value_after : List Value → Value
value_after [] = nothing
value_after (value ∷ rest) = value

-- a call of `noop` gives the default of the returned type
abbrev pub default_given : Option Shape → Here → Doing Value
default_given None here = give nothing
default_given (Some shape) here = settle (default_value shape) here

-- after a reply the results are stored in the order of the formals; `noop` leaves the arguments as they are
abbrev pub give_back : List Located → Option Shape → Option (List Value) → Here → Doing Value
give_back places returns None here = default_given returns here
give_back places returns (Some results) here = store_results places results here >>= λ rest. give (value_after rest)

-- the reply to one invocation
abbrev pub taken : ℕ → Here → Doing (Option (List Value))
taken id here = request (took (id ∷ [])) (Take (id ∷ [])) here >>= λ reply. give reply.results

-- ---- create

-- each global is asked for until it is ready
abbrev pub ensured : List ℕ → Cap → Here → Doing (Unit {0})
ensured [] vm here = give tt
ensured (global ∷ globals) vm here = request ready (EnsureGlobal global vm) here >>= λ _. ensured globals vm here

-- a new instance answers with its capability
abbrev pub instance_in : Option (List Value) → Value
instance_in None = Capa Null
instance_in (Some []) = Capa Null
instance_in (Some (value ∷ rest)) = value

-- the globals that the resource needs, then the instance, and its answer
abbrev pub created : ℕ → List ℕ → List Value → Cap → Here → Doing Value
created resource needs args vm here =
    ensured needs vm here >>= λ _.
    request made (create_request resource args vm) here >>= λ name.
    taken name here >>= λ reply.
    give (instance_in reply)

-- ---- read

-- the number of items read, or -1 where the input had ended before the first
abbrev pub number_read : ℕ → Here → Doing Value
number_read count here = settle (int_result (pos count)) here

abbrev pub at_end : ℕ → Here → Doing Value
at_end zero here = give (Int (negsuc 0))
at_end (suc n) here = number_read (suc n) here

abbrev pub read_next : ℕ → ReadTarget → (Here → Doing Value) → InputItem → Here → Doing Value
read_next count read_target next (InputItem.Value value) here = store_place read_target.place value here >>= λ _. next here
read_next count read_target next NotOfKind here = number_read count here
read_next count read_target next NoMore here = at_end count here

-- items are read and stored one after another, up to the first that isn't there or doesn't fit
abbrev pub read_all : ℕ → List ReadTarget → Here → Doing Value
read_all count [] here = number_read count here
read_all count (read_target ∷ read_targets) here =
    request read_item (read_request read_target.kind) here >>= λ item. read_next count read_target (read_all (suc count) read_targets) item here
