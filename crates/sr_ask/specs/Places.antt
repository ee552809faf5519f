-- Variables and places: the process's own, and those that it shares.
use Rattle.std.specs.Prelude.{ℕ, ℤ, pos, negsuc, false, List, [], ◌∷◌, Option, Some, None, Result, Ok, Err, unwrap_or, slice_get, slice_set}
use Rattle.sr_value.specs.declared.fault.Fault.{Fault}
use Rattle.sr_value.specs.declared.fault.Fault.TheVariants.{Early, Range}
use Rattle.sr_value.specs.declared.shape.Sel.{Sel}
use Rattle.sr_value.specs.declared.shape.Shape.{Shape}
use Rattle.sr_value.specs.declared.shape.Shape.TheVariants.{Str as a_string}
use Rattle.sr_value.specs.declared.value.Value.{Value}
use Rattle.sr_value.specs.declared.value.Value.TheVariants.{Bool as truth_value}
use Rattle.sr_value.specs.Operands.{int_in}
use Rattle.sr_value.specs.Parts.{or_fault, with_ok, loaded_at, stored_at}
use Rattle.sr_value.specs.Shapes.{default_value}
use Rattle.sr_ask.specs.Asking.{done, got}
use Rattle.sr_ask.specs.Behaviors.{Stage, Doing, Came, give, ◌>>=◌}
use Rattle.sr_ask.specs.Here.{Here, request, settle}
use Rattle.sr_ask.specs.declared.environment.Located.{Located}
use Rattle.sr_ask.specs.declared.environment.Own.{Own}
use Rattle.sr_ask.specs.declared.environment.Spot.{Spot}
use Rattle.sr_ask.specs.declared.request.Request.TheVariants.{Declare, Load, Store}

-- ---- own variables

-- an own variable that hasn't been declared is E11
abbrev pub own_at : List (Option Own) → ℕ → Result Own Fault
own_at own var = or_fault Early (unwrap_or (slice_get own var) None)

abbrev pub set_own : ℕ → Own → Stage → Stage
set_own var own stage = record stage { own = slice_set stage.own var (Some own) }

abbrev pub declare_own : ℕ → Own → Doing (Unit {0})
declare_own var own stage = Came tt (set_own var own stage)

-- What a call gives whose operation returns nothing. Nobody uses it.
abbrev pub nothing : Value
nothing = truth_value false

abbrev pub own_or_nothing : Result Own Fault → Value
own_or_nothing (Ok own) = own.value
own_or_nothing (Err fault) = nothing

-- what a part of an own variable holds
abbrev pub own_load : ℕ → List Sel → Here → Doing Value
own_load var path here stage = settle (with_ok (own_at stage.own var) (λ own. loaded_at own.value path)) here stage

-- an own variable after a store
abbrev pub own_after : Own → List Sel → Value → Result Own Fault
own_after own path value = with_ok (stored_at own.shape own.value path value) (λ held. Ok (record { shape = own.shape; value = held }))

abbrev pub own_store : ℕ → List Sel → Value → Here → Doing (Unit {0})
own_store var path value here stage =
    (settle (with_ok (own_at stage.own var) (λ own. own_after own path value)) here >>= declare_own var) stage

-- the number that a variable holds; one without a number, as in no accepted program, is 0
abbrev pub number_held : List (Option Own) → ℕ → ℤ
number_held own var = unwrap_or (int_in (own_or_nothing (own_at own var))) (pos 0)

-- ---- places

-- a shared place is loaded by one request, with its whole path
abbrev pub load_at : Spot → List Sel → Here → Doing Value
load_at (Spot.Own var) path here = own_load var path here
load_at (Spot.Shared block var) path here = request got (Load block var path) here

abbrev pub load_place : Located → Here → Doing Value
load_place place here = load_at place.spot place.path here

abbrev pub store_at : Spot → List Sel → Value → Here → Doing (Unit {0})
store_at (Spot.Own var) path value here = own_store var path value here
store_at (Spot.Shared block var) path value here = request done (Store block var path value) here

abbrev pub store_place : Located → Value → Here → Doing (Unit {0})
store_place place value here = store_at place.spot place.path value here

-- The results of a reply go into their places, in the order of the formals; what is left is the value.
abbrev pub store_results : List Located → List Value → Here → Doing (List Value)
store_results (place ∷ places) (value ∷ values) here = store_place place value here >>= λ _. store_results places values here
store_results places values here = give values

-- ---- declarations

-- a string of a length below 0 is E6
abbrev pub string_of_length : ℤ → Result Shape Fault
string_of_length (pos most) = Ok (a_string most)
string_of_length (negsuc n) = Err Range

-- an own variable is made with its default; a shared one is declared
abbrev pub make : Spot → Shape → Here → Doing (Unit {0})
make (Spot.Own var) shape here = settle (default_value shape) here >>= λ value. declare_own var (record { shape = shape; value = value })
make (Spot.Shared block var) shape here = request done (Declare block var shape) here

-- a whole variable
abbrev pub whole : Spot → Located
whole spot = record { spot = spot; path = [] }
