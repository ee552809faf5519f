-- The own variables of a process.
use Rattle.std.specs.Prelude.{ℕ, ℤ, List, ◌∷◌, Option, Some, Result, Ok, slice_set}
use Rattle.sr_value.specs.declared.fault.Fault.{Fault}
use Rattle.sr_value.specs.declared.shape.Sel.{Sel}
use Rattle.sr_value.specs.declared.shape.Shape.TheVariants.{Int as int_shape}
use Rattle.sr_value.specs.declared.value.Value.{Value}
use Rattle.sr_value.specs.declared.value.Value.TheVariants.{Int}
use Rattle.sr_value.specs.Parts.{loaded_at, with_ok}
use Rattle.sr_ask.specs.Places.{own_at, own_after}
use Rattle.sr_ask.specs.declared.environment.Own.{Own}

-- what a part of an own variable holds
abbrev pub own_value : List (Option Own) → ℕ → List Sel → Result Value Fault
own_value own var path = with_ok (own_at own var) (λ held. loaded_at held.value path)

-- the own variables after a store
abbrev pub own_stored : List (Option Own) → ℕ → List Sel → Value → Result (List (Option Own)) Fault
own_stored own var path value =
    with_ok (with_ok (own_at own var) (λ held. own_after held path value)) (λ held. Ok (slice_set own var (Some held)))

-- ---- the variables of quantifiers

-- a variable that holds a number
abbrev pub number_own : ℤ → Own
number_own n = record { shape = int_shape; value = Int n }

-- variables get numbers, in order
abbrev pub vars_set : List ℕ → List ℤ → List (Option Own) → List (Option Own)
vars_set (var ∷ vars) (n ∷ turn) own = vars_set vars turn (slice_set own var (Some (number_own n)))
vars_set vars turn own = own
