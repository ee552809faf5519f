-- A store in a part of an own variable.
use Rattle.std.proofs.Common.{◌≡◌, ℕ, ℤ, List, [], Option, Some, None, Result, Ok, Err, ap, sym, ◌∙◌, option_map, slice_get, slice_set, unwrap_or}
use Rattle.std.proofs.lemmas.List.{set-get_or}
use Rattle.std.proofs.lemmas.Option.{get_or_from_slice_get}
use Rattle.sr_value.specs.declared.fault.Fault.{Fault}
use Rattle.sr_value.specs.declared.fault.Fault.TheVariants.{Early}
use Rattle.sr_value.specs.declared.shape.Sel.{Sel}
use Rattle.sr_value.specs.declared.shape.Shape.{Shape, fold-roll-Shape}
use Rattle.sr_value.specs.declared.shape.Shape.TheOpen.{Shape-F}
use Rattle.sr_value.specs.declared.shape.Shape.TheVariants.{Int as int_shape, rolls-Int as rolls-int_shape}
use Rattle.sr_value.specs.declared.value.Value.{Value, out-Value, out-roll-Value}
use Rattle.sr_value.specs.declared.value.Value.TheOpen.{Value-F}
use Rattle.sr_value.specs.declared.value.Value.TheVariants.{Int, rolls-Int}
use Rattle.sr_value.specs.Parts.{fit_layer, fitted_in, or_fault, stored_at, with_ok}
use Rattle.sr_ask.specs.Places.{own_after}
use Rattle.sr_ask.specs.declared.environment.Own.{Own}
use Rattle.sr_frame.specs.Variables.{number_own, own_stored}
use Rattle.sr_in_place.specs.Puts.{Wrote}

-- an item put where it stands
pub set_same : {A : Type 0} (xs : List A) (i : ℕ) (x : A) → slice_get xs i ≡ Some x → slice_set xs i x ≡ xs
set_same xs i x here = ap (slice_set xs i) (sym (get_or_from_slice_get xs i x x here)) ∙ set-get_or xs i x

-- what a store in the variable that stands there leaves
stored_there : (own : List (Option Own)) (var : ℕ) (held : Own) (path : List Sel) (value : Value) (stored : Result Value Fault) → slice_get own var ≡ Some (Some held)
    → stored_at held.shape held.value path value ≡ stored
    → own_stored own var path value ≡ with_ok (with_ok stored (λ v. Ok (record { shape = held.shape; value = v }))) (λ now. Ok (slice_set own var (Some now)))
stored_there own var held path value stored here is =
    ap (λ (o : Option (Option Own)). with_ok (with_ok (or_fault Early (unwrap_or o None)) (λ now. own_after now path value)) (λ now. Ok (slice_set own var (Some now)))) here
    ∙ ap (λ (r : Result Value Fault). with_ok (with_ok r (λ v. Ok (record { shape = held.shape; value = v }))) (λ now. Ok (slice_set own var (Some now)))) is

pub stored_in : (own : List (Option Own)) (var : ℕ) (held : Own) (place : Value) (path : List Sel) (value : Value) (result : Result (Unit {0}) Fault)
    → slice_get own var ≡ Some (Some held) → Wrote result held.value place (stored_at held.shape held.value path value)
    → Wrote result own (slice_set own var (Some (record { shape = held.shape; value = place }))) (own_stored own var path value)
stored_in own var held place path value (Ok done) here wrote = stored_there own var held path value (Ok place) here wrote
stored_in own var held place path value (Err fault) here wrote = (
  stored_there own var held path value (Err fault) here wrote.0,
  ap (λ v. slice_set own var (Some (record { shape = held.shape; value = v }))) wrote.1 ∙ set_same own var (Some held) here,
)

-- a variable that isn't declared
pub stored_early : (own : List (Option Own)) (var : ℕ) (path : List Sel) (value : Value) (there : Option Own) → slice_get own var ≡ Some there → there ≡ None
    → (own_stored own var path value ≡ Err Early) × (slice_set own var there ≡ own)
stored_early own var path value there here early = (
  ap (λ (o : Option (Option Own)). with_ok (with_ok (or_fault Early (unwrap_or o None)) (λ now. own_after now path value)) (λ now. Ok (slice_set own var (Some now)))) (here ∙ ap Some early),
  set_same own var there here,
)

-- ---- numbers

-- a variable that was left as it was
pub left_there : (own : List (Option Own)) (var : ℕ) (there now : Option Own) → slice_get own var ≡ Some there → now ≡ there → slice_set own var now ≡ own
left_there own var there now here same = ap (slice_set own var) same ∙ set_same own var there here

number_fits : (number : ℤ) → fitted_in int_shape (Int number) ≡ Ok (Int number)
number_fits number =
    ap (λ s. fitted_in s (Int number)) (sym rolls-int_shape)
    ∙ (ap (λ f. f (Int number)) (fold-roll-Shape (Value → Result Value Fault) (λ layer value. fit_layer layer value (out-Value value)) Shape-F.Int)
    ∙ ap (fit_layer Shape-F.Int (Int number)) (ap out-Value (sym (rolls-Int number)) ∙ out-roll-Value (Value-F.Int number)))

-- a number that was put in a variable of numbers
pub number_put : (own : List (Option Own)) (var : ℕ) (there now : Option Own) (number : ℤ) → slice_get own var ≡ Some there → option_map (λ (o : Own). o.shape) there ≡ Some int_shape
    → now ≡ Some (number_own number) → own_stored own var [] (Int number) ≡ Ok (slice_set own var now)
number_put own var None now number here numbers put = absurd (cc)
number_put own var (Some held) now number here numbers put =
    let shape : held.shape ≡ int_shape = cc in
    stored_there own var held [] (Int number) (Ok (Int number)) here (ap (λ (s : Shape). stored_at s held.value [] (Int number)) shape ∙ number_fits number)
    ∙ (ap (λ (s : Shape). Ok (slice_set own var (Some (record { shape = s; value = Int number })))) shape
    ∙ ap (λ (o : Option Own). Ok (slice_set own var o)) (sym put))
