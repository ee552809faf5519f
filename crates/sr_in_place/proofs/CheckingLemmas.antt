-- Whether something can be done, step by step.
use Rattle.std.proofs.Common.{◌≡◌, ℕ, List, ◌∷◌, Option, Some, None, Result, Ok, Err, refl, ap, sym, ◌∙◌, slice_set}
use Rattle.std.specs.Prelude.{slice_get}
use Rattle.sr_value.specs.declared.fault.Fault.{Fault}
use Rattle.sr_value.specs.declared.fault.Fault.TheVariants.{Index}
use Rattle.sr_value.specs.declared.shape.Dims.{Dims}
use Rattle.sr_value.specs.declared.shape.Sel.{Sel}
use Rattle.sr_value.specs.declared.shape.Shape.{Shape, out-Shape}
use Rattle.sr_value.specs.declared.shape.Shape.TheOpen.{Shape-F}
use Rattle.sr_value.specs.declared.shape.Shape.TheVariants.{Arr as arr_shape}
use Rattle.sr_value.specs.declared.value.Value.{Value, out-Value}
use Rattle.sr_value.specs.declared.value.Value.TheVariants.{Arr}
use Rattle.sr_value.specs.Parts.{Part_of, item_place, layer_parts, or_fault, part_at, some_part, stored_at, with_ok, with_part}
use Rattle.sr_in_place.specs.Puts.{item_stored, outcome}
use Rattle.sr_in_place.proofs.PuttingLemmas.{out-arr, out-arr-shape}

-- what is made of what is there doesn't matter
pub outcome-made : {A B : Type 0} (r : Result A Fault) (made : A → B) → outcome (with_ok r (λ a. Ok (made a))) ≡ outcome r
outcome-made (Ok a) made = refl
outcome-made (Err fault) made = refl

-- the first can be done, so the rest decides
pub outcome-next : {A B : Type 0} (r : Result A Fault) (next : A → Result B Fault) (rest : Result (Unit {0}) Fault) → Ok tt ≡ outcome r → ((a : A) → outcome (next a) ≡ rest)
    → outcome (with_ok r next) ≡ rest
outcome-next (Ok a) next rest is then = then a
outcome-next (Err fault) next rest is then = cc

-- the first can't
pub outcome-fault : {A B : Type 0} (r : Result A Fault) (next : A → Result B Fault) (fault : Fault) → Err fault ≡ outcome r → outcome (with_ok r next) ≡ Err fault
outcome-fault (Ok a) next fault is = cc
outcome-fault (Err other) next fault is = sym is

-- one of the parts
pub outcome-part : (place : Value) (items : List Value) (at : ℕ) (inner : Shape) (path : List Sel) (value : Value)
    → outcome (with_ok (or_fault Index (some_part at (slice_get items at) (Some inner))) (λ part. with_ok (stored_at part.shape part.value path value) (λ held. Ok (with_part place part.at held))))
    ≡ outcome (item_stored inner items at path value)
outcome-part place items at inner path value = found (slice_get items at)
  where
    found : (part : Option Value)
        → outcome (with_ok (or_fault Index (some_part at part (Some inner))) (λ p. with_ok (stored_at p.shape p.value path value) (λ held. Ok (with_part place p.at held))))
        ≡ outcome (with_ok (or_fault Index part) (λ p. with_ok (stored_at inner p path value) (λ held. Ok (slice_set items at held))))
    found None = refl
    found (Some p) = outcome-made (stored_at inner p path value) (with_part place at) ∙ sym (outcome-made (stored_at inner p path value) (slice_set items at))

-- one of the items of an array
pub outcome-item : (shape : Shape) (place : Value) (path : List Sel) (step : Sel) (rest : List Sel) (value : Value) (dims' dims : Dims) (inner : Shape) (items : List Value) (at : ℕ)
    → path ≡ step ∷ rest → shape ≡ arr_shape dims' inner → place ≡ Arr dims items → Some at ≡ item_place dims step
    → outcome (stored_at shape place path value) ≡ outcome (item_stored inner items at rest value)
outcome-item shape place path step rest value dims' dims inner items at path-is shape-is place-is place-at =
    ap (λ p. outcome (stored_at shape place p value)) path-is
    ∙ ap (λ (found : Option Part_of). outcome (with_ok (or_fault Index found) (λ part. with_ok (stored_at part.shape part.value rest value) (λ held. Ok (with_part place part.at held)))))
    (ap (λ s. layer_parts s (out-Value place) step) (ap out-Shape shape-is ∙ out-arr-shape dims' inner)
    ∙ ap (λ v. layer_parts (Shape-F.Arr dims' inner) v step) (ap out-Value place-is ∙ out-arr dims items)
    ∙ ap (λ p. part_at p (slice_get items) (λ at. Some inner)) (sym place-at))
    ∙ outcome-part place items at inner rest value
