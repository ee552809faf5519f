-- Items that are given the bounds of their places one after another.
use Rattle.std.proofs.Common.{◌≡◌, ℕ, zero, suc, ◌+◌, ◌<◌, ◌≤◌, List, [], ◌∷◌, Some, Result, Ok, Err, length, map, drop, refl, ap, sym, ◌∙◌, arith, is_some, true≢false, slice_set}
use Rattle.std.specs.Prelude.{slice_get}
use Rattle.sr_value.specs.declared.fault.Fault.{Fault}
use Rattle.sr_value.specs.declared.fault.Fault.TheVariants.{Index}
use Rattle.sr_value.specs.declared.shape.Shape.{Shape}
use Rattle.sr_value.specs.declared.value.Value.{Value}
use Rattle.sr_value.specs.declared.value.Value.TheVariants.{Rec}
use Rattle.sr_value.specs.Parts.{each_fits, fitted_in, with_ok}
use Rattle.sr_in_place.specs.Puts.{Fitted}

-- what all items give, where the first `at` were fitted already and `rest` is what those after them give
abbrev pub after_first : ℕ → (List Value → Result (List Value) Fault) → List Value → Result (List Value) Fault
after_first zero rest values = rest values
after_first (suc at) rest [] = Ok []
after_first (suc at) rest (value ∷ values) = with_ok (after_first at rest values) (λ held. Ok (value ∷ held))

next-at : (at : ℕ) (rest rest' : List Value → Result (List Value) Fault) (values : List Value) (item item' : Value) → slice_get values at ≡ Some item
    → ((more : List Value) → rest (item ∷ more) ≡ with_ok (rest' more) (λ held. Ok (item' ∷ held)))
    → after_first (suc at) rest' (slice_set values at item') ≡ after_first at rest values
next-at at rest rest' [] item item' found step = absurd (true≢false (sym (ap is_some found)))
next-at zero rest rest' (value ∷ values) item item' found step = let same : value ≡ item = cc in sym (step values) ∙ ap (λ v. rest (v ∷ values)) (sym same)
next-at (suc at) rest rest' (value ∷ values) item item' found step = ap (λ r. with_ok r (λ held. Ok (value ∷ held))) (next-at at rest rest' values item item' found step)

-- one more item was fitted
pub next-fitted : (at : ℕ) (rest rest' : List Value → Result (List Value) Fault) (values : List Value) (item item' : Value) → slice_get values at ≡ Some item
    → ((more : List Value) → rest (item ∷ more) ≡ with_ok (rest' more) (λ held. Ok (item' ∷ held)))
    → after_first (at + 1) rest' (slice_set values at item') ≡ after_first at rest values
next-fitted at rest rest' values item item' found step =
    let next : at + 1 ≡ suc at = omega arith in
    ap (λ n. after_first n rest' (slice_set values at item')) next ∙ next-at at rest rest' values item item' found step

-- an item doesn't fit
pub not-fitted : (at : ℕ) (rest : List Value → Result (List Value) Fault) (values : List Value) (item : Value) (fault : Fault) → slice_get values at ≡ Some item
    → ((more : List Value) → rest (item ∷ more) ≡ Err fault) → after_first at rest values ≡ Err fault
not-fitted at rest [] item fault found fails = absurd (true≢false (sym (ap is_some found)))
not-fitted zero rest (value ∷ values) item fault found fails = let same : value ≡ item = cc in ap (λ v. rest (v ∷ values)) same ∙ fails values
not-fitted (suc at) rest (value ∷ values) item fault found fails = ap (λ r. with_ok r (λ held. Ok (value ∷ held))) (not-fitted at rest values item fault found fails)

-- there are no more
pub all-fitted : (at : ℕ) (rest : List Value → Result (List Value) Fault) (values : List Value) → at ≡ length values → rest [] ≡ Ok [] → after_first at rest values ≡ Ok values
all-fitted zero rest [] end empty = empty
all-fitted zero rest (value ∷ values) end empty = absurd (omega arith)
all-fitted (suc at) rest [] end empty = refl
all-fitted (suc at) rest (value ∷ values) end empty = ap (λ r. with_ok r (λ held. Ok (value ∷ held))) (all-fitted at rest values (omega arith) empty)

-- there are too few
pub too-few : (at : ℕ) (rest : List Value → Result (List Value) Fault) (values : List Value) (fault : Fault) → at ≡ length values → rest [] ≡ Err fault → after_first at rest values ≡ Err fault
too-few zero rest [] fault end empty = empty
too-few zero rest (value ∷ values) fault end empty = absurd (omega arith)
too-few (suc at) rest [] fault end empty = absurd (omega arith)
too-few (suc at) rest (value ∷ values) fault end empty = ap (λ r. with_ok r (λ held. Ok (value ∷ held))) (too-few at rest values fault (omega arith) empty)

-- there are too many
pub too-many : (at : ℕ) (rest : List Value → Result (List Value) Fault) (values : List Value) (fault : Fault) → at < length values → ((first : Value) (more : List Value) → rest (first ∷ more) ≡ Err fault)
    → after_first at rest values ≡ Err fault
too-many at rest [] fault within fails = absurd (omega arith)
too-many zero rest (value ∷ values) fault within fails = fails value values
too-many (suc at) rest (value ∷ values) fault within fails = ap (λ r. with_ok r (λ held. Ok (value ∷ held))) (too-many at rest values fault (omega arith) fails)

-- ---- what is left at a place

pub drop-at : {A : Type 0} (at : ℕ) (xs : List A) (x : A) → slice_get xs at ≡ Some x → drop at xs ≡ x ∷ drop (at + 1) xs
drop-at at xs x found = let next : at + 1 ≡ suc at = omega arith in drop-next at xs x found ∙ ap (λ n. x ∷ drop n xs) (sym next)
  where
    drop-next : {A : Type 0} (at : ℕ) (xs : List A) (x : A) → slice_get xs at ≡ Some x → drop at xs ≡ x ∷ drop (suc at) xs
    drop-next at [] x found = absurd (true≢false (sym (ap is_some found)))
    drop-next zero (y ∷ xs) x found = let same : y ≡ x = cc in ap (λ z. z ∷ xs) same
    drop-next (suc at) (y ∷ xs) x found = drop-next at xs x found

pub drop-end : {A : Type 0} (at : ℕ) (xs : List A) → length xs ≤ at → drop at xs ≡ []
drop-end zero [] end = refl
drop-end zero (x ∷ xs) end = absurd (omega arith)
drop-end (suc at) [] end = refl
drop-end (suc at) (x ∷ xs) end = drop-end at xs (omega arith)

-- ---- the places of fields

abbrev pub fields_from : ℕ → List Shape → List Value → Result (List Value) Fault
fields_from at shapes = each_fits (map fitted_in (drop at shapes))

module _ (at : ℕ) (shapes : List Shape) (shape : Shape) (here : slice_get shapes at ≡ Some shape) where
  at-field : (values : List Value) → fields_from at shapes values ≡ each_fits (fitted_in shape ∷ map fitted_in (drop (at + 1) shapes)) values
  at-field values = ap (λ left. each_fits (map fitted_in left) values) (drop-at at shapes shape here)

  pub field-fits : (value held : Value) → fitted_in shape value ≡ Ok held
      → (more : List Value) → fields_from at shapes (value ∷ more) ≡ with_ok (fields_from (at + 1) shapes more) (λ rest. Ok (held ∷ rest))
  field-fits value held fits more =
      at-field (value ∷ more) ∙ ap (λ r. with_ok r (λ first. with_ok (fields_from (at + 1) shapes more) (λ rest. Ok (first ∷ rest)))) fits

  pub field-fails : (value : Value) (fault : Fault) → fitted_in shape value ≡ Err fault → (more : List Value) → fields_from at shapes (value ∷ more) ≡ Err fault
  field-fails value fault fails more =
      at-field (value ∷ more) ∙ ap (λ r. with_ok r (λ first. with_ok (fields_from (at + 1) shapes more) (λ rest. Ok (first ∷ rest)))) fails

  pub field-missing : fields_from at shapes [] ≡ Err Index
  field-missing = at-field []

pub fields-end : (at : ℕ) (shapes : List Shape) → length shapes ≤ at → fields_from at shapes [] ≡ Ok []
fields-end at shapes end = ap (λ left. each_fits (map fitted_in left) []) (drop-end at shapes end)

pub fields-past : (at : ℕ) (shapes : List Shape) → length shapes ≤ at → (first : Value) (more : List Value) → fields_from at shapes (first ∷ more) ≡ Err Index
fields-past at shapes end first more = ap (λ left. each_fits (map fitted_in left) (first ∷ more)) (drop-end at shapes end)

-- ---- the results

pub recorded : (result : Result (Unit {0}) Fault) (values : List Value) (meant : Result (List Value) Fault) (whole : Result Value Fault)
    → whole ≡ with_ok meant (λ held. Ok (Rec held)) → Fitted result values meant → Fitted result (Rec values) whole
recorded (Ok done) values meant whole is fits = is ∙ ap (λ m. with_ok m (λ held. Ok (Rec held))) fits
recorded (Err fault) values meant whole is fits = is ∙ ap (λ m. with_ok m (λ held. Ok (Rec held))) fits
