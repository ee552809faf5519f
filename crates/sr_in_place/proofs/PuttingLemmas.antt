-- A part of a place that is changed, and what that says of the whole.
use Rattle.std.proofs.Common.{◌≡◌, ℕ, zero, suc, ◌≤◌, List, [], ◌∷◌, Option, Some, None, Result, Ok, Err, length, refl, ap, sym, ◌∙◌, is_some, true≢false, slice_set}
use Rattle.std.specs.Prelude.{slice_get}
use Rattle.std.proofs.lemmas.Option.{slice_get_past}
use Rattle.sr_value.specs.declared.fault.Fault.{Fault}
use Rattle.sr_value.specs.declared.fault.Fault.TheVariants.{Index}
use Rattle.sr_value.specs.declared.shape.Dims.{Dims}
use Rattle.sr_value.specs.declared.shape.Sel.{Sel}
use Rattle.sr_value.specs.declared.shape.Shape.{Shape, out-Shape, out-roll-Shape}
use Rattle.sr_value.specs.declared.shape.Shape.TheOpen.{Shape-F}
use Rattle.sr_value.specs.declared.shape.Shape.TheVariants.{Arr as arr_shape, rolls-Arr as rolls-arr-shape}
use Rattle.sr_value.specs.declared.value.Value.{Value, out-Value, out-roll-Value}
use Rattle.sr_value.specs.declared.value.Value.TheOpen.{Value-F}
use Rattle.sr_value.specs.declared.value.Value.TheVariants.{Arr, rolls-Arr}
use Rattle.sr_value.specs.Parts.{Part_of, item_place, layer_parts, layer_with_part, or_fault, part_at, some_part, stored_at, with_ok, with_part}
use Rattle.sr_in_place.specs.Puts.{Wrote, item_stored}

set-same : (at : ℕ) (values : List Value) (part : Value) → slice_get values at ≡ Some part → slice_set values at part ≡ values
set-same at [] part here = absurd (true≢false (sym (ap is_some here)))
set-same zero (value ∷ values) part here = let same : value ≡ part = cc in ap (λ v. v ∷ values) (sym same)
set-same (suc at) (value ∷ values) part here = ap (λ vs. value ∷ vs) (set-same at values part here)

pub out-arr-shape : (dims : Dims) (item : Shape) → out-Shape (arr_shape dims item) ≡ Shape-F.Arr dims item
out-arr-shape dims item = ap out-Shape (sym (rolls-arr-shape dims item)) ∙ out-roll-Shape (Shape-F.Arr dims item)

pub out-arr : (dims : Dims) (items : List Value) → out-Value (Arr dims items) ≡ Value-F.Arr dims items
out-arr dims items = ap out-Value (sym (rolls-Arr dims items)) ∙ out-roll-Value (Value-F.Arr dims items)

module _ (shape : Shape) (place : Value) (path : List Sel) (step : Sel) (rest : List Sel) (value : Value) (path-is : path ≡ step ∷ rest) where
  at-step : (found : Option Part_of) → layer_parts (out-Shape shape) (out-Value place) step ≡ found
      → stored_at shape place path value ≡ with_ok (or_fault Index found) (λ part. with_ok (stored_at part.shape part.value rest value) (λ held. Ok (with_part place part.at held)))
  at-step found is =
      ap (λ p. stored_at shape place p value) path-is
      ∙ ap (λ f. with_ok (or_fault Index f) (λ part. with_ok (stored_at part.shape part.value rest value) (λ held. Ok (with_part place part.at held)))) is

  -- one of the parts was written
  wrote : (result : Result (Unit {0}) Fault) (whole : List Value → Value) (old new : List Value) (at : ℕ) (inner : Shape)
      → layer_parts (out-Shape shape) (out-Value place) step ≡ some_part at (slice_get old at) (Some inner) → ((held : Value) → with_part place at held ≡ whole (slice_set old at held)) → place ≡ whole old
      → Wrote result old new (item_stored inner old at rest value) → Wrote result place (whole new) (stored_at shape place path value)
  wrote result whole old new at inner is changed same one =
      by result (at-step (some_part at (slice_get old at) (Some inner)) is ∙ found (slice_get old at)) one
    where
      found : (part : Option Value)
          → with_ok (or_fault Index (some_part at part (Some inner))) (λ p. with_ok (stored_at p.shape p.value rest value) (λ held. Ok (with_part place p.at held)))
          ≡ with_ok (with_ok (or_fault Index part) (λ p. with_ok (stored_at inner p rest value) (λ held. Ok (slice_set old at held)))) (λ all. Ok (whole all))
      found None = refl
      found (Some p) = held (stored_at inner p rest value)
        where
          held : (r : Result Value Fault) → with_ok r (λ h. Ok (with_part place at h)) ≡ with_ok (with_ok r (λ h. Ok (slice_set old at h))) (λ all. Ok (whole all))
          held (Ok h) = ap (λ w. Ok w) (changed h)
          held (Err fault) = refl

      by : (r : Result (Unit {0}) Fault) → stored_at shape place path value ≡ with_ok (item_stored inner old at rest value) (λ all. Ok (whole all))
          → Wrote r old new (item_stored inner old at rest value) → Wrote r place (whole new) (stored_at shape place path value)
      by (Ok done) all meant = all ∙ ap (λ r. with_ok r (λ items. Ok (whole items))) meant
      by (Err fault) all meant = (all ∙ ap (λ r. with_ok r (λ items. Ok (whole items))) meant.0, ap whole meant.1 ∙ sym same)

  pub wrote-item : (dims' : Dims) (inner : Shape) (dims : Dims) (items new : List Value) → shape ≡ arr_shape dims' inner → place ≡ Arr dims items → (at : ℕ) → Some at ≡ item_place dims step
      → (result : Result (Unit {0}) Fault) → Wrote result items new (item_stored inner items at rest value) → Wrote result place (Arr dims new) (stored_at shape place path value)
  wrote-item dims' inner dims items new shape-is place-is at place-at result one =
      wrote result (Arr dims) items new at inner
      (ap (λ s. layer_parts s (out-Value place) step) (ap out-Shape shape-is ∙ out-arr-shape dims' inner)
      ∙ ap (λ v. layer_parts (Shape-F.Arr dims' inner) v step) (ap out-Value place-is ∙ out-arr dims items)
      ∙ ap (λ p. part_at p (slice_get items) (λ at. Some inner)) (sym place-at))
      (λ held. ap (λ v. layer_with_part place v at held) (ap out-Value place-is ∙ out-arr dims items)) place-is one

  -- the same, with the parts as they were read
  pub wrote-read : (dims' : Dims) (inner : Shape) (dims : Dims) (items new : List Value) → shape ≡ arr_shape dims' inner → place ≡ Arr dims items
      → (read : Dims) → read ≡ dims → (old : List Value) → old ≡ items → (kind : Shape) → kind ≡ inner → (at : ℕ) → Some at ≡ item_place read step
      → (result : Result (Unit {0}) Fault) → Wrote result old new (item_stored kind old at rest value) → Wrote result place (Arr read new) (stored_at shape place path value)
  wrote-read dims' inner dims items new shape-is place-is read read-is old old-is kind kind-is at place-at result one =
      wrote-item dims' kind read old new (shape-is ∙ ap (arr_shape dims') (sym kind-is)) (place-is ∙ ap (λ d. Arr d items) (sym read-is) ∙ ap (Arr read) (sym old-is)) at place-at result one

-- the item was written, or all are as before
pub wrote-one : (result : Result (Unit {0}) Fault) (items : List Value) (spot : ℕ) (shape : Shape) (path : List Sel) (value part new : Value) → slice_get items spot ≡ Some part
    → Wrote result part new (stored_at shape part path value) → Wrote result items (slice_set items spot new) (item_stored shape items spot path value)
wrote-one (Ok done) items spot shape path value part new here wrote =
    ap (λ p. with_ok (or_fault Index p) (λ old. with_ok (stored_at shape old path value) (λ held. Ok (slice_set items spot held)))) here
    ∙ ap (λ r. with_ok r (λ held. Ok (slice_set items spot held))) wrote
wrote-one (Err fault) items spot shape path value part new here wrote = (
  ap (λ p. with_ok (or_fault Index p) (λ old. with_ok (stored_at shape old path value) (λ held. Ok (slice_set items spot held)))) here
      ∙ ap (λ r. with_ok r (λ held. Ok (slice_set items spot held))) wrote.0,
  ap (slice_set items spot) wrote.1 ∙ set-same spot items part here,
)

pub no-item : (items : List Value) (spot : ℕ) (shape : Shape) (path : List Sel) (value : Value) → length items ≤ spot → item_stored shape items spot path value ≡ Err Index
no-item items spot shape path value past =
    ap (λ p. with_ok (or_fault Index p) (λ old. with_ok (stored_at shape old path value) (λ held. Ok (slice_set items spot held)))) (slice_get_past items spot past)
