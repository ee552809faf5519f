-- What a store to a place leaves to be loaded.
use Rattle.std.proofs.Common.{◌≡◌, ◌≢◌, ℕ, zero, suc, List, [], ◌∷◌, ◌++◌, inl, inr, Option, Some, None, Ok, Err, unwrap_or, option_map, refl, ap, sym, ◌∙◌, subst, pos, slice_set}
use Rattle.std.specs.Prelude.{slice_get}
use Rattle.std.specs.Option.{option_and_then}
use Rattle.std.proofs.lemmas.List.{length-set}
use Rattle.sr_value.specs.declared.fault.Fault.TheVariants.{Index}
use Rattle.sr_value.specs.declared.shape.Dims.{Dims}
use Rattle.sr_value.specs.declared.shape.Sel.{Sel}
use Rattle.sr_value.specs.declared.shape.Sel.TheVariants.{At, At2, Field}
use Rattle.sr_value.specs.declared.shape.Shape.{Shape, out-Shape, out-roll-Shape}
use Rattle.sr_value.specs.declared.shape.Shape.TheOpen.{Shape-F}
use Rattle.sr_value.specs.declared.shape.Shape.TheVariants.{Char as a_char, rolls-Char as rolls-a_char}
use Rattle.sr_value.specs.declared.value.Value.{Value, out-Value, roll-Value, out-roll-Value}
use Rattle.sr_value.specs.declared.value.Value.TheFolds.{ind-Value}
use Rattle.sr_value.specs.declared.value.Value.TheOpen.{Value-F}
use Rattle.sr_value.specs.declared.value.Value.TheVariants.{Char, Str, Rec, Arr, rolls-Char, rolls-Str, rolls-Rec, rolls-Arr}
use Rattle.sr_value.specs.Operands.{char_in, layer_char}
use Rattle.sr_value.specs.Parts.{Part_of, byte_place, field_place, fit_layer, fitted_in, item_place, layer_part, layer_parts, layer_with_part, loaded_at, or_fault, part_at, part_of, place_of, some_part, stored_at, with_ok, with_part}
use Rattle.sr_value.proofs.FitLemmas.{fitted-char}
use Rattle.sr_in_place.specs.Places.{shape_at}
use Rattle.sr_in_place.proofs.IndexLemmas.{same-byte, same-field, same-item, same-step}
use Rattle.sr_in_place.proofs.ResultLemmas.{found-back, same-ok, step-back}

-- ---- items of lists

set-here : {A : Type 0} (i : ℕ) (xs : List A) (x y : A) → slice_get xs i ≡ Some x → slice_get (slice_set xs i y) i ≡ Some y
set-here i [] x y here = cc
set-here zero (first ∷ xs) x y here = refl
set-here (suc i) (first ∷ xs) x y here = set-here i xs x y here

set-other : {A : Type 0} (i j : ℕ) (xs : List A) (y : A) → j ≢ i → slice_get (slice_set xs i y) j ≡ slice_get xs j
set-other i j [] y ne = refl
set-other zero zero (first ∷ xs) y ne = absurd (ne refl)
set-other zero (suc j) (first ∷ xs) y ne = refl
set-other (suc i) zero (first ∷ xs) y ne = refl
set-other (suc i) (suc j) (first ∷ xs) y ne = set-other i j xs y (λ e. ne (ap suc e))

-- an item by a place that may not be there, where another item was set
get-other : {A : Type 0} (at : ℕ) (place : Option ℕ) (xs : List A) (y : A) → place ≢ Some at → option_and_then (slice_get (slice_set xs at y)) place ≡ option_and_then (slice_get xs) place
get-other at None xs y ne = refl
get-other at (Some j) xs y ne = set-other at j xs y (λ e. ne (ap (λ n. Some n) e))

-- ---- what a step selects

-- where the step leads, and what is there
abbrev Found : Value-F Value → Sel → Part_of → Type 0
Found (Value-F.Str bytes) step part = (byte_place bytes step ≡ Some part.at) × (option_map Char (slice_get bytes part.at) ≡ Some part.value) × (part.shape ≡ a_char)
Found (Value-F.Rec fields) step part = (field_place step ≡ Some part.at) × (slice_get fields part.at ≡ Some part.value)
Found (Value-F.Arr dims items) step part = (item_place dims step ≡ Some part.at) × (slice_get items part.at ≡ Some part.value)
Found _ step part = ⊥

record Parted (o : Option ℕ) (values : ℕ → Option Value) (shapes : ℕ → Option Shape) (part : Part_of) : Type 0 where
  at-is : o ≡ Some part.at
  value-is : values part.at ≡ Some part.value
  shape-is : shapes part.at ≡ Some part.shape

parted : (o : Option ℕ) (values : ℕ → Option Value) (shapes : ℕ → Option Shape) (part : Part_of) → part_at o values shapes ≡ Some part → Parted o values shapes part
parted None values shapes part is = cc
parted (Some at) values shapes part is = by (values at) (shapes at) refl refl is
  where
    by : (v : Option Value) (s : Option Shape) → values at ≡ v → shapes at ≡ s → some_part at v s ≡ Some part → Parted (Some at) values shapes part
    by (Some v) (Some s) value-is shape-is is =
        let same : (record { at = at; value = v; shape = s }) ≡ part = cc in
        subst (Parted (Some at) values shapes) same (record { at-is = refl; value-is = value-is; shape-is = shape-is })
    by (Some v) None value-is shape-is is = cc
    by None s value-is shape-is is = cc

step-found : (s : Shape-F Shape) (v : Value-F Value) (step : Sel) (part : Part_of) → layer_parts s v step ≡ Some part → Found v step part
step-found (Shape-F.Str most) (Value-F.Str bytes) step part is =
    let p = parted (byte_place bytes step) (λ at. option_map Char (slice_get bytes at)) (λ at. Some a_char) part is in
    let shape : a_char ≡ part.shape = cc in (p.at-is, p.value-is, sym shape)
step-found (Shape-F.Rec shapes) (Value-F.Rec fields) step part is =
    let p = parted (field_place step) (slice_get fields) (slice_get shapes) part is in (p.at-is, p.value-is)
step-found (Shape-F.Arr dims item) (Value-F.Arr dims' items) step part is =
    let p = parted (item_place dims' step) (slice_get items) (λ at. Some item) part is in (p.at-is, p.value-is)
step-found _ _ step part is = cc

-- ---- chars

-- a string's bytes are chars
abbrev Kept : Value-F Value → Value → Type 0
Kept (Value-F.Str bytes) held = (c : ℕ) × (held ≡ Char c)
Kept _ held = Unit {0}

out-char : (c : ℕ) → out-Value (Char c) ≡ Value-F.Char c
out-char c = ap out-Value (sym (rolls-Char c)) ∙ out-roll-Value (Value-F.Char c)

out-str : (bytes : List ℕ) → out-Value (Str bytes) ≡ Value-F.Str bytes
out-str bytes = ap out-Value (sym (rolls-Str bytes)) ∙ out-roll-Value (Value-F.Str bytes)

out-rec : (fields : List Value) → out-Value (Rec fields) ≡ Value-F.Rec fields
out-rec fields = ap out-Value (sym (rolls-Rec fields)) ∙ out-roll-Value (Value-F.Rec fields)

out-arr : (dims : Dims) (items : List Value) → out-Value (Arr dims items) ≡ Value-F.Arr dims items
out-arr dims items = ap out-Value (sym (rolls-Arr dims items)) ∙ out-roll-Value (Value-F.Arr dims items)

char-of : (v : Value) (c : ℕ) → out-Value v ≡ Value-F.Char c → v ≡ Char c
char-of = ind-Value (λ v. (c : ℕ) → out-Value v ≡ Value-F.Char c → v ≡ Char c) (λ x y is c out. ap roll-Value (sym (out-roll-Value x) ∙ out) ∙ rolls-Char c)

fitted-is-char : (value held : Value) → fitted_in a_char value ≡ Ok held → (c : ℕ) × (held ≡ Char c)
fitted-is-char value held is = by (out-Value value) refl (sym (fitted-char value) ∙ is)
  where
    by : (layer : Value-F Value) → out-Value value ≡ layer → fit_layer Shape-F.Char value layer ≡ Ok held → (c : ℕ) × (held ≡ Char c)
    by (Value-F.Char c) out fits = let same : value ≡ held = cc in (c, sym same ∙ char-of value c out)
    by _ out fits = cc

stored-is-char : (b : ℕ) (path : List Sel) (value held : Value) → stored_at a_char (Char b) path value ≡ Ok held → (c : ℕ) × (held ≡ Char c)
stored-is-char b [] value held is = fitted-is-char value held is
stored-is-char b (step ∷ path) value held is =
    let none : layer_parts (out-Shape a_char) (out-Value (Char b)) step ≡ None = ap (λ s. layer_parts s (out-Value (Char b)) step) (ap out-Shape (sym rolls-a_char) ∙ out-roll-Shape Shape-F.Char) in
    let fails : stored_at a_char (Char b) (step ∷ path) value ≡ Err Index =
    ap (λ f. with_ok (or_fault Index f) (λ part. with_ok (stored_at part.shape part.value path value) (λ held. Ok (with_part (Char b) part.at held)))) none in
    cc

kept : (v : Value-F Value) (step : Sel) (part : Part_of) (path : List Sel) (value held : Value) → Found v step part → stored_at part.shape part.value path value ≡ Ok held → Kept v held
kept (Value-F.Str bytes) step part path value held found is = by (slice_get bytes part.at) found.1
  where
    by : (o : Option ℕ) → option_map Char o ≡ Some part.value → (c : ℕ) × (held ≡ Char c)
    by None none = cc
    by (Some b) some =
        let char : Char b ≡ part.value = cc in
        stored-is-char b path value held (ap (λ s. stored_at s (Char b) path value) (sym found.2) ∙ ap (λ v. stored_at part.shape v path value) char ∙ is)
kept _ step part path value held found is = tt

-- ---- one step of a store

here-before : (v : Value-F Value) (step : Sel) (part : Part_of) → Found v step part → layer_part v step ≡ Some part.value
here-before (Value-F.Str bytes) step part found = ap (λ o. option_map Char (option_and_then (slice_get bytes) o)) found.0 ∙ found.1
here-before (Value-F.Rec fields) step part found = ap (option_and_then (slice_get fields)) found.0 ∙ found.1
here-before (Value-F.Arr dims items) step part found = ap (option_and_then (slice_get items)) found.0 ∙ found.1
here-before _ step part found = absurd found

-- a string after another byte was set
out-set : (bytes : List ℕ) (at c : ℕ) (held : Value) → held ≡ Char c → out-Value (Str (slice_set bytes at (unwrap_or (char_in held) 0))) ≡ Value-F.Str (slice_set bytes at c)
out-set bytes at c held is =
    out-str (slice_set bytes at (unwrap_or (char_in held) 0))
    ∙ ap (λ v. Value-F.Str (slice_set bytes at (unwrap_or (layer_char v) 0))) (ap out-Value is ∙ out-char c)

byte_place-set : (bytes : List ℕ) (at c : ℕ) (step : Sel) → byte_place (slice_set bytes at c) step ≡ byte_place bytes step
byte_place-set bytes at c (At index) = ap (λ n. place_of (pos 1) (pos n) index) (length-set bytes at c)
byte_place-set bytes at c (At2 row column) = refl
byte_place-set bytes at c (Field field) = refl

here-after : (old : Value) (v : Value-F Value) (step : Sel) (part : Part_of) (held : Value) → Found v step part → Kept v held → layer_part (out-Value (layer_with_part old v part.at held)) step ≡ Some held
here-after old (Value-F.Str bytes) step part held found is = by (slice_get bytes part.at) refl found.1
  where
    by : (o : Option ℕ) → slice_get bytes part.at ≡ o → option_map Char o ≡ Some part.value → layer_part (out-Value (Str (slice_set bytes part.at (unwrap_or (char_in held) 0)))) step ≡ Some held
    by None got none = cc
    by (Some b) got some =
        ap (λ v. layer_part v step) (out-set bytes part.at is.0 held is.1)
        ∙ ap (λ o. option_map Char (option_and_then (slice_get (slice_set bytes part.at is.0)) o)) (byte_place-set bytes part.at is.0 step ∙ found.0)
        ∙ ap (option_map Char) (set-here part.at bytes b is.0 got)
        ∙ ap (λ h. Some h) (sym is.1)
here-after old (Value-F.Rec fields) step part held found is =
    ap (λ v. layer_part v step) (out-rec (slice_set fields part.at held))
    ∙ ap (option_and_then (slice_get (slice_set fields part.at held))) found.0
    ∙ set-here part.at fields part.value held found.1
here-after old (Value-F.Arr dims items) step part held found is =
    ap (λ v. layer_part v step) (out-arr dims (slice_set items part.at held))
    ∙ ap (option_and_then (slice_get (slice_set items part.at held))) found.0
    ∙ set-here part.at items part.value held found.1
here-after old _ step part held found is = absurd found

-- other steps lead to other places
there-after : (old : Value) (v : Value-F Value) (step other : Sel) (part : Part_of) (held : Value) → Found v step part → Kept v held → other ≢ step
    → layer_part (out-Value (layer_with_part old v part.at held)) other ≡ layer_part v other
there-after old (Value-F.Str bytes) step other part held found is ne =
    ap (λ v. layer_part v other) (out-set bytes part.at is.0 held is.1)
    ∙ ap (λ o. option_map Char (option_and_then (slice_get (slice_set bytes part.at is.0)) o)) (byte_place-set bytes part.at is.0 other)
    ∙ ap (option_map Char) (get-other part.at (byte_place bytes other) bytes is.0 (λ e. ne (same-byte bytes other step part.at e found.0)))
there-after old (Value-F.Rec fields) step other part held found is ne =
    ap (λ v. layer_part v other) (out-rec (slice_set fields part.at held))
    ∙ get-other part.at (field_place other) fields held (λ e. ne (same-field other step part.at e found.0))
there-after old (Value-F.Arr dims items) step other part held found is ne =
    ap (λ v. layer_part v other) (out-arr dims (slice_set items part.at held))
    ∙ get-other part.at (item_place dims other) items held (λ e. ne (same-item dims other step part.at e found.0))
there-after old _ step other part held found is ne = absurd found

record Step (shape : Shape) (old new : Value) (step : Sel) (path : List Sel) (value : Value) : Type 0 where
  part : Part_of
  held : Value
  found : layer_parts (out-Shape shape) (out-Value old) step ≡ Some part
  stored : stored_at part.shape part.value path value ≡ Ok held
  before : part_of old step ≡ Ok part.value
  here : part_of new step ≡ Ok held
  others : (other : Sel) → other ≢ step → part_of new other ≡ part_of old other

step-of : (shape : Shape) (old new : Value) (step : Sel) (path : List Sel) (value : Value) → stored_at shape old (step ∷ path) value ≡ Ok new → Step shape old new step path value
step-of shape old new step path value is =
    let outer = step-back (or_fault Index (layer_parts (out-Shape shape) (out-Value old) step))
    (λ part. with_ok (stored_at part.shape part.value path value) (λ held. Ok (with_part old part.at held))) new is in
    let inner = step-back (stored_at outer.0.shape outer.0.value path value) (λ held. Ok (with_part old outer.0.at held)) new outer.1.1 in
    let there = found-back Index (layer_parts (out-Shape shape) (out-Value old) step) outer.0 outer.1.0 in
    let found = step-found (out-Shape shape) (out-Value old) step outer.0 there in
    let stays = kept (out-Value old) step outer.0 path value inner.0 found inner.1.0 in
    let changed : with_part old outer.0.at inner.0 ≡ new = same-ok _ _ inner.1.1 in
    record {
      part = outer.0;
      held = inner.0;
      found = there;
      stored = inner.1.0;
      before = ap (or_fault Index) (here-before (out-Value old) step outer.0 found);
      here = ap (λ n. part_of n step) (sym changed) ∙ ap (or_fault Index) (here-after old (out-Value old) step outer.0 inner.0 found stays);
      others = λ other ne. ap (λ n. part_of n other) (sym changed) ∙ ap (or_fault Index) (there-after old (out-Value old) step other outer.0 inner.0 found stays ne);
    }

-- ---- stores

pub stored-loaded : (shape : Shape) (old new value : Value) (path : List Sel) → stored_at shape old path value ≡ Ok new
    → loaded_at new path ≡ with_ok (shape_at shape old path) (λ place. fitted_in place value)
stored-loaded shape old new value [] is = sym is
stored-loaded shape old new value (step ∷ path) is =
    let s = step-of shape old new step path value is in
    ap (λ r. with_ok r (λ part. loaded_at part path)) s.here
    ∙ stored-loaded s.part.shape s.part.value s.held value path s.stored
    ∙ ap (λ f. with_ok (with_ok (or_fault Index f) (λ part. shape_at part.shape part.value path)) (λ place. fitted_in place value)) (sym s.found)

pub others-stay : (shape : Shape) (old new value : Value) (path other : List Sel) → stored_at shape old path value ≡ Ok new
    → ((rest : List Sel) → other ≢ path ++ rest) → ((rest : List Sel) → path ≢ other ++ rest) → loaded_at new other ≡ loaded_at old other
others-stay shape old new value [] other is after before = absurd (after other refl)
others-stay shape old new value (step ∷ path) [] is after before = absurd (before (step ∷ path) refl)
others-stay shape old new value (step ∷ path) (turn ∷ other) is after before =
    let s = step-of shape old new step path value is in
    elim (same-step turn step) [
      | inr ne ↦ ap (λ r. with_ok r (λ part. loaded_at part other)) (s.others turn ne)
      | inl same ↦
          ap (λ turn'. with_ok (part_of new turn') (λ part. loaded_at part other)) same
          ∙ ap (λ r. with_ok r (λ part. loaded_at part other)) s.here
          ∙ others-stay s.part.shape s.part.value s.held value path other s.stored (λ rest e. after rest (ap (λ t. t ∷ other) same ∙ ap (λ p. step ∷ p) e)) (λ rest e. before rest (ap (λ p. step ∷ p) e ∙ ap (λ t. t ∷ (other ++ rest)) (sym same)))
          ∙ ap (λ r. with_ok r (λ part. loaded_at part other)) (sym s.before)
          ∙ ap (λ turn'. with_ok (part_of old turn') (λ part. loaded_at part other)) (sym same)
    ]
