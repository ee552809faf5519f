-- The parts of a value, and what a place can hold.
use Rattle.std.specs.Prelude.{ℕ, ℤ, pos, ◌+◌, ◌*◌, ◌-ℤ◌, ◌&&◌, List, [], ◌∷◌, length, Option, Some, None, Result, Ok, Err, ◌==◌, nat_lt, nat_le, if◌then◌else◌, option_map, unwrap_or, slice_get, slice_set, unsigned_abs}
use Rattle.std.specs.Option.{option_and_then}
use Rattle.std.specs.Ordering.{int_cmp, is_le}
use Rattle.sr_value.specs.declared.fault.Fault.{Fault}
use Rattle.sr_value.specs.declared.fault.Fault.TheVariants.{Index, Shape as unequal, StringLength}
use Rattle.sr_value.specs.declared.shape.Dims.{Dims}
use Rattle.sr_value.specs.declared.shape.Dims.TheVariants.{One, Two}
use Rattle.sr_value.specs.declared.shape.Sel.{Sel}
use Rattle.sr_value.specs.declared.shape.Sel.TheVariants.{At, At2, Field}
use Rattle.sr_value.specs.declared.shape.Shape.{Shape, out-Shape}
use Rattle.sr_value.specs.declared.shape.Shape.TheFolds.{fold-Shape}
use Rattle.sr_value.specs.declared.shape.Shape.TheOpen.{Shape-F}
use Rattle.sr_value.specs.declared.shape.Shape.TheVariants.{Char as a_char}
use Rattle.sr_value.specs.declared.value.Value.{Value, out-Value}
use Rattle.sr_value.specs.declared.value.Value.TheOpen.{Value-F}
use Rattle.sr_value.specs.declared.value.Value.TheVariants.{Char, Str, Rec, Arr}
use Rattle.sr_value.specs.Operands.{char_in}
use Rattle.sr_value.specs.Shapes.{extent}

-- ---- results

abbrev pub or_fault : {A : Type 0} → Fault → Option A → Result A Fault
or_fault fault (Some a) = Ok a
or_fault fault None = Err fault

abbrev pub with_ok : {A B : Type 0} → Result A Fault → (A → Result B Fault) → Result B Fault
with_ok (Ok a) next = next a
with_ok (Err fault) next = Err fault

-- ---- indices

-- the place of an index among lo .. hi, counted from 0, where it is one of them
abbrev pub place_of : ℤ → ℤ → ℤ → Option ℕ
place_of lo hi index = if is_le (int_cmp lo index) && is_le (int_cmp index hi) then Some (unsigned_abs (index -ℤ lo)) else None

-- an item of the second dimension stands after all rows before its own
abbrev pub in_row : ℕ → Option ℕ → Option ℕ → Option ℕ
in_row width (Some row) (Some column) = Some (row * width + column)
in_row width (Some row) None = None
in_row width None column = None

-- where the item that a step selects stands among the items of an array
abbrev pub item_place : Dims → Sel → Option ℕ
item_place (One lo hi) (At index) = place_of lo hi index
item_place (Two lo hi lo2 hi2) (At2 row column) = in_row (extent lo2 hi2) (place_of lo hi row) (place_of lo2 hi2 column)
item_place _ _ = None

-- the place of a byte of a string, which are counted from 1
abbrev pub byte_place : List ℕ → Sel → Option ℕ
byte_place bytes (At index) = place_of (pos 1) (pos (length bytes)) index
byte_place bytes _ = None

abbrev pub field_place : Sel → Option ℕ
field_place (Field at) = Some at
field_place _ = None

-- ---- loads

-- the part that one step selects, where there is one
abbrev pub layer_part : Value-F Value → Sel → Option Value
layer_part (Value-F.Str bytes) step = option_map Char (option_and_then (slice_get bytes) (byte_place bytes step))
layer_part (Value-F.Rec fields) step = option_and_then (slice_get fields) (field_place step)
layer_part (Value-F.Arr dims items) step = option_and_then (slice_get items) (item_place dims step)
layer_part _ step = None

-- E3 where a step selects nothing
abbrev pub part_of : Value → Sel → Result Value Fault
part_of value step = or_fault Index (layer_part (out-Value value) step)

-- the value at the end of a path
abbrev pub loaded_at : Value → List Sel → Result Value Fault
loaded_at value [] = Ok value
loaded_at value (step ∷ path) = with_ok (part_of value step) (λ part. loaded_at part path)

-- ---- what a place can hold

abbrev pub all_fit : (Value → Result Value Fault) → List Value → Result (List Value) Fault
all_fit fit [] = Ok []
all_fit fit (value ∷ values) = with_ok (fit value) (λ first. with_ok (all_fit fit values) (λ rest. Ok (first ∷ rest)))

-- the fields of a record, each in its own place
abbrev pub each_fits : List (Value → Result Value Fault) → List Value → Result (List Value) Fault
each_fits [] [] = Ok []
each_fits (fit ∷ fits) (value ∷ values) = with_ok (fit value) (λ first. with_ok (each_fits fits values) (λ rest. Ok (first ∷ rest)))
each_fits _ _ = Err Index

-- E4 where the lengths differ
abbrev pub same_length : ℕ → ℕ → Result (Unit {0}) Fault
same_length place sent = if place == sent then Ok tt else Err unequal

-- dimension by dimension; E3 where their numbers differ
abbrev pub same_extents : Dims → Dims → Result (Unit {0}) Fault
same_extents (One lo hi) (One lo' hi') = same_length (extent lo hi) (extent lo' hi')
same_extents (Two lo hi lo2 hi2) (Two lo' hi' lo2' hi2') =
    with_ok (same_length (extent lo hi) (extent lo' hi')) (λ _. same_length (extent lo2 hi2) (extent lo2' hi2'))
same_extents _ _ = Err Index

-- What a place holds after a value was put in it: the value, with the bounds of the place. A string that is
-- too long is E5, arrays of other lengths are E4, and a value of another kind is E3. An array's own lengths
-- are looked at before its items.
abbrev pub fit_layer : Shape-F (Value → Result Value Fault) → Value → Value-F Value → Result Value Fault
fit_layer Shape-F.Int value (Value-F.Int number) = Ok value
fit_layer Shape-F.Bool value (Value-F.Bool truth) = Ok value
fit_layer Shape-F.Char value (Value-F.Char byte) = Ok value
fit_layer (Shape-F.Enum ty count) value (Value-F.Enum ty' at) = if (ty == ty') && nat_lt at count then Ok value else Err Index
fit_layer (Shape-F.Str most) value (Value-F.Str bytes) = if nat_le (length bytes) most then Ok value else Err StringLength
fit_layer (Shape-F.Rec fits) value (Value-F.Rec fields) = with_ok (each_fits fits fields) (λ held. Ok (Rec held))
fit_layer (Shape-F.Arr dims fit) value (Value-F.Arr dims' items) =
    with_ok (same_extents dims dims') (λ _. with_ok (all_fit fit items) (λ held. Ok (Arr dims held)))
fit_layer Shape-F.Capa value (Value-F.Capa cap) = Ok value
fit_layer _ value _ = Err Index

abbrev pub fitted_in : Shape → Value → Result Value Fault
fitted_in = fold-Shape (Value → Result Value Fault) (λ layer value. fit_layer layer value (out-Value value))

-- ---- stores

-- A part of a value: where it stands, what it is, and what its place can hold.
pub record Part_of : Type 0 where
  pub at : ℕ
  pub value : Value
  pub shape : Shape

abbrev pub some_part : ℕ → Option Value → Option Shape → Option Part_of
some_part at (Some value) (Some shape) = Some (record { at = at; value = value; shape = shape })
some_part at _ _ = None

abbrev pub part_at : Option ℕ → (ℕ → Option Value) → (ℕ → Option Shape) → Option Part_of
part_at None values shapes = None
part_at (Some at) values shapes = some_part at (values at) (shapes at)

-- the part that one step selects, where the value is of the kind of its place
abbrev pub layer_parts : Shape-F Shape → Value-F Value → Sel → Option Part_of
layer_parts (Shape-F.Str most) (Value-F.Str bytes) step = part_at (byte_place bytes step) (λ at. option_map Char (slice_get bytes at)) (λ at. Some a_char)
layer_parts (Shape-F.Rec shapes) (Value-F.Rec fields) step = part_at (field_place step) (slice_get fields) (slice_get shapes)
layer_parts (Shape-F.Arr dims item) (Value-F.Arr dims' items) step = part_at (item_place dims' step) (slice_get items) (λ at. Some item)
layer_parts _ _ step = None

-- the value with another part at a place
abbrev pub layer_with_part : Value → Value-F Value → ℕ → Value → Value
layer_with_part value (Value-F.Str bytes) at part = Str (slice_set bytes at (unwrap_or (char_in part) 0))
layer_with_part value (Value-F.Rec fields) at part = Rec (slice_set fields at part)
layer_with_part value (Value-F.Arr dims items) at part = Arr dims (slice_set items at part)
layer_with_part value _ at part = value

abbrev pub with_part : Value → ℕ → Value → Value
with_part value at part = layer_with_part value (out-Value value) at part

-- What a place of this shape that held `old` holds after a value was put at the end of a path in it. A path
-- that leads nowhere is E3, before the value is looked at.
abbrev pub stored_at : Shape → Value → List Sel → Value → Result Value Fault
stored_at shape old [] value = fitted_in shape value
stored_at shape old (step ∷ path) value =
    with_ok (or_fault Index (layer_parts (out-Shape shape) (out-Value old) step)) (λ part.
    with_ok (stored_at part.shape part.value path value) (λ held. Ok (with_part old part.at held)))
