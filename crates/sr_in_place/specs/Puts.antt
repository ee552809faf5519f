-- What a call that puts a value into a place leaves there.
use Rattle.std.specs.Prelude.{◌≡◌, ℕ, List, length, Option, Some, None, Result, Ok, Err, nat_lt, slice_get, slice_set, if◌then◌else◌}
use Rattle.std.specs.Option.{option_and_then}
use Rattle.sr_value.specs.declared.fault.Fault.{Fault}
use Rattle.sr_value.specs.declared.fault.Fault.TheVariants.{Index}
use Rattle.sr_value.specs.declared.shape.Sel.{Sel}
use Rattle.sr_value.specs.declared.shape.Shape.{Shape}
use Rattle.sr_value.specs.declared.shape.Shape.TheOpen.{Shape-F}
use Rattle.sr_value.specs.declared.shape.Shape.TheVariants.{Char as a_char}
use Rattle.sr_value.specs.declared.value.Value.{Value, out-Value}
use Rattle.sr_value.specs.declared.value.Value.TheOpen.{Value-F}
use Rattle.sr_value.specs.declared.value.Value.TheVariants.{Char}
use Rattle.sr_value.specs.Parts.{byte_place, layer_parts, or_fault, stored_at, with_ok, with_part}

-- the value or the values were given the bounds of their places, or one doesn't fit
abbrev pub Fitted : {A : Type 0} → Result (Unit {0}) Fault → A → Result A Fault → Type 0
Fitted (Ok done) new meant = meant ≡ Ok new
Fitted (Err fault) new meant = meant ≡ Err fault

-- what was meant is there now, or there is this fault and all is as before
abbrev pub Wrote : {A : Type 0} → Result (Unit {0}) Fault → A → A → Result A Fault → Type 0
Wrote (Ok done) old new meant = meant ≡ Ok new
Wrote (Err fault) old new meant = (meant ≡ Err fault) × (new ≡ old)

-- whether something can be done, or its fault
abbrev pub outcome : {A : Type 0} → Result A Fault → Result (Unit {0}) Fault
outcome (Ok done) = Ok tt
outcome (Err fault) = Err fault

-- the items after a value was put at the end of a path in one of them
abbrev pub item_stored : Shape → List Value → ℕ → List Sel → Value → Result (List Value) Fault
item_stored shape items spot path value =
    with_ok (or_fault Index (slice_get items spot)) (λ old. with_ok (stored_at shape old path value) (λ held. Ok (slice_set items spot held)))

-- ---- chars of strings

abbrev pub layer_length : Value-F Value → ℕ
layer_length (Value-F.Str bytes) = length bytes
layer_length _ = 0

-- how many bytes a string has; other values have none
abbrev pub byte_count : Value → ℕ
byte_count value = layer_length (out-Value value)

-- where the byte stands that a step selects, where there is one
abbrev pub layer_spot : Value-F Value → Sel → Option ℕ
layer_spot (Value-F.Str bytes) step = option_and_then (λ at. if nat_lt at (length bytes) then Some at else None) (byte_place bytes step)
layer_spot _ step = None

-- what is left of a path leads to a char, and the value is this one; or there is this fault
abbrev pub IsCharStored : List Sel → Value → Result ℕ Fault → Type 0
IsCharStored path value (Ok byte) = (old : ℕ) → stored_at a_char (Char old) path value ≡ Ok (Char byte)
IsCharStored path value (Err fault) = (old : ℕ) → stored_at a_char (Char old) path value ≡ Err fault

-- a store of a char of a string, which its longest length doesn't matter to
abbrev pub char_stored : Value → Sel → List Sel → Value → Result Value Fault
char_stored old step path value =
    with_ok (or_fault Index (layer_parts (Shape-F.Str 0) (out-Value old) step)) (λ part.
    with_ok (stored_at part.shape part.value path value) (λ held. Ok (with_part old part.at held)))
