-- The texts of values, as `write` and `string` give them.
use Rattle.std.specs.Prelude.{ℕ, Bool, true, false, List, [], ◌∷◌, Option, Some, None, slice_get, codes, unwrap_or}
use Rattle.std.specs.Option.{option_and_then}
use Rattle.std.specs.Fmt.{signed_decimal}
use Rattle.sr_value.specs.declared.capability.Cap.{Cap}
use Rattle.sr_value.specs.declared.capability.Cap.TheVariants.{Null, Noop, Op, Res, Vm}
use Rattle.sr_value.specs.declared.value.Value.{Value, out-Value}
use Rattle.sr_value.specs.declared.value.Value.TheOpen.{Value-F}

abbrev pub bool_name : Bool → List ℕ
bool_name true = codes "true"
bool_name false = codes "false"

-- all capabilities but `null` and `noop` have one text
abbrev pub cap_name : Cap → List ℕ
cap_name Null = codes "null"
cap_name Noop = codes "noop"
cap_name (Op owner op) = codes "cap"
cap_name (Res instance) = codes "cap"
cap_name (Vm machine) = codes "cap"

-- the literal `at` of the enumeration `ty`; where there is none, nothing
abbrev pub literal_name : List (List (List ℕ)) → ℕ → ℕ → List ℕ
literal_name names ty at = unwrap_or (option_and_then (λ literals. slice_get literals at) (slice_get names ty)) []

-- each type but its own text; records and arrays have none
abbrev pub layer_text : {A : Type 0} → List (List (List ℕ)) → Value-F A → Option (List ℕ)
layer_text names (Value-F.Int number) = Some (signed_decimal number)
layer_text names (Value-F.Bool truth) = Some (bool_name truth)
layer_text names (Value-F.Char byte) = Some (byte ∷ [])
layer_text names (Value-F.Enum ty at) = Some (literal_name names ty at)
layer_text names (Value-F.Str bytes) = Some bytes
layer_text names (Value-F.Rec fields) = None
layer_text names (Value-F.Arr dims items) = None
layer_text names (Value-F.Capa cap) = Some (cap_name cap)

-- the text of a value, where it has one
abbrev pub value_text : List (List (List ℕ)) → Value → Option (List ℕ)
value_text names v = layer_text names (out-Value v)
