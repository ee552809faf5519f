-- What a value is as an operand: of each type, the content of a value of that type.
use Rattle.std.specs.Prelude.{ℕ, ℤ, Bool, List, [], ◌∷◌, Option, Some, None, ◌==◌, if◌then◌else◌}
use Rattle.sr_value.specs.declared.capability.Cap.{Cap}
use Rattle.sr_value.specs.declared.value.Value.{Value, out-Value}
use Rattle.sr_value.specs.declared.value.Value.TheOpen.{Value-F}

abbrev pub layer_int : {A : Type 0} → Value-F A → Option ℤ
layer_int (Value-F.Int number) = Some number
layer_int _ = None

abbrev pub layer_bool : {A : Type 0} → Value-F A → Option Bool
layer_bool (Value-F.Bool truth) = Some truth
layer_bool _ = None

abbrev pub layer_char : {A : Type 0} → Value-F A → Option ℕ
layer_char (Value-F.Char byte) = Some byte
layer_char _ = None

abbrev pub layer_literal : {A : Type 0} → ℕ → Value-F A → Option ℕ
layer_literal of (Value-F.Enum ty at) = if ty == of then Some at else None
layer_literal of _ = None

abbrev pub layer_str : {A : Type 0} → Value-F A → Option (List ℕ)
layer_str (Value-F.Str bytes) = Some bytes
layer_str _ = None

abbrev pub layer_bytes : {A : Type 0} → Value-F A → Option (List ℕ)
layer_bytes (Value-F.Str bytes) = Some bytes
layer_bytes (Value-F.Char byte) = Some (byte ∷ [])
layer_bytes _ = None

abbrev pub layer_cap : {A : Type 0} → Value-F A → Option Cap
layer_cap (Value-F.Capa cap) = Some cap
layer_cap _ = None

-- the number of an `int`
abbrev pub int_in : Value → Option ℤ
int_in v = layer_int (out-Value v)

-- the truth of a `bool`
abbrev pub bool_in : Value → Option Bool
bool_in v = layer_bool (out-Value v)

-- the byte of a `char`
abbrev pub char_in : Value → Option ℕ
char_in v = layer_char (out-Value v)

-- the place of a literal of the enumeration `of`
abbrev pub literal_in : ℕ → Value → Option ℕ
literal_in of v = layer_literal of (out-Value v)

-- the bytes of a string
abbrev pub text_in : Value → Option (List ℕ)
text_in v = layer_str (out-Value v)

-- what `||` joins: the bytes of a string, or the one byte of a `char`
abbrev pub bytes_in : Value → Option (List ℕ)
bytes_in v = layer_bytes (out-Value v)

-- a capability, of whatever kind: as operands all are of one type
abbrev pub cap_in : Value → Option Cap
cap_in v = layer_cap (out-Value v)
