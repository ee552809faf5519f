-- The values and faults of the predefined functions that are functions of values alone.
use Rattle.std.specs.Prelude.{ℕ, ◌+◌, ◌-◌, ℤ, pos, negsuc, ◌+ℤ◌, ◌-ℤ◌, Bool, true, false, ◌&&◌, List, length, Option, Some, None, Result, Ok, Err, nat_lt, if◌then◌else◌, int_le, unsigned_abs}
use Rattle.std.specs.Int.{int_min, int_max}
use Rattle.std.specs.Str.{all_ascii_digits}
use Rattle.std.specs.Str.Parse.{without_leading_sign, signed_digits_value}
use Rattle.sr_value.specs.declared.fault.Fault.{Fault}
use Rattle.sr_value.specs.declared.fault.Fault.TheVariants.{Range}
use Rattle.sr_value.specs.declared.predefined.Dimension.{Dimension}
use Rattle.sr_value.specs.declared.predefined.Dimension.TheVariants.{First, Second}
use Rattle.sr_value.specs.declared.shape.Dims.{Dims}
use Rattle.sr_value.specs.declared.shape.Dims.TheVariants.{One, Two}
use Rattle.sr_value.specs.declared.shape.Shape.{Shape, out-Shape}
use Rattle.sr_value.specs.declared.shape.Shape.TheOpen.{Shape-F}
use Rattle.sr_value.specs.declared.value.Value.{Value, out-Value}
use Rattle.sr_value.specs.declared.value.Value.TheOpen.{Value-F}
use Rattle.sr_value.specs.declared.value.Value.TheVariants.{Int, Bool as Truth, Char, Enum, Str}
use Rattle.sr_value.specs.Operands.{int_in, text_in}
use Rattle.sr_value.specs.Operators.{is_int, int_result, on_one, on_ints}
use Rattle.sr_value.specs.Texts.{value_text}

-- a value, where it is in the range of its type; else E6
abbrev pub ranged : Bool → Value → Result Value Fault
ranged true v = Ok v
ranged false v = Err Range

-- ---- numbers

-- `abs(i)`
abbrev pub absolute_value : Value → Result Value Fault
absolute_value a = on_one (λ x. int_result (pos (unsigned_abs x))) (int_in a)

-- `min(i, j)`
abbrev pub least_value : Value → Value → Result Value Fault
least_value a b = on_ints (λ x y. Ok (Int (int_min x y))) a b

-- `max(i, j)`
abbrev pub greatest_value : Value → Value → Result Value Fault
greatest_value a b = on_ints (λ x y. Ok (Int (int_max x y))) a b

-- ---- the ends of types

abbrev pub layer_lowest : {A : Type 0} → Shape-F A → Result Value Fault
layer_lowest Shape-F.Int = Ok (Int (negsuc 2147483647))
layer_lowest Shape-F.Bool = Ok (Truth false)
layer_lowest Shape-F.Char = Ok (Char 0)
layer_lowest (Shape-F.Enum ty count) = Ok (Enum ty 0)
layer_lowest _ = Err Range

abbrev pub layer_highest : {A : Type 0} → Shape-F A → Result Value Fault
layer_highest Shape-F.Int = Ok (Int (pos 2147483647))
layer_highest Shape-F.Bool = Ok (Truth true)
layer_highest Shape-F.Char = Ok (Char 255)
layer_highest (Shape-F.Enum ty count) = Ok (Enum ty (count - 1))
layer_highest _ = Err Range

-- `low(T)` of the type of a place
abbrev pub lowest_value : Shape → Result Value Fault
lowest_value shape = layer_lowest (out-Shape shape)

-- `high(T)` of the type of a place
abbrev pub highest_value : Shape → Result Value Fault
highest_value shape = layer_highest (out-Shape shape)

-- ---- the next value and the one before; an enumeration has `literals` literals

abbrev pub layer_successor : {A : Type 0} → ℕ → Value-F A → Result Value Fault
layer_successor literals (Value-F.Int x) = ranged (is_int (x +ℤ pos 1)) (Int (x +ℤ pos 1))
layer_successor literals (Value-F.Char x) = ranged (nat_lt (x + 1) 256) (Char (x + 1))
layer_successor literals (Value-F.Enum ty x) = ranged (nat_lt (x + 1) literals) (Enum ty (x + 1))
layer_successor literals _ = Err Range

abbrev pub layer_predecessor : {A : Type 0} → Value-F A → Result Value Fault
layer_predecessor (Value-F.Int x) = ranged (is_int (x -ℤ pos 1)) (Int (x -ℤ pos 1))
layer_predecessor (Value-F.Char x) = ranged (nat_lt 0 x) (Char (x - 1))
layer_predecessor (Value-F.Enum ty x) = ranged (nat_lt 0 x) (Enum ty (x - 1))
layer_predecessor _ = Err Range

-- `succ(x)`
abbrev pub next_value : ℕ → Value → Result Value Fault
next_value literals v = layer_successor literals (out-Value v)

-- `pred(x)`
abbrev pub previous_value : Value → Result Value Fault
previous_value v = layer_predecessor (out-Value v)

-- ---- bounds and lengths

abbrev pub lower_end : Dims → Dimension → Option ℤ
lower_end (One lo hi) First = Some lo
lower_end (One lo hi) Second = None
lower_end (Two lo hi lo2 hi2) First = Some lo
lower_end (Two lo hi lo2 hi2) Second = Some lo2

abbrev pub upper_end : Dims → Dimension → Option ℤ
upper_end (One lo hi) First = Some hi
upper_end (One lo hi) Second = None
upper_end (Two lo hi lo2 hi2) First = Some hi
upper_end (Two lo hi lo2 hi2) Second = Some hi2

abbrev pub layer_lower : {A : Type 0} → Value-F A → Dimension → Result Value Fault
layer_lower (Value-F.Arr dims items) dimension = on_one (λ lo. Ok (Int lo)) (lower_end dims dimension)
layer_lower _ dimension = Err Range

abbrev pub layer_upper : {A : Type 0} → Value-F A → Dimension → Result Value Fault
layer_upper (Value-F.Arr dims items) dimension = on_one (λ hi. Ok (Int hi)) (upper_end dims dimension)
layer_upper _ dimension = Err Range

-- `lb(a)` and `lb(a, 2)`
abbrev pub lower_value : Value → Dimension → Result Value Fault
lower_value v dimension = layer_lower (out-Value v) dimension

-- `ub(a)` and `ub(a, 2)`
abbrev pub upper_value : Value → Dimension → Result Value Fault
upper_value v dimension = layer_upper (out-Value v) dimension

-- `length(s)`
abbrev pub length_value : Value → Result Value Fault
length_value v = on_one (λ bytes. int_result (pos (length bytes))) (text_in v)

-- ---- conversions

-- the number that a text writes: an optional sign, then one decimal digit or more, in the range of `int`
abbrev pub written_int : List ℕ → Option ℤ
written_int bytes =
    if nat_lt 0 (length (without_leading_sign bytes)) && all_ascii_digits (without_leading_sign bytes) && is_int (signed_digits_value 10 bytes)
    then Some (signed_digits_value 10 bytes) else None

abbrev pub layer_number : {A : Type 0} → Value-F A → Result Value Fault
layer_number (Value-F.Bool true) = Ok (Int (pos 1))
layer_number (Value-F.Bool false) = Ok (Int (pos 0))
layer_number (Value-F.Char byte) = Ok (Int (pos byte))
layer_number (Value-F.Enum ty at) = ranged (is_int (pos at)) (Int (pos at))
layer_number (Value-F.Str bytes) = on_one (λ x. Ok (Int x)) (written_int bytes)
layer_number _ = Err Range

-- `int(x)`
abbrev pub number_value : Value → Result Value Fault
number_value v = layer_number (out-Value v)

-- `char(i)`
abbrev pub char_value : Value → Result Value Fault
char_value v = on_one (λ x. ranged (int_le (pos 0) x && int_le x (pos 255)) (Char (unsigned_abs x))) (int_in v)

-- `string(x)`
abbrev pub string_value : List (List (List ℕ)) → Value → Result Value Fault
string_value names v = on_one (λ bytes. Ok (Str bytes)) (value_text names v)
