-- The values and faults of SR's operators, one line for each, over whole numbers without bound.
use Rattle.std.specs.Prelude.{ℕ, ℤ, pos, negsuc, neg_ℤ, ◌+ℤ◌, ◌-ℤ◌, ◌*ℤ◌, Bool, true, false, not, ◌&&◌, ◌||◌, List, ◌++◌, length, Option, Some, None, Result, Ok, Err, ◌==◌, nat_lt, nat_le, if◌then◌else◌, option_map, unsigned_abs, ◌≡◌, ⊤, bytes_eq}
use Rattle.std.specs.Ordering.{nat_cmp, int_cmp, int_eq, is_lt, is_le, is_gt, is_ge}
use Rattle.std.specs.Cmp.Lexicographic.{slice_cmp}
use Rattle.std.specs.declared.cmp.Ordering.{Ordering}
use Rattle.sr_value.specs.declared.capability.Cap.{Cap}
use Rattle.sr_value.specs.declared.capability.Cap.TheVariants.{Null, Noop, Op, Res, Vm}
use Rattle.sr_value.specs.declared.capability.Owner.{Owner}
use Rattle.sr_value.specs.declared.capability.Owner.TheVariants.{Inst, Proc}
use Rattle.sr_value.specs.declared.fault.Fault.{Fault}
use Rattle.sr_value.specs.declared.fault.Fault.TheVariants.{Overflow, ZeroDivisor, StringLength, Range}
use Rattle.sr_value.specs.declared.fault.ValueFail.{ValueFail}
use Rattle.sr_value.specs.declared.fault.ValueFail.TheVariants.{Fault as a_fault, NoMemory as out_of_memory}
use Rattle.sr_value.specs.declared.operator.Operator.{Operator}
use Rattle.sr_value.specs.declared.operator.Operator.TheVariants.{Or, Xor, And, Eq, Ne, Lt, Le, Gt, Ge, Add, Sub, Join, Mul, Div, Rem, Mod, Minus, Plus, Not}
use Rattle.sr_value.specs.declared.value.Value.{Value, out-Value}
use Rattle.sr_value.specs.declared.value.Value.TheOpen.{Value-F}
use Rattle.sr_value.specs.declared.value.Value.TheVariants.{Int, Bool as Truth, Str}
use Rattle.sr_value.specs.Division.{cut_quotient, cut_rest, floor_rest}
use Rattle.sr_value.specs.Operands.{int_in, bool_in, char_in, literal_in, text_in, bytes_in, cap_in}

-- ---- what a call answers

-- the answer is what is meant: its value or its fault; out of memory is always allowed
abbrev pub Answers : {A : Type 0} → Result A ValueFail → Result A Fault → Type 0
Answers (Ok v) meant = meant ≡ Ok v
Answers (Err (a_fault fault)) meant = meant ≡ Err fault
Answers (Err out_of_memory) meant = ⊤

-- ---- results

-- an `int` has 32 bits
abbrev pub is_int : ℤ → Bool
is_int (pos n) = nat_lt n 2147483648
is_int (negsuc n) = nat_lt n 2147483648

-- a whole number as an `int`: E1 where it is none
abbrev pub int_result : ℤ → Result Value Fault
int_result z = if is_int z then Ok (Int z) else Err Overflow

-- the result of a division: E2 where the divisor is 0
abbrev pub over : ℤ → ℤ → Result Value Fault
over b z = if unsigned_abs b == 0 then Err ZeroDivisor else int_result z

-- a string has at most 65,535 bytes: E5 where it would have more
abbrev pub string_result : List ℕ → Result Value Fault
string_result bytes = if nat_le (length bytes) 65535 then Ok (Str bytes) else Err StringLength

-- a `bool`: E6 where the operands weren't the operator's
abbrev pub truth_result : Option Bool → Result Value Fault
truth_result (Some truth) = Ok (Truth truth)
truth_result None = Err Range

-- ---- operands: E6 where one hasn't the operator's type

abbrev pub on_one : {A : Type 0} → (A → Result Value Fault) → Option A → Result Value Fault
on_one f (Some x) = f x
on_one f None = Err Range

abbrev pub on_two : {A : Type 0} → (A → A → Result Value Fault) → Option A → Option A → Result Value Fault
on_two f (Some x) (Some y) = f x y
on_two f (Some x) None = Err Range
on_two f None y = Err Range

abbrev pub on_ints : (ℤ → ℤ → Result Value Fault) → Value → Value → Result Value Fault
on_ints f a b = on_two f (int_in a) (int_in b)

abbrev pub on_bools : (Bool → Bool → Bool) → Value → Value → Result Value Fault
on_bools f a b = on_two (λ x y. Ok (Truth (f x y))) (bool_in a) (bool_in b)

-- ---- truths and comparisons

abbrev pub bool_eq : Bool → Bool → Bool
bool_eq true y = y
bool_eq false y = not y

abbrev pub owner_eq : Owner → Owner → Bool
owner_eq (Inst x) (Inst y) = x == y
owner_eq (Proc x) (Proc y) = x == y
owner_eq _ _ = false

-- capabilities are equal where they are the same value
abbrev pub cap_eq : Cap → Cap → Bool
cap_eq Null Null = true
cap_eq Noop Noop = true
cap_eq (Op owner op) (Op owner' op') = owner_eq owner owner' && (op == op')
cap_eq (Res x) (Res y) = x == y
cap_eq (Vm x) (Vm y) = x == y
cap_eq _ _ = false

-- whether two operands of one type are equal; none where they aren't of one type, or are records or arrays
abbrev pub layer_equality : {A : Type 0} → Value-F A → Value → Option Bool
layer_equality (Value-F.Int x) b = option_map (int_eq x) (int_in b)
layer_equality (Value-F.Bool x) b = option_map (bool_eq x) (bool_in b)
layer_equality (Value-F.Char x) b = option_map (λ y. x == y) (char_in b)
layer_equality (Value-F.Enum ty x) b = option_map (λ y. x == y) (literal_in ty b)
layer_equality (Value-F.Str x) b = option_map (bytes_eq x) (text_in b)
layer_equality (Value-F.Capa x) b = option_map (cap_eq x) (cap_in b)
layer_equality _ b = None

abbrev pub equality_of : Value → Value → Option Bool
equality_of a b = layer_equality (out-Value a) b

-- the order of two operands of one ordered type: by number, strings by bytes
abbrev pub layer_order : {A : Type 0} → Value-F A → Value → Option Ordering
layer_order (Value-F.Int x) b = option_map (int_cmp x) (int_in b)
layer_order (Value-F.Char x) b = option_map (nat_cmp x) (char_in b)
layer_order (Value-F.Enum ty x) b = option_map (nat_cmp x) (literal_in ty b)
layer_order (Value-F.Str x) b = option_map (slice_cmp nat_cmp x) (text_in b)
layer_order _ b = None

abbrev pub order_of : Value → Value → Option Ordering
order_of a b = layer_order (out-Value a) b

abbrev pub compared : (Ordering → Bool) → Value → Value → Result Value Fault
compared test a b = truth_result (option_map test (order_of a b))

-- ---- the table

-- the value or fault of an operator between two operands
abbrev pub value_of : Operator → Value → Value → Result Value Fault
value_of Or a b = on_bools (λ x y. x || y) a b
value_of Xor a b = on_bools (λ x y. not (bool_eq x y)) a b
value_of And a b = on_bools (λ x y. x && y) a b
value_of Eq a b = truth_result (equality_of a b)
value_of Ne a b = truth_result (option_map not (equality_of a b))
value_of Lt a b = compared is_lt a b
value_of Le a b = compared is_le a b
value_of Gt a b = compared is_gt a b
value_of Ge a b = compared is_ge a b
value_of Add a b = on_ints (λ x y. int_result (x +ℤ y)) a b
value_of Sub a b = on_ints (λ x y. int_result (x -ℤ y)) a b
value_of Join a b = on_two (λ x y. string_result (x ++ y)) (bytes_in a) (bytes_in b)
value_of Mul a b = on_ints (λ x y. int_result (x *ℤ y)) a b
value_of Div a b = on_ints (λ x y. over y (cut_quotient x y)) a b
value_of Rem a b = on_ints (λ x y. over y (cut_rest x y)) a b
value_of Mod a b = on_ints (λ x y. over y (floor_rest x y)) a b
value_of Minus a b = Err Range
value_of Plus a b = Err Range
value_of Not a b = Err Range

-- the value or fault of an operator before its operand
abbrev pub value_of_one : Operator → Value → Result Value Fault
value_of_one Minus a = on_one (λ x. int_result (neg_ℤ x)) (int_in a)
value_of_one Plus a = on_one (λ x. int_result x) (int_in a)
value_of_one Not a = on_one (λ x. Ok (Truth (not x))) (bool_in a)
value_of_one _ a = Err Range
