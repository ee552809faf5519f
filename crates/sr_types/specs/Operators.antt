-- The types of operators: what the operands have to be, and what the whole is.
use Rattle.std.specs.Prelude.{Bool, ◌&&◌, ◌||◌, Option, Some, None}
use Rattle.sr_types.specs.declared.operators.Operand.{Operand}
use Rattle.sr_types.specs.declared.operators.Operand.TheVariants.{Number, Condition}
use Rattle.sr_types.specs.declared.operators.Operands.{Operands}
use Rattle.sr_types.specs.declared.operators.Operands.TheVariants.{Bools, Comparable, Ordered, Ints, Texts}
use Rattle.sr_types.specs.declared.typed.Outcome.{Outcome}
use Rattle.sr_types.specs.declared.typed.Outcome.TheVariants.{Broken}
use Rattle.sr_types.specs.declared.typed.Typed.{Typed}
use Rattle.sr_types.specs.Kinds.{may_be_int, may_be_bool, may_be_text, may_be_ordered, may_be_compared}
use Rattle.sr_types.specs.Outcomes.{met_if, computed}
use Rattle.sr_types.specs.Statics.{static_of_two, static_of_one}
use Rattle.sr_types.specs.declared.ty.Ty.{Ty}
use Rattle.sr_types.specs.declared.ty.Ty.TheVariants.{Int, Bool as Truth, Str}
use Rattle.sr_types.specs.Types.{fits_type}
use Rattle.sr_value.specs.declared.operator.Operator.{Operator}
use Rattle.sr_value.specs.declared.operator.Operator.TheVariants.{Or, Xor, And, Eq, Ne, Lt, Le, Gt, Ge, Add, Sub, Join, Mul, Div, Rem, Mod, Minus, Plus, Not}

-- the column of operands of the table of operators
abbrev pub operands_wanted : Operator → Option Operands
operands_wanted Or = Some Bools
operands_wanted Xor = Some Bools
operands_wanted And = Some Bools
operands_wanted Eq = Some Comparable
operands_wanted Ne = Some Comparable
operands_wanted Lt = Some Ordered
operands_wanted Le = Some Ordered
operands_wanted Gt = Some Ordered
operands_wanted Ge = Some Ordered
operands_wanted Add = Some Ints
operands_wanted Sub = Some Ints
operands_wanted Join = Some Texts
operands_wanted Mul = Some Ints
operands_wanted Div = Some Ints
operands_wanted Rem = Some Ints
operands_wanted Mod = Some Ints
operands_wanted Minus = None
operands_wanted Plus = None
operands_wanted Not = None

abbrev pub operand_wanted : Operator → Option Operand
operand_wanted Minus = Some Number
operand_wanted Plus = Some Number
operand_wanted Not = Some Condition
operand_wanted _ = None

-- comparisons take operands of one type; `null` and `noop` are of every capability type
abbrev pub are_taken : Operands → Ty → Ty → Bool
are_taken Bools a b = may_be_bool a && may_be_bool b
are_taken Comparable a b = may_be_compared a && (may_be_compared b && (fits_type a b || fits_type b a))
are_taken Ordered a b = may_be_ordered a && (may_be_ordered b && fits_type a b)
are_taken Ints a b = may_be_int a && may_be_int b
are_taken Texts a b = may_be_text a && may_be_text b

abbrev pub is_taken : Operand → Ty → Bool
is_taken Number a = may_be_int a
is_taken Condition a = may_be_bool a

-- the type of the whole
abbrev pub whole_type : Operands → Ty
whole_type Bools = Truth
whole_type Comparable = Truth
whole_type Ordered = Truth
whole_type Ints = Int
whole_type Texts = Str

-- the whole is of the operand's type
abbrev pub operand_type : Operand → Ty
operand_type Number = Int
operand_type Condition = Truth

abbrev pub binary_with : Option Operands → Operator → Typed → Typed → Outcome
binary_with None op a b = Broken
binary_with (Some operands) op a b = met_if (are_taken operands a.ty b.ty) (computed (whole_type operands) (static_of_two op a.value b.value))

-- an operator between two operands
abbrev pub binary_rule : Operator → Typed → Typed → Outcome
binary_rule op a b = binary_with (operands_wanted op) op a b

abbrev pub unary_with : Option Operand → Operator → Typed → Outcome
unary_with None op a = Broken
unary_with (Some operand) op a = met_if (is_taken operand a.ty) (computed (operand_type operand) (static_of_one op a.value))

-- an operator before its operand
abbrev pub unary_rule : Operator → Typed → Outcome
unary_rule op a = unary_with (operand_wanted op) op a
