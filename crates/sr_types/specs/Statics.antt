-- What is known before the run of the values of expressions: an expression is static where all its parts are. Its value
-- or fault is then the result of its operator on the values of its parts.
use Rattle.std.specs.Prelude.{Bool, false, not, if◌then◌else◌}
use Rattle.std.specs.Option.{option_map_or}
use Rattle.sr_types.specs.declared.typed.Static.{Static}
use Rattle.sr_types.specs.declared.typed.Static.TheVariants.{Unknown, Known, Faults}
use Rattle.sr_types.specs.Outcomes.{found}
use Rattle.sr_value.specs.declared.fault.Fault.{Fault}
use Rattle.sr_value.specs.declared.operator.Operator.{Operator}
use Rattle.sr_value.specs.declared.operator.Operator.TheVariants.{And, Or}
use Rattle.sr_value.specs.declared.value.Value.{Value}
use Rattle.sr_value.specs.Operands.{bool_in}
use Rattle.sr_value.specs.Operators.{value_of, value_of_one}

-- `and` doesn't evaluate its right side after false, nor `or` after true: the left side is the value
abbrev pub decided : Operator → Value → Bool
decided And left = option_map_or not (bool_in left) false
decided Or left = option_map_or (λ truth. truth) (bool_in left) false
decided _ left = false

-- the fault of a left side, where the right side is static too
abbrev pub static_beside : Fault → Static → Static
static_beside fault Unknown = Unknown
static_beside fault _ = Faults fault

-- an operator between two operands
abbrev pub static_of_two : Operator → Static → Static → Static
static_of_two op Unknown b = Unknown
static_of_two op (Faults fault) b = static_beside fault b
static_of_two op (Known left) Unknown = Unknown
static_of_two op (Known left) (Faults fault) = if decided op left then Known left else Faults fault
static_of_two op (Known left) (Known right) = found (value_of op left right)

-- an operator before its operand
abbrev pub static_of_one : Operator → Static → Static
static_of_one op Unknown = Unknown
static_of_one op (Faults fault) = Faults fault
static_of_one op (Known operand) = found (value_of_one op operand)
