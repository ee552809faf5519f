-- Laws of the rules of operators.
use Rattle.std.specs.Prelude.{◌≡◌, false}
use Rattle.sr_types.specs.declared.typed.Outcome.{Outcome}
use Rattle.sr_types.specs.declared.typed.Outcome.TheVariants.{Broken, Met}
use Rattle.sr_types.specs.declared.typed.Static.TheVariants.{Known}
use Rattle.sr_types.specs.declared.typed.Typed.{Typed}
use Rattle.sr_types.specs.Operators.{binary_rule, unary_rule}
use Rattle.sr_types.specs.Outcomes.{found}
use Rattle.sr_types.specs.declared.ty.Ty.TheVariants.{Untyped}
use Rattle.sr_types.specs.Types.{is_no_type}
use Rattle.sr_value.specs.declared.operator.Operator.{Operator}
use Rattle.sr_value.specs.declared.value.Value.{Value}
use Rattle.sr_value.specs.Operators.{value_of, value_of_one}

-- the whole has a type, where there is one
abbrev pub IsTyped : Outcome → Type 0
IsTyped outcome = (whole : Typed) → outcome ≡ Met whole → is_no_type whole.ty ≡ false

-- the whole of an operator has a type, whatever its operands have
pub record WholesAreTyped : Type 0 where
  pub between : (op : Operator) (a b : Typed) → IsTyped (binary_rule op a b)
  pub before : (op : Operator) (a : Typed) → IsTyped (unary_rule op a)

-- the static value of an expression is the result of its operator on the static values of its operands
pub record ValuesOfParts : Type 0 where
  pub between : (op : Operator) (a b whole : Typed) (left right : Value) → a.value ≡ Known left → b.value ≡ Known right → binary_rule op a b ≡ Met whole → whole.value ≡ found (value_of op left right)
  pub before : (op : Operator) (a whole : Typed) (operand : Value) → a.value ≡ Known operand → unary_rule op a ≡ Met whole → whole.value ≡ found (value_of_one op operand)

-- the same expression, of which no type is known
abbrev pub untyped : Typed → Typed
untyped a = record a { ty = Untyped }

-- a rule that is broken by an operand of no type is broken whatever its type
pub record RefusesOnce : Type 0 where
  pub left : (op : Operator) (a b : Typed) → binary_rule op (untyped a) b ≡ Broken → binary_rule op a b ≡ Broken
  pub right : (op : Operator) (a b : Typed) → binary_rule op a (untyped b) ≡ Broken → binary_rule op a b ≡ Broken
  pub sole : (op : Operator) (a : Typed) → unary_rule op (untyped a) ≡ Broken → unary_rule op a ≡ Broken
