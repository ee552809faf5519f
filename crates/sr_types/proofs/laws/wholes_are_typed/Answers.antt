-- By what the operator wants of its operands.
use Rattle.sr_types.proofs.OperatorLemmas.{binary_with-typed, unary_with-typed}
use Rattle.sr_types.specs.Operators.{operands_wanted, operand_wanted}
use Rattle.sr_types.proofs.laws.wholes_are_typed.Goals as goal

pub returns : goal.returns
returns c = record {
  between = λ op a b whole e. binary_with-typed (operands_wanted op) op a b whole e;
  before = λ op a whole e. unary_with-typed (operand_wanted op) op a whole e;
}
