-- By what the operator wants of its operands.
use Rattle.sr_types.proofs.OperatorLemmas.{binary_with-left, binary_with-right, unary_with-sole}
use Rattle.sr_types.specs.Operators.{operands_wanted, operand_wanted}
use Rattle.sr_types.proofs.laws.refuses_once.Goals as goal

pub returns : goal.returns
returns c = record {
  left = λ op a b e. binary_with-left (operands_wanted op) op a b e;
  right = λ op a b e. binary_with-right (operands_wanted op) op a b e;
  sole = λ op a e. unary_with-sole (operand_wanted op) op a e;
}
