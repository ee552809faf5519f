-- By what the operator wants of its operands.
use Rattle.std.proofs.Common.{ap, ◌∙◌}
use Rattle.sr_types.proofs.OperatorLemmas.{binary_with-value, unary_with-value}
use Rattle.sr_types.specs.declared.typed.Static.{Static}
use Rattle.sr_types.specs.declared.typed.Static.TheVariants.{Known}
use Rattle.sr_types.specs.Operators.{operands_wanted, operand_wanted}
use Rattle.sr_types.specs.Statics.{static_of_two, static_of_one}
use Rattle.sr_types.proofs.laws.values_of_parts.Goals as goal

pub returns : goal.returns
returns c = record {
  between = λ op a b whole left right p q e.
      binary_with-value (operands_wanted op) op a b whole e
      ∙ ap (λ (s : Static). static_of_two op s b.value) p
      ∙ ap (λ (s : Static). static_of_two op (Known left) s) q;
  before = λ op a whole operand p e. unary_with-value (operand_wanted op) op a whole e ∙ ap (λ (s : Static). static_of_one op s) p;
}
