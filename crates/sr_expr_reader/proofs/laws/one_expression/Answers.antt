-- The law of the grammar follows from the readers, which give one answer.
use Rattle.sr_expr_reader.proofs.ExpressionLaws.{one-tree}
use Rattle.sr_expr_reader.proofs.laws.one_expression.Goals as goal

pub returns : goal.returns
returns c = one-tree
