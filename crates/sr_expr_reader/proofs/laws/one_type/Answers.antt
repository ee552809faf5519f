-- The law of the grammar follows from the readers, which give one answer.
use Rattle.sr_expr_reader.proofs.TypeLaws.{one-type}
use Rattle.sr_expr_reader.proofs.laws.one_type.Goals as goal

pub returns : goal.returns
returns c = one-type
