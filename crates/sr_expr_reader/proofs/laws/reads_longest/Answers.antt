-- The laws of the readers.
use Rattle.sr_expr_reader.proofs.ExpressionLaws.{longest, none, dead}
use Rattle.sr_expr_reader.proofs.laws.reads_longest.Goals as goal

pub returns : goal.returns
returns c = record { longest = longest; none = none; dead = dead }
