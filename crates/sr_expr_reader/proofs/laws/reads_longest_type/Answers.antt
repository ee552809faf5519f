-- The laws of the readers of types.
use Rattle.sr_expr_reader.proofs.TypeLaws.{longest-type, none-type, dead-type}
use Rattle.sr_expr_reader.proofs.laws.reads_longest_type.Goals as goal

pub returns : goal.returns
returns c = record { longest = longest-type; none = none-type; dead = dead-type }
