use Rattle.sr_code.proofs.Lowering.{instructions_lower}
use Rattle.sr_code.proofs.laws.instructions_fall.Goals as goal

pub returns : goal.returns
returns c = instructions_lower
