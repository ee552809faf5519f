use Rattle.sr_execute.proofs.Meant.{carried_out}
use Rattle.sr_execute.proofs.laws.instructions_are_carried_out.Goals as goal

pub returns : goal.returns
returns c = carried_out
