use Rattle.sr_run.proofs.OneCause.{one_cause}
use Rattle.sr_run.proofs.laws.one_cause.Goals as goal

pub returns : goal.returns
returns c = one_cause
