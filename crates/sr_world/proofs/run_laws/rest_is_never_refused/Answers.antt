use Rattle.sr_world.proofs.LawProofs.{rest_is_never_refused}
use Rattle.sr_world.proofs.run_laws.rest_is_never_refused.Goals as goal

pub returns : goal.returns
returns c = rest_is_never_refused
