use Rattle.sr_world.proofs.LawProofs.{answered_once}
use Rattle.sr_world.proofs.run_laws.calls_are_answered_once.Goals as goal

pub returns : goal.returns
returns c = answered_once
