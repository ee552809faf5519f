use Rattle.sr_world.proofs.LawProofs.{serviced_once}
use Rattle.sr_world.proofs.run_laws.invocations_are_serviced_once.Goals as goal

pub returns : goal.returns
returns c = serviced_once
