use Rattle.sr_world.proofs.LawProofs.{output_grows}
use Rattle.sr_world.proofs.run_laws.output_only_grows.Goals as goal

pub returns : goal.returns
returns c = output_grows
