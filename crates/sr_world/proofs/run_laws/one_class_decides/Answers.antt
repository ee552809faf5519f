use Rattle.sr_world.proofs.WakingLemmas.{one_class_decides}
use Rattle.sr_world.proofs.run_laws.one_class_decides.Goals as goal

pub returns : goal.returns
returns c = one_class_decides
