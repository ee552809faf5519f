use Rattle.sr_world.proofs.ClassLemmas.{classes_are_separate}
use Rattle.sr_world.proofs.run_laws.classes_are_separate.Goals as goal

pub returns : goal.returns
returns c = classes_are_separate
