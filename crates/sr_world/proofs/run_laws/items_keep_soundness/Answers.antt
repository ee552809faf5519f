use Rattle.sr_world.proofs.LawProofs.{items_keep_soundness}
use Rattle.sr_world.proofs.run_laws.items_keep_soundness.Goals as goal

pub returns : goal.returns
returns c = items_keep_soundness
