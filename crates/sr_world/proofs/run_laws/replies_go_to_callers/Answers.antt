use Rattle.sr_world.proofs.CalledLemmas.{replies_go_to_callers}
use Rattle.sr_world.proofs.run_laws.replies_go_to_callers.Goals as goal

pub returns : goal.returns
returns c = replies_go_to_callers
