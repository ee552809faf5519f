use Rattle.sr_world.proofs.OnceLemmas.{every_history_is_legal}
use Rattle.sr_world.proofs.run_laws.histories_are_legal.Goals as goal

pub returns : goal.returns
returns c = every_history_is_legal
