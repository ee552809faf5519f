use Rattle.sr_world.proofs.PieceLemmas.{items_give_the_run}
use Rattle.sr_world.proofs.run_laws.items_give_the_run.Goals as goal

pub returns : goal.returns
returns c = items_give_the_run
