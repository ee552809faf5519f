use Rattle.sr_replay.proofs.CrewLemmas.{keeps-same}
use Rattle.sr_replay.proofs.crew.sweep.Goals as goal

pub returns-else-len-saturating_add : goal.returns-else-len-saturating_add
returns-else-len-saturating_add g c = keeps-same c.args.world.now c.args.crew.now
