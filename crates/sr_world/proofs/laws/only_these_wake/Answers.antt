use Rattle.sr_world.proofs.WakingLemmas.{still_not}
use Rattle.sr_world.proofs.laws.only_these_wake.Goals as goal

pub returns : goal.returns
returns c = still_not
