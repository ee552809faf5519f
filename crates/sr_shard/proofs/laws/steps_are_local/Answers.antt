use Rattle.sr_shard.proofs.LocalStepLemmas.{steps_are_local}
use Rattle.sr_shard.proofs.laws.steps_are_local.Goals as goal

pub returns : goal.returns
returns c = steps_are_local
