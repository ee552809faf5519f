use Rattle.sr_shard.proofs.ShardLemmas.{joining_undoes_dividing}
use Rattle.sr_shard.proofs.shard_laws.joining_undoes_dividing.Goals as goal

pub returns : goal.returns
returns c = joining_undoes_dividing
