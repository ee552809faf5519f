use Rattle.sr_shard.proofs.ShardLemmas.{shards_have_a_history}
use Rattle.sr_shard.proofs.shard_laws.shards_have_a_history.Goals as goal

pub returns : goal.returns
returns c = shards_have_a_history
