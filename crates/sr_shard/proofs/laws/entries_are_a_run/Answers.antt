use Rattle.sr_shard.proofs.RunLemmas.{entries_are_a_run}
use Rattle.sr_shard.proofs.laws.entries_are_a_run.Goals as goal

pub returns : goal.returns
returns c = entries_are_a_run
