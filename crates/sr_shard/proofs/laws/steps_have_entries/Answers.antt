use Rattle.sr_shard.proofs.WrittenLemmas.{steps_have_entries}
use Rattle.sr_shard.proofs.laws.steps_have_entries.Goals as goal

pub returns : goal.returns
returns c = steps_have_entries
