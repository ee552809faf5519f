use Rattle.sr_shard.proofs.LawProofs.{journals_in_parts}
use Rattle.sr_shard.proofs.laws.journals_are_a_history.Goals as goal

pub returns : goal.returns
returns c = journals_in_parts
