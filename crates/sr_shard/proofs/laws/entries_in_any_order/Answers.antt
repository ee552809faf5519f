use Rattle.sr_shard.proofs.LawProofs as law
use Rattle.sr_shard.proofs.laws.entries_in_any_order.Goals as goal

pub returns : goal.returns
returns c = law.entries_in_any_order
