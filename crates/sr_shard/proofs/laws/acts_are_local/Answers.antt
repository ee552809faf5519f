use Rattle.sr_shard.proofs.LocalLemmas as local
use Rattle.sr_shard.proofs.laws.acts_are_local.Goals as goal

pub returns : goal.returns
returns c = λ core class. local.acts_are_local core class
