use Rattle.sr_buckets.proofs.PartLemmas.{same-parts}
use Rattle.sr_buckets.proofs.laws.parts_are_a_map.Goals as goal

pub returns : goal.returns
returns c = λ one other each. same-parts one other each
