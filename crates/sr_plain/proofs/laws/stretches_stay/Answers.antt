use Rattle.sr_plain.proofs.StretchInputLemmas.{stretches_stay}
use Rattle.sr_plain.proofs.laws.stretches_stay.Goals as goal

pub returns : goal.returns
returns c = stretches_stay
