use Rattle.sr_plain.proofs.RotationLemmas.{next_is_least_unused}
use Rattle.sr_plain.proofs.laws.new_numbers_are_least.Goals as goal

pub returns : goal.returns
returns c = next_is_least_unused
