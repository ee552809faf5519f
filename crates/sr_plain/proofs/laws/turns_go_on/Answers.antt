use Rattle.sr_plain.proofs.RotationLemmas.{one_more_in_turn}
use Rattle.sr_plain.proofs.laws.turns_go_on.Goals as goal

pub returns : goal.returns
returns c = one_more_in_turn
