use Rattle.sr_plain.proofs.RotationLemmas.{in_turn_is_rotation}
use Rattle.sr_plain.proofs.laws.turns_are_a_rotation.Goals as goal

pub returns : goal.returns
returns c = in_turn_is_rotation
