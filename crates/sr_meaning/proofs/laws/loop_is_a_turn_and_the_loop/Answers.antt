use Rattle.sr_meaning.proofs.LawProofs.{one_turn_then_the_loop}
use Rattle.sr_meaning.proofs.laws.loop_is_a_turn_and_the_loop.Goals as goal

pub returns : goal.returns
returns c = one_turn_then_the_loop
