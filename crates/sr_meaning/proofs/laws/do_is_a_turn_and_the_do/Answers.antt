use Rattle.sr_meaning.proofs.RegularProcesses.{do_is_a_turn_and_the_do}
use Rattle.sr_meaning.proofs.laws.do_is_a_turn_and_the_do.Goals as goal

pub returns : goal.returns
returns c = do_is_a_turn_and_the_do
