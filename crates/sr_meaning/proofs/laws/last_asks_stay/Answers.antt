use Rattle.sr_meaning.proofs.RegularProcesses.{last_ask_for_good}
use Rattle.sr_meaning.proofs.laws.last_asks_stay.Goals as goal

pub returns : goal.returns
returns c = last_ask_for_good
