use Rattle.sr_meaning.proofs.RegularProcesses.{over_ticks_for_good}
use Rattle.sr_meaning.proofs.laws.over_ticks_stays.Goals as goal

pub returns : goal.returns
returns c = over_ticks_for_good
