use Rattle.sr_meaning.proofs.RegularProcesses.{more_ticks_ask_the_same}
use Rattle.sr_meaning.proofs.laws.more_ticks_change_no_ask.Goals as goal

pub returns : goal.returns
returns c = more_ticks_ask_the_same
