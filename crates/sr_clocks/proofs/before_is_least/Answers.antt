use Rattle.sr_clocks.proofs.ClockLemmas.{before_least}
use Rattle.sr_clocks.proofs.before_is_least.Goals as goal

pub returns : goal.returns
returns g c = before_least g.L.Linked.links g.R.Related.holds
