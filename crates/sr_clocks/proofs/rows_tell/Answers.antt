use Rattle.sr_clocks.proofs.ClockLemmas as law
use Rattle.sr_clocks.proofs.rows_tell.Goals as goal

pub returns : goal.returns
returns g c = law.rows_tell g.L.Linked.links
