-- By induction on the trees.
use Rattle.sr_desugar.proofs.WaitsEach.{core_waits}
use Rattle.sr_desugar.proofs.laws.each_wait_has_its_site.Goals as goal

pub returns : goal.returns
returns c = core_waits
