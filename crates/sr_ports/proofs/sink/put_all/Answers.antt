use Rattle.std.proofs.Common.{◌∙◌}
use Rattle.sr_ports.proofs.Progress.{goes_on}
use Rattle.sr_ports.proofs.sink.put_all.Goals as goal

pub loop-rest-preserved : goal.loop-rest-preserved
loop-rest-preserved g c =
    let put = c.in_ok-count.ensures.bytes in
    rw c.rest_of-rest.ensures
    (goes_on _ _ _ _ _ _ c.loop-rest.invariant.0 put.1 put.2, c.in_ok-count.ensures.cause ∙ c.loop-rest.invariant.1)
