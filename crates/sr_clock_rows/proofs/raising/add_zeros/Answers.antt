use Rattle.sr_clock_rows.proofs.RowLemmas.{zeros-more}
use Rattle.sr_clock_rows.proofs.raising.add_zeros.Goals as goal

pub loop-preserved : goal.loop-preserved
loop-preserved c = zeros-more c.loop.counter c.loop.row c.push.new.self c.loop.invariant c.in_ok-push.ensures.ok
