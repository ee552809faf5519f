-- One link more adds its target to those of its beginning.
use Rattle.sr_names.proofs.Grouping.{gather-step}
use Rattle.sr_names.proofs.targets.gather.Goals as goal

pub loop-link-preserved : goal.loop-link-preserved
loop-link-preserved c = λ spot.
    gather-step c.args.links.now c.loop-link.link-index c.loop-link.all c.add.new.self (record { from = record { file = 0; from = 0 }; to = record { file = 0; from = 0 } }) spot c.loop-link-test.true
    (c.in_ok-add.ensures spot) (c.loop-link.invariant spot)
