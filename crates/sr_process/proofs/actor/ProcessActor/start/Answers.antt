use Rattle.sr_process.proofs.Agreement.{started_means}
use Rattle.sr_process.proofs.actor.ProcessActor.start.Goals as goal

pub returns : goal.returns
returns c = started_means c.start.result c.args.start.now c.args.ticks c.start.ensures
