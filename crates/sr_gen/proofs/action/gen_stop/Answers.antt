use Rattle.sr_gen.proofs.Actions.{acts_stop}
use Rattle.sr_gen.proofs.action.gen_stop.Goals as goal

pub returns : goal.returns
returns c ways = acts_stop c.args.status.now c.in_ok-emit.ensures c.in_ok-gen_status.ensures
