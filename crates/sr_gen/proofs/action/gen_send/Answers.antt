use Rattle.sr_gen.proofs.Actions.{acts_send}
use Rattle.sr_gen.proofs.action.gen_send.Goals as goal

pub returns : goal.returns
returns c ways = acts_send c.args.target.now c.args.args.now c.in_ok-emit.ensures c.in_ok-gen_ready.ensures
