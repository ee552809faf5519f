use Rattle.sr_gen.proofs.Actions.{acts_write}
use Rattle.sr_gen.proofs.action.gen_write.Goals as goal

pub returns : goal.returns
returns c ways = acts_write c.args.args.now c.args.line c.in_ok-emit.ensures c.in_ok-gen_list.ensures
