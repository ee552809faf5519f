use Rattle.sr_gen.proofs.Endings.{acts_ticked}
use Rattle.sr_gen.proofs.statement.gen_act.Goals as goal

pub returns : goal.returns
returns c line = acts_ticked c.in_ok-gen_action.ensures c.in_ok-emit.ensures line
