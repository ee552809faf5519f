use Rattle.sr_gen.proofs.Actions.{acts_destroy}
use Rattle.sr_gen.proofs.action.gen_destroy.Goals as goal

pub returns : goal.returns
returns c ways = acts_destroy c.args.target.now c.in_ok-emit.ensures c.in_ok-emit-2.ensures c.in_ok-gen_cap.ensures
