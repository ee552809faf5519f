use Rattle.sr_gen.proofs.Actions.{acts_evaluate}
use Rattle.sr_gen.proofs.action.gen_evaluate.Goals as goal

pub returns : goal.returns
returns c ways = acts_evaluate c.args.expr.now c.in_ok-emit.ensures c.in_ok-gen_expr.ensures
