use Rattle.sr_gen.proofs.Actions.{acts_assign}
use Rattle.sr_gen.proofs.action.gen_assign.Goals as goal

pub returns : goal.returns
returns c ways = acts_assign c.args.at.now c.args.value.now c.in_ok-emit.ensures c.in_ok-gen_expr.ensures c.in_ok-gen_place.ensures
