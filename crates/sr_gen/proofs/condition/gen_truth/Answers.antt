use Rattle.sr_gen.proofs.Blocks.{checks_truth}
use Rattle.sr_gen.proofs.condition.gen_truth.Goals as goal

pub returns : goal.returns
returns c = checks_truth c.args.expr.now c.in_ok-emit.ensures c.in_ok-gen_expr.ensures
