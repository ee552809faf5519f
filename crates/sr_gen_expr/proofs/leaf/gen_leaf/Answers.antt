use Rattle.sr_gen_expr.proofs.Forms.{gives_leaf}
use Rattle.sr_gen_expr.proofs.leaf.gen_leaf.Goals as goal

pub returns : goal.returns
returns c core = gives_leaf c.args.leaf.now c.in_ok-instruction.ensures c.in_ok-emit.ensures core
