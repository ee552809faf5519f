use Rattle.sr_gen.proofs.Actions.{gives_ready}
use Rattle.sr_gen.proofs.action.gen_ready.Goals as goal

pub returns : goal.returns
returns c = gives_ready c.args.target.now c.args.args.now c.in_ok-gen_arguments.ensures c.in_ok-emit.ensures c.in_ok-gen_expr.ensures
