use Rattle.sr_gen_expr.proofs.Forms.{gives_number}
use Rattle.sr_gen_expr.proofs.typed.gen_number.Goals as goal

pub returns : goal.returns
returns c = gives_number c.in_ok-emit.ensures c.in_ok-gen_expr.ensures
