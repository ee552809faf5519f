use Rattle.sr_gen_expr.proofs.Forms.{gives_cap}
use Rattle.sr_gen_expr.proofs.typed.gen_cap.Goals as goal

pub returns : goal.returns
returns c = gives_cap c.in_ok-emit.ensures c.in_ok-gen_expr.ensures
