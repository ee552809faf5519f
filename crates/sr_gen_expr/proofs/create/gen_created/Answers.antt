use Rattle.std.proofs.Common.{ap, sym}
use Rattle.sr_meaning.specs.Expressions.{ensured}
use Rattle.sr_gen_expr.proofs.Calls.{takes_create}
use Rattle.sr_gen_expr.proofs.Stretching.{takes_as}
use Rattle.sr_gen_expr.proofs.create.gen_created.Goals as goal

pub returns : goal.returns
returns c =
    takes_create c.args.resource c.in_ok-emit.ensures c.in_ok-emit-2.ensures
    (takes_as (ap (λ globals. λ vm. ensured globals vm) (sym c.needs.ensures)) (c.in_ok-gen_ensured.ensures c.args.core.now)) c.in_ok-emit-3.ensures
