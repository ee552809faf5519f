use Rattle.std.proofs.Common.{ap, sym}
use Rattle.sr_meaning.specs.Expressions.{ensured}
use Rattle.sr_gen_expr.proofs.Stretching.{takes_as}
use Rattle.sr_gen.proofs.Roles.{ends_boot}
use Rattle.sr_gen.proofs.role.gen_boot.Goals as goal

pub returns : goal.returns
returns c =
    ends_boot c.args.main c.requires c.in_ok-emit.ensures c.in_ok-emit-2.ensures c.in_ok-emit-3.ensures c.in_ok-emit-4.ensures c.in_ok-emit-5.ensures
    (takes_as (ap (λ globals. λ vm. ensured globals vm) (sym c.needs.ensures)) (c.in_ok-gen_ensured.ensures c.args.core.now)) c.in_ok-emit-6.ensures c.in_ok-emit-7.ensures
