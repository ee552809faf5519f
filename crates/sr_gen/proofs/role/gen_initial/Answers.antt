use Rattle.std.proofs.Common.{ap, sym}
use Rattle.sr_core.specs.declared.statement.Scope.TheVariants.{Shared as shared_scope}
use Rattle.sr_meaning.specs.Statements.{make_formals}
use Rattle.sr_gen_expr.proofs.Stretching.{takes_as}
use Rattle.sr_gen.specs.Doing.{last_block}
use Rattle.sr_gen.proofs.Roles.{ends_as, ends_initial}
use Rattle.sr_gen.proofs.role.gen_initial.Goals as goal

pub returns : goal.returns
returns c =
    ends_initial c.args.component.now (ends_as (ap last_block (sym c.as_slice.ensures)) c.in_ok-gen_last.ensures)
    (takes_as (ap (λ formals. λ args. make_formals shared_scope formals args) (sym c.as_slice-2.ensures)) (c.in_ok-gen_formals.ensures c.args.core.now)) c.in_ok-emit.ensures
