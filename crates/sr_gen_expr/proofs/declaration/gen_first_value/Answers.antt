use Rattle.std.proofs.Common.{ap}
use Rattle.sr_meaning.specs.Statements.{first_value, spot_in}
use Rattle.sr_gen_expr.proofs.Declarations.{gives_no_value, gives_value}
use Rattle.sr_gen_expr.proofs.Stretching.{gives_as}
use Rattle.sr_gen_expr.proofs.declaration.gen_first_value.Goals as goal

pub returns-in-None : goal.returns-in-None
returns-in-None c =
    gives_as (ap (λ value. λ here. first_value value (spot_in c.args.scope c.args.var here) here) c.in-None.is) (gives_no_value c.args.core.now c.args.place c.args.scope c.args.var _)

pub returns-in_ok-gen_expr-in-Some : goal.returns-in_ok-gen_expr-in-Some
returns-in_ok-gen_expr-in-Some c =
    gives_as (ap (λ value. λ here. first_value value (spot_in c.args.scope c.args.var here) here) c.in-Some.is)
    (gives_value c.args.scope c.args.var c.in-Some.expr c.in_ok-emit-in-Some.ensures c.in_ok-gen_expr-in-Some.ensures)
