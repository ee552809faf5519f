use Rattle.std.proofs.Common.{ap}
use Rattle.sr_code.specs.declared.instruction.Instruction.TheVariants.{FixedShape}
use Rattle.sr_meaning.specs.Statements.{make_returned}
use Rattle.sr_gen_expr.proofs.Declarations.{returned_none, returned_some}
use Rattle.sr_gen_expr.proofs.Stretching.{emits_as, gives_as}
use Rattle.sr_gen_expr.proofs.formals.gen_returned.Goals as goal

pub returns-in-None : goal.returns-in-None
returns-in-None c core = gives_as (ap make_returned c.in-None.is) (returned_none core c.args.place _)

pub returns-in_ok-emit-in-Some-2 : goal.returns-in_ok-emit-in-Some-2
returns-in_ok-emit-in-Some-2 c core =
    gives_as (ap make_returned c.in-Some.is)
    (returned_some c.in-Some.name c.in_ok-emit-in-Some.ensures (emits_as (ap FixedShape c.in_ok-shape-in-Some.ensures) c.in_ok-emit-in-Some-2.ensures) core)
