use Rattle.std.proofs.Common.{ap}
use Rattle.sr_code.specs.declared.instruction.Instruction.TheVariants.{StoreResults, Take}
use Rattle.sr_gen_expr.proofs.Calls.{takes_answer}
use Rattle.sr_gen_expr.proofs.Stretching.{emits_as}
use Rattle.sr_gen_expr.proofs.call.gen_answer.Goals as goal

pub returns : goal.returns
returns c core =
    takes_answer (emits_as c.in_ok-default.ensures c.in_ok-emit.ensures) (emits_as (ap StoreResults c.len-to.ensures) c.in_ok-emit-2.ensures)
    (emits_as (ap Take c.len-none.ensures) c.in_ok-emit-3.ensures) core
