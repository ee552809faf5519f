use Rattle.std.proofs.Common.{ap, ◌∙◌}
use Rattle.sr_code.specs.declared.instruction.Instruction.TheVariants.{Jump, ReadNext}
use Rattle.sr_gen_expr.proofs.Calls.{takes_reads, two_more}
use Rattle.sr_gen_expr.proofs.Stretching.{emits_as}
use Rattle.sr_gen_expr.proofs.reading.gen_reads.Goals as goal

pub returns : goal.returns
returns c core =
    takes_reads c.in_ok-emit.ensures (emits_as (ap Jump c.len-to.ensures) c.in_ok-emit-2.ensures) c.in_ok-emit-3.ensures
    (emits_as (ap (λ n. ReadNext c.in_ok-store.store n) c.len-end.ensures) c.in_ok-emit-4.ensures) (c.in_ok-store.ensures ∙ two_more _) c.in_ok-emit-5.ensures
    (emits_as (ap Jump c.len-next.ensures) c.in_ok-emit-6.ensures) core
