use Rattle.std.proofs.Common.{ap}
use Rattle.sr_code.specs.declared.instruction.Instruction.TheVariants.{Jump, Repeat}
use Rattle.sr_gen_expr.proofs.Stretching.{emits_as}
use Rattle.sr_gen.proofs.Endings.{acts_lined}
use Rattle.sr_gen.proofs.Loops.{acts_sends, patches_with}
use Rattle.sr_gen.specs.Doing.{one_way}
use Rattle.sr_gen.proofs.sends.gen_sends.Goals as goal

pub returns : goal.returns
returns c ways line =
    acts_lined
    (acts_sends c.args.target.now c.args.count.now c.in_ok-emit.ensures (c.in_ok-gen_send.ensures (one_way _)) (patches_with (ap Repeat c.len-head.ensures) c.len-first.ensures c.patch.ensures)
    (emits_as (ap Jump c.len-again.ensures) c.in_ok-emit-2.ensures) c.in_ok-emit-3.ensures c.in_ok-gen_number.ensures) line
