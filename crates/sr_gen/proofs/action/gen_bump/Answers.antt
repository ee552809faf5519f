use Rattle.std.proofs.Common.{ap}
use Rattle.sr_code.specs.declared.instruction.Instruction.TheVariants.{Operate}
use Rattle.sr_gen_expr.proofs.Stretching.{emits_as}
use Rattle.sr_gen.proofs.Actions.{acts_bump}
use Rattle.sr_gen.proofs.action.gen_bump.Goals as goal

pub returns : goal.returns
returns c ways =
    acts_bump c.args.at.now c.args.bump c.in_ok-emit.ensures (emits_as (ap Operate c.bump_operator.ensures) c.in_ok-emit-2.ensures) c.in_ok-emit-3.ensures c.in_ok-emit-4.ensures c.in_ok-gen_place.ensures
