use Rattle.std.proofs.Common.{ap, arith, length, refl}
use Rattle.sr_code.specs.declared.instruction.Instruction.TheVariants.{MakeFormal}
use Rattle.sr_gen_expr.proofs.Rows.{formals_all, formals_begin, formals_step}
use Rattle.sr_gen_expr.proofs.Stretching.{emits_as}
use Rattle.sr_gen_expr.proofs.formals.gen_formals.Goals as goal

pub loop-at-init : goal.loop-at-init
loop-at-init c = formals_begin c.args.scope c.args.formals.now (length c.args.formals.now) refl c.in_ok-emit.ensures

pub loop-at-preserved : goal.loop-at-preserved
loop-at-preserved c =
    formals_step c.args.scope c.args.formals.now c.loop-at.at c.index-formals-at.result (omega arith) c.loop-at.invariant c.index-formals-at.is c.in_ok-emit-2.ensures
    (emits_as (ap (MakeFormal c.args.scope c.index-formals-at.result.var c.index-formals-at.result.mode) c.in_ok-shape.ensures) c.in_ok-emit-3.ensures)

pub returns : goal.returns
returns c core = formals_all c.args.scope c.args.formals.now c.loop-at.at (omega arith) c.loop-at.invariant.1 core
