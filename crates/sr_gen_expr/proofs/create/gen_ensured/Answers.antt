use Rattle.std.proofs.Common.{arith, length, refl}
use Rattle.sr_gen_expr.proofs.Rows.{globals_all, globals_begin, globals_step}
use Rattle.sr_gen_expr.proofs.create.gen_ensured.Goals as goal

pub loop-at-init : goal.loop-at-init
loop-at-init c = globals_begin c.args.place c.args.globals.now (length c.args.globals.now) _ refl

pub loop-at-preserved : goal.loop-at-preserved
loop-at-preserved c = globals_step c.args.globals.now c.loop-at.at (omega arith) c.loop-at.invariant c.in_ok-emit.ensures

pub returns : goal.returns
returns c core = globals_all c.args.globals.now c.loop-at.at (omega arith) (c.loop-at.invariant.1 core)
