use Rattle.std.proofs.Common.{arith}
use Rattle.sr_gen.proofs.Enclosed.{open_begins, open_step}
use Rattle.sr_gen.proofs.quantifiers.open_all.Goals as goal

pub loop-quantifier-init : goal.loop-quantifier-init
loop-quantifier-init c = open_begins c.args.place c.args.quantifiers.now c.args.turns.now c.args.ways c.args.out.now c.requires

pub loop-quantifier-preserved : goal.loop-quantifier-preserved
loop-quantifier-preserved c =
    open_step c.args.quantifiers.now c.loop-quantifier.turns c.push.new.self c.args.ways c.args.out.now c.loop-quantifier.quantifier-index c.quantifier-item.result _ c.loop-quantifier.invariant (omega arith)
    c.quantifier-item.is c.in_ok-push.ensures.ok c.in_ok-opened.ensures
