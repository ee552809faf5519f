use Rattle.std.proofs.Common.{◌-◌, arith, length, refl}
use Rattle.std.proofs.lemmas.List.{get_or_default}
use Rattle.sr_gen.proofs.Enclosed.{close_begins, close_ends, close_step}
use Rattle.sr_gen.proofs.quantifiers.close_all.Goals as goal

pub loop-at-init : goal.loop-at-init
loop-at-init c = close_begins c.args.core.now c.args.place c.args.quantifiers.now c.args.turns.now c.args.out.now (length c.args.quantifiers.now) refl

pub loop-at-preserved : goal.loop-at-preserved
loop-at-preserved c =
    close_step c.args.quantifiers.now c.args.turns.now c.loop-at.at c.index-quantifiers-at.result _ (omega arith) c.requires c.loop-at.invariant c.index-quantifiers-at.is
    (get_or_default c.args.turns.now (c.loop-at.at - 1) _ _ (omega (arith, c.requires)))
    c.in_ok-close_turns.ensures

pub returns : goal.returns
returns c = close_ends c.args.quantifiers.now c.args.turns.now c.loop-at.at (omega arith) c.loop-at.invariant.1
