-- Each turn carries the run on, or it ends there; after the last all items are made.
use Rattle.std.proofs.Common.{length, ap, arith, subst, sym}
use Rattle.std.specs.List.{AllByRecursion}
use Rattle.sr_run.proofs.Advancing.{all_made, in-turn}
use Rattle.sr_plain.specs.Passing.{FitsItem}
use Rattle.sr_run.specs.Arranged.{InTurn}
use Rattle.sr_run.proofs.whole.run_on.Goals as goal

pub loop-intake-init : goal.loop-intake-init
loop-intake-init g c = record { within = omega (arith, ap length c.requires); fit = subst (AllByRecursion FitsItem) (sym c.requires) tt; most = omega arith; under_way = λ call steps under_way. under_way }

pub loop-intake-preserved : goal.loop-intake-preserved
loop-intake-preserved g c = record {
  within = let more = c.in-None.ensures.one_more in omega (arith, more);
  fit = c.in-None.ensures.fit c.loop-intake.invariant.fit;
  most = c.in-None.ensures.within;
  under_way = λ call steps begun. in-turn _ _ _ _ _ _ (c.in-None.ensures.advances InTurn call (omega (arith, steps)) (c.loop-intake.invariant.under_way call steps begun));
}

pub returns-in-Some-clause-cause : goal.returns-in-Some-clause-cause
returns-in-Some-clause-cause g c = λ call steps begun. c.in-Some.ensures.advances InTurn call (omega (arith, steps)) (c.loop-intake.invariant.under_way call steps begun)

pub returns-clause-cause : goal.returns-clause-cause
returns-clause-cause g c = λ call steps begun. all_made _ _ _ _ _ _ (c.loop-intake.invariant.under_way call steps begun) (omega (arith, steps))
