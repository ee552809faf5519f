-- A step of a process, a rest, or a passing of time.
use Rattle.std.proofs.Common.{◌∙◌, Some, ap, refl, subst, sym}
use Rattle.std.specs.Prelude.{◌==◌, not, slice_get}
use Rattle.sr_ask.specs.declared.item.Item.{Item}
use Rattle.sr_races.proofs.PathLemmas.{got-at}
use Rattle.sr_races.specs.Traces.{act_alone}
use Rattle.sr_races.specs.Walks.{IsAlone}
use Rattle.sr_races.proofs.trail.Trail.follow.Goals as goal

pub follow_alone-requires-clause-alone : goal.follow_alone-requires-clause-alone
follow_alone-requires-clause-alone g c = (refl, refl)

pub follow_alone-requires-clause-act : goal.follow_alone-requires-clause-act
follow_alone-requires-clause-act g c = c.resting.ensures

pub follow_alone-requires-in-Tick-clause-alone : goal.follow_alone-requires-in-Tick-clause-alone
follow_alone-requires-in-Tick-clause-alone g c = subst (λ (i : Item). IsAlone i 0 (not (0 == 0))) (sym c.in-Tick.is) (refl, refl)

pub follow_alone-requires-in-Tick-clause-act : goal.follow_alone-requires-in-Tick-clause-act
follow_alone-requires-in-Tick-clause-act g c = ap (λ (i : Item). act_alone (Some i)) (sym c.in-Tick.is)

pub returns-in-Step : goal.returns-in-Step
returns-in-Step g c = λ r items core trailed.
    c.follow_step.ensures r (ap (λ xs. slice_get xs c.args.place) items ∙ got-at c.args.items.now c.args.place _ c.requires ∙ ap Some c.in-Step.is) core trailed

pub returns-in-Quiesce : goal.returns-in-Quiesce
returns-in-Quiesce g c = λ r items core trailed.
    c.follow_alone.ensures r (ap (λ xs. slice_get xs c.args.place) items ∙ got-at c.args.items.now c.args.place _ c.requires ∙ ap Some c.in-Quiesce.is) core trailed

pub returns-in-Tick : goal.returns-in-Tick
returns-in-Tick g c = λ r items core trailed. c.follow_alone-in-Tick.ensures r (ap (λ xs. slice_get xs c.args.place) items ∙ got-at c.args.items.now c.args.place _ c.requires) core trailed
