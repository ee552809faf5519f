use Rattle.std.proofs.Common.{◌∙◌, Some, ap, arith, refl, subst, sym}
use Rattle.std.specs.Prelude.{false, slice_get}
use Rattle.sr_ask.specs.declared.item.Item.{Item}
use Rattle.sr_races.proofs.FollowLemmas.{can-grow, can-more, has-column}
use Rattle.sr_replay.proofs.CrewLemmas.{if_ok}
use Rattle.sr_races.proofs.PathLemmas.{got-at}
use Rattle.sr_races.specs.Walks.{IsAlone}
use Rattle.sr_races.proofs.walk.Walk.follow.Goals as goal

pub follow_step-requires : goal.follow_step-requires
follow_step-requires g c =
    can-grow c.args.items.now c.args.place c.args.self.now c.requires.can c.in-Step.actor c.requires.room
    (λ some. has-column c.args.items.now c.args.self.now.clocks c.args.place c.in-Step.actor c.in-Step.name c.requires.can.columns (got-at c.args.items.now c.args.place _ c.requires.within ∙ ap Some c.in-Step.is) some)

pub follow_alone-requires-clause-alone : goal.follow_alone-requires-clause-alone
follow_alone-requires-clause-alone g c = (refl, refl)

pub follow_alone-requires-clause-can : goal.follow_alone-requires-clause-can
follow_alone-requires-clause-can g c = can-grow c.args.items.now c.args.place c.args.self.now c.requires.can 0 c.requires.room (λ some. absurd (omega (arith, some)))

pub follow_alone-requires-in-Tick-clause-alone : goal.follow_alone-requires-in-Tick-clause-alone
follow_alone-requires-in-Tick-clause-alone g c = subst (λ (i : Item). IsAlone i 0 false) (sym c.in-Tick.is) (refl, refl)

pub follow_alone-requires-in-Tick-clause-can : goal.follow_alone-requires-in-Tick-clause-can
follow_alone-requires-in-Tick-clause-can g c = can-grow c.args.items.now c.args.place c.args.self.now c.requires.can 0 c.requires.room (λ some. absurd (omega (arith, some)))

pub returns-in-Step-clause-can : goal.returns-in-Step-clause-can
returns-in-Step-clause-can g c = if_ok c.follow_step.result (λ legal grows is. can-more c.args.items.now c.args.place c.args.self.now c.requires.can c.in-Step.actor c.follow_step.new.self (grows is)) c.follow_step.ensures.grows

pub returns-in-Step-clause-walks : goal.returns-in-Step-clause-walks
returns-in-Step-clause-walks g c = λ r items core walked.
    c.follow_step.ensures.walks r (ap (λ xs. slice_get xs c.args.place) items ∙ got-at c.args.items.now c.args.place _ c.requires.within ∙ ap Some c.in-Step.is) core walked

pub returns-in-Quiesce-clause-can : goal.returns-in-Quiesce-clause-can
returns-in-Quiesce-clause-can g c = if_ok c.follow_alone.result (λ legal grows is. can-more c.args.items.now c.args.place c.args.self.now c.requires.can 0 c.follow_alone.new.self (grows is)) c.follow_alone.ensures.grows

pub returns-in-Quiesce-clause-walks : goal.returns-in-Quiesce-clause-walks
returns-in-Quiesce-clause-walks g c = λ r items core walked.
    c.follow_alone.ensures.walks r (ap (λ xs. slice_get xs c.args.place) items ∙ got-at c.args.items.now c.args.place _ c.requires.within ∙ ap Some c.in-Quiesce.is) core walked

pub returns-in-Tick-clause-can : goal.returns-in-Tick-clause-can
returns-in-Tick-clause-can g c =
    if_ok c.follow_alone-in-Tick.result (λ legal grows is. can-more c.args.items.now c.args.place c.args.self.now c.requires.can 0 c.follow_alone-in-Tick.new.self (grows is)) c.follow_alone-in-Tick.ensures.grows

pub returns-in-Tick-clause-walks : goal.returns-in-Tick-clause-walks
returns-in-Tick-clause-walks g c = λ r items core walked.
    c.follow_alone-in-Tick.ensures.walks r (ap (λ xs. slice_get xs c.args.place) items ∙ got-at c.args.items.now c.args.place _ c.requires.within) core walked
