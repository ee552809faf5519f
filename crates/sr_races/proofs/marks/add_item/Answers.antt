use Rattle.std.proofs.Common.{◌∙◌, ap, arith, subst, sym, take}
use Rattle.std.proofs.lemmas.List.{take_all}
use Rattle.sr_races.specs.Marks.{AddsAll, all_noted_at}
use Rattle.sr_races.specs.Spots.{noted_at}
use Rattle.sr_races.proofs.MarkLemmas.{more-added, none-added, noted-push, take-next}
use Rattle.sr_races.proofs.marks.add_item.Goals as goal

pub loop-access-init : goal.loop-access-init
loop-access-init c = none-added c.args.column c.args.mark c.args.spots.now

pub add_for-requires : goal.add_for-requires
add_for-requires c = record { some = c.requires.some; size = c.loop-access.invariant.size ∙ c.requires.size }

pub loop-access-preserved : goal.loop-access-preserved
loop-access-preserved c =
    let so-far = take c.loop-access.access-index c.args.accesses.now in
    let access = c.access-item.result in
    subst (λ at. AddsAll at c.args.column c.args.mark c.args.spots.now c.add_for.new.spots)
    (sym (noted-push c.args.size so-far access) ∙ ap (all_noted_at c.args.size) (sym (take-next c.args.accesses.now c.loop-access.access-index access (omega arith) c.access-item.is)))
    (more-added c.args.column c.args.mark (all_noted_at c.args.size so-far) (noted_at c.args.size access) c.args.spots.now c.loop-access.spots c.add_for.new.spots c.loop-access.invariant c.in_ok-add_for.ensures)

pub returns : goal.returns
returns c =
    subst (λ accesses. AddsAll (all_noted_at c.args.size accesses) c.args.column c.args.mark c.args.spots.now c.loop-access.spots) (take_all c.loop-access.access-index c.args.accesses.now (omega arith)) c.loop-access.invariant
