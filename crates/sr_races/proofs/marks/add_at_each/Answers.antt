use Rattle.std.proofs.Common.{◌∷◌, [], arith, get_or, subst, sym, take}
use Rattle.std.proofs.lemmas.List.{take_all, take_more}
use Rattle.sr_races.specs.Marks.{AddsAll}
use Rattle.sr_races.proofs.MarkLemmas.{more-added, none-added, one-added}
use Rattle.sr_races.proofs.marks.add_at_each.Goals as goal

pub loop-spot-init : goal.loop-spot-init
loop-spot-init c = none-added c.args.column c.args.mark c.args.spots.now

pub add_at-requires : goal.add_at-requires
add_at-requires c = let same = c.loop-spot.invariant.size in let within = c.requires c.loop-spot.spot-index 0 (omega arith) in omega (arith, same, within)

pub loop-spot-preserved : goal.loop-spot-preserved
loop-spot-preserved c =
    let spot = get_or c.args.at.now c.loop-spot.spot-index 0 in
    subst (λ at. AddsAll at c.args.column c.args.mark c.args.spots.now c.add_at.new.spots) (sym (take_more c.args.at.now c.loop-spot.spot-index 0 (omega arith)))
    (more-added c.args.column c.args.mark (take c.loop-spot.spot-index c.args.at.now) (spot ∷ []) c.args.spots.now c.loop-spot.spots c.add_at.new.spots c.loop-spot.invariant
    (one-added c.args.column c.args.mark spot c.loop-spot.spots c.add_at.new.spots c.in_ok-add_at.ensures))

pub returns : goal.returns
returns c = subst (λ at. AddsAll at c.args.column c.args.mark c.args.spots.now c.loop-spot.spots) (take_all c.loop-spot.spot-index c.args.at.now (omega arith)) c.loop-spot.invariant
