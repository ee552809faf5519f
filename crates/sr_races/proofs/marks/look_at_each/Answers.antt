use Rattle.std.proofs.Common.{◌∷◌, [], arith, get_or, subst, sym, take}
use Rattle.std.proofs.lemmas.List.{take_all, take_more}
use Rattle.sr_races.specs.Marks.{LooksAt}
use Rattle.sr_races.proofs.MarkLemmas.{more-spots, no-spots}
use Rattle.sr_races.proofs.marks.look_at_each.Goals as goal

pub loop-spot-init : goal.loop-spot-init
loop-spot-init c = no-spots c.args.clocks.now c.args.second c.args.spots.now c.args.found.now

pub loop-spot-preserved : goal.loop-spot-preserved
loop-spot-preserved c =
    subst (λ at. LooksAt c.args.clocks.now c.args.second c.args.spots.now at c.args.found.now c.look_at.new.found) (sym (take_more c.args.at.now c.loop-spot.spot-index 0 (omega arith)))
    (more-spots c.args.clocks.now c.args.second c.args.spots.now (take c.loop-spot.spot-index c.args.at.now) (get_or c.args.at.now c.loop-spot.spot-index 0 ∷ []) c.args.found.now c.loop-spot.found c.look_at.new.found
    c.loop-spot.invariant c.in_ok-look_at.ensures)

pub returns : goal.returns
returns c = subst (λ at. LooksAt c.args.clocks.now c.args.second c.args.spots.now at c.args.found.now c.loop-spot.found) (take_all c.loop-spot.spot-index c.args.at.now (omega arith)) c.loop-spot.invariant
