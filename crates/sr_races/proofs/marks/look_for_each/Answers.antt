use Rattle.std.proofs.Common.{◌∙◌, ap, arith, subst, sym, take}
use Rattle.std.proofs.lemmas.List.{take_all}
use Rattle.sr_races.specs.Marks.{LooksAt, all_looked_at}
use Rattle.sr_races.specs.Spots.{looked_at}
use Rattle.sr_races.proofs.MarkLemmas.{looked-push, more-spots, no-spots, take-next}
use Rattle.sr_races.proofs.marks.look_for_each.Goals as goal

pub loop-access-init : goal.loop-access-init
loop-access-init c = no-spots c.args.clocks.now c.args.second c.args.spots.now c.args.found.now

pub loop-access-preserved : goal.loop-access-preserved
loop-access-preserved c =
    let so-far = take c.loop-access.access-index c.args.accesses.now in
    let access = c.access-item.result in
    subst (λ at. LooksAt c.args.clocks.now c.args.second c.args.spots.now at c.args.found.now c.look_for.new.found)
    (sym (looked-push c.args.size so-far access) ∙ ap (all_looked_at c.args.size) (sym (take-next c.args.accesses.now c.loop-access.access-index access (omega arith) c.access-item.is)))
    (more-spots c.args.clocks.now c.args.second c.args.spots.now (all_looked_at c.args.size so-far) (looked_at c.args.size access) c.args.found.now c.loop-access.found c.look_for.new.found c.loop-access.invariant c.in_ok-look_for.ensures)

pub returns : goal.returns
returns c =
    subst (λ accesses. LooksAt c.args.clocks.now c.args.second c.args.spots.now (all_looked_at c.args.size accesses) c.args.found.now c.loop-access.found) (take_all c.loop-access.access-index c.args.accesses.now (omega arith)) c.loop-access.invariant
