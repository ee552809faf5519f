use Rattle.std.proofs.Common.{arith, subst, sym, take}
use Rattle.std.proofs.lemmas.List.{take_all}
use Rattle.sr_races.specs.Marks.{LooksAlong, LooksAmong}
use Rattle.sr_races.proofs.MarkLemmas.{no-lines, one-line, take-next}
use Rattle.sr_races.proofs.marks.look_among.Goals as goal

pub loop-line-init : goal.loop-line-init
loop-line-init c = no-lines c.args.clocks.now c.args.second c.args.found.now

pub loop-line-preserved : goal.loop-line-preserved
loop-line-preserved c =
    let so-far = take c.loop-line.line-index c.args.lines.now in
    let line = c.line-item.result in
    subst (λ lines. LooksAmong c.args.clocks.now c.args.second lines c.args.found.now c.look_along.new.found) (sym (take-next c.args.lines.now c.loop-line.line-index line (omega arith) c.line-item.is))
    (one-line c.args.clocks.now c.args.second so-far line c.args.found.now c.loop-line.found c.look_along.new.found c.loop-line.invariant
    (subst (λ n. LooksAlong n line.marks c.loop-line.found c.look_along.new.found) c.count-count.ensures
    (subst (λ marks. LooksAlong c.count-count.result marks c.loop-line.found c.look_along.new.found) c.as_slice.ensures c.in_ok-look_along.ensures)))

pub returns : goal.returns
returns c = subst (λ lines. LooksAmong c.args.clocks.now c.args.second lines c.args.found.now c.loop-line.found) (take_all c.loop-line.line-index c.args.lines.now (omega arith)) c.loop-line.invariant
