use Rattle.std.proofs.Common.{subst, sym}
use Rattle.std.proofs.lemmas.Result.{on_ok_weaker}
use Rattle.sr_races.specs.Marks.{LooksAmong}
use Rattle.sr_races.proofs.MarkLemmas.{no-such-spot, one-spot}
use Rattle.sr_races.proofs.marks.look_at.Goals as goal

pub returns-in-Some : goal.returns-in-Some
returns-in-Some c =
    on_ok_weaker c.look_among.result
    (λ looks. one-spot c.args.clocks.now c.args.second c.args.spots.now c.args.spot c.in-Some.lines.now c.args.found.now c.look_among.new.found (sym c.in-Some.ensures.value)
    (subst (λ lines. LooksAmong c.args.clocks.now c.args.second lines c.args.found.now c.look_among.new.found) c.as_slice.ensures looks)) c.look_among.ensures

pub returns-in-None : goal.returns-in-None
returns-in-None c = no-such-spot c.args.clocks.now c.args.second c.args.spots.now c.args.spot c.args.found.now (sym c.in-None.ensures.value)
