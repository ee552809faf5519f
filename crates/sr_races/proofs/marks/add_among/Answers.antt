use Rattle.std.proofs.Common.{inl, inr}
use Rattle.std.proofs.lemmas.Result.{on_ok_weaker}
use Rattle.sr_races.proofs.MarkLemmas.{grows-so, within-lines}
use Rattle.sr_races.proofs.marks.add_among.Goals as goal

pub at_mut-requires : goal.at_mut-requires
at_mut-requires c = within-lines c.args.lines.now c.as_slice.result.now c.args.column c.in-Some.place c.as_slice.ensures c.in-Some.ensures

pub returns-in-Some : goal.returns-in-Some
returns-in-Some c =
    on_ok_weaker c.add_to.result
    (λ added. inl (grows-so c.args.lines.now c.as_slice.result.now c.args.column c.in-Some.place c.args.mark c.as_slice.ensures c.in-Some.ensures c.at_mut.result.now c.add_to.new.line c.at_mut.ensures.value added)) c.add_to.ensures

pub returns-in-None : goal.returns-in-None
returns-in-None c = on_ok_weaker c.push_line.result (λ pushed. inr pushed) c.push_line.ensures
