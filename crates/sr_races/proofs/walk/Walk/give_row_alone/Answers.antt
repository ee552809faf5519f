use Rattle.std.proofs.Common.{subst, sym}
use Rattle.std.proofs.lemmas.Result.{on_ok_weaker}
use Rattle.sr_races.proofs.LeaveLemmas.{both-ok}
use Rattle.sr_races.specs.Origins.{listed}
use Rattle.sr_races.specs.Walks.{IsRowFrom}
use Rattle.sr_clock_rows.specs.Rows.{IsGreatestRow}
use Rattle.sr_races.proofs.walk.Walk.give_row_alone.Goals as goal

pub returns-then-ends-clause-grows : goal.returns-then-ends-clause-grows
returns-then-ends-clause-grows g c = both-ok c.push_all.result (λ sound adds. record { sound = sound; adds = adds }) c.push_all.ensures.sound c.push_all.ensures.adds

pub returns-then-ends-clause-row : goal.returns-then-ends-clause-row
returns-then-ends-clause-row g c =
    on_ok_weaker c.push_all.result (λ row. subst (λ b. IsRowFrom b (listed c.args.self.now.origins.closing) 0 c.args.self.now.clocks c.push_all.new.self) (sym c.if-ends.true) row) c.push_all.ensures.row

pub returns-clause-grows : goal.returns-clause-grows
returns-clause-grows g c = both-ok c.push.result (λ sound adds. record { sound = sound; adds = adds }) c.push.ensures.sound c.push.ensures.adds

pub returns-clause-row : goal.returns-clause-row
returns-clause-row g c =
    on_ok_weaker c.push.result
    (λ row. subst (λ b. IsRowFrom b (listed c.args.self.now.origins.closing) 0 c.args.self.now.clocks c.push.new.self) (sym c.if-ends.false)
    (subst (λ xs. IsGreatestRow xs 0 c.args.self.now.clocks c.push.new.self) c.in_ok-origins.ensures (subst (λ xs. IsGreatestRow xs 0 c.args.self.now.clocks c.push.new.self) c.as_slice.ensures row)))
    c.push.ensures.row
