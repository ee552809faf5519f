use Rattle.std.proofs.Common.{◌-◌, eqb-true, length, sym, true≢false}
use Rattle.sr_races.proofs.marks.ends_with.Goals as goal

pub returns-in-Some : goal.returns-in-Some
returns-in-Some c = λ so. record { at = length c.args.marks.now - 1; mark = c.in-Some.mark.now; here = sym c.in-Some.ensures.value; is = eqb-true _ _ so }

pub returns-in-None : goal.returns-in-None
returns-in-None c = λ so. absurd (true≢false (sym so))
