use Rattle.std.proofs.Common.{arith, length, sym}
use Rattle.sr_races.proofs.PairLemmas.{no-entry}
use Rattle.sr_races.proofs.search.push_pair.Goals as goal

pub push_if-requires : goal.push_if-requires
push_if-requires c = let within = c.in-Some.ensures.within in record { first = omega (arith, within); second = omega arith }

pub returns-in-Some : goal.returns-in-Some
returns-in-Some c = λ r read is-other less found.
    c.push_if.ensures r (length c.args.entries.now) read.rows (read.each.each c.args.first c.in-Some.one.now (sym c.in-Some.ensures.value)) is-other less c.requires.within found

pub returns-in-None : goal.returns-in-None
returns-in-None c = λ r read is-other less found. absurd (no-entry c.args.entries.now c.args.first (omega arith) (sym c.in-None.ensures.value))
