use Rattle.std.proofs.Common.{arith, length, subst, sym}
use Rattle.sr_races.specs.Searches.{AreFirsts}
use Rattle.sr_races.specs.Walks.{IsEntry}
use Rattle.sr_races.proofs.PairLemmas.{entry-at}
use Rattle.sr_races.proofs.search.push_of.Goals as goal

pub firsts_of-requires : goal.firsts_of-requires
firsts_of-requires c = omega arith

pub returns : goal.returns
returns c = λ r read noted found.
    let is-other = subst (IsEntry r c.args.clocks.now c.args.second) (sym c.index-entries-second.is) (entry-at r c.args.clocks.now c.args.entries.now read c.args.second c.index-entries-second.result c.requires.within) in
    c.push_each.ensures r read is-other
    (subst (AreFirsts r c.args.second) (sym c.as_slice.ensures) (c.in_ok-firsts.ensures r (length c.args.entries.now) read.rows c.requires.within is-other noted)) found
