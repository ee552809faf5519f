use Rattle.std.proofs.Common.{length, subst}
use Rattle.sr_races.proofs.PairLemmas.{has-found, has-too-many}
use Rattle.sr_races.specs.Searches.{HasSearched}
use Rattle.sr_races.proofs.search.search.Goals as goal

pub returns-then-not-all : goal.returns-then-not-all
returns-then-not-all c = λ r read.
    has-too-many r c.args.clocks.now c.args.entries.now read c.push_all.new.races c.in_ok-sorted.sorted c.in_ok-sorted.ensures.permutation c.in_ok-sorted.ensures.rising c.in_ok-sorted.ensures.stable
    (subst (λ b. HasSearched r (length c.args.entries.now) b c.push_all.new.races) c.if-not-all.true (c.in_ok-all.ensures r read))

pub returns : goal.returns
returns c = λ r read.
    has-found r c.args.clocks.now c.args.entries.now read c.push_all.new.races c.in_ok-sorted.sorted c.in_ok-sorted.ensures.permutation c.in_ok-sorted.ensures.rising c.in_ok-sorted.ensures.stable
    (subst (λ b. HasSearched r (length c.args.entries.now) b c.push_all.new.races) c.if-not-all.false (c.in_ok-all.ensures r read))
