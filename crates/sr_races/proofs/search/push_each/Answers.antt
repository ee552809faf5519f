use Rattle.std.proofs.Common.{arith}
use Rattle.sr_races.proofs.PairLemmas.{come-all, come-none, come-on, come-to, first-below}
use Rattle.sr_races.proofs.search.push_each.Goals as goal

pub loop-first-init : goal.loop-first-init
loop-first-init c = λ r read is-other are found. come-none r c.args.second c.args.firsts.now are c.args.races.now found

pub loop-first-preserved : goal.loop-first-preserved
loop-first-preserved c = λ r read is-other are found.
    let index = c.loop-first.first-index in
    come-on r c.args.second c.args.firsts.now are index c.push_pair.new.races (omega arith)
    (c.in_ok-push_pair.ensures r read is-other (first-below r c.args.second c.args.firsts.now are index (omega arith))
    (come-to r c.args.second c.args.firsts.now are index c.loop-first.races (c.loop-first.invariant r read is-other are found) (omega arith)))

pub returns : goal.returns
returns c = λ r read is-other are found. come-all r c.args.second c.args.firsts.now are c.loop-first.first-index c.loop-first.races (omega arith) (c.loop-first.invariant r read is-other are found)
