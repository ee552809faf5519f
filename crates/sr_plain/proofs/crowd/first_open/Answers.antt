use Rattle.std.proofs.Common.{refl, take}
use Rattle.std.specs.BTreeSet.{contains}
use Rattle.std.specs.Ordering.{nat_cmp}
use Rattle.sr_plain.specs.Waiting.{is_open}
use Rattle.sr_plain.proofs.CrowdLemmas.{first-all, first-of, first-of-more}
use Rattle.sr_plain.proofs.crowd.first_open.Goals as goal

pub loop-crowd-preserved : goal.loop-crowd-preserved
loop-crowd-preserved c =
    let found = c.first.ensures in
    first-of-more c.args.crowds.now c.loop-crowd.crowd-index c.crowd-item.result c.loop-crowd-test.true c.crowd-item.is c.sooner-least.result
    (c.sooner-least.ensures (is_open (take c.loop-crowd.crowd-index c.args.crowds.now)) (contains nat_cmp c.crowd-item.result.processes) c.loop-crowd.invariant
    (first-of (contains nat_cmp c.crowd-item.result.processes) c.first.result found.there found.least found.none))

pub returns : goal.returns
returns c = first-all is_open c.args.crowds.now c.args.crowds.now c.loop-crowd.crowd-index c.loop-crowd.least refl c.loop-crowd-test.false c.loop-crowd.invariant
