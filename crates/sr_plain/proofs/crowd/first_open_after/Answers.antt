use Rattle.std.proofs.Common.{◌&&◌, refl, take}
use Rattle.std.specs.BTreeSet.{contains}
use Rattle.std.specs.Ordering.{nat_cmp}
use Rattle.std.specs.Prelude.{nat_lt}
use Rattle.sr_plain.specs.Waiting.{is_open}
use Rattle.sr_plain.proofs.CrowdLemmas.{first-all, first-any, first-later, first-more}
use Rattle.sr_plain.proofs.crowd.first_open_after.Goals as goal

pub loop-crowd-init : goal.loop-crowd-init
loop-crowd-init c = first-any c.args.last

pub loop-crowd-preserved : goal.loop-crowd-preserved
loop-crowd-preserved c =
    let found = c.first_after.ensures in
    first-more c.args.last c.args.crowds.now c.loop-crowd.crowd-index c.crowd-item.result c.loop-crowd-test.true c.crowd-item.is c.sooner-least.result
    (c.sooner-least.ensures (λ q. nat_lt c.args.last q && is_open (take c.loop-crowd.crowd-index c.args.crowds.now) q) (λ q. nat_lt c.args.last q && contains nat_cmp c.crowd-item.result.processes q) c.loop-crowd.invariant
    (first-later (contains nat_cmp c.crowd-item.result.processes) c.args.last c.first_after.result found.there found.later found.least found.none))

pub returns : goal.returns
returns c = first-all (λ crowds q. nat_lt c.args.last q && is_open crowds q) c.args.crowds.now c.args.crowds.now c.loop-crowd.crowd-index c.loop-crowd.least refl c.loop-crowd-test.false c.loop-crowd.invariant
