-- The marks of an ended search are the groups.
use Rattle.std.proofs.Common.{sym, subst}
use Rattle.sr_names.specs.Searches.{IsSearch}
use Rattle.sr_names.proofs.Grouping.{AreGrouped-ended}
use Rattle.sr_names.proofs.Searching.{IsSearch-begun}
use Rattle.sr_names.proofs.cycles.groups_of.Goals as goal

pub search-init : goal.search-init
search-init c = subst (IsSearch c.args.links.now) (sym c.in_ok-search.ensures) (IsSearch-begun c.args.links.now)

pub search-preserved : goal.search-preserved
search-preserved c = c.in_ok-step.ensures.steps c.args.links.now c.in_ok-targets.ensures c.search.invariant

pub search-smaller : goal.search-smaller
search-smaller c = c.in_ok-step.ensures.smaller c.if-not-branch.false c.args.links.now c.in_ok-targets.ensures c.search.invariant

pub returns : goal.returns
returns c =
    let ended = c.in_ok-step.ensures.ended c.if-not-branch.true in
    AreGrouped-ended c.args.links.now c.step.new.self (c.in_ok-step.ensures.steps c.args.links.now c.in_ok-targets.ensures c.search.invariant) ended.0 ended.1
