use Rattle.std.proofs.Common.{◌≡◌, rules, tests}
use Rattle.std.proofs.lemmas.Iterator.{YieldsList-from_slice}
use Rattle.std.proofs.lemmas.Iterator.Search.{position_from_yields_List}
use Rattle.std.specs.BTreeSet.{contains}
use Rattle.std.specs.List.{position}
use Rattle.std.specs.Ordering.{nat_cmp}
use Rattle.sr_plain.specs.declared.crowd.Opened.{Opened}
use Rattle.sr_plain.proofs.CrowdLemmas.{holds-process, holds-nobody}
use Rattle.sr_plain.proofs.crowd.place_with.Goals as goal

first : (c : goal.After-position) → c.position.result ≡ position (λ (o : Opened). contains nat_cmp o.processes c.args.process) c.args.crowds.now
first c =
    position_from_yields_List (λ (o : Opened). contains nat_cmp o.processes c.args.process) _ _ _ c.position.ensures.ran (YieldsList-from_slice c.args.crowds.now c.iter.ensures.rest) (λ x b q k. search (rules, tests))

pub returns-clause-some : goal.returns-clause-some
returns-clause-some c = holds-process c.args.crowds.now c.args.process c.position.result (first c)

pub returns-clause-none : goal.returns-clause-none
returns-clause-none c = holds-nobody c.args.crowds.now c.args.process c.position.result (first c)
