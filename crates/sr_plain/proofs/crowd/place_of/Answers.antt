use Rattle.std.proofs.Common.{rules, tests}
use Rattle.std.proofs.lemmas.Iterator.{YieldsList-from_slice}
use Rattle.std.proofs.lemmas.Iterator.Search.{position_from_yields_List}
use Rattle.sr_plain.specs.declared.crowd.Opened.{Opened}
use Rattle.sr_queue.specs.Classes.{same_class}
use Rattle.sr_plain.proofs.CrowdLemmas.{holds-class}
use Rattle.sr_plain.proofs.crowd.place_of.Goals as goal

pub returns : goal.returns
returns c =
    holds-class c.args.crowds.now c.args.class c.position.result
    (position_from_yields_List (λ (o : Opened). same_class o.class c.args.class) _ _ _ c.position.ensures.ran (YieldsList-from_slice c.args.crowds.now c.iter.ensures.rest) (λ x b q k. search (rules, tests)))
