-- The chain gives the pairs of both lists, each as the item that it is.
use Rattle.std.proofs.Common.{rules, tests, ◌∙◌, ap, length, Ok}
use Rattle.std.proofs.lemmas.Iterator.{YieldsList-from_map, YieldsList-from_zip, items_from_collect}
use Rattle.std.proofs.lemmas.Iterator.Adapters.{YieldsList-from_vec}
use Rattle.std.proofs.lemmas.Iterator.Consumers.{YieldsList-at}
use Rattle.std.specs.declared.alloc.AllocError.{AllocError}
use Rattle.sr_lower_expr.specs.Expressions as exprs
use Rattle.sr_lower_expr.proofs.functions.read_as.Goals as goal

pub returns : goal.returns
returns c =
    let kinds = YieldsList-from_vec c.args.kinds (c.into_iter.ensures.rest ∙ c.into_vec.ensures) (c.into_iter.ensures.len ∙ c.into_vec.result.ok.0 ∙ ap length c.into_vec.ensures) in
    let lowered = YieldsList-from_vec c.args.lowered (c.zip.ensures.second.0 ∙ c.into_vec-2.ensures) (c.zip.ensures.second.1 ∙ c.into_vec-2.result.ok.0 ∙ ap length c.into_vec-2.ensures) in
    c.from_vec.ensures
    ∙ items_from_collect {E = AllocError} (Ok c.in_ok-readings.readings) c.in_ok-readings.ensures.ran
    (YieldsList-from_map _ exprs.reading_core (YieldsList-at c.map.ensures.source (YieldsList-from_zip (YieldsList-at c.zip.ensures.first kinds) lowered)) c.map.ensures.closure (λ x r q k. search (rules, tests)))
