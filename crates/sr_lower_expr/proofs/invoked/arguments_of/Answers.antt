-- The chain gives the pairs of both lists, each as the argument that it is.
use Rattle.std.proofs.Common.{rules, tests, ◌∙◌, ap, length, Ok}
use Rattle.std.proofs.lemmas.Iterator.{YieldsList-from_map, YieldsList-from_slice, YieldsList-from_zip, items_from_collect}
use Rattle.std.proofs.lemmas.Iterator.Adapters.{YieldsList-from_vec}
use Rattle.std.proofs.lemmas.Iterator.Consumers.{YieldsList-at}
use Rattle.sr_types.specs.declared.signature.Param.{Param}
use Rattle.std.specs.declared.alloc.AllocError.{AllocError}
use Rattle.sr_lower_expr.specs.Expressions as exprs
use Rattle.sr_lower_expr.specs.declared.scene.Lowered.{Lowered}
use Rattle.sr_check_expr.specs.Meanings.{params_of}
use Rattle.sr_lower_expr.proofs.invoked.arguments_of.Goals as goal

pub returns : goal.returns
returns c =
    let params = YieldsList-from_slice (params_of c.args.facts.now c.args.callee.now) (c.iter.ensures.rest ∙ c.params_of.ensures) in
    let lowered = YieldsList-from_vec c.args.lowered (c.zip.ensures.second.0 ∙ c.into_vec.ensures) (c.zip.ensures.second.1 ∙ c.into_vec.result.ok.0 ∙ ap length c.into_vec.ensures) in
    c.from_vec.ensures
    ∙ items_from_collect {E = AllocError} (Ok c.in_ok-args.args) c.in_ok-args.ensures.ran
    (YieldsList-from_map _ (λ (pair : Param × Lowered). exprs.argument_core pair.0.mode pair.1) (YieldsList-at c.map.ensures.source (YieldsList-from_zip (YieldsList-at c.zip.ensures.first params) lowered)) c.map.ensures.closure (λ x r q k. search (rules, tests)))
