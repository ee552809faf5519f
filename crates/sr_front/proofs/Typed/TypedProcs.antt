-- Where blocks of procs are read without a broken rule, all that is known has a type if it had before.
use Rattle.std.proofs.Common.{◌≡◌, ◌⊎◌, inl, inr, true, List, [], ◌∷◌, refl, sym, ap, ◌∙◌}
use Rattle.sr_names.specs.declared.spot.Spot.{Spot}
use Rattle.sr_names.specs.Spots.{spot_of}
use Rattle.sr_tree.specs.declared.component.ProcItem.{ProcItem}
use Rattle.sr_tree.specs.declared.component.ProcItem.TheVariants as inner
use Rattle.sr_tree.specs.declared.declaration.OpItem.{OpItem}
use Rattle.sr_tree.specs.declared.declaration.OpItem.TheVariants.{Signed as OfSignature, Typed as OfType}
use Rattle.sr_types.specs.Signatures.{number_of}
use Rattle.sr_check_expr.specs.declared.facts.Facts.{Facts}
use Rattle.sr_check_expr.specs.Infos.{info_at}
use Rattle.sr_check_decl.specs.Declarations.{op_found, ops_found}
use Rattle.sr_check_decl.specs.Declaring.{op_item_name, op_type, operation, ops_declared}
use Rattle.sr_check_decl.specs.Entering.{op_entered, ops_entered}
use Rattle.sr_check_decl.specs.Variables.{declare}
use Rattle.sr_check.specs.Components.{block_read, proc_item_read}
use Rattle.sr_check.specs.Contexts.{Context, with_facts}
use Rattle.sr_check.specs.ErrorFree.{ErrorFree}
use Rattle.sr_check.proofs.Entered.{keeps_ops, keeps_signature}
use Rattle.sr_check.proofs.ErrorFree.{error_free_first, error_free_second}
use Rattle.sr_order.specs.Names.{const_names, var_names}
use Rattle.sr_front.proofs.Known.FreeBlocks.{FreeBlock, FreeItem, FreeOps, OpAt, OpsGood}
use Rattle.sr_front.proofs.Known.KeptNames.{Anywhere, anywhere, keeps_const, keeps_var}
use Rattle.sr_front.proofs.Typed.Typed.{AllTyped, FoundTyped}
use Rattle.sr_front.proofs.Typed.TypedCode.{AllSigned, Good, Never, signed_closed, signed_entered, statement_good}
use Rattle.sr_front.proofs.Typed.TypedDecls.{const_typed, var_typed}
use Rattle.sr_front.proofs.Typed.TypedOps.{IsOp, ops_cases, ops_good, ops_signatures, sems_good}
use Rattle.sr_front.proofs.Typed.TypedTypes.{Later, entered_later, later_itself, later_through, signature_typed, type_part, types_typed}

-- ---- the signatures of the operations of a block

one_entering : (op : OpItem) (facts now : Facts) → AllTyped facts → Later (op_entered op facts) now → ErrorFree (op_found now op) → AllTyped (op_entered op facts)
one_entering (OfSignature span name signature) facts now all more whole = record {
  infos = keeps_signature (λ now. (spot : Spot) → FoundTyped (info_at now.infos spot)) (λ now signature h. h) signature facts all.infos;
  signatures = (signature_typed signature facts now (types_typed facts all.infos) more).signatures whole all.signatures;
}
one_entering (OfType span name optype) facts now all more whole = all

ops_entering : (ops : List OpItem) (facts now : Facts) → AllTyped facts → Later (ops_entered ops facts) now → ErrorFree (ops_found now ops) → AllTyped (ops_entered ops facts)
ops_entering [] facts now all more whole = all
ops_entering (op ∷ ops) facts now all more whole =
    let after = op_entered op facts in
    let rest : Later after (ops_entered ops after) = keeps_ops (Later after) (entered_later after) ops after (later_itself after) in
    ops_entering ops after now (one_entering op facts now all (later_through after (ops_entered ops after) now rest more) (error_free_first (op_found now op) _ whole)) more
    (error_free_second (op_found now op) _ whole)

ops_uses : (ops : List OpItem) (facts : Facts) → (ops_declared true ops facts).uses ≡ facts.uses
ops_uses [] facts = refl
ops_uses (op ∷ ops) facts = ops_uses ops (declare facts (spot_of (op_item_name op).span) (operation facts true (op_type facts op)))

pub ops_later : (ops : List OpItem) (facts : Facts) → FreeOps ops facts → Later facts (ops_declared true ops facts)
ops_later ops facts free = record {
  uses = ops_uses ops facts;
  types = λ spot. by spot (ops_cases ops facts spot);
  numbers = λ signature n at. ap (λ signatures. number_of signatures signature) (ops_signatures ops facts) ∙ at;
}
  where
    by : (spot : Spot) → (OpAt ops spot × IsOp (ops_declared true ops facts) spot) ⊎ (info_at (ops_declared true ops facts).infos spot ≡ info_at facts.infos spot)
        → type_part (info_at (ops_declared true ops facts).infos spot) ≡ type_part (info_at facts.infos spot)
    by spot (inl there) = ap type_part there.1.known ∙ sym (free spot there.0)
    by spot (inr same) = ap type_part same

-- the operations of a block, where no type is known at their names
pub block_ops_good : (ops : List OpItem) (facts : Facts) → OpsGood ops facts → Good facts → ErrorFree (ops_found (ops_declared true ops (ops_entered ops facts)) ops) → Good (ops_declared true ops (ops_entered ops facts))
block_ops_good ops facts free good whole =
    let after = ops_entered ops facts in
    ops_good ops after (record {
      typed = ops_entering ops facts (ops_declared true ops after) good.typed (ops_later ops after free.free) whole;
      signed = keeps_ops AllSigned signed_entered ops facts good.signed;
    }) (free.headed whole)

-- ---- blocks of procs

pub inner_good : (one : ProcItem) (context : Context) → FreeItem one context.facts → Good context.facts → ErrorFree (proc_item_read one context).found → Good (proc_item_read one context).facts
inner_good (inner.Const constant) context free good whole = record {
  typed = const_typed constant context.facts good.typed whole;
  signed = keeps_const AllSigned Anywhere Never signed_closed constant context.facts (anywhere (const_names constant)) good.signed;
}
inner_good (inner.Var variables) context free good whole = record {
  typed = var_typed variables context.facts good.typed whole;
  signed = keeps_var AllSigned Anywhere Never signed_closed variables context.facts (anywhere (var_names variables)) good.signed;
}
inner_good (inner.Op operations) context free good whole = block_ops_good operations.items context.facts free good whole
inner_good (inner.Sem semaphores) context free good whole = sems_good semaphores.semaphores context.facts good
inner_good (inner.Statement statement) context free good whole = statement_good statement context good whole

pub block_good : (items : List ProcItem) (context : Context) → FreeBlock items context → Good context.facts → ErrorFree (block_read items context).found → Good (block_read items context).facts
block_good [] context free good whole = good
block_good (one ∷ items) context free good whole =
    let step = proc_item_read one context in
    block_good items (with_facts context step.facts) free.1 (inner_good one context free.0 good (error_free_first step.found _ whole)) (error_free_second step.found _ whole)
