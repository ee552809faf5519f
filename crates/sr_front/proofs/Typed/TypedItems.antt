-- Where the items of a component are read without a broken rule, all that is known has a type if it had before.
use Rattle.std.proofs.Common.{List, [], ◌∷◌, flat_map, Option, Some, None, is_some, sym, subst}
use Rattle.sr_names.specs.declared.finding.Rule.TheVariants.{BadType}
use Rattle.sr_names.specs.declared.meaning.Decl.{Decl}
use Rattle.sr_names.specs.Spots.{spot_of}
use Rattle.sr_order.specs.Names.{quantifier_names, signature_names}
use Rattle.sr_tree.specs.declared.component.Component.{Component}
use Rattle.sr_tree.specs.declared.component.Item.{Item}
use Rattle.sr_tree.specs.declared.component.Item.TheVariants as item
use Rattle.sr_tree.specs.declared.component.Proc.{Proc}
use Rattle.sr_tree.specs.Parts.{body_of}
use Rattle.sr_check_expr.specs.declared.facts.Facts.{Facts}
use Rattle.sr_check_expr.specs.Typings.{broken_unless}
use Rattle.sr_check_decl.specs.Declaring.{standing}
use Rattle.sr_check_decl.specs.Parts.{component_decl}
use Rattle.sr_check_decl.specs.TypeTrees.{signature_read}
use Rattle.sr_check.specs.declared.operation.Operation.{Operation}
use Rattle.sr_check.specs.declared.serving.Serving.TheVariants.{Ends, Serves, SetsUp}
use Rattle.sr_check.specs.Components.{beginning, item_read, items_read, proc_rules, proc_serving, quantifiers_formal, signed_declared, component_read, head_found, items_procs}
use Rattle.sr_check.specs.ErrorFree.{ErrorFree}
use Rattle.sr_check.specs.Procs.{Procs}
use Rattle.sr_check.specs.Quantifying.{quantifiers_found, quantifiers_known}
use Rattle.sr_check.specs.Services.{decl_named, head_rule, operation_named, service_bound, spot_or, type_of}
use Rattle.sr_check.proofs.ErrorFree.{error_free_first, error_free_second}
use Rattle.sr_front.proofs.Known.FreeBlocks.{FreeBlock, FreeCode, FreeComponent, FreeItems}
use Rattle.sr_front.proofs.Known.KeptNames.{Anywhere, anywhere, keeps_formal_quantifiers, keeps_signed}
use Rattle.sr_front.proofs.Typed.TypedCode.{AllSigned, Good, Never, SignedBy, operation_signed, quantifiers_good, service_good, signed_closed, statement_good}
use Rattle.sr_front.proofs.Typed.TypedDecls.{declared_typed, formal_quantifiers_typed}
use Rattle.sr_front.proofs.Typed.TypedProcs.{block_good}
use Rattle.sr_front.proofs.Typed.TypedTypes.{SignedTyped, signature_typed, types_typed}

serving_good : (procs : Procs) (proc : Proc) (served : Option Operation) (facts : Facts) → SignedBy facts served
    → FreeBlock proc.block (beginning procs (Serves (spot_or (spot_of proc.name.span) served)) (service_bound proc.formals proc.returned (type_of served) facts))
    → Good facts → ErrorFree (proc_serving procs proc served facts).found → Good (proc_serving procs proc served facts).facts
serving_good procs proc None facts signature free good whole = absurd whole
serving_good procs proc (Some operation) facts signature free good whole =
    let rules = proc_rules facts proc (Some operation) in
    let head = broken_unless (head_rule facts.signatures proc.formals (is_some proc.returned) operation.ty) BadType proc.span in
    block_good proc.block (beginning procs (Serves (spot_or (spot_of proc.name.span) (Some operation))) (service_bound proc.formals proc.returned operation.ty facts)) free
    (service_good facts proc.span proc.formals proc.returned operation signature (error_free_first head _ (error_free_first rules _ whole)) good) (error_free_second rules _ whole)

pub item_good : (procs : Procs) (one : Item) (facts : Facts) → FreeCode procs one facts → Good facts → ErrorFree (item_read procs one facts).found → Good (item_read procs one facts).facts
item_good procs (item.Spec declared) facts free good whole = good
item_good procs (item.Proc proc) facts free good whole = serving_good procs proc (operation_named facts proc.name) facts (operation_signed facts good.signed (decl_named facts proc.name)) free good whole
item_good procs (item.Procedure procedure) facts free good whole =
    let found = (signature_read procedure.signature facts).found in
    let signed = (signature_read procedure.signature facts).signed in
    let read = signature_typed procedure.signature facts facts (types_typed facts good.typed.infos) free.0 in
    block_good procedure.block (beginning procs (Serves (spot_of procedure.name.span)) (signed_declared signed facts)) free.1
    (record {
      typed = declared_typed signed facts (subst SignedTyped (sym read.same) (read.typed (error_free_first found _ whole))) good.typed;
      signed = keeps_signed AllSigned Anywhere Never signed_closed procedure.signature facts (anywhere (signature_names procedure.signature)) good.signed;
    }) (error_free_second found _ whole)
item_good procs (item.Process process) facts free good whole =
    let known = quantifiers_known facts process.quantifiers in
    let quantified = quantifiers_good process.quantifiers facts good in
    block_good process.block (beginning procs (Serves (spot_of process.name.span)) (quantifiers_formal process.quantifiers known)) free
    (record {
      typed = formal_quantifiers_typed process.quantifiers known quantified.typed;
      signed = keeps_formal_quantifiers AllSigned Anywhere Never signed_closed process.quantifiers known (anywhere (flat_map quantifier_names process.quantifiers)) quantified.signed;
    }) (error_free_second (quantifiers_found facts process.quantifiers) _ whole)
item_good procs (item.Final final) facts free good whole = block_good final.block (beginning procs Ends facts) free good whole
item_good procs (item.Statement statement) facts free good whole = statement_good statement (beginning procs SetsUp facts) good whole

pub items_good : (procs : Procs) (items : List Item) (facts : Facts) → FreeItems procs items facts → Good facts → ErrorFree (items_read procs items facts).found → Good (items_read procs items facts).facts
items_good procs [] facts free good whole = good
items_good procs (one ∷ items) facts free good whole =
    let step = item_read procs one facts in
    items_good procs items step.facts free.1 (item_good procs one facts free.0 good (error_free_first step.found _ whole)) (error_free_second step.found _ whole)

-- ---- components and files

pub standing_good : (facts : Facts) (component : Decl) → Good facts → Good (standing facts component)
standing_good facts component good = record { typed = record { infos = good.typed.infos; signatures = good.typed.signatures }; signed = good.signed }

pub component_good : (component : Component) (facts : Facts) → FreeComponent component facts → Good facts → ErrorFree (component_read component facts).found → Good (component_read component facts).facts
component_good component facts free good whole =
    let here = standing facts (component_decl component) in
    items_good (items_procs here (body_of component) []) (body_of component) here free (standing_good facts (component_decl component) good) (error_free_second (head_found component here) _ whole)
