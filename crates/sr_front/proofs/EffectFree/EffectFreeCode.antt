-- Where no rule is broken the guards and orders of the arms of all sites are side-effect-free: procs, components and the core.
use Rattle.std.proofs.Common.{◌≡◌, refl, sym, subst, ◌∙◌, ℕ, ◌+◌, Bool, false, List, [], ◌∷◌, ◌++◌, Option, Some, None, map, flat_map}
use Rattle.std.specs.Prelude.{IsTrue}
use Rattle.sr_check.specs.declared.serving.Serving.TheVariants.{SetsUp, Ends, Serves}
use Rattle.sr_check.specs.Checked.{checked}
use Rattle.sr_check.specs.Components.{beginning, block_read, component_read, components_read, files_read, head_found, item_read, items_procs, items_read, proc_item_read, proc_rules, quantifiers_formal, signed_declared}
use Rattle.sr_check.specs.Contexts.{Context, with_facts}
use Rattle.sr_check.specs.Procs.{Procs}
use Rattle.sr_check.specs.Quantifying.{quantifiers_found, quantifiers_known}
use Rattle.sr_check.specs.Services.{operation_named, service_bound, spot_or, type_of}
use Rattle.sr_check_decl.specs.declared.kind.NamedParam.{NamedParam}
use Rattle.sr_check_decl.specs.Cycles.{type_cycles_found, leads_left}
use Rattle.sr_check_decl.specs.Declaring.{params_declared, standing}
use Rattle.sr_check_decl.specs.Inferring.{program_inferred, program_known}
use Rattle.sr_check_decl.specs.Parts.{component_decl}
use Rattle.sr_check_decl.specs.TypeTrees.{Kinds, ReadsFormals, ReadsReturned, ReadsSignature, all_params, formal_read, formal_step, formals_at, formals_of as decl_params, returned_read, returned_step, signature_read, signature_step, type_kinding, type_step}
use Rattle.sr_check_decl.specs.Variables.{variable}
use Rattle.sr_check_decl.specs.Waiting.{files_waiting}
use Rattle.sr_check_expr.specs.declared.facts.Facts.{Facts}
use Rattle.sr_check_expr.specs.Infos.{info_at}
use Rattle.sr_names.specs.Noted.{Meanings}
use Rattle.sr_names.specs.Specs.{Specs}
use Rattle.sr_names.specs.Spots.{spot_of}
use Rattle.sr_order.specs.Names.{block_names, decl_names, final_names, formal_names, formal_names_step, name_names, names_spans, proc_item_names, proc_names, procedure_names, process_names, quantifier_names, returned_names as returned_spans, returned_names_step, signature_names, signature_names_step, statement_names, type_names, type_names_step, where_some}
use Rattle.sr_order.specs.Spans.{joined}
use Rattle.sr_outline.specs.Numbers.{formal_names as formal_spots, own_spots, quantifier_names as quantifier_spots, returned_names, signature_returned}
use Rattle.sr_outline.specs.Outline.{imports_of, tables_of}
use Rattle.sr_tables.specs.declared.tables.Tables.{Tables}
use Rattle.sr_tables.specs.Parts.{components_in, spot_named}
use Rattle.sr_tree.specs.declared.component.Component.{Component}
use Rattle.sr_tree.specs.declared.component.File.{File}
use Rattle.sr_tree.specs.declared.component.Item.{Item}
use Rattle.sr_tree.specs.declared.component.Item.TheVariants as item
use Rattle.sr_tree.specs.declared.component.ProcItem.{ProcItem}
use Rattle.sr_tree.specs.declared.component.ProcItem.TheVariants as inner
use Rattle.sr_tree.specs.declared.types.Decl.{Decl}
use Rattle.sr_tree.specs.declared.types.Formal.{Formal, out-Formal}
use Rattle.sr_tree.specs.declared.types.Returned.{Returned}
use Rattle.sr_tree.specs.declared.types.Signature.{Signature, out-Signature}
use Rattle.sr_tree.specs.declared.types.TypeTree.TheFolds.{fold_out-Formal, fold_out-Returned, fold_out-Signature, map-Signature}
use Rattle.sr_tree.specs.declared.types.TypeTree.TheOpen.{Signature-F}
use Rattle.sr_tree.specs.declared.types.TypeTree.{TypeTree}
use Rattle.sr_types.specs.declared.signature.Mode.{Mode}
use Rattle.sr_types.specs.declared.ty.Ty.{Ty}
use Rattle.sr_tree.specs.Parts.{body_of}
use Rattle.sr_value.specs.declared.place.Span.{Span}
use Rattle.sr_lower_expr.specs.declared.scene.Scene.{Scene}
use Rattle.sr_desugar.specs.Bodies.{in_body, inner_made, item_output, item_outputs, output_sites}
use Rattle.sr_desugar.specs.Core.{core_of, scene_of, sites_in, whole_in, whole_of, wholes_from}
use Rattle.sr_desugar.specs.Statements.{block_made}
use Rattle.sr_front.proofs.EffectFree.AllowedCode.{files_error_free}
use Rattle.sr_check.proofs.Each.{Each, each-append, each-left, each-parts, each-right}
use Rattle.sr_front.proofs.EffectFree.EffectFreeExprs.{Stay}
use Rattle.sr_front.proofs.EffectFree.EffectFreeSites.{Good, all_effect_free, effect_free_appended, statement_effect_free}
use Rattle.sr_front.proofs.Known.Staying.{AllFree, Free, Loose, Same, same_const, same_formal_quantifiers, same_ops, same_quantifiers, same_self, same_sems, same_service, same_var, same_with}
use Rattle.sr_check.specs.ErrorFree.{ErrorFree}
use Rattle.sr_check.proofs.ErrorFree.{error_free_first, error_free_second}

-- ---- names in procs and statements

-- the names of an item, but for those of declarations that are the component's
abbrev pub code_names : Item → List Span
code_names (item.Spec declared) = []
code_names (item.Proc proc) = proc_names proc
code_names (item.Procedure procedure) = procedure_names procedure
code_names (item.Process process) = process_names process
code_names (item.Final final) = final_names final
code_names (item.Statement statement) = statement_names statement

abbrev pub component_code : Component → List Span
component_code component = flat_map code_names (body_of component)

-- ---- formals of signatures

module _ (known : Facts) where
  -- no type and no component has its name where a formal has
  abbrev FreeParam : NamedParam → Type 0
  FreeParam param = Loose (info_at known.infos param.spot)

  decls_free : (mode : Mode) (ty : Ty) (decls : List Decl) → Each (λ decl. AllFree known (decl_names decl)) decls → Each FreeParam (decl_params mode ty decls)
  decls_free mode ty [] free = tt
  decls_free mode ty (decl ∷ decls) free = (free.0.0, decls_free mode ty decls free.1)

  formal_free : (formal : Formal) (facts : Facts) (is_field : Bool) → AllFree known (formal_names formal) → Each FreeParam (formal_read formal facts is_field).params
  formal_free formal facts is_field free =
      subst (λ (reads : ReadsFormals). Each FreeParam (reads facts is_field).params) (sym (fold_out-Formal Kinds ReadsFormals ReadsReturned ReadsSignature type_step formal_step returned_step signature_step formal))
      (decls_free _ _ (out-Formal formal).decls
      (each-parts (Free known) decl_names (out-Formal formal).decls
      (each-left (Free known) (flat_map decl_names (out-Formal formal).decls) _
      (subst (AllFree known) (fold_out-Formal (List Span) (List Span) (List Span) (List Span) type_names_step formal_names_step returned_names_step signature_names_step formal) free))))

  formals_free : (formals : List Formal) (facts : Facts) (is_field : Bool) → AllFree known (joined (map formal_names formals)) → Each FreeParam (all_params (formals_at (map formal_read formals) facts is_field))
  formals_free [] facts is_field free = tt
  formals_free (formal ∷ formals) facts is_field free =
      each-append FreeParam (formal_read formal facts is_field).params (all_params (formals_at (map formal_read formals) facts is_field))
      (formal_free formal facts is_field (each-left (Free known) (formal_names formal) _ free)) (formals_free formals facts is_field (each-right (Free known) (formal_names formal) _ free))

  returned_free : (returned : Returned) (facts : Facts) → AllFree known (returned_spans returned) → FreeParam (returned_read returned facts).param
  returned_free returned facts free =
      subst (λ (reads : ReadsReturned). FreeParam (reads facts).param) (sym (fold_out-Returned Kinds ReadsFormals ReadsReturned ReadsSignature type_step formal_step returned_step signature_step returned))
      (subst (AllFree known) (fold_out-Returned (List Span) (List Span) (List Span) (List Span) type_names_step formal_names_step returned_names_step signature_names_step returned) free).0

  same_params : (params : List NamedParam) (facts : Facts) → Each FreeParam params → Same known facts → Same known (params_declared params facts)
  same_params [] facts free same = same
  same_params (param ∷ params) facts free same = same_params params _ free.1 (same_with known facts param.spot (variable param.ty) free.0 tt same)

  abbrev named_signature : Signature-F TypeTree Formal Returned Signature → Signature-F (List Span) (List Span) (List Span) (List Span)
  named_signature = map-Signature TypeTree Formal Returned Signature (List Span) (List Span) (List Span) (List Span) type_names formal_names returned_spans signature_names

  abbrev reads_signature : Signature-F TypeTree Formal Returned Signature → Signature-F Kinds ReadsFormals ReadsReturned ReadsSignature
  reads_signature = map-Signature TypeTree Formal Returned Signature Kinds ReadsFormals ReadsReturned ReadsSignature type_kinding formal_read returned_read signature_read

  signed_by : (y : Signature-F TypeTree Formal Returned Signature) (returned : Option Returned) (facts : Facts) → AllFree known (signature_names_step (named_signature (record y { returned = returned }))) → Same known facts
      → Same known (signed_declared (signature_step (reads_signature (record y { returned = returned })) facts).signed facts)
  signed_by y None facts free same =
      same_params (all_params (formals_at (map formal_read y.formals) facts false)) facts (formals_free y.formals facts false (each-left (Free known) (joined (map formal_names y.formals)) _ free)) same
  signed_by y (Some returned) facts free same =
      let params = all_params (formals_at (map formal_read y.formals) facts false) in
      let param = (returned_read returned facts).param in
      same_with known (params_declared params facts) param.spot (variable param.ty) (returned_free returned facts (each-right (Free known) (joined (map formal_names y.formals)) _ free)) tt
      (same_params params facts (formals_free y.formals facts false (each-left (Free known) (joined (map formal_names y.formals)) _ free)) same)

  signed_in : (y : Signature-F TypeTree Formal Returned Signature) (facts : Facts) → AllFree known (signature_names_step (named_signature y)) → Same known facts
      → Same known (signed_declared (signature_step (reads_signature y) facts).signed facts)
  signed_in y = signed_by y y.returned

  same_signed : (signature : Signature) (facts : Facts) → AllFree known (signature_names signature) → Same known facts → Same known (signed_declared (signature_read signature facts).signed facts)
  same_signed signature facts free same =
      subst (λ (reads : ReadsSignature). Same known (signed_declared (reads facts).signed facts))
      (sym (fold_out-Signature Kinds ReadsFormals ReadsReturned ReadsSignature type_step formal_step returned_step signature_step signature))
      (signed_in (out-Signature signature) facts
      (subst (AllFree known) (fold_out-Signature (List Span) (List Span) (List Span) (List Span) type_names_step formal_names_step returned_names_step signature_names_step signature) free) same)

-- ---- blocks

module _ (known : Facts) (scene : Scene) (later : Stay known scene.facts) where
  inner_good : (one : ProcItem) → AllFree known (proc_item_names one) → (context : Context) → Same known context.facts → Good known (proc_item_read one context) (inner_made scene one).sites
  inner_good (inner.Const constant) free context same = record { same = same_const known constant context.facts free same; effect_free = λ whole. refl }
  inner_good (inner.Var variables) free context same = record { same = same_var known variables context.facts free same; effect_free = λ whole. refl }
  inner_good (inner.Op operations) free context same = record { same = same_ops known operations.items context.facts free same; effect_free = λ whole. refl }
  inner_good (inner.Sem semaphores) free context same = record { same = same_sems known semaphores.semaphores context.facts free same; effect_free = λ whole. refl }
  inner_good (inner.Statement statement) free context same = statement_effect_free known scene later statement free context same

  block_good : (items : List ProcItem) → AllFree known (block_names items) → (context : Context) → Same known context.facts
      → Good known (block_read items context) (block_made (map (inner_made scene) items)).sites
  block_good [] free context same = record { same = same; effect_free = λ whole. refl }
  block_good (one ∷ items) free context same =
      let step = proc_item_read one context in
      let first = inner_good one (each-left (Free known) (proc_item_names one) _ free) context same in
      let rest = block_good items (each-right (Free known) (proc_item_names one) _ free) (with_facts context step.facts) first.same in
      record {
        same = rest.same;
        effect_free = λ whole. effect_free_appended (inner_made scene one).sites (block_made (map (inner_made scene) items)).sites
            (first.effect_free (error_free_first step.found _ whole)) (rest.effect_free (error_free_second step.found _ whole));
      }

-- ---- items of components

module _ (known : Facts) (scene : Scene) (later : Stay known scene.facts) where
  item_good : (procs : Procs) (one : Item) (facts : Facts) → AllFree known (code_names one) → Same known facts → Good known (item_read procs one facts) (item_output scene one).sites
  item_good procs (item.Spec declared) facts free same = record { same = same; effect_free = λ whole. refl }
  item_good procs (item.Proc proc) facts free same =
      let served = operation_named facts proc.name in
      let after = each-right (Free known) (names_spans proc.formals) _ free.1 in
      let context = beginning procs (Serves (spot_or (spot_of proc.name.span) served)) (service_bound proc.formals proc.returned (type_of served) facts) in
      let block = block_good known (in_body scene (own_spots scene.facts (map spot_named proc.formals) (returned_names proc.returned) proc.block)) later proc.block
      (each-right (Free known) (where_some name_names proc.returned) _ after) context
      (same_service known proc.formals proc.returned (type_of served) facts (each-left (Free known) (names_spans proc.formals) _ free.1) (each-left (Free known) (where_some name_names proc.returned) _ after) same) in
      record { same = block.same; effect_free = λ whole. block.effect_free (error_free_second (proc_rules facts proc served) _ whole) }
  item_good procs (item.Procedure procedure) facts free same =
      let signed = (signature_read procedure.signature facts).signed in
      let context = beginning procs (Serves (spot_of procedure.name.span)) (signed_declared signed facts) in
      let block = block_good known (in_body scene (own_spots scene.facts (formal_spots (out-Signature procedure.signature).formals) (signature_returned procedure.signature) procedure.block)) later procedure.block
      (each-right (Free known) (signature_names procedure.signature) _ free.1) context
      (same_signed known procedure.signature facts (each-left (Free known) (signature_names procedure.signature) _ free.1) same) in
      record { same = block.same; effect_free = λ whole. block.effect_free (error_free_second (signature_read procedure.signature facts).found _ whole) }
  item_good procs (item.Process process) facts free same =
      let names = flat_map quantifier_names process.quantifiers in
      let inside = quantifiers_known facts process.quantifiers in
      let quantified = each-left (Free known) names _ free.1 in
      let context = beginning procs (Serves (spot_of process.name.span)) (quantifiers_formal process.quantifiers inside) in
      let block = block_good known (in_body scene (own_spots scene.facts (quantifier_spots process.quantifiers) [] process.block)) later process.block
      (each-right (Free known) names _ free.1) context
      (same_formal_quantifiers known process.quantifiers inside quantified (same_quantifiers known process.quantifiers facts quantified same)) in
      record { same = block.same; effect_free = λ whole. block.effect_free (error_free_second (quantifiers_found facts process.quantifiers) _ whole) }
  item_good procs (item.Final final) facts free same = block_good known (in_body scene (own_spots scene.facts [] [] final.block)) later final.block free (beginning procs Ends facts) same
  item_good procs (item.Statement statement) facts free same = statement_effect_free known scene later statement free (beginning procs SetsUp facts) same

  items_good : (procs : Procs) (items : List Item) (facts : Facts) → AllFree known (flat_map code_names items) → Same known facts → Good known (items_read procs items facts) (output_sites (item_outputs scene items))
  items_good procs [] facts free same = record { same = same; effect_free = λ whole. refl }
  items_good procs (one ∷ items) facts free same =
      let step = item_read procs one facts in
      let first = item_good procs one facts (each-left (Free known) (code_names one) _ free) same in
      let rest = items_good procs items step.facts (each-right (Free known) (code_names one) _ free) first.same in
      record {
        same = rest.same;
        effect_free = λ whole. effect_free_appended (item_output scene one).sites (output_sites (item_outputs scene items))
            (first.effect_free (error_free_first step.found _ whole)) (rest.effect_free (error_free_second step.found _ whole));
      }

  component_good : (imports : List (List ℕ)) (component : Component) (facts : Facts) → AllFree known (component_code component) → Same known facts
      → Good known (component_read component facts) (whole_in scene imports component).sites
  component_good imports component facts free same =
      let there = standing facts (component_decl component) in
      let inside : Same known there = record { forth = record { uses = same.forth.uses; infos = same.forth.infos }; back = record { uses = same.back.uses; infos = same.back.infos } } in
      let items = items_good (items_procs there (body_of component) []) (body_of component) there free inside in
      record { same = items.same; effect_free = λ whole. items.effect_free (error_free_second (head_found component there) _ whole) }

-- ---- all components

module _ (known final : Facts) (later : Stay known final) where
  components_good : (tables : Tables) (imports : List (List ℕ)) (number : ℕ) (components : List Component) (facts : Facts)
      → AllFree known (flat_map component_code components) → Same known facts → Good known (components_read components facts) (sites_in (wholes_from final tables imports number components))
  components_good tables imports number [] facts free same = record { same = same; effect_free = λ whole. refl }
  components_good tables imports number (component ∷ more) facts free same =
      let step = component_read component facts in
      let first = component_good known (scene_of final tables imports number component) (record { uses = later.uses; infos = later.infos }) imports component facts (each-left (Free known) (component_code component) _ free) same in
      let rest = components_good tables imports (number + 1) more step.facts (each-right (Free known) (component_code component) _ free) first.same in
      record {
        same = rest.same;
        effect_free = λ whole. effect_free_appended (whole_of final tables imports (number, component)).sites (sites_in (wholes_from final tables imports (number + 1) more))
            (first.effect_free (error_free_first step.found _ whole)) (rest.effect_free (error_free_second step.found _ whole));
      }

-- ---- files

components_appended : (xs ys : List Component) (facts : Facts) → (components_read (xs ++ ys) facts).facts ≡ (components_read ys (components_read xs facts).facts).facts
components_appended [] ys facts = refl
components_appended (x ∷ xs) ys facts = components_appended xs ys (component_read x facts).facts

-- the components of files one after another
pub files_facts : (files : List File) (facts : Facts) → (files_read files facts).facts ≡ (components_read (components_in files) facts).facts
files_facts [] facts = refl
files_facts (file ∷ files) facts = files_facts files (components_read file.components facts).facts ∙ sym (components_appended file.components (components_in files) facts)

module _ (uses : Meanings) (specs : Specs) (files : List File) (free : AllFree (program_known uses specs files) (flat_map component_code (components_in files))) where
  abbrev known : Facts
  known = program_known uses specs files

  -- types and components stay what they are before any statement is looked at
  program_stays : Stay known (checked uses specs files).facts
  program_stays =
      let tables = tables_of known (components_in files) in
      subst (Stay known) (sym (files_facts files known))
      (components_good known known (same_self known).forth tables [] 0 (components_in files) known free (same_self known)).same.forth

  -- where no rule is broken all guards are side-effect-free
  pub core_effect_free : ErrorFree (checked uses specs files).found → IsTrue (all_effect_free (core_of files (checked uses specs files).facts).sites)
  core_effect_free whole =
      let final = (checked uses specs files).facts in
      let components = components_in files in
      let tables = tables_of final components in
      (components_good known final program_stays tables (map (imports_of final tables.components) components) 0 components known free (same_self known)).effect_free
      (files_error_free files known (error_free_second (type_cycles_found (leads_left (program_inferred uses specs files) (files_waiting files))) _ whole))
