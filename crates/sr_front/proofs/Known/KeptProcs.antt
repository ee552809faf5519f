-- What declarations keep is kept where procs, components and files are read, where no rule is broken in them.
use Rattle.std.proofs.Common.{List, [], ◌∷◌, flat_map}
use Rattle.sr_value.specs.declared.place.Span.{Span}
use Rattle.sr_names.specs.declared.spot.Spot.{Spot}
use Rattle.sr_names.specs.Spots.{spot_of}
use Rattle.sr_outline.specs.Heads.{DeclaredOperation, Heads, block_opened, inner_opened, item_opened, ops_opened, sems_opened, spec_item_opened}
use Rattle.sr_order.specs.Names.{name_names, names_spans, quantifier_names, signature_names, where_some}
use Rattle.sr_tree.specs.declared.component.Component.{Component}
use Rattle.sr_tree.specs.declared.component.Item.{Item}
use Rattle.sr_tree.specs.declared.component.Item.TheVariants as item
use Rattle.sr_tree.specs.declared.component.ProcItem.{ProcItem}
use Rattle.sr_tree.specs.declared.component.ProcItem.TheVariants as inner
use Rattle.sr_core.specs.declared.statement.Scope.TheVariants.{Own}
use Rattle.sr_tables.specs.Parts.{spot_named}
use Rattle.sr_tables.specs.Shapes.{Shapes}
use Rattle.sr_tree.specs.declared.declaration.OpItem.{OpItem}
use Rattle.sr_tree.specs.declared.declaration.Semaphore.{Semaphore}
use Rattle.sr_check_expr.specs.declared.facts.Facts.{Facts}
use Rattle.sr_check_decl.specs.Declaring.{standing}
use Rattle.sr_check_decl.specs.Parts.{component_decl}
use Rattle.sr_check_decl.specs.TypeTrees.{signature_read}
use Rattle.sr_tree.specs.Parts.{body_of, spec_of}
use Rattle.sr_check.specs.declared.serving.Serving.TheVariants.{SetsUp, Ends, Serves}
use Rattle.sr_check.specs.Components.{beginning, block_read, component_read, components_read, head_found, item_read, items_procs, items_read, proc_item_read, proc_rules, quantifiers_formal, signed_declared}
use Rattle.sr_check.specs.Contexts.{Context, with_facts}
use Rattle.sr_check.specs.ErrorFree.{ErrorFree}
use Rattle.sr_check.specs.Procs.{Procs}
use Rattle.sr_check.specs.Quantifying.{quantifiers_found, quantifiers_known}
use Rattle.sr_check.specs.Services.{operation_named, service_bound, spot_or, type_of}
use Rattle.sr_check.proofs.Each.{Each, each-left, each-right}
use Rattle.sr_check.proofs.ErrorFree.{error_free_first, error_free_second}
use Rattle.sr_front.proofs.Known.FreeBlocks.{FreeBlock, FreeCode, FreeComponent, FreeComponents, FreeItem, FreeItems}
use Rattle.sr_front.proofs.Known.KeptBy.{KeptBetween, KeptIn, Names}
use Rattle.sr_front.proofs.Known.KeptCode.{closed_by, keeps_statement}
use Rattle.sr_front.proofs.Known.KeptNames.{Closed, FitOps, FitSems, keeps_const, keeps_formal_quantifiers, keeps_local_ops, keeps_local_sems, keeps_signed, keeps_var}
use Rattle.sr_front.proofs.Names.PlainNames.{block_plain, code_plain, component_code_plain, inner_plain}

-- what declarations keep, where operations are declared at spots that are fit for them
module _ (facts : Facts) (shapes : Shapes) (heads : Heads) (Q : Facts → Type 0) (Free Fit : Spot → Type 0) (closed : Closed Q Free Fit) (Opened : DeclaredOperation → Type 0) (fits : (one : DeclaredOperation) → Opened one → Fit (spot_named one.name)) where
  ops_fit : (ops : List OpItem) → Each Opened (ops_opened facts shapes heads Own ops) → FitOps Q Free Fit closed ops
  ops_fit [] opened = tt
  ops_fit (op ∷ ops) opened = (fits _ opened.0, ops_fit ops opened.1)

  sems_fit : (semaphores : List Semaphore) → Each Opened (sems_opened Own semaphores) → FitSems Q Free Fit closed semaphores
  sems_fit [] opened = tt
  sems_fit (semaphore ∷ more) opened = (fits _ opened.0, sems_fit more opened.1)

  inner_kept : (one : ProcItem) → Names Free (inner_plain one) → Each Opened (inner_opened facts shapes heads one) → (context : Context) → FreeItem one context.facts → Q context.facts → ErrorFree (proc_item_read one context).found → Q (proc_item_read one context).facts
  inner_kept (inner.Const constant) free opened context types h whole = keeps_const Q Free Fit closed constant context.facts free h
  inner_kept (inner.Var variables) free opened context types h whole = keeps_var Q Free Fit closed variables context.facts free h
  inner_kept (inner.Op operations) free opened context types h whole = keeps_local_ops Q Free Fit closed operations.items context.facts (ops_fit operations.items opened) h
  inner_kept (inner.Sem semaphores) free opened context types h whole = keeps_local_sems Q Free Fit closed semaphores.semaphores context.facts (sems_fit semaphores.semaphores opened) h
  inner_kept (inner.Statement statement) free opened context types h whole = keeps_statement Q Free Fit closed statement free context h

  pub closed_in : KeptIn (inner_opened facts shapes heads) Q Free Opened
  closed_in = record {
    by = closed_by Q Free Fit closed;
    inner = inner_kept;
    signed = λ signature now free. keeps_signed Q Free Fit closed signature now free;
    formal_quantifiers = λ quantifiers now free. keeps_formal_quantifiers Q Free Fit closed quantifiers now free;
  }

module _ (facts : Facts) (shapes : Shapes) (heads : Heads) (Q : Facts → Type 0) (Free : Spot → Type 0) (Opened : DeclaredOperation → Type 0) (kept : KeptIn (inner_opened facts shapes heads) Q Free Opened) where
  abbrev FreeName : Span → Type 0
  FreeName span = Free (spot_of span)

  pub keeps_block : (items : List ProcItem) → Names Free (block_plain items) → Each Opened (block_opened facts shapes heads items) → (context : Context) → FreeBlock items context → Q context.facts → ErrorFree (block_read items context).found
      → Q (block_read items context).facts
  keeps_block [] free opened context types h whole = h
  keeps_block (one ∷ items) free opened context types h whole =
      let step = proc_item_read one context in
      let here = inner_opened facts shapes heads one in
      keeps_block items (each-right FreeName (inner_plain one) _ free) (each-right Opened here _ opened) (with_facts context step.facts) types.1
      (kept.inner one (each-left FreeName (inner_plain one) _ free) (each-left Opened here _ opened) context types.0 h (error_free_first step.found _ whole)) (error_free_second step.found _ whole)

  pub keeps_item : (procs : Procs) (one : Item) (now : Facts) → Names Free (code_plain one) → Each Opened (item_opened facts shapes heads one) → FreeCode procs one now → Q now → ErrorFree (item_read procs one now).found → Q (item_read procs one now).facts
  keeps_item procs (item.Spec declared) now free opened types h whole = h
  keeps_item procs (item.Proc proc) now free opened types h whole =
      let served = operation_named now proc.name in
      let after = each-right FreeName (names_spans proc.formals) _ free.1 in
      keeps_block proc.block (each-right FreeName (where_some name_names proc.returned) _ after) opened
      (beginning procs (Serves (spot_or (spot_of proc.name.span) served)) (service_bound proc.formals proc.returned (type_of served) now)) types
      (kept.by.service proc.formals proc.returned (type_of served) now (each-left FreeName (names_spans proc.formals) _ free.1) (each-left FreeName (where_some name_names proc.returned) _ after) h)
      (error_free_second (proc_rules now proc served) _ whole)
  keeps_item procs (item.Procedure procedure) now free opened types h whole =
      let signed = (signature_read procedure.signature now).signed in
      keeps_block procedure.block (each-right FreeName (signature_names procedure.signature) _ free) opened.1 (beginning procs (Serves (spot_of procedure.name.span)) (signed_declared signed now)) types.1
      (kept.signed procedure.signature now (each-left FreeName (signature_names procedure.signature) _ free) h)
      (error_free_second (signature_read procedure.signature now).found _ whole)
  keeps_item procs (item.Process process) now free opened types h whole =
      let names = flat_map quantifier_names process.quantifiers in
      let known = quantifiers_known now process.quantifiers in
      let quantified = each-left FreeName names _ free in
      keeps_block process.block (each-right FreeName names _ free) opened.1 (beginning procs (Serves (spot_of process.name.span)) (quantifiers_formal process.quantifiers known)) types
      (kept.formal_quantifiers process.quantifiers known quantified (kept.by.quantifiers process.quantifiers now quantified h))
      (error_free_second (quantifiers_found now process.quantifiers) _ whole)
  keeps_item procs (item.Final final) now free opened types h whole = keeps_block final.block free opened (beginning procs Ends now) types h whole
  keeps_item procs (item.Statement statement) now free opened types h whole = kept.by.statement statement free (beginning procs SetsUp now) h

  pub keeps_items : (procs : Procs) (items : List Item) (now : Facts) → Names Free (flat_map code_plain items) → Each Opened (flat_map (item_opened facts shapes heads) items) → FreeItems procs items now → Q now → ErrorFree (items_read procs items now).found
      → Q (items_read procs items now).facts
  keeps_items procs [] now free opened types h whole = h
  keeps_items procs (one ∷ items) now free opened types h whole =
      let step = item_read procs one now in
      let here = item_opened facts shapes heads one in
      keeps_items procs items step.facts (each-right FreeName (code_plain one) _ free) (each-right Opened here _ opened) types.1
      (keeps_item procs one now (each-left FreeName (code_plain one) _ free) (each-left Opened here _ opened) types.0 h (error_free_first step.found _ whole)) (error_free_second step.found _ whole)

-- ---- components

module _ (facts : Facts) (shapes : Shapes) (heads : Heads) (R : Facts → Type 0) (Free : Spot → Type 0) (among : Component → Type 0) (between : (component : Component) → among component → KeptBetween facts shapes heads R Free component) where
  pub keeps_component : (component : Component) (there : among component) (now : Facts) → Names Free (component_code_plain component) → FreeComponent component now → R now → ErrorFree (component_read component now).found → R (component_read component now).facts
  keeps_component component there now free types h whole =
      let within = between component there in
      let at = standing now (component_decl component) in
      let specs = flat_map (spec_item_opened facts shapes heads) (spec_of component) in
      within.leaves (component_read component now).facts
      (keeps_items facts shapes heads within.Q Free within.Opened within.kept (items_procs at (body_of component) []) (body_of component) at free (each-right within.Opened specs _ within.opened) types (within.enters now h)
      (error_free_second (head_found component at) _ whole))

  pub keeps_components : (components : List Component) → Each among components → (now : Facts) → Names Free (flat_map component_code_plain components) → FreeComponents components now → R now → ErrorFree (components_read components now).found
      → R (components_read components now).facts
  keeps_components [] there now free types h whole = h
  keeps_components (component ∷ more) there now free types h whole =
      let step = component_read component now in
      keeps_components more there.1 step.facts (each-right (λ span. Free (spot_of span)) (component_code_plain component) _ free) types.1
      (keeps_component component there.0 now (each-left (λ span. Free (spot_of span)) (component_code_plain component) _ free) types.0 h (error_free_first step.found _ whole)) (error_free_second step.found _ whole)
