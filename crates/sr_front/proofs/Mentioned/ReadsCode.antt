-- The code of components reads with the names in it.
use Rattle.std.proofs.Common.{List, [], ◌∷◌, ◌++◌, Option, map, flat_map}
use Rattle.sr_value.specs.declared.place.Span.{Span}
use Rattle.sr_names.specs.declared.spot.Spot.{Spot}
use Rattle.sr_names.specs.Spots.{spot_of}
use Rattle.sr_order.specs.Names.{arm_names, block_item_names, block_names, branch_names, co_arm_names, expr_names, final_names, name_names, names_spans, op_item_names, proc_item_names, proc_names, qualified_names, quantifier_names, semaphore_names, signature_names, statement_names, where_some}
use Rattle.sr_order.specs.Spans.{block_operations, inner_operations, op_item_span, joined}
use Rattle.sr_tree.specs.declared.component.Component.{Component}
use Rattle.sr_tree.specs.declared.component.Item.{Item}
use Rattle.sr_tree.specs.declared.component.Item.TheVariants as item
use Rattle.sr_tree.specs.declared.component.ProcItem.{ProcItem}
use Rattle.sr_tree.specs.declared.component.ProcItem.TheVariants as inner
use Rattle.sr_tree.specs.declared.declaration.OpItem.{OpItem}
use Rattle.sr_tree.specs.declared.declaration.OpItem.TheVariants.{Signed, Typed}
use Rattle.sr_tree.specs.declared.declaration.Semaphore.{Semaphore}
use Rattle.sr_tree.specs.declared.name.Name.{Name}
use Rattle.sr_tree.specs.declared.statement.Arm.{Arm}
use Rattle.sr_tree.specs.declared.statement.BlockItem.{BlockItem}
use Rattle.sr_tree.specs.declared.statement.Branch.{Branch}
use Rattle.sr_tree.specs.declared.statement.CoArm.{CoArm}
use Rattle.sr_tree.specs.declared.statement.Quantifier.{Quantifier}
use Rattle.sr_tree.specs.Parts.{body_of}
use Rattle.sr_types.specs.declared.ty.Ty.{Ty}
use Rattle.sr_check_expr.specs.declared.facts.Facts.{Facts}
use Rattle.sr_check_decl.specs.Declaring.{standing}
use Rattle.sr_check_decl.specs.Parts.{component_decl}
use Rattle.sr_check_decl.specs.TypeTrees.{signature_read}
use Rattle.sr_check.specs.declared.serving.Serving.TheVariants.{SetsUp, Ends, Serves}
use Rattle.sr_check.specs.Components.{beginning, block_read, component_read, components_read, item_read, items_procs, items_read, proc_item_read, quantifiers_formal, signed_declared}
use Rattle.sr_check.specs.Contexts.{Context, Steps, in_order, with_facts}
use Rattle.sr_check.specs.Procs.{Procs}
use Rattle.sr_check.specs.Quantifying.{quantifiers_known}
use Rattle.sr_check.specs.Services.{operation_named, service_bound, spot_or, type_of}
use Rattle.sr_check.specs.Statements.{arm_read, block_item_read, branch_read, co_arm_read}
use Rattle.sr_check.proofs.Each.{Each, each-left, each-right}
use Rattle.sr_front.proofs.Known.InfosStay.{Reads, Steady, reads_both, reads_nothing}
use Rattle.sr_front.proofs.Known.KeptCode.{keeps_arm, keeps_block_item, keeps_branch, keeps_co_arm, keeps_statement}
use Rattle.sr_front.proofs.Known.KeptNames.{Closed, FitOps, FitSems, keeps_const, keeps_formal_quantifiers, keeps_local_ops, keeps_local_sems, keeps_quantifiers, keeps_service, keeps_signed, keeps_var}
use Rattle.sr_front.proofs.Names.PlainNames.{block_plain, code_plain, component_code_plain, inner_plain}
use Rattle.sr_front.proofs.Lists.Sharing.{Shares, all_first, all_left_out, both_share, first_each, in_first, left_out, none}

-- the operations that the blocks of an item declare
abbrev pub code_operations : Item → List Span
code_operations (item.Spec declared) = []
code_operations (item.Proc proc) = block_operations proc.block
code_operations (item.Procedure procedure) = block_operations procedure.block
code_operations (item.Process process) = block_operations process.block
code_operations (item.Final final) = block_operations final.block
code_operations (item.Statement statement) = []

abbrev pub component_code_operations : Component → List Span
component_code_operations component = flat_map code_operations (body_of component)

-- ---- what declarations keep, the code of components keeps

module _ (Q : Facts → Type 0) (Free Fit : Spot → Type 0) (closed : Closed Q Free Fit) where
  abbrev FreeName : Span → Type 0
  FreeName span = Free (spot_of span)

  abbrev FitName : Span → Type 0
  FitName span = Fit (spot_of span)

  ops_fit : (ops : List OpItem) → Each FitName (map op_item_span ops) → FitOps Q Free Fit closed ops
  ops_fit [] fit = tt
  ops_fit (Signed span name signature ∷ ops) fit = (fit.0, ops_fit ops fit.1)
  ops_fit (Typed span name optype ∷ ops) fit = (fit.0, ops_fit ops fit.1)

  sems_fit : (semaphores : List Semaphore) → Each FitName (map (λ semaphore. semaphore.name.span) semaphores) → FitSems Q Free Fit closed semaphores
  sems_fit [] fit = tt
  sems_fit (semaphore ∷ more) fit = (fit.0, sems_fit more fit.1)

  pub keeps_inner : (one : ProcItem) (context : Context) → Each FreeName (inner_plain one) → Each FitName (inner_operations one) → Q context.facts → Q (proc_item_read one context).facts
  keeps_inner (inner.Const constant) context free fit h = keeps_const Q Free Fit closed constant context.facts free h
  keeps_inner (inner.Var variables) context free fit h = keeps_var Q Free Fit closed variables context.facts free h
  keeps_inner (inner.Op operations) context free fit h = keeps_local_ops Q Free Fit closed operations.items context.facts (ops_fit operations.items fit) h
  keeps_inner (inner.Sem semaphores) context free fit h = keeps_local_sems Q Free Fit closed semaphores.semaphores context.facts (sems_fit semaphores.semaphores fit) h
  keeps_inner (inner.Statement statement) context free fit h = keeps_statement Q Free Fit closed statement free context h

  pub keeps_block : (items : List ProcItem) (context : Context) → Each FreeName (block_plain items) → Each FitName (block_operations items) → Q context.facts → Q (block_read items context).facts
  keeps_block [] context free fit h = h
  keeps_block (one ∷ items) context free fit h =
      keeps_block items (with_facts context (proc_item_read one context).facts) (each-right FreeName (inner_plain one) _ free) (each-right FitName (inner_operations one) _ fit)
      (keeps_inner one context (each-left FreeName (inner_plain one) _ free) (each-left FitName (inner_operations one) _ fit) h)

  pub keeps_item : (procs : Procs) (one : Item) (facts : Facts) → Each FreeName (code_plain one) → Each FitName (code_operations one) → Q facts → Q (item_read procs one facts).facts
  keeps_item procs (item.Spec declared) facts free fit h = h
  keeps_item procs (item.Proc proc) facts free fit h =
      let served = operation_named facts proc.name in
      let after = each-right FreeName (names_spans proc.formals) _ free.1 in
      keeps_block proc.block (beginning procs (Serves (spot_or (spot_of proc.name.span) served)) (service_bound proc.formals proc.returned (type_of served) facts))
      (each-right FreeName (where_some name_names proc.returned) _ after) fit
      (keeps_service Q Free Fit closed proc.formals proc.returned (type_of served) facts (each-left FreeName (names_spans proc.formals) _ free.1) (each-left FreeName (where_some name_names proc.returned) _ after) h)
  keeps_item procs (item.Procedure procedure) facts free fit h =
      let signed = (signature_read procedure.signature facts).signed in
      keeps_block procedure.block (beginning procs (Serves (spot_of procedure.name.span)) (signed_declared signed facts)) (each-right FreeName (signature_names procedure.signature) _ free) fit
      (keeps_signed Q Free Fit closed procedure.signature facts (each-left FreeName (signature_names procedure.signature) _ free) h)
  keeps_item procs (item.Process process) facts free fit h =
      let known = quantifiers_known facts process.quantifiers in
      let names = flat_map quantifier_names process.quantifiers in
      let quantified = each-left FreeName names _ free in
      keeps_block process.block (beginning procs (Serves (spot_of process.name.span)) (quantifiers_formal process.quantifiers known)) (each-right FreeName names _ free) fit
      (keeps_formal_quantifiers Q Free Fit closed process.quantifiers known quantified (keeps_quantifiers Q Free Fit closed process.quantifiers facts quantified h))
  keeps_item procs (item.Final final) facts free fit h = keeps_block final.block (beginning procs Ends facts) free fit h
  keeps_item procs (item.Statement statement) facts free fit h = keeps_statement Q Free Fit closed statement free (beginning procs SetsUp facts) h

  pub keeps_items : (procs : Procs) (items : List Item) (facts : Facts) → Each FreeName (flat_map code_plain items) → Each FitName (flat_map code_operations items) → Q facts → Q (items_read procs items facts).facts
  keeps_items procs [] facts free fit h = h
  keeps_items procs (one ∷ items) facts free fit h =
      keeps_items procs items (item_read procs one facts).facts (each-right FreeName (code_plain one) _ free) (each-right FitName (code_operations one) _ fit)
      (keeps_item procs one facts (each-left FreeName (code_plain one) _ free) (each-left FitName (code_operations one) _ fit) h)

module _ (Q : Facts → Type 0) (Free Fit : Spot → Type 0) (steady : Steady Q Free Fit) where
  pub keeps_component : (tree : Component) (facts : Facts) → Each (λ span. Free (spot_of span)) (component_code_plain tree) → Each (λ span. Fit (spot_of span)) (component_code_operations tree) → Q facts → Q (component_read tree facts).facts
  keeps_component tree facts free fit h =
      let start = standing facts (component_decl tree) in
      keeps_items Q Free Fit steady.closed (items_procs start (body_of tree) []) (body_of tree) start free fit (steady.standing facts (component_decl tree) h)

  pub keeps_components : (trees : List Component) (facts : Facts) → Each (λ span. Free (spot_of span)) (flat_map component_code_plain trees) → Each (λ span. Fit (spot_of span)) (flat_map component_code_operations trees) → Q facts
      → Q (components_read trees facts).facts
  keeps_components [] facts free fit h = h
  keeps_components (tree ∷ more) facts free fit h =
      keeps_components more (component_read tree facts).facts (each-right (λ span. Free (spot_of span)) (component_code_plain tree) _ free) (each-right (λ span. Fit (spot_of span)) (component_code_operations tree) _ fit)
      (keeps_component tree facts (each-left (λ span. Free (spot_of span)) (component_code_plain tree) _ free) (each-left (λ span. Fit (spot_of span)) (component_code_operations tree) _ fit) h)

-- ---- the names in code

abbrev pub item_inside : Item → List Span
item_inside (item.Spec declared) = []
item_inside (item.Proc proc) = proc_names proc
item_inside (item.Procedure procedure) = signature_names procedure.signature ++ block_names procedure.block
item_inside (item.Process process) = flat_map quantifier_names process.quantifiers ++ block_names process.block
item_inside (item.Final final) = final_names final
item_inside (item.Statement statement) = statement_names statement

abbrev pub component_inside : Component → List Span
component_inside component = flat_map item_inside (body_of component)

pub parts_share : {A : Type 0} (xs ys zs : A → List Span) → ((a : A) → Shares (xs a) (ys a) (zs a)) → (all : List A) → Shares (flat_map xs all) (flat_map ys all) (flat_map zs all)
parts_share xs ys zs each [] = none
parts_share xs ys zs each (a ∷ all) = both_share (each a) (parts_share xs ys zs each all)

-- ---- those of values among them

inner_plain_share : (one : ProcItem) → Shares (proc_item_names one) (inner_plain one) []
inner_plain_share (inner.Op operations) = all_left_out _
inner_plain_share (inner.Sem semaphores) = all_left_out _
inner_plain_share _ = all_first _

block_plain_share : (block : List ProcItem) → Shares (block_names block) (block_plain block) []
block_plain_share [] = none
block_plain_share (one ∷ block) = both_share (inner_plain_share one) (block_plain_share block)

item_plain_share : (one : Item) → Shares (item_inside one) (code_plain one) []
item_plain_share (item.Spec declared) = none
item_plain_share (item.Proc proc) = in_first proc.name.span (both_share (all_first (names_spans proc.formals)) (both_share (all_first (where_some name_names proc.returned)) (block_plain_share proc.block)))
item_plain_share (item.Procedure procedure) = both_share (all_first (signature_names procedure.signature)) (block_plain_share procedure.block)
item_plain_share (item.Process process) = both_share (all_first (flat_map quantifier_names process.quantifiers)) (block_plain_share process.block)
item_plain_share (item.Final final) = block_plain_share final.block
item_plain_share (item.Statement statement) = all_first _

items_plain_share : (items : List Item) → Shares (flat_map item_inside items) (flat_map code_plain items) []
items_plain_share [] = none
items_plain_share (one ∷ items) = both_share (item_plain_share one) (items_plain_share items)

components_plain_share : (trees : List Component) → Shares (flat_map component_inside trees) (flat_map component_code_plain trees) []
components_plain_share [] = none
components_plain_share (tree ∷ more) = both_share (items_plain_share (body_of tree)) (components_plain_share more)

-- ---- those of operations among them

op_shares : (op : OpItem) → Shares (op_item_names op) (op_item_span op ∷ []) []
op_shares (Signed span name signature) = in_first name.span (all_left_out (signature_names signature))
op_shares (Typed span name optype) = in_first name.span (all_left_out (qualified_names optype))

pub ops_share : (ops : List OpItem) → Shares (flat_map op_item_names ops) (map op_item_span ops) []
ops_share [] = none
ops_share (op ∷ ops) = both_share (op_shares op) (ops_share ops)

pub sems_share : (semaphores : List Semaphore) → Shares (flat_map semaphore_names semaphores) (map (λ semaphore. semaphore.name.span) semaphores) []
sems_share [] = none
sems_share (semaphore ∷ more) = in_first semaphore.name.span (both_share (all_left_out (where_some expr_names semaphore.value)) (sems_share more))

inner_operations_share : (one : ProcItem) → Shares (proc_item_names one) (inner_operations one) []
inner_operations_share (inner.Op operations) = ops_share operations.items
inner_operations_share (inner.Sem semaphores) = sems_share semaphores.semaphores
inner_operations_share _ = all_left_out _

block_operations_share : (block : List ProcItem) → Shares (block_names block) (block_operations block) []
block_operations_share [] = none
block_operations_share (one ∷ block) = both_share (inner_operations_share one) (block_operations_share block)

item_operations_share : (one : Item) → Shares (item_inside one) (code_operations one) []
item_operations_share (item.Spec declared) = none
item_operations_share (item.Proc proc) = left_out proc.name.span (both_share (all_left_out (names_spans proc.formals)) (both_share (all_left_out (where_some name_names proc.returned)) (block_operations_share proc.block)))
item_operations_share (item.Procedure procedure) = both_share (all_left_out (signature_names procedure.signature)) (block_operations_share procedure.block)
item_operations_share (item.Process process) = both_share (all_left_out (flat_map quantifier_names process.quantifiers)) (block_operations_share process.block)
item_operations_share (item.Final final) = block_operations_share final.block
item_operations_share (item.Statement statement) = all_left_out _

items_operations_share : (items : List Item) → Shares (flat_map item_inside items) (flat_map code_operations items) []
items_operations_share [] = none
items_operations_share (one ∷ items) = both_share (item_operations_share one) (items_operations_share items)

components_operations_share : (trees : List Component) → Shares (flat_map component_inside trees) (flat_map component_code_operations trees) []
components_operations_share [] = none
components_operations_share (tree ∷ more) = both_share (items_operations_share (body_of tree)) (components_operations_share more)

-- ---- so code reads with its names

module _ (Free : Spot → Type 0) where
  abbrev AtName : Span → Type 0
  AtName span = Free (spot_of span)

  -- what holds of all names holds of some
  some_names : {xs ys : List Span} → Shares xs ys [] → Each AtName xs → Each AtName ys
  some_names shares free = first_each AtName shares free

pub reads_inner : (one : ProcItem) (context : Context) → Reads (proc_item_names one) context.facts (proc_item_read one context).facts
reads_inner one context Q Free steady free h = keeps_inner Q Free Free steady.closed one context (some_names Free (inner_plain_share one) free) (some_names Free (inner_operations_share one) free) h

pub reads_block : (items : List ProcItem) (context : Context) → Reads (block_names items) context.facts (block_read items context).facts
reads_block items context Q Free steady free h = keeps_block Q Free Free steady.closed items context (some_names Free (block_plain_share items) free) (some_names Free (block_operations_share items) free) h

pub reads_item : (procs : Procs) (one : Item) (facts : Facts) → Reads (item_inside one) facts (item_read procs one facts).facts
reads_item procs one facts Q Free steady free h = keeps_item Q Free Free steady.closed procs one facts (some_names Free (item_plain_share one) free) (some_names Free (item_operations_share one) free) h

pub reads_items : (procs : Procs) (items : List Item) (facts : Facts) → Reads (flat_map item_inside items) facts (items_read procs items facts).facts
reads_items procs items facts Q Free steady free h = keeps_items Q Free Free steady.closed procs items facts (some_names Free (items_plain_share items) free) (some_names Free (items_operations_share items) free) h

pub reads_component : (tree : Component) (facts : Facts) → Reads (component_inside tree) facts (component_read tree facts).facts
reads_component tree facts Q Free steady free h =
    keeps_component Q Free Free steady tree facts (some_names Free (items_plain_share (body_of tree)) free) (some_names Free (items_operations_share (body_of tree)) free) h

pub reads_components : (trees : List Component) (facts : Facts) → Reads (flat_map component_inside trees) facts (components_read trees facts).facts
reads_components trees facts Q Free steady free h =
    keeps_components Q Free Free steady trees facts (some_names Free (components_plain_share trees) free) (some_names Free (components_operations_share trees) free) h

-- ---- and so do statements

pub reads_service : (formals : List Name) (returned : Option Name) (type : Ty) (facts : Facts) → Reads (names_spans formals ++ where_some name_names returned) facts (service_bound formals returned type facts)
reads_service formals returned type facts Q Free steady free h =
    keeps_service Q Free Free steady.closed formals returned type facts (each-left (λ span. Free (spot_of span)) (names_spans formals) _ free) (each-right (λ span. Free (spot_of span)) (names_spans formals) _ free) h

pub reads_quantifiers : (quantifiers : List Quantifier) (facts : Facts) → Reads (flat_map quantifier_names quantifiers) facts (quantifiers_known facts quantifiers)
reads_quantifiers quantifiers facts Q Free steady free h = keeps_quantifiers Q Free Free steady.closed quantifiers facts free h

pub reads_block_item : (tree : BlockItem) (context : Context) → Reads (block_item_names tree) context.facts (block_item_read tree context).facts
reads_block_item tree context Q Free steady free h = keeps_block_item Q Free Free steady.closed tree free context h

pub reads_branch : (tree : Branch) (context : Context) → Reads (branch_names tree) context.facts (branch_read tree context).facts
reads_branch tree context Q Free steady free h = keeps_branch Q Free Free steady.closed tree free context h

pub reads_arm : (tree : Arm) (span : Span) (context : Context) → Reads (arm_names tree) context.facts ((arm_read tree).steps span context).facts
reads_arm tree span context Q Free steady free h = keeps_arm Q Free Free steady.closed tree span free context h

pub reads_co_arm : (tree : CoArm) (span : Span) (context : Context) → Reads (co_arm_names tree) context.facts (co_arm_read tree span context).facts
reads_co_arm tree span context Q Free steady free h = keeps_co_arm Q Free Free steady.closed tree span free context h

pub reads_row : {X : Type 0} (names : X → List Span) (read : X → Steps) (each : (x : X) (context : Context) → Reads (names x) context.facts (read x context).facts) (xs : List X) (context : Context)
    → Reads (joined (map names xs)) context.facts (in_order (map read xs) context).facts
reads_row names read each [] context = reads_nothing context.facts
reads_row names read each (x ∷ xs) context =
    let next = with_facts context (read x context).facts in
    reads_both (names x) (joined (map names xs)) context.facts next.facts (in_order (map read xs) next).facts (each x context) (reads_row names read each xs next)
