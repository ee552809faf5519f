-- An operation that is known stays one where the code of components is looked at, and so does what a block declares.
use Rattle.std.proofs.Common.{Bool, true, List, [], ◌∷◌, ◌++◌, ap, flat_map}
use Rattle.sr_check.proofs.Each.{Each, each-left, each-right}
use Rattle.sr_check.specs.declared.serving.Serving.TheVariants.{Ends as EndsInstance, Serves}
use Rattle.sr_check.specs.Components.{beginning, block_read, component_read, components_read, item_read, items_procs, items_read, proc_item_read, quantifiers_formal, signed_declared}
use Rattle.sr_check.specs.Contexts.{Context, with_facts}
use Rattle.sr_check.specs.Owners.{Owned, component_at, inner_owned, ops_owned, sems_owned}
use Rattle.sr_check.specs.Procs.{Procs}
use Rattle.sr_check.specs.Quantifying.{quantifiers_known}
use Rattle.sr_check.specs.Services.{operation_named, service_bound, spot_or, type_of}
use Rattle.sr_check_decl.specs.Declaring.{op_item_name, op_type, operation, ops_declared, semaphore_signature, sems_declared, standing}
use Rattle.sr_check_decl.specs.Entering.{entered, ops_entered}
use Rattle.sr_check_decl.specs.Parts.{component_decl}
use Rattle.sr_check_decl.specs.TypeTrees.{operation_type, signature_read}
use Rattle.sr_check_decl.specs.Variables.{declare}
use Rattle.sr_check_expr.specs.declared.facts.Facts.{Facts}
use Rattle.sr_check_expr.specs.declared.info.Info.TheVariants as info
use Rattle.sr_names.specs.declared.spot.Spot.{Spot}
use Rattle.sr_names.specs.Spots.{spot_of}
use Rattle.sr_names.proofs.Marking.{entry-same}
use Rattle.sr_order.specs.Spans.{block_operations}
use Rattle.sr_order.specs.Names.{name_names, names_spans, quantifier_names, signature_names, where_some}
use Rattle.sr_tree.specs.declared.component.Component.{Component}
use Rattle.sr_tree.specs.declared.component.Item.{Item}
use Rattle.sr_tree.specs.declared.component.Item.TheVariants as item
use Rattle.sr_tree.specs.declared.component.ProcItem.{ProcItem}
use Rattle.sr_tree.specs.declared.component.ProcItem.TheVariants as inner
use Rattle.sr_tree.specs.declared.declaration.OpItem.{OpItem}
use Rattle.sr_tree.specs.declared.declaration.Semaphore.{Semaphore}
use Rattle.sr_tree.specs.Parts.{body_of}
use Rattle.sr_types.specs.declared.ty.Ty.{Ty}
use Rattle.sr_value.specs.declared.place.Span.{Span}
use Rattle.sr_front.proofs.Known.InfosStay.{Steady}
use Rattle.sr_front.proofs.Known.KeptNames.{Anywhere, all_fit, anywhere, keeps_local_sems}
use Rattle.sr_front.proofs.Known.Lasting.{Away, Lasts, Other, is_operation, lasting, lasts_ops_in}
use Rattle.sr_front.proofs.Own.OwnCode.{LocalItem}
use Rattle.sr_front.proofs.Names.PlainNames.{block_plain, code_plain, component_code_plain, inner_plain}
use Rattle.sr_front.proofs.Mentioned.ReadsCode.{code_operations, component_code_operations, keeps_block, keeps_components, keeps_items}
use Rattle.sr_front.proofs.Known.TypeSpots.{Elsewhere}

-- ---- an operation that is known

module _ (spot : Spot) where
  steady : Steady (Lasts spot) (Other spot) Anywhere
  steady = record { closed = lasting spot; standing = λ facts component h. h }

  pub block_lasts : (items : List ProcItem) (context : Context) → Away spot (block_plain items) → Lasts spot context.facts → Lasts spot (block_read items context).facts
  block_lasts items context away h = keeps_block (Lasts spot) (Other spot) Anywhere (lasting spot) items context away (anywhere (block_operations items)) h

  pub items_lasts : (procs : Procs) (items : List Item) (facts : Facts) → Away spot (flat_map code_plain items) → Lasts spot facts → Lasts spot (items_read procs items facts).facts
  items_lasts procs items facts away h = keeps_items (Lasts spot) (Other spot) Anywhere (lasting spot) procs items facts away (anywhere (flat_map code_operations items)) h

  pub components_lasts : (trees : List Component) (facts : Facts) → Away spot (flat_map component_code_plain trees) → Lasts spot facts → Lasts spot (components_read trees facts).facts
  components_lasts trees facts away h = keeps_components (Lasts spot) (Other spot) Anywhere steady trees facts away (anywhere (flat_map component_code_operations trees)) h

-- ---- what a block declares

new_operation : (facts : Facts) (spot : Spot) (ty : Ty) (is_local : Bool) → Lasts spot (declare facts spot (info.Operation ty facts.here.component.spot is_local))
new_operation facts spot ty is_local = ap is_operation (entry-same facts.infos spot (info.Operation ty facts.here.component.spot is_local))

ops_last : (component : Spot) (ops : List OpItem) (facts : Facts) → Each (λ owned. Lasts owned.0 (ops_declared true ops facts)) (ops_owned component true ops)
ops_last component [] facts = tt
ops_last component (op ∷ ops) facts =
    let spot = spot_of (op_item_name op).span in
    let after = declare facts spot (operation facts true (op_type facts op)) in
    (lasts_ops_in spot ops after (new_operation facts spot (op_type facts op) true), ops_last component ops after)

sems_last : (component : Spot) (semaphores : List Semaphore) (facts : Facts) → Each (λ owned. Lasts owned.0 (sems_declared true semaphores facts)) (sems_owned component true semaphores)
sems_last component [] facts = tt
sems_last component (semaphore ∷ more) facts =
    let spot = spot_of semaphore.name.span in
    let signed = entered semaphore_signature facts in
    let after = declare signed spot (operation signed true (operation_type signed semaphore_signature)) in
    (keeps_local_sems (Lasts spot) (Other spot) Anywhere (lasting spot) more after (all_fit (λ semaphore. spot_of semaphore.name.span) more) (new_operation signed spot (operation_type signed semaphore_signature) true), sems_last component more after)

inner_last : (component : Spot) (one : ProcItem) (context : Context) → Each (λ owned. Lasts owned.0 (proc_item_read one context).facts) (inner_owned component one)
inner_last component (inner.Op operations) context = ops_last component operations.items (ops_entered operations.items context.facts)
inner_last component (inner.Sem semaphores) context = sems_last component semaphores.semaphores context.facts
inner_last component _ context = tt

-- `Apart` holds of the spots of operations, and `final` is known in the end
module _ (Apart : Spot → Type 0) (final : Facts) where
  -- no operation has its name at one of these
  abbrev pub Free : List Span → Type 0
  Free names = (spot : Spot) → Apart spot → Away spot names

  -- an operation that these facts know is known in the end
  abbrev pub Leads : Facts → Type 0
  Leads facts = (spot : Spot) → Apart spot → Lasts spot facts → Lasts spot final

  abbrev pub ApartLocal : Spot → ProcItem → Type 0
  ApartLocal component one = Each (λ (owned : Owned). Apart owned.0) (inner_owned component one)

  -- what is declared is known in the end
  abbrev pub EndsLocal : Spot → ProcItem → Type 0
  EndsLocal component one = Each (λ (owned : Owned). Lasts owned.0 final) (inner_owned component one)

  free_left : (xs ys : List Span) → Free (xs ++ ys) → Free xs
  free_left xs ys free spot apart = each-left (Elsewhere spot) xs ys (free spot apart)

  free_right : (xs ys : List Span) → Free (xs ++ ys) → Free ys
  free_right xs ys free spot apart = each-right (Elsewhere spot) xs ys (free spot apart)

  led : (owned : List Owned) (facts : Facts) → Leads facts → Each (λ (one : Owned). Apart one.0) owned → Each (λ (one : Owned). Lasts one.0 facts) owned → Each (λ (one : Owned). Lasts one.0 final) owned
  led [] facts leads apart lasts = tt
  led (one ∷ owned) facts leads apart lasts = (leads one.0 apart.0 lasts.0, led owned facts leads apart.1 lasts.1)

  block_ends : (component : Spot) (items : List ProcItem) (context : Context) → Free (block_plain items) → Each (ApartLocal component) items → Leads (block_read items context).facts → Each (EndsLocal component) items
  block_ends component [] context free apart leads = tt
  block_ends component (one ∷ items) context free apart leads =
      let next = with_facts context (proc_item_read one context).facts in
      let rest = free_right (inner_plain one) (block_plain items) free in (
        led (inner_owned component one) next.facts (λ spot away lasts. leads spot away (block_lasts spot items next (rest spot away) lasts)) apart.0 (inner_last component one context),
        block_ends component items next rest apart.1 leads,
      )

  item_ends : (component : Spot) (procs : Procs) (one : Item) (facts : Facts) → Free (code_plain one) → LocalItem ApartLocal component one → Leads (item_read procs one facts).facts → LocalItem EndsLocal component one
  item_ends component procs (item.Spec declared) facts free apart leads = tt
  item_ends component procs (item.Proc proc) facts free apart leads =
      let served = operation_named facts proc.name in
      block_ends component proc.block (beginning procs (Serves (spot_or (spot_of proc.name.span) served)) (service_bound proc.formals proc.returned (type_of served) facts))
      (free_right (where_some name_names proc.returned) (block_plain proc.block) (free_right (names_spans proc.formals) _ (free_right (proc.name.span ∷ []) _ free))) apart leads
  item_ends component procs (item.Procedure procedure) facts free apart leads =
      block_ends component procedure.block (beginning procs (Serves (spot_of procedure.name.span)) (signed_declared (signature_read procedure.signature facts).signed facts))
      (free_right (signature_names procedure.signature) (block_plain procedure.block) free) apart leads
  item_ends component procs (item.Process process) facts free apart leads =
      block_ends component process.block (beginning procs (Serves (spot_of process.name.span)) (quantifiers_formal process.quantifiers (quantifiers_known facts process.quantifiers)))
      (free_right (flat_map quantifier_names process.quantifiers) (block_plain process.block) free) apart leads
  item_ends component procs (item.Final final) facts free apart leads = block_ends component final.block (beginning procs EndsInstance facts) free apart leads
  item_ends component procs (item.Statement statement) facts free apart leads = tt

  items_end : (component : Spot) (procs : Procs) (items : List Item) (facts : Facts) → Free (flat_map code_plain items) → Each (LocalItem ApartLocal component) items → Leads (items_read procs items facts).facts
      → Each (LocalItem EndsLocal component) items
  items_end component procs [] facts free apart leads = tt
  items_end component procs (one ∷ items) facts free apart leads =
      let step = item_read procs one facts in
      let rest = free_right (code_plain one) (flat_map code_plain items) free in (
        item_ends component procs one facts (free_left (code_plain one) (flat_map code_plain items) free) apart.0 (λ spot away lasts. leads spot away (items_lasts spot procs items step.facts (rest spot away) lasts)),
        items_end component procs items step.facts rest apart.1 leads,
      )

  pub components_end : (trees : List Component) (facts : Facts) → Free (flat_map component_code_plain trees) → Each (λ tree. Each (LocalItem ApartLocal (component_at tree)) (body_of tree)) trees
      → Leads (components_read trees facts).facts → Each (λ tree. Each (LocalItem EndsLocal (component_at tree)) (body_of tree)) trees
  components_end [] facts free apart leads = tt
  components_end (tree ∷ more) facts free apart leads =
      let start = standing facts (component_decl tree) in
      let step = component_read tree facts in
      let rest = free_right (component_code_plain tree) (flat_map component_code_plain more) free in (
        items_end (component_at tree) (items_procs start (body_of tree) []) (body_of tree) start (free_left (component_code_plain tree) (flat_map component_code_plain more) free) apart.0
            (λ spot away lasts. leads spot away (components_lasts spot more step.facts (rest spot away) lasts)),
        components_end more step.facts rest apart.1 leads,
      )
