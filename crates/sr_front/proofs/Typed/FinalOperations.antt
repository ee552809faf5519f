-- In the end each operation of an accepted program is known.
use Rattle.std.proofs.Common.{◌≡◌, true, List, [], ◌∷◌, ◌++◌, Option, Some, None, is_some, map, flat_map, refl, ap}
use Rattle.std.proofs.lemmas.Bool.{and_parts, false≢true}
use Rattle.sr_names.specs.declared.finding.Rule.TheVariants.{BadType}
use Rattle.sr_names.specs.declared.spot.Spot.{Spot}
use Rattle.sr_names.specs.Spots.{spot_of}
use Rattle.sr_names.proofs.Marking.{entry-same}
use Rattle.sr_order.specs.Spans.{block_operations, component_operations, inner_operations, item_operations, op_item_span, spec_operations}
use Rattle.sr_tree.specs.declared.component.Component.{Component}
use Rattle.sr_tree.specs.declared.component.Item.{Item}
use Rattle.sr_tree.specs.declared.component.Item.TheVariants as item
use Rattle.sr_tree.specs.declared.component.ProcItem.{ProcItem}
use Rattle.sr_tree.specs.declared.component.ProcItem.TheVariants as inner
use Rattle.sr_tree.specs.declared.component.SpecItem.{SpecItem}
use Rattle.sr_tree.specs.declared.component.SpecItem.TheVariants as spec
use Rattle.sr_tree.specs.declared.declaration.OpItem.{OpItem}
use Rattle.sr_tree.specs.declared.declaration.OpItem.TheVariants.{Signed, Typed}
use Rattle.sr_tree.specs.declared.declaration.Semaphore.{Semaphore}
use Rattle.sr_tree.specs.declared.name.Name.{Name}
use Rattle.sr_tree.specs.Parts.{body_of, spec_of, name_of}
use Rattle.sr_types.specs.declared.ty.Ty.{Ty}
use Rattle.sr_types.specs.Signatures.{signature_of}
use Rattle.sr_value.specs.declared.place.Span.{Span}
use Rattle.sr_check_expr.specs.declared.facts.Facts.{Facts}
use Rattle.sr_check_expr.specs.declared.info.Info.{Info}
use Rattle.sr_check_expr.specs.declared.info.Info.TheVariants as info
use Rattle.sr_check_expr.specs.Infos.{info_at}
use Rattle.sr_check_decl.specs.Declaring.{op_item_name, op_type, ops_declared, process_signature, semaphore_signature, sems_declared, standing, written_type}
use Rattle.sr_check_decl.specs.Entering.{entered, ops_entered}
use Rattle.sr_front.proofs.Mentioned.ReadsCode.{code_operations, keeps_block, keeps_item, keeps_items}
use Rattle.sr_front.proofs.Headed.Heads.{component_headed, declared_type, head_found, is_known_as, is_of, item_headed, items_headed, making_type, ops_headed, sems_headed, spec_item_headed, spec_items_headed}
use Rattle.sr_check_decl.specs.Parts.{component_decl}
use Rattle.sr_check_decl.specs.TypeTrees.{operation_type, signature_read}
use Rattle.sr_check_decl.specs.Variables.{declare}
use Rattle.sr_check.specs.declared.serving.Serving.TheVariants.{Ends, Serves}
use Rattle.sr_check.specs.Components.{beginning, block_read, component_read, components_read, item_read, items_procs, items_read, proc_item_read, quantifiers_formal, signed_declared}
use Rattle.sr_check.specs.Contexts.{Context, with_facts}
use Rattle.sr_check.specs.ErrorFree.{ErrorFree}
use Rattle.sr_check.specs.Procs.{Procs}
use Rattle.sr_check.specs.Quantifying.{quantifiers_known}
use Rattle.sr_check.specs.Services.{operation_named, service_bound, spot_or, type_of}
use Rattle.sr_check.proofs.Each.{Each, each-append, each-left, each-right, each-weaker}
use Rattle.sr_check.proofs.ErrorFree.{error_free_first, error_free_second, rule_met}
use Rattle.sr_front.proofs.Known.KeptNames.{Anywhere, Closed, anywhere}
use Rattle.sr_front.proofs.Names.PlainNames.{block_plain, code_plain}
use Rattle.sr_front.proofs.Lists.Put.{put_holds}

-- something is known at a spot, or at a name
abbrev pub Has : Spot → Facts → Type 0
Has spot facts = is_some (info_at facts.infos spot) ≡ true

abbrev pub HasAll : Facts → List Span → Type 0
HasAll facts = Each (λ span. Has (spot_of span) facts)

has_with : (spot : Spot) (facts : Facts) (at : Spot) (one : Info) → Has spot facts → Has spot (declare facts at one)
has_with spot facts at one has = put_holds facts at one (λ other found. is_some found ≡ true) refl spot (λ apart. has)

has_here : (facts : Facts) (at : Spot) (one : Info) → Has at (declare facts at one)
has_here facts at one = ap is_some (entry-same facts.infos at one)

-- what is known stays known
pub has_closed : (spot : Spot) → Closed (Has spot) Anywhere Anywhere
has_closed spot = record {
  entered = λ facts signature has. has;
  put = λ facts at typed free has. has_with spot facts at (info.Value typed) has;
  operation = λ facts at ty component is_local fit has. has_with spot facts at (info.Operation ty component is_local) has;
}

-- ---- before any statement is looked at

name_known : (facts : Facts) (name : Name) (ty : Ty) → ErrorFree (head_found facts name ty) → Has (spot_of name.span) facts
name_known facts name ty whole =
    by (info_at facts.infos (spot_of name.span)) (and_parts (is_some (signature_of facts.signatures ty)) _ (rule_met (is_known_as facts name ty) BadType name.span whole)).1
  where
    by : (found : Option Info) → is_of ty (declared_type found) ≡ true → is_some found ≡ true
    by None h = absurd (false≢true h)
    by (Some info) h = refl

ops_known : (facts : Facts) (ops : List OpItem) → ErrorFree (ops_headed facts ops) → HasAll facts (map op_item_span ops)
ops_known facts [] whole = tt
ops_known facts (Signed span name signature ∷ ops) whole =
    let op = Signed span name signature in
    (name_known facts name (op_type facts op) (error_free_first (head_found facts name (op_type facts op)) _ whole), ops_known facts ops (error_free_second (head_found facts name (op_type facts op)) _ whole))
ops_known facts (Typed span name optype ∷ ops) whole =
    let op = Typed span name optype in
    (name_known facts name (op_type facts op) (error_free_first (head_found facts name (op_type facts op)) _ whole), ops_known facts ops (error_free_second (head_found facts name (op_type facts op)) _ whole))

sems_known : (facts : Facts) (semaphores : List Semaphore) → ErrorFree (sems_headed facts semaphores) → HasAll facts (map (λ semaphore. semaphore.name.span) semaphores)
sems_known facts [] whole = tt
sems_known facts (semaphore ∷ more) whole =
    let ty = operation_type facts semaphore_signature in
    (name_known facts semaphore.name ty (error_free_first (head_found facts semaphore.name ty) _ whole), sems_known facts more (error_free_second (head_found facts semaphore.name ty) _ whole))

spec_item_known : (facts : Facts) (one : SpecItem) → ErrorFree (spec_item_headed facts one) → HasAll facts (spec_operations one)
spec_item_known facts (spec.Op operations) whole = ops_known facts operations.items whole
spec_item_known facts (spec.Sem semaphores) whole = sems_known facts semaphores.semaphores whole
spec_item_known facts _ whole = tt

specs_known : (facts : Facts) (items : List SpecItem) → ErrorFree (spec_items_headed facts items) → HasAll facts (flat_map spec_operations items)
specs_known facts [] whole = tt
specs_known facts (one ∷ items) whole =
    each-append (λ span. Has (spot_of span) facts) (spec_operations one) _ (spec_item_known facts one (error_free_first (spec_item_headed facts one) _ whole)) (specs_known facts items (error_free_second (spec_item_headed facts one) _ whole))

-- the operations of an item outside of blocks
abbrev outer : Item → List Span
outer (item.Spec declared) = spec_operations declared
outer (item.Procedure procedure) = procedure.name.span ∷ []
outer (item.Process process) = process.name.span ∷ []
outer _ = []

outer_known : (facts : Facts) (one : Item) → ErrorFree (item_headed facts one) → HasAll facts (outer one)
outer_known facts (item.Spec declared) whole = spec_item_known facts declared whole
outer_known facts (item.Procedure procedure) whole = (name_known facts procedure.name (written_type procedure.signature facts) whole, tt)
outer_known facts (item.Process process) whole = (name_known facts process.name (operation_type facts (process_signature process.quantifiers)) whole, tt)
outer_known facts _ whole = tt

items_outer : (facts : Facts) (items : List Item) → ErrorFree (items_headed facts items) → HasAll facts (flat_map outer items)
items_outer facts [] whole = tt
items_outer facts (one ∷ items) whole =
    each-append (λ span. Has (spot_of span) facts) (outer one) _ (outer_known facts one (error_free_first (item_headed facts one) _ whole)) (items_outer facts items (error_free_second (item_headed facts one) _ whole))

-- ---- blocks

ops_keep : (spot : Spot) (ops : List OpItem) (facts : Facts) → Has spot facts → Has spot (ops_declared true ops facts)
ops_keep spot [] facts has = has
ops_keep spot (op ∷ ops) facts has = ops_keep spot ops _ (has_with spot facts (spot_of (op_item_name op).span) _ has)

ops_declare : (ops : List OpItem) (facts : Facts) → HasAll (ops_declared true ops facts) (map op_item_span ops)
ops_declare [] facts = tt
ops_declare (Signed span name signature ∷ ops) facts = (ops_keep (spot_of name.span) ops _ (has_here facts (spot_of name.span) _), ops_declare ops _)
ops_declare (Typed span name optype ∷ ops) facts = (ops_keep (spot_of name.span) ops _ (has_here facts (spot_of name.span) _), ops_declare ops _)

sems_keep : (spot : Spot) (semaphores : List Semaphore) (facts : Facts) → Has spot facts → Has spot (sems_declared true semaphores facts)
sems_keep spot [] facts has = has
sems_keep spot (semaphore ∷ more) facts has = sems_keep spot more _ (has_with spot (entered semaphore_signature facts) (spot_of semaphore.name.span) _ has)

sems_declare : (semaphores : List Semaphore) (facts : Facts) → HasAll (sems_declared true semaphores facts) (map (λ semaphore. semaphore.name.span) semaphores)
sems_declare [] facts = tt
sems_declare (semaphore ∷ more) facts = (sems_keep (spot_of semaphore.name.span) more _ (has_here (entered semaphore_signature facts) (spot_of semaphore.name.span) _), sems_declare more _)

inner_declares : (one : ProcItem) (context : Context) → HasAll (proc_item_read one context).facts (inner_operations one)
inner_declares (inner.Op operations) context = ops_declare operations.items (ops_entered operations.items context.facts)
inner_declares (inner.Sem semaphores) context = sems_declare semaphores.semaphores context.facts
inner_declares _ context = tt

-- what a block knows it still knows at its end
block_keeps : (block : List ProcItem) (context : Context) → (spans : List Span) → HasAll context.facts spans → HasAll (block_read block context).facts spans
block_keeps block context =
    each-weaker (λ span. Has (spot_of span) context.facts) (λ span. Has (spot_of span) (block_read block context).facts)
    (λ span has. keeps_block (Has (spot_of span)) Anywhere Anywhere (has_closed (spot_of span)) block context (anywhere (block_plain block)) (anywhere (block_operations block)) has)

block_declares : (block : List ProcItem) (context : Context) → HasAll (block_read block context).facts (block_operations block)
block_declares [] context = tt
block_declares (one ∷ block) context =
    let step = proc_item_read one context in
    each-append (λ span. Has (spot_of span) (block_read (one ∷ block) context).facts) (inner_operations one) (block_operations block)
    (block_keeps block (with_facts context step.facts) (inner_operations one) (inner_declares one context)) (block_declares block (with_facts context step.facts))

item_keeps : (procs : Procs) (one : Item) (facts : Facts) → (spans : List Span) → HasAll facts spans → HasAll (item_read procs one facts).facts spans
item_keeps procs one facts =
    each-weaker (λ span. Has (spot_of span) facts) (λ span. Has (spot_of span) (item_read procs one facts).facts)
    (λ span has. keeps_item (Has (spot_of span)) Anywhere Anywhere (has_closed (spot_of span)) procs one facts (anywhere (code_plain one)) (anywhere (code_operations one)) has)

item_declares : (procs : Procs) (one : Item) (facts : Facts) → HasAll facts (outer one) → HasAll (item_read procs one facts).facts (item_operations one)
item_declares procs (item.Spec declared) facts known = known
item_declares procs (item.Proc proc) facts known =
    let served = operation_named facts proc.name in
    block_declares proc.block (beginning procs (Serves (spot_or (spot_of proc.name.span) served)) (service_bound proc.formals proc.returned (type_of served) facts))
item_declares procs (item.Procedure procedure) facts known =
    let signed = (signature_read procedure.signature facts).signed in (
      (item_keeps procs (item.Procedure procedure) facts (procedure.name.span ∷ []) known).0,
      block_declares procedure.block (beginning procs (Serves (spot_of procedure.name.span)) (signed_declared signed facts)),
    )
item_declares procs (item.Process process) facts known = (
  (item_keeps procs (item.Process process) facts (process.name.span ∷ []) known).0,
  block_declares process.block (beginning procs (Serves (spot_of process.name.span)) (quantifiers_formal process.quantifiers (quantifiers_known facts process.quantifiers))),
)
item_declares procs (item.Final final) facts known = block_declares final.block (beginning procs Ends facts)
item_declares procs (item.Statement statement) facts known = tt

items_keep : (procs : Procs) (items : List Item) (facts : Facts) → (spans : List Span) → HasAll facts spans → HasAll (items_read procs items facts).facts spans
items_keep procs items facts =
    each-weaker (λ span. Has (spot_of span) facts) (λ span. Has (spot_of span) (items_read procs items facts).facts)
    (λ span has. keeps_items (Has (spot_of span)) Anywhere Anywhere (has_closed (spot_of span)) procs items facts (anywhere (flat_map code_plain items)) (anywhere (flat_map code_operations items)) has)

items_declare : (procs : Procs) (items : List Item) (facts : Facts) → HasAll facts (flat_map outer items) → HasAll (items_read procs items facts).facts (flat_map item_operations items)
items_declare procs [] facts known = tt
items_declare procs (one ∷ items) facts known =
    let step = item_read procs one facts in
    let P = λ (span : Span). Has (spot_of span) facts in
    each-append (λ span. Has (spot_of span) (items_read procs (one ∷ items) facts).facts) (item_operations one) (flat_map item_operations items)
    (items_keep procs items step.facts (item_operations one) (item_declares procs one facts (each-left P (outer one) _ known)))
    (items_declare procs items step.facts (item_keeps procs one facts (flat_map outer items) (each-right P (outer one) _ known)))

-- ---- components

component_keeps : (component : Component) (facts : Facts) → (spans : List Span) → HasAll facts spans → HasAll (component_read component facts).facts spans
component_keeps component facts =
    let at = standing facts (component_decl component) in
    items_keep (items_procs at (body_of component) []) (body_of component) at

component_declares : (component : Component) (facts : Facts) → HasAll facts (flat_map spec_operations (spec_of component) ++ flat_map outer (body_of component))
    → HasAll (component_read component facts).facts (component_operations component)
component_declares component facts known =
    let at = standing facts (component_decl component) in
    let procs = items_procs at (body_of component) [] in
    let specs = flat_map spec_operations (spec_of component) in
    let P = λ (span : Span). Has (spot_of span) facts in
    each-append (λ span. Has (spot_of span) (component_read component facts).facts) specs (flat_map item_operations (body_of component))
    (items_keep procs (body_of component) at specs (each-left P specs _ known)) (items_declare procs (body_of component) at (each-right P specs _ known))

abbrev outer_of : Component → List Span
outer_of component = flat_map spec_operations (spec_of component) ++ flat_map outer (body_of component)

components_keep : (components : List Component) (facts : Facts) → (spans : List Span) → HasAll facts spans → HasAll (components_read components facts).facts spans
components_keep [] facts spans known = known
components_keep (component ∷ more) facts spans known =
    let step = component_read component facts in
    components_keep more step.facts spans (component_keeps component facts spans known)

pub components_declare : (components : List Component) (facts : Facts) → HasAll facts (flat_map outer_of components)
    → HasAll (components_read components facts).facts (flat_map component_operations components)
components_declare [] facts known = tt
components_declare (component ∷ more) facts known =
    let step = component_read component facts in
    let P = λ (span : Span). Has (spot_of span) facts in
    each-append (λ span. Has (spot_of span) (components_read (component ∷ more) facts).facts) (component_operations component) (flat_map component_operations more)
    (components_keep more step.facts (component_operations component) (component_declares component facts (each-left P (outer_of component) _ known)))
    (components_declare more step.facts (component_keeps component facts (flat_map outer_of more) (each-right P (outer_of component) _ known)))

-- what is declared before any statement is looked at is known
pub outer_headed : (facts : Facts) (components : List Component) → Each (λ component. ErrorFree (component_headed facts component)) components → HasAll facts (flat_map outer_of components)
outer_headed facts [] whole = tt
outer_headed facts (component ∷ more) whole =
    let P = λ (span : Span). Has (spot_of span) facts in
    let after = error_free_second (head_found facts (name_of component) (making_type facts component)) _ whole.0 in
    each-append P (outer_of component) (flat_map outer_of more)
    (each-append P (flat_map spec_operations (spec_of component)) (flat_map outer (body_of component)) (specs_known facts (spec_of component) (error_free_first (spec_items_headed facts (spec_of component)) _ after))
    (items_outer facts (body_of component) (error_free_second (spec_items_headed facts (spec_of component)) _ after)))
    (outer_headed facts more whole.1)
