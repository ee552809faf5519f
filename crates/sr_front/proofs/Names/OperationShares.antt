-- Of names that stand at different spots those of operations stand elsewhere than all others.
use Rattle.std.proofs.Common.{◌≡◌, false, cond, List, [], ◌∷◌, ◌++◌, Some, None, map, flat_map, refl, ap, sym, ◌∙◌}
use Rattle.std.proofs.lemmas.List.Concat.{flat_map-append}
use Rattle.std.specs.List.{IsDistinct}
use Rattle.sr_names.specs.declared.spot.Spot.{Spot}
use Rattle.sr_names.specs.Spots.{same_spot, spot_of}
use Rattle.sr_order.specs.Names.{component_names, file_names, formal_names, item_names, name_names, names_spans, proc_item_names, quantifier_names, signature_names, spec_item_names, where_some}
use Rattle.sr_order.specs.Spans.{component_operations, inner_operations, item_operations, operation_spans, spec_operations}
use Rattle.sr_tables.specs.Parts.{components_in}
use Rattle.sr_tables.specs.Tables.{found_at, keys_of}
use Rattle.sr_tree.specs.declared.component.Component.{Component}
use Rattle.sr_tree.specs.declared.component.File.{File}
use Rattle.sr_tree.specs.declared.component.Item.{Item}
use Rattle.sr_tree.specs.declared.component.Item.TheVariants as item
use Rattle.sr_tree.specs.declared.component.ProcItem.{ProcItem}
use Rattle.sr_tree.specs.declared.component.ProcItem.TheVariants as inner
use Rattle.sr_tree.specs.declared.component.SpecItem.{SpecItem}
use Rattle.sr_tree.specs.declared.component.SpecItem.TheVariants as spec
use Rattle.sr_tree.specs.Parts.{body_of, formals_of, name_of, spec_of}
use Rattle.sr_value.specs.declared.place.Span.{Span}
use Rattle.sr_check.proofs.Each.{Each, each-weaker}
use Rattle.sr_front.proofs.Lists.Lists.{first_same, none_listed, rest_same}
use Rattle.sr_front.proofs.Names.PlainNames.{code_plain, component_code_plain, component_plain, inner_plain, item_plain, spec_plain}
use Rattle.sr_front.proofs.Mentioned.ReadsCode.{ops_share, parts_share, sems_share}
use Rattle.sr_front.proofs.Names.Shares.{apart_in}
use Rattle.sr_front.proofs.Lists.Sharing.{Shares, all_left_out, all_second, both_share, first_only, in_first, in_second, left_out}
use Rattle.sr_front.proofs.Known.TypeSpots.{Elsewhere}

-- ---- each name is one or the other

spec_item_shares : (one : SpecItem) → Shares (spec_item_names one) (spec_operations one) (spec_plain one)
spec_item_shares (spec.Op declared) = ops_share declared.items
spec_item_shares (spec.Sem declared) = sems_share declared.semaphores
spec_item_shares _ = all_second _

inner_shares : (one : ProcItem) → Shares (proc_item_names one) (inner_operations one) (inner_plain one)
inner_shares (inner.Op declared) = ops_share declared.items
inner_shares (inner.Sem declared) = sems_share declared.semaphores
inner_shares _ = all_second _

code_shares : (one : Item) → Shares (item_names one) (item_operations one) (code_plain one)
code_shares (item.Spec declared) = first_only (spec_item_shares declared)
code_shares (item.Proc proc) =
    in_second proc.name.span (both_share (all_second (names_spans proc.formals)) (both_share (all_second (where_some name_names proc.returned)) (parts_share proc_item_names inner_operations inner_plain inner_shares proc.block)))
code_shares (item.Procedure procedure) = in_first procedure.name.span (both_share (all_second (signature_names procedure.signature)) (parts_share proc_item_names inner_operations inner_plain inner_shares procedure.block))
code_shares (item.Process process) = in_first process.name.span (both_share (all_second (flat_map quantifier_names process.quantifiers)) (parts_share proc_item_names inner_operations inner_plain inner_shares process.block))
code_shares (item.Final final) = parts_share proc_item_names inner_operations inner_plain inner_shares final.block
code_shares (item.Statement statement) = all_second _

plain_shares : (one : Item) → Shares (item_names one) (item_operations one) (item_plain one)
plain_shares (item.Spec declared) = spec_item_shares declared
plain_shares (item.Proc proc) = first_only (code_shares (item.Proc proc))
plain_shares (item.Procedure procedure) = first_only (code_shares (item.Procedure procedure))
plain_shares (item.Process process) = first_only (code_shares (item.Process process))
plain_shares (item.Final final) = first_only (code_shares (item.Final final))
plain_shares (item.Statement statement) = first_only (code_shares (item.Statement statement))

component_plain_shares : (component : Component) → Shares (component_names component) (component_operations component) (component_plain component)
component_plain_shares component =
    in_second (name_of component).span (both_share (parts_share spec_item_names spec_operations spec_plain spec_item_shares (spec_of component))
    (both_share (all_second (flat_map formal_names (formals_of component))) (parts_share item_names item_operations item_plain plain_shares (body_of component))))

pub component_code_shares : (component : Component) → Shares (component_names component) (component_operations component) (component_code_plain component)
component_code_shares component =
    left_out (name_of component).span (both_share (first_only (parts_share spec_item_names spec_operations spec_plain spec_item_shares (spec_of component)))
    (both_share (all_left_out (flat_map formal_names (formals_of component))) (parts_share item_names item_operations code_plain code_shares (body_of component))))

-- ---- the table

-- what stands elsewhere than the keys isn't found
not_found : {A : Type 0} (spot : Spot) (table : List (Spot × A)) (spans : List Span) → keys_of table ≡ map spot_of spans → Each (Elsewhere spot) spans → found_at table spot ≡ None
not_found spot [] spans keys apart = refl
not_found {A} spot (entry ∷ table) [] keys apart = absurd (none_listed entry.0 (keys_of table) keys)
not_found {A} spot (entry ∷ table) (span ∷ spans) keys apart =
    let first = first_same entry.0 (spot_of span) (keys_of table) (map spot_of spans) keys in
    let other : same_spot spot entry.0 ≡ false = ap (same_spot spot) first ∙ apart.0 in
    ap (λ b. cond b (Some entry.1) (found_at table spot)) other ∙ not_found spot table spans (rest_same entry.0 (spot_of span) (keys_of table) (map spot_of spans) keys) apart.1

-- the operations of files are those of their components
operations_in : (files : List File) → flat_map operation_spans files ≡ flat_map component_operations (components_in files)
operations_in [] = refl
operations_in (file ∷ files) = ap (λ spans. flat_map component_operations file.components ++ spans) (operations_in files) ∙ sym (flat_map-append component_operations file.components (components_in files))

-- at the names of declarations, and at those of procs and statements, no operation stands
pub record NamesFree (Free : Spot → Type 0) (files : List File) : Type 0 where
  pub declared : Each (λ span. Free (spot_of span)) (flat_map component_plain (components_in files))
  pub code : Each (λ span. Free (spot_of span)) (flat_map component_code_plain (components_in files))

pub names_free : {A : Type 0} (table : List (Spot × A)) (files : List File) → keys_of table ≡ map spot_of (flat_map operation_spans files) → IsDistinct same_spot (map spot_of (flat_map file_names files))
    → NamesFree (λ spot. found_at table spot ≡ None) files
names_free table files keys distinct = record {
  declared = each-weaker AwayFromAll IsFree free (flat_map component_plain (components_in files)) (apart_in component_operations component_plain component_plain_shares files distinct);
  code = each-weaker AwayFromAll IsFree free (flat_map component_code_plain (components_in files)) (apart_in component_operations component_code_plain component_code_shares files distinct);
}
  where
    operations : List Span
    operations = flat_map component_operations (components_in files)

    AwayFromAll : Span → Type 0
    AwayFromAll one = Each (Elsewhere (spot_of one)) operations

    IsFree : Span → Type 0
    IsFree one = found_at table (spot_of one) ≡ None

    free : (one : Span) → AwayFromAll one → IsFree one
    free one apart = not_found (spot_of one) table operations (keys ∙ ap (map spot_of) (operations_in files)) apart
