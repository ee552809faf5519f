-- Of the names of a program some are of components, others of operations and of types of operations: each stands at a
-- spot of its own.
use Rattle.std.proofs.Common.{◌≡◌, ℕ, zero, false, true≢false, List, [], ◌∷◌, ◌++◌, map, flat_map, refl, sym, ap, ◌∙◌, subst}
use Rattle.std.proofs.lemmas.List.{map-append}
use Rattle.std.specs.List.{AllByRecursion, IsDistinct}
use Rattle.sr_names.specs.Searches.{At}
use Rattle.sr_names.specs.Spots.{same_spot, spot_of}
use Rattle.sr_names.proofs.LinkLemmas.{same_spot-refl}
use Rattle.sr_order.specs.Names.{component_names, file_names, formal_names, item_names, op_item_names, semaphore_names, spec_item_names}
use Rattle.sr_tree.specs.declared.component.Component.{Component}
use Rattle.sr_tree.specs.declared.component.File.{File}
use Rattle.sr_tree.specs.declared.component.Item.{Item}
use Rattle.sr_tree.specs.declared.component.Item.TheVariants as item
use Rattle.sr_tree.specs.declared.component.SpecItem.{SpecItem}
use Rattle.sr_tree.specs.declared.component.SpecItem.TheVariants as spec
use Rattle.sr_tree.specs.declared.declaration.OpItem.{OpItem}
use Rattle.sr_tree.specs.declared.declaration.OpItem.TheVariants.{Signed, Typed}
use Rattle.sr_tree.specs.declared.declaration.OpTypeDecl.{OpTypeDecl}
use Rattle.sr_tree.specs.declared.declaration.Semaphore.{Semaphore}
use Rattle.sr_tree.specs.Parts.{body_of, formals_of, name_of, spec_of}
use Rattle.sr_value.specs.declared.place.Span.{Span}
use Rattle.sr_check.specs.Owners.{component_at}
use Rattle.sr_check.proofs.Each.{Each}
use Rattle.sr_check_decl.specs.Declaring.{op_item_name}
use Rattle.sr_outline.specs.Heads.{spec_item_optypes}
use Rattle.sr_outline.specs.Outline.{all_optypes}
use Rattle.sr_tables.specs.Parts.{components_in, in_component, in_item}
use Rattle.sr_front.proofs.Known.FirstNames.{IsFirst, component_first, item_first, spec_item_first}
use Rattle.sr_front.proofs.Lists.Members.{Among, among_each, among_parts, map_parts}
use Rattle.sr_front.proofs.Names.Shares.{files_share, shares_apart}
use Rattle.sr_front.proofs.Lists.Sharing.{Shares, none, left_out, in_first, in_second, both_share, all_left_out}
use Rattle.sr_front.proofs.Known.TypeSpots.{Elsewhere}

-- ---- the names of components, and those of operations and of types of operations

abbrev pub own_name : Component → List Span
own_name component = (name_of component).span ∷ []

op_shares : (op : OpItem) → Shares (op_item_names op) [] ((op_item_name op).span ∷ [])
op_shares (Signed span name signature) = in_second name.span (all_left_out _)
op_shares (Typed span name optype) = in_second name.span (all_left_out _)

ops_share : (ops : List OpItem) → Shares (flat_map op_item_names ops) [] (map (λ op. (op_item_name op).span) ops)
ops_share [] = none
ops_share (op ∷ ops) = both_share (op_shares op) (ops_share ops)

sems_share : (semaphores : List Semaphore) → Shares (flat_map semaphore_names semaphores) [] (map (λ semaphore. semaphore.name.span) semaphores)
sems_share [] = none
sems_share (semaphore ∷ more) = both_share (in_second semaphore.name.span (all_left_out _)) (sems_share more)

spec_item_shares : (one : SpecItem) → Shares (spec_item_names one) [] (spec_item_first one)
spec_item_shares (spec.OpType named) = in_second named.name.span (all_left_out _)
spec_item_shares (spec.Op operations) = ops_share operations.items
spec_item_shares (spec.Sem semaphores) = sems_share semaphores.semaphores
spec_item_shares _ = all_left_out _

specs_share : (items : List SpecItem) → Shares (flat_map spec_item_names items) [] (flat_map spec_item_first items)
specs_share [] = none
specs_share (one ∷ more) = both_share (spec_item_shares one) (specs_share more)

item_shares : (one : Item) → Shares (item_names one) [] (item_first one)
item_shares (item.Spec declared) = spec_item_shares declared
item_shares (item.Procedure procedure) = in_second procedure.name.span (all_left_out _)
item_shares (item.Process process) = in_second process.name.span (all_left_out _)
item_shares _ = all_left_out _

items_share : (items : List Item) → Shares (flat_map item_names items) [] (flat_map item_first items)
items_share [] = none
items_share (one ∷ more) = both_share (item_shares one) (items_share more)

component_shares : (tree : Component) → Shares (component_names tree) (own_name tree) (component_first tree)
component_shares tree = in_first _ (both_share (specs_share (spec_of tree)) (both_share (all_left_out (flat_map formal_names (formals_of tree))) (items_share (body_of tree))))

-- no operation and no type of operations has its name where a component has
pub first_apart : (files : List File) → IsDistinct same_spot (map spot_of (flat_map file_names files)) → (number : ℕ) (tree : Component) → At (components_in files) number tree → IsFirst files (component_at tree) → ⊥
first_apart files distinct number tree there first =
    let names = flat_map own_name (components_in files) in
    let own : Among names (name_of tree).span = among_parts own_name (components_in files) number tree (name_of tree).span there (zero, refl) in
    let each = among_each (λ one. Each (Elsewhere (spot_of one)) names) (flat_map component_first (components_in files)) first.1.0 first.0 (shares_apart (files_share own_name component_first component_shares files) distinct) first.1.1 in
    let apart : same_spot (spot_of first.0) (component_at tree) ≡ false = among_each (Elsewhere (spot_of first.0)) names own.0 (name_of tree).span each own.1 in
    true≢false (sym (same_spot-refl (component_at tree)) ∙ ap (λ spot. same_spot spot (component_at tree)) (sym first.2) ∙ apart)

-- ---- the names of types of operations

abbrev name_span : OpTypeDecl → Span
name_span named = named.name.span

abbrev spec_item_named : SpecItem → List Span
spec_item_named one = map name_span (spec_item_optypes one)

abbrev item_named : Item → List Span
item_named one = map name_span (in_item spec_item_optypes one)

abbrev component_named : Component → List Span
component_named tree = flat_map spec_item_named (spec_of tree) ++ flat_map item_named (body_of tree)

component_named_is : (tree : Component) → map name_span (in_component spec_item_optypes tree) ≡ component_named tree
component_named_is tree =
    map-append name_span (flat_map spec_item_optypes (spec_of tree)) (flat_map (in_item spec_item_optypes) (body_of tree))
    ∙ (λ i. map_parts name_span spec_item_optypes spec_item_named (λ one. refl) (spec_of tree) i ++ map_parts name_span (in_item spec_item_optypes) item_named (λ one. refl) (body_of tree) i)

spec_item_has : (one : SpecItem) → Shares (spec_item_names one) (spec_item_named one) []
spec_item_has (spec.OpType named) = in_first named.name.span (all_left_out _)
spec_item_has _ = all_left_out _

specs_have : (items : List SpecItem) → Shares (flat_map spec_item_names items) (flat_map spec_item_named items) []
specs_have [] = none
specs_have (one ∷ more) = both_share (spec_item_has one) (specs_have more)

item_has : (one : Item) → Shares (item_names one) (item_named one) []
item_has (item.Spec declared) = spec_item_has declared
item_has _ = all_left_out _

items_have : (items : List Item) → Shares (flat_map item_names items) (flat_map item_named items) []
items_have [] = none
items_have (one ∷ more) = both_share (item_has one) (items_have more)

component_has : (tree : Component) → Shares (component_names tree) (component_named tree) []
component_has tree = left_out _ (both_share (specs_have (spec_of tree)) (both_share (all_left_out (flat_map formal_names (formals_of tree))) (items_have (body_of tree))))

-- some of different spots are different
after_first : {xs ys zs : List Span} (span : Span) → Shares xs ys zs → AllByRecursion (λ other. same_spot (spot_of span) other ≡ false) (map spot_of xs)
    → AllByRecursion (λ other. same_spot (spot_of span) other ≡ false) (map spot_of ys)
after_first span none apart = tt
after_first span (left_out x shares) apart = after_first span shares apart.1
after_first span (in_first x shares) apart = (apart.0, after_first span shares apart.1)
after_first span (in_second x shares) apart = after_first span shares apart.1

first_distinct : {xs ys zs : List Span} → Shares xs ys zs → IsDistinct same_spot (map spot_of xs) → IsDistinct same_spot (map spot_of ys)
unfolding IsDistinct
first_distinct none distinct = tt
first_distinct (left_out x shares) distinct = first_distinct shares distinct.1
first_distinct (in_first x shares) distinct = (after_first x shares distinct.0, first_distinct shares distinct.1)
first_distinct (in_second x shares) distinct = first_distinct shares distinct.1

-- no two types of operations have their names at one spot
pub optypes_apart : (files : List File) → IsDistinct same_spot (map spot_of (flat_map file_names files)) → IsDistinct same_spot (map spot_of (map (λ (named : OpTypeDecl). named.name.span) (all_optypes (components_in files))))
optypes_apart files distinct =
    subst (λ names. IsDistinct same_spot (map spot_of names)) (sym (map_parts name_span (in_component spec_item_optypes) component_named component_named_is (components_in files)))
    (first_distinct (files_share component_named (λ tree. []) component_has files) distinct)
