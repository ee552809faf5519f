-- Of the names of a program those of constants and types stand elsewhere than those of variables, formals and operations, and both elsewhere than those of components.
use Rattle.std.proofs.Common.{List, [], ◌∷◌, ◌++◌, flat_map, map}
use Rattle.std.specs.List.{IsDistinct}
use Rattle.sr_check.proofs.Each.{Each}
use Rattle.sr_names.specs.Spots.{same_spot, spot_of}
use Rattle.sr_order.specs.Names.{component_names, decl_names, file_names, formal_names, item_names, spec_item_names, type_names}
use Rattle.sr_order.specs.Spans.{op_item_span}
use Rattle.sr_tables.specs.Parts.{components_in}
use Rattle.sr_tree.specs.declared.component.Component.{Component}
use Rattle.sr_tree.specs.declared.component.File.{File}
use Rattle.sr_tree.specs.declared.component.Item.{Item}
use Rattle.sr_tree.specs.declared.component.Item.TheVariants as item
use Rattle.sr_tree.specs.declared.component.SpecItem.{SpecItem}
use Rattle.sr_tree.specs.declared.component.SpecItem.TheVariants as spec
use Rattle.sr_tree.specs.declared.declaration.Semaphore.{Semaphore}
use Rattle.sr_tree.specs.declared.types.Decl.{Decl as DeclTree}
use Rattle.sr_tree.specs.declared.types.TypeTree.{TypeTree}
use Rattle.sr_tree.specs.Parts.{body_of, formals_of, name_of, spec_of}
use Rattle.sr_value.specs.declared.place.Span.{Span}
use Rattle.sr_front.proofs.Known.Lasting.{Away}
use Rattle.sr_front.proofs.Mentioned.ReadsCode.{component_inside, item_inside, ops_share, parts_share, sems_share}
use Rattle.sr_front.proofs.Names.Shares.{apart_in}
use Rattle.sr_front.proofs.Lists.Sharing.{Shares, all_first, all_left_out, all_second, both_share, in_first, in_second, left_out, none, second_only, turned}

-- ---- the names

-- of variables and operations
abbrev pub spec_loose : SpecItem → List Span
spec_loose (spec.Op operations) = map op_item_span operations.items
spec_loose (spec.Sem declared) = map (λ (semaphore : Semaphore). semaphore.name.span) declared.semaphores
spec_loose (spec.Var variables) = map (λ (decl : DeclTree). decl.name.span) variables.decls
spec_loose one = []

-- of constants, types and types of operations, and what is given of each type
abbrev pub spec_with : (TypeTree → List Span) → SpecItem → List Span
spec_with inside (spec.Const constant) = constant.name.span ∷ []
spec_with inside (spec.«Type» named) = named.name.span ∷ inside named.ty
spec_with inside (spec.OpType named) = named.name.span ∷ []
spec_with inside one = []

abbrev pub item_with : (TypeTree → List Span) → Item → List Span
item_with inside (item.Spec declared) = spec_with inside declared
item_with inside one = []

abbrev pub component_with : (TypeTree → List Span) → Component → List Span
component_with inside component = flat_map (spec_with inside) (spec_of component) ++ flat_map (item_with inside) (body_of component)

-- with the words and literals of types
abbrev pub spec_firm : SpecItem → List Span
spec_firm = spec_with type_names

abbrev pub item_loose : Item → List Span
item_loose (item.Spec declared) = spec_loose declared
item_loose (item.Procedure procedure) = procedure.name.span ∷ []
item_loose (item.Process process) = process.name.span ∷ []
item_loose one = []

abbrev pub item_firm : Item → List Span
item_firm = item_with type_names

-- all names in formals are among the loose ones
abbrev pub component_loose : Component → List Span
component_loose component = flat_map spec_loose (spec_of component) ++ (flat_map formal_names (formals_of component) ++ flat_map item_loose (body_of component))

abbrev pub component_firm : Component → List Span
component_firm = component_with type_names

abbrev pub component_own : Component → List Span
component_own component = (name_of component).span ∷ []

-- ---- both among all

pub vars_share : (decls : List DeclTree) → Shares (flat_map decl_names decls) (map (λ (decl : DeclTree). decl.name.span) decls) []
vars_share [] = none
vars_share (decl ∷ decls) = in_first decl.name.span (both_share (all_left_out _) (vars_share decls))

-- nothing more of the first list
pub ended : {xs ys zs : List Span} (more : List Span) → Shares xs ys zs → Shares (xs ++ more) ys zs
ended more none = all_left_out more
ended more (left_out x shares) = left_out x (ended more shares)
ended more (in_first x shares) = in_first x (ended more shares)
ended more (in_second x shares) = in_second x (ended more shares)

spec_share : (one : SpecItem) → Shares (spec_item_names one) (spec_loose one) (spec_firm one)
spec_share (spec.Import declared) = all_left_out _
spec_share (spec.Const constant) = in_second constant.name.span (all_left_out _)
spec_share (spec.«Type» named) = all_second _
spec_share (spec.OpType named) = in_second named.name.span (all_left_out _)
spec_share (spec.Op operations) = ops_share operations.items
spec_share (spec.Var variables) = ended _ (vars_share variables.decls)
spec_share (spec.Sem declared) = sems_share declared.semaphores

item_share : (one : Item) → Shares (item_names one) (item_loose one) (item_firm one)
item_share (item.Spec declared) = spec_share declared
item_share (item.Procedure procedure) = in_first procedure.name.span (all_left_out _)
item_share (item.Process process) = in_first process.name.span (all_left_out _)
item_share _ = all_left_out _

component_share : (component : Component) → Shares (component_names component) (component_loose component) (component_firm component)
component_share component =
    left_out (name_of component).span (both_share (parts_share spec_item_names spec_loose spec_firm spec_share (spec_of component))
    (both_share (all_first (flat_map formal_names (formals_of component))) (parts_share item_names item_loose item_firm item_share (body_of component))))

inner_share : (component : Component) → Shares (flat_map spec_item_names (spec_of component) ++ (flat_map formal_names (formals_of component) ++ flat_map item_names (body_of component))) (component_loose component) (component_firm component)
inner_share component =
    both_share (parts_share spec_item_names spec_loose spec_firm spec_share (spec_of component))
    (both_share (all_first (flat_map formal_names (formals_of component))) (parts_share item_names item_loose item_firm item_share (body_of component)))

pub own_firm_share : (component : Component) → Shares (component_names component) (component_own component) (component_firm component)
own_firm_share component = in_first (name_of component).span (second_only (inner_share component))

own_loose_share : (component : Component) → Shares (component_names component) (component_own component) (component_loose component)
own_loose_share component = in_first (name_of component).span (second_only (turned (inner_share component)))

-- ---- of all files

-- the names of constants and types stand elsewhere than those of variables and operations
pub firm_from_loose : (files : List File) → IsDistinct same_spot (map spot_of (flat_map file_names files))
    → Each (λ span. Away (spot_of span) (flat_map component_loose (components_in files))) (flat_map component_firm (components_in files))
firm_from_loose = apart_in component_loose component_firm component_share

-- both stand elsewhere than those of components
pub firm_from_own : (files : List File) → IsDistinct same_spot (map spot_of (flat_map file_names files))
    → Each (λ span. Away (spot_of span) (flat_map component_own (components_in files))) (flat_map component_firm (components_in files))
firm_from_own = apart_in component_own component_firm own_firm_share

pub loose_from_own : (files : List File) → IsDistinct same_spot (map spot_of (flat_map file_names files))
    → Each (λ span. Away (spot_of span) (flat_map component_own (components_in files))) (flat_map component_loose (components_in files))
loose_from_own = apart_in component_own component_loose own_loose_share

pub own_from_loose : (files : List File) → IsDistinct same_spot (map spot_of (flat_map file_names files))
    → Each (λ span. Away (spot_of span) (flat_map component_loose (components_in files))) (flat_map component_own (components_in files))
own_from_loose = apart_in component_loose component_own (λ component. turned (own_loose_share component))

pub loose_from_firm : (files : List File) → IsDistinct same_spot (map spot_of (flat_map file_names files))
    → Each (λ span. Away (spot_of span) (flat_map component_firm (components_in files))) (flat_map component_loose (components_in files))
loose_from_firm = apart_in component_firm component_loose (λ component. turned (component_share component))

-- ---- elsewhere than the names in code

code_firm : (one : Item) → Shares (item_names one) (item_inside one) (item_firm one)
code_firm (item.Spec declared) = second_only (spec_share declared)
code_firm (item.Procedure procedure) = left_out procedure.name.span (all_first _)
code_firm (item.Process process) = left_out process.name.span (all_first _)
code_firm _ = all_first _

code_loose : (one : Item) → Shares (item_names one) (item_inside one) (item_loose one)
code_loose (item.Spec declared) = second_only (turned (spec_share declared))
code_loose (item.Procedure procedure) = in_second procedure.name.span (all_first _)
code_loose (item.Process process) = in_second process.name.span (all_first _)
code_loose _ = all_first _

code_only : (one : Item) → Shares (item_names one) (item_inside one) []
code_only (item.Spec declared) = all_left_out _
code_only (item.Procedure procedure) = left_out procedure.name.span (all_first _)
code_only (item.Process process) = left_out process.name.span (all_first _)
code_only _ = all_first _

codes_only : (items : List Item) → Shares (flat_map item_names items) (flat_map item_inside items) []
codes_only [] = none
codes_only (one ∷ items) = both_share (code_only one) (codes_only items)

specs_firm : (items : List SpecItem) → Shares (flat_map spec_item_names items) [] (flat_map spec_firm items)
specs_firm [] = none
specs_firm (one ∷ items) = both_share (second_only (spec_share one)) (specs_firm items)

specs_loose : (items : List SpecItem) → Shares (flat_map spec_item_names items) [] (flat_map spec_loose items)
specs_loose [] = none
specs_loose (one ∷ items) = both_share (second_only (turned (spec_share one))) (specs_loose items)

inside_firm : (component : Component) → Shares (component_names component) (component_inside component) (component_firm component)
inside_firm component =
    left_out (name_of component).span (both_share (specs_firm (spec_of component))
    (both_share (all_left_out (flat_map formal_names (formals_of component))) (parts_share item_names item_inside item_firm code_firm (body_of component))))

inside_loose : (component : Component) → Shares (component_names component) (component_inside component) (component_loose component)
inside_loose component =
    left_out (name_of component).span (both_share (specs_loose (spec_of component))
    (both_share (all_second (flat_map formal_names (formals_of component))) (parts_share item_names item_inside item_loose code_loose (body_of component))))

inside_own : (component : Component) → Shares (component_names component) (component_inside component) (component_own component)
inside_own component =
    in_second (name_of component).span (both_share (all_left_out (flat_map spec_item_names (spec_of component)))
    (both_share (all_left_out (flat_map formal_names (formals_of component))) (codes_only (body_of component))))

-- all of them stand outside of code
pub firm_outer : (files : List File) → IsDistinct same_spot (map spot_of (flat_map file_names files))
    → Each (λ span. Away (spot_of span) (flat_map component_inside (components_in files))) (flat_map component_firm (components_in files))
firm_outer = apart_in component_inside component_firm inside_firm

pub loose_outer : (files : List File) → IsDistinct same_spot (map spot_of (flat_map file_names files))
    → Each (λ span. Away (spot_of span) (flat_map component_inside (components_in files))) (flat_map component_loose (components_in files))
loose_outer = apart_in component_inside component_loose inside_loose

pub own_outer : (files : List File) → IsDistinct same_spot (map spot_of (flat_map file_names files))
    → Each (λ span. Away (spot_of span) (flat_map component_inside (components_in files))) (flat_map component_own (components_in files))
own_outer = apart_in component_inside component_own inside_own
