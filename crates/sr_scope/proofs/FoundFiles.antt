-- The uses that are found in files are of the names in them, so where no two names stand at one spot, the uses that
-- are found at a spot have one meaning.
use Rattle.std.proofs.Common.{◌≡◌, ◌+◌, Bool, true, false, List, [], ◌∷◌, ◌++◌, Option, Some, None, map, flat_map, if◌then◌else◌, arith}
use Rattle.std.specs.List.{IsDistinct}
use Rattle.std.specs.Option.{option_map}
use Rattle.sr_value.specs.declared.place.Span.{Span}
use Rattle.sr_names.specs.declared.cycles.Import.{Import as GlobalImport}
use Rattle.sr_names.specs.declared.finding.Finding.{Finding}
use Rattle.sr_names.specs.declared.links.Link.{Link}
use Rattle.sr_names.specs.declared.meaning.Meaning.TheVariants.{Declared}
use Rattle.sr_names.specs.declared.meaning.Sort.TheVariants.{Constant, Literal, «Type» as type_sort, OpType as optype_sort, Variable, Operation}
use Rattle.sr_names.specs.declared.place.Blocks.{Blocks}
use Rattle.sr_names.specs.declared.place.Place.{Place}
use Rattle.sr_names.specs.declared.spot.Spot.{Spot}
use Rattle.sr_names.specs.Cycles.{links_of, all_cycles_found}
use Rattle.sr_names.specs.Entries.{Entries}
use Rattle.sr_names.specs.Links.{connects}
use Rattle.sr_names.specs.Scopes.{no_blocks}
use Rattle.sr_names.specs.Specs.{Specs}
use Rattle.sr_names.specs.Spots.{same_spot, spot_of}
use Rattle.sr_names.specs.Tables.{declared_as}
use Rattle.sr_tree.specs.declared.component.Component.{Component}
use Rattle.sr_tree.specs.declared.component.File.{File}
use Rattle.sr_tree.specs.declared.component.Item.{Item}
use Rattle.sr_tree.specs.declared.component.Item.TheVariants as item
use Rattle.sr_tree.specs.declared.component.SpecItem.{SpecItem}
use Rattle.sr_tree.specs.declared.component.SpecItem.TheVariants as spec
use Rattle.sr_tree.specs.declared.name.Name.{Name}
use Rattle.sr_tree.specs.Parts.{name_of, spec_of, formals_of, body_of}
use Rattle.sr_order.specs.Names.{names_spans, spec_item_names, item_names, component_names, file_names}
use Rattle.sr_scope.specs.Components.{sort_of, own_twice, collected, collected_twice, all_collected, all_collected_twice, files_collected_twice, files_imports, imported_names, item_imports, specs_imports, items_imports, imports_of, import_found, imports_found, place_of, component_found, components_found, files_found, can_be_main, last_component, main_found}
use Rattle.sr_scope.specs.Declarations.{var_names}
use Rattle.sr_scope.specs.Declares.{name_declared, name_twice, op_name}
use Rattle.sr_scope.specs.Items.{spec_declared, spec_twice, specs_declared, specs_twice, item_declared, item_twice, items_twice, spec_within, item_within, inside, spec_found, specs_found, item_found, items_found, served_name, serves, name_served, name_served_twice, served_twice}
use Rattle.sr_scope.specs.Literals.{literals_of}
use Rattle.sr_scope.specs.Procs.{semaphore_names}
use Rattle.sr_scope.specs.Resolved.{findings, program, no_place}
use Rattle.sr_scope.specs.Types.{formal_read, formals_declared}
use Rattle.sr_scope.specs.Uses.{OneMeaning}
use Rattle.sr_scope.proofs.Among.{Among, nothing, both, besides, and_twice, after_one, one_broken, uses_at, uses_both, names_both, one_meaning_among}
use Rattle.sr_scope.proofs.FoundExprs.{reading_among, twice_among, names_twice_among}
use Rattle.sr_scope.proofs.FoundTypes.{type_among, signature_among, formals_among, formals_twice_among, const_among, var_among, op_items_among, semaphores_among}
use Rattle.sr_scope.proofs.FoundStatements.{statement_among, proc_among, procedure_among, process_among, final_among}

-- ---- what is declared twice is no use

spec_twice_among : (item : SpecItem) (table : Entries) → Among (spec_twice item table) []
spec_twice_among (spec.Import imports) table = nothing
spec_twice_among (spec.Const constant) table = twice_among Constant constant.name table
spec_twice_among (spec.Type named) table =
    besides (twice_among type_sort named.name table) (names_twice_among Literal (literals_of named.ty) (name_declared type_sort named.name table))
spec_twice_among (spec.OpType named) table = twice_among optype_sort named.name table
spec_twice_among (spec.Op operations) table = names_twice_among Operation (map op_name operations.items) table
spec_twice_among (spec.Var variables) table = names_twice_among Variable (var_names variables) table
spec_twice_among (spec.Sem declared) table = names_twice_among Operation (semaphore_names declared.semaphores) table

specs_twice_among : (items : List SpecItem) (table : Entries) → Among (specs_twice items table) []
specs_twice_among [] table = nothing
specs_twice_among (item ∷ items) table = besides (spec_twice_among item table) (specs_twice_among items (spec_declared item table))

item_twice_among : (one : Item) (table : Entries) → Among (item_twice one table) []
item_twice_among (item.Spec declared) table = spec_twice_among declared table
item_twice_among (item.Procedure procedure) table = twice_among Operation procedure.name table
item_twice_among (item.Process process) table = twice_among Operation process.name table
item_twice_among (item.Proc proc) table = nothing
item_twice_among (item.Final final) table = nothing
item_twice_among (item.Statement statement) table = nothing

items_twice_among : (items : List Item) (table : Entries) → Among (items_twice items table) []
items_twice_among [] table = nothing
items_twice_among (item ∷ items) table = besides (item_twice_among item table) (items_twice_among items (item_declared item table))

own_twice_among : (component : Component) → Among (own_twice component) []
own_twice_among component =
    let formals = map formal_read (formals_of component) in
    let known = specs_declared (spec_of component) [] in
    besides (specs_twice_among (spec_of component) [])
    (besides (formals_twice_among formals known) (items_twice_among (body_of component) (formals_declared formals known)))

either_among : (test : Bool) (name : Name) (served : Entries) → Among (if test then name_twice Operation name served else []) []
either_among true name served = twice_among Operation name served
either_among false name served = nothing

name_served_twice_among : (place : Place) (blocks : Blocks) (name : Option Name) (served : Entries) → Among (name_served_twice place blocks name served) []
name_served_twice_among place blocks None served = nothing
name_served_twice_among place blocks (Some name) served = either_among (serves place blocks name) name served

served_twice_among : (items : List Item) (place : Place) (blocks : Blocks) (served : Entries) → Among (served_twice items place blocks served) []
served_twice_among [] place blocks served = nothing
served_twice_among (item ∷ items) place blocks served =
    besides (name_served_twice_among place blocks (served_name item) served)
    (served_twice_among items place blocks (name_served place blocks (served_name item) served))

collected_twice_among : (component : Component) (place : Place) → Among (collected_twice component place) []
collected_twice_among component place = besides (twice_among (sort_of component) (name_of component) place.components) (specs_twice_among (spec_of component) [])

all_collected_twice_among : (components : List Component) (place : Place) → Among (all_collected_twice components place) []
all_collected_twice_among [] place = nothing
all_collected_twice_among (component ∷ components) place =
    besides (collected_twice_among component place) (all_collected_twice_among components (collected component place))

files_collected_twice_among : (files : List File) (place : Place) → Among (files_collected_twice files place) []
files_collected_twice_among [] place = nothing
files_collected_twice_among (file ∷ files) place =
    besides (all_collected_twice_among file.components place) (files_collected_twice_among files (all_collected file.components place))

unless_main : (test : Bool) (finding : Finding) → Among (finding ∷ []) [] → Among (if test then [] else finding ∷ []) []
unless_main true finding broken = nothing
unless_main false finding broken = broken

main_among : (files : List File) → Among (main_found files) []
main_among files = unless_main (can_be_main (last_component files)) _ (one_broken _ [])

where_cycle : (test : Bool) (finding : Finding) → Among (finding ∷ []) [] → Among (if test then finding ∷ [] else []) []
where_cycle true finding broken = broken
where_cycle false finding broken = nothing

cycles_among : (links : List Link) (imports : List GlobalImport) → Among (all_cycles_found links imports) []
cycles_among links [] = nothing
cycles_among links (import ∷ imports) =
    besides (where_cycle (connects links import.link.to import.link.from) _ (one_broken _ [])) (cycles_among links imports)

-- ---- items, and what they import

imports_among : (components : Entries) (names : List Name) → Among (imports_found components names) (names_spans names)
imports_among components [] = nothing
imports_among components (name ∷ names) =
    both (reading_among (option_map Declared (declared_as components name.text)) name.span) (imports_among components names)

spec_among : (components : Entries) (one : SpecItem) (place : Place) (blocks : Blocks)
    → Among (imports_found components (imported_names one) ++ spec_found one place blocks) (spec_item_names one)
spec_among components (spec.Import imports) place blocks = and_twice (imports_among components imports.names) nothing
spec_among components (spec.Const constant) place blocks = const_among constant place blocks
spec_among components (spec.Type named) place blocks = after_one named.name.span (type_among named.ty place blocks)
spec_among components (spec.OpType named) place blocks = after_one named.name.span (signature_among named.signature place blocks)
spec_among components (spec.Op operations) place blocks = op_items_among operations.items place blocks
spec_among components (spec.Var variables) place blocks = var_among variables place blocks
spec_among components (spec.Sem declared) place blocks = semaphores_among declared.semaphores place blocks

item_among : (components : Entries) (one : Item) (place : Place) (blocks : Blocks)
    → Among (imports_found components (item_imports one) ++ item_found one place blocks) (item_names one)
item_among components (item.Spec declared) place blocks = spec_among components declared place blocks
item_among components (item.Proc proc) place blocks = proc_among proc place blocks
item_among components (item.Procedure procedure) place blocks = procedure_among procedure place blocks
item_among components (item.Process process) place blocks = process_among process place blocks
item_among components (item.Final final) place blocks = final_among final place blocks
item_among components (item.Statement statement) place blocks = statement_among statement place blocks

imports_both : (spot : Spot) (components : Entries) (names more : List Name)
    → uses_at spot (imports_found components (names ++ more)) ≡ uses_at spot (imports_found components names) + uses_at spot (imports_found components more)
imports_both spot components [] more = omega arith
imports_both spot components (name ∷ names) more =
    omega (
      arith,
      imports_both spot components names more,
      uses_both spot (import_found components name ∷ []) (imports_found components (names ++ more)),
      uses_both spot (import_found components name ∷ []) (imports_found components names),
    )

-- two parts of what is found in a list of items, each told for all of the list
interleaved : (f g h k whole : List Finding) {s t : List Span} → ((spot : Spot) → uses_at spot whole ≡ uses_at spot f + uses_at spot g)
    → Among (f ++ h) s → Among (g ++ k) t → Among (whole ++ (h ++ k)) (s ++ t)
interleaved f g h k whole {s = s} {t = t} parts a b = record {
  at = λ spot. omega (arith, parts spot, uses_both spot whole (h ++ k), uses_both spot h k, uses_both spot f h, uses_both spot g k, names_both spot s t, a.at spot, b.at spot);
}

specs_among : (components : Entries) (items : List SpecItem) (place : Place) (blocks : Blocks)
    → Among (imports_found components (specs_imports items) ++ specs_found items place blocks) (flat_map spec_item_names items)
specs_among components [] place blocks = nothing
specs_among components (one ∷ items) place blocks =
    interleaved (imports_found components (imported_names one)) (imports_found components (specs_imports items))
    (spec_found one (inside place (spec_within one)) blocks) (specs_found items place blocks)
    (imports_found components (imported_names one ++ specs_imports items))
    (λ spot. imports_both spot components (imported_names one) (specs_imports items))
    (spec_among components one (inside place (spec_within one)) blocks)
    (specs_among components items place blocks)

items_among : (components : Entries) (items : List Item) (place : Place) (blocks : Blocks)
    → Among (imports_found components (items_imports items) ++ items_found items place blocks) (flat_map item_names items)
items_among components [] place blocks = nothing
items_among components (one ∷ items) place blocks =
    interleaved (imports_found components (item_imports one)) (imports_found components (items_imports items))
    (item_found one (inside place (item_within one)) blocks) (items_found items place blocks)
    (imports_found components (item_imports one ++ items_imports items))
    (λ spot. imports_both spot components (item_imports one) (items_imports items))
    (item_among components one (inside place (item_within one)) blocks)
    (items_among components items place blocks)

-- what is found in a component, and the names of its spec, its formals and its body
arranged : (f g h k whole : List Finding) {i served : List Finding} {s t u : List Span} → Among served [] → ((spot : Spot) → uses_at spot whole ≡ uses_at spot f + uses_at spot g)
    → Among (f ++ h) s → Among i t → Among (g ++ k) u → Among (whole ++ (served ++ (h ++ (i ++ k)))) (s ++ (t ++ u))
arranged f g h k whole {i = i} {served = served} {s = s} {t = t} {u = u} none parts a b c = record {
  at = λ spot. omega (
    arith,
    parts spot,
    none.at spot,
    uses_both spot whole (served ++ (h ++ (i ++ k))),
    uses_both spot served (h ++ (i ++ k)),
    uses_both spot h (i ++ k),
    uses_both spot i k,
    uses_both spot f h,
    uses_both spot g k,
    names_both spot s (t ++ u),
    names_both spot t u,
    a.at spot,
    b.at spot,
    c.at spot,
  );
}

-- ---- components and files

component_among : (components : Entries) (specs : Specs) (component : Component) → Among (component_found components specs component) (component_names component)
component_among components specs component =
    let place = place_of components specs component in
    let within = inside place None in
    let spec = specs_among components (spec_of component) place no_blocks in
    let formals = formals_among (formals_of component) within no_blocks in
    let body = items_among components (body_of component) within no_blocks in
    besides (own_twice_among component) (after_one (name_of component).span
    (arranged (imports_found components (specs_imports (spec_of component))) (imports_found components (items_imports (body_of component)))
    (specs_found (spec_of component) place no_blocks) (items_found (body_of component) within no_blocks) (imports_found components (imports_of component))
    (served_twice_among (body_of component) place no_blocks [])
    (λ spot. imports_both spot components (specs_imports (spec_of component)) (items_imports (body_of component)))
    spec formals body))

components_among : (components : Entries) (specs : Specs) (all : List Component) → Among (components_found components specs all) (flat_map component_names all)
components_among components specs [] = nothing
components_among components specs (component ∷ all) = both (component_among components specs component) (components_among components specs all)

files_among : (components : Entries) (specs : Specs) (files : List File) → Among (files_found components specs files) (flat_map file_names files)
files_among components specs [] = nothing
files_among components specs (file ∷ files) = both (components_among components specs file.components) (files_among components specs files)

pub findings_among : (files : List File) → Among (findings files) (flat_map file_names files)
findings_among files =
    besides (files_collected_twice_among files no_place)
    (besides (main_among files)
    (besides (cycles_among (links_of (files_imports (program files).components files)) (files_imports (program files).components files))
    (files_among (program files).components (program files).specs files)))

pub one_meaning : (files : List File) → IsDistinct same_spot (map spot_of (flat_map file_names files)) → OneMeaning (findings files)
one_meaning files distinct = one_meaning_among (findings files) (flat_map file_names files) (findings_among files) distinct
