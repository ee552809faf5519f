-- What is found in components and files.
use Rattle.std.specs.Prelude.{◌-◌, List, [], ◌∷◌, ◌++◌, Option, Some, None, Bool, true, false, if◌then◌else◌, map, length, slice_get}
use Rattle.std.specs.Option.{option_map, option_and_then, option_to_list}
use Rattle.sr_value.specs.declared.place.Span.{Span}
use Rattle.sr_names.specs.declared.cycles.Import.{Import as GlobalImport}
use Rattle.sr_names.specs.declared.finding.Finding.{Finding}
use Rattle.sr_names.specs.declared.finding.Rule.TheVariants.{Main}
use Rattle.sr_names.specs.declared.meaning.Decl.{Decl}
use Rattle.sr_names.specs.declared.meaning.Meaning.TheVariants.{Declared}
use Rattle.sr_names.specs.declared.meaning.Sort.{Sort}
use Rattle.sr_names.specs.declared.meaning.Sort.TheVariants.{Resource as resource_sort, Global as global_sort}
use Rattle.sr_names.specs.declared.place.Place.{Place}
use Rattle.sr_names.specs.declared.spot.Spot.{Spot}
use Rattle.sr_names.specs.Components.{with_members}
use Rattle.sr_names.specs.Entries.{Entries}
use Rattle.sr_names.specs.Readings.{broken, reading, declaration}
use Rattle.sr_names.specs.Scopes.{no_blocks}
use Rattle.sr_names.specs.Specs.{Specs}
use Rattle.sr_names.specs.Spots.{spot_of}
use Rattle.sr_names.specs.Tables.{declared_as}
use Rattle.sr_names.specs.Visible.{with_component}
use Rattle.sr_tree.specs.declared.component.Component.{Component}
use Rattle.sr_tree.specs.declared.component.Component.TheVariants.{Resource, SplitResource, Global}
use Rattle.sr_tree.specs.declared.component.File.{File}
use Rattle.sr_tree.specs.declared.component.Item.{Item}
use Rattle.sr_tree.specs.declared.component.Item.TheVariants.{Spec, Proc, Procedure, Process, Final, Statement}
use Rattle.sr_tree.specs.declared.component.SpecItem.{SpecItem}
use Rattle.sr_tree.specs.declared.component.SpecItem.TheVariants.{Import, Const, «Type», OpType, Op, Var, Sem}
use Rattle.sr_tree.specs.declared.name.Name.{Name}
use Rattle.sr_tree.specs.declared.types.Formal.{Formal}
use Rattle.sr_tree.specs.Parts.{name_of, spec_of, formals_of, body_of}
use Rattle.sr_scope.specs.Declares.{name_declared, name_twice}
use Rattle.sr_scope.specs.Items.{specs_declared, specs_twice, items_declared, items_twice, inside, specs_found, items_found, served_twice}
use Rattle.sr_scope.specs.Types.{formal_read, formals_found, formals_declared, formals_twice}

abbrev pub sort_of : Component → Sort
sort_of (Resource span name formals items) = resource_sort
sort_of (SplitResource span name spec formals items) = resource_sort
sort_of (Global span name spec body) = global_sort

abbrev pub decl_of : Component → Decl
decl_of component = declaration (sort_of component) (name_of component).span

-- the names of a component: of its spec, its formals and its body, all in one scope
abbrev pub own_declared : Component → Entries
own_declared component = items_declared (body_of component) (formals_declared (map formal_read (formals_of component)) (specs_declared (spec_of component) []))

abbrev pub own_twice : Component → List Finding
own_twice component =
    specs_twice (spec_of component) []
    ++ (formals_twice (map formal_read (formals_of component)) (specs_declared (spec_of component) [])
    ++ items_twice (body_of component) (formals_declared (map formal_read (formals_of component)) (specs_declared (spec_of component) [])))

-- the components of the program by their names, and the names of their specs
abbrev pub collected : Component → Place → Place
collected component place = record place {
  components = name_declared (sort_of component) (name_of component) place.components;
  specs = with_members place.specs (spot_of (name_of component).span) (specs_declared (spec_of component) []);
}

-- two components of one name: the later one is refused
abbrev pub collected_twice : Component → Place → List Finding
collected_twice component place = name_twice (sort_of component) (name_of component) place.components ++ specs_twice (spec_of component) []

abbrev pub all_collected : List Component → Place → Place
all_collected [] place = place
all_collected (component ∷ components) place = all_collected components (collected component place)

abbrev pub all_collected_twice : List Component → Place → List Finding
all_collected_twice [] place = []
all_collected_twice (component ∷ components) place = collected_twice component place ++ all_collected_twice components (collected component place)

abbrev pub files_collected : List File → Place → Place
files_collected [] place = place
files_collected (file ∷ files) place = files_collected files (all_collected file.components place)

abbrev pub files_collected_twice : List File → Place → List Finding
files_collected_twice [] place = []
files_collected_twice (file ∷ files) place = all_collected_twice file.components place ++ files_collected_twice files (all_collected file.components place)

-- imports
abbrev pub imported_names : SpecItem → List Name
imported_names (Import imports) = imports.names
imported_names (Const constant) = []
imported_names («Type» named) = []
imported_names (OpType named) = []
imported_names (Op operations) = []
imported_names (Var variables) = []
imported_names (Sem declared) = []

abbrev pub item_imports : Item → List Name
item_imports (Spec item) = imported_names item
item_imports (Proc proc) = []
item_imports (Procedure procedure) = []
item_imports (Process process) = []
item_imports (Final final) = []
item_imports (Statement statement) = []

abbrev pub specs_imports : List SpecItem → List Name
specs_imports [] = []
specs_imports (item ∷ items) = imported_names item ++ specs_imports items

abbrev pub items_imports : List Item → List Name
items_imports [] = []
items_imports (item ∷ items) = item_imports item ++ items_imports items

-- the components that a component imports, in its spec or its body
abbrev pub imports_of : Component → List Name
imports_of component = specs_imports (spec_of component) ++ items_imports (body_of component)

abbrev pub import_at : Spot → Spot → Span → GlobalImport
import_at from to span = record { link = record { from = from; to = to }; span = span }

-- a global imports a global
abbrev pub import_of_sorts : Sort → Sort → GlobalImport → Option GlobalImport
import_of_sorts global_sort global_sort import = Some import
import_of_sorts _ _ import = None

abbrev pub import_to : Entries → Decl → Name → Option GlobalImport
import_to components importer name =
    option_and_then (λ target. import_of_sorts importer.sort target.sort (import_at importer.spot target.spot name.span)) (declared_as components name.text)

abbrev pub imports_to : Entries → Decl → List Name → List GlobalImport
imports_to components importer [] = []
imports_to components importer (name ∷ names) = option_to_list (import_to components importer name) ++ imports_to components importer names

abbrev pub all_imports : Entries → List Component → List GlobalImport
all_imports components [] = []
all_imports components (component ∷ more) = imports_to components (decl_of component) (imports_of component) ++ all_imports components more

-- the imports of globals by globals
abbrev pub files_imports : Entries → List File → List GlobalImport
files_imports components [] = []
files_imports components (file ∷ files) = all_imports components file.components ++ files_imports components files

-- an import names a component of the program
abbrev pub import_found : Entries → Name → Finding
import_found components name = reading (option_map Declared (declared_as components name.text)) name.span

abbrev pub imports_found : Entries → List Name → List Finding
imports_found components [] = []
imports_found components (name ∷ names) = import_found components name ∷ imports_found components names

abbrev pub with_import : Entries → Name → List Decl → List Decl
with_import components name visible = by (declared_as components name.text)
  where
    by : Option Decl → List Decl
    by None = visible
    by (Some component) = with_component visible component

abbrev pub with_imports : Entries → List Name → List Decl → List Decl
with_imports components [] visible = visible
with_imports components (name ∷ names) visible = with_imports components names (with_import components name visible)

-- the components whose names a component can use: itself and what it imports
abbrev pub visible_to : Entries → Component → List Decl
visible_to components component = with_imports components (imports_of component) (with_component [] (decl_of component))

abbrev pub place_of : Entries → Specs → Component → Place
place_of components specs component = record {
  components = components;
  specs = specs;
  own = own_declared component;
  visible = visible_to components component;
  within = None;
}

-- what is found within a component, once its names are known
abbrev pub walked : Component → Place → List Finding
walked component place =
    served_twice (body_of component) place no_blocks []
    ++ (specs_found (spec_of component) place no_blocks
    ++ (formals_found (map formal_read (formals_of component)) (inside place None) no_blocks
    ++ items_found (body_of component) (inside place None) no_blocks))

abbrev pub component_found : Entries → Specs → Component → List Finding
component_found components specs component =
    own_twice component
    ++ (imports_found components (imports_of component)
    ++ walked component (place_of components specs component))

abbrev pub components_found : Entries → Specs → List Component → List Finding
components_found components specs [] = []
components_found components specs (component ∷ more) = component_found components specs component ++ components_found components specs more

abbrev pub files_found : Entries → Specs → List File → List Finding
files_found components specs [] = []
files_found components specs (file ∷ files) = components_found components specs file.components ++ files_found components specs files

-- main is the last component of the last file: a resource without formals
abbrev pub last_of : {A : Type 0} → List A → Option A
last_of items = slice_get items (length items - 1)

abbrev pub is_none_of : List Formal → Bool
is_none_of [] = true
is_none_of (formal ∷ formals) = false

abbrev pub can_be_main : Option Component → Bool
can_be_main (Some (Resource span name formals items)) = is_none_of formals
can_be_main (Some (SplitResource span name spec formals items)) = is_none_of formals
can_be_main (Some (Global span name spec body)) = false
can_be_main None = false

abbrev pub last_component : List File → Option Component
last_component files = option_and_then (λ file. last_of file.components) (last_of files)

-- otherwise the last file is refused at its first byte
abbrev pub start_of : List File → Span
start_of files = record { file = length files - 1; from = 0; to = 0; line = 1 }

abbrev pub main_found : List File → List Finding
main_found files = if can_be_main (last_component files) then [] else broken Main (start_of files) ∷ []
