-- What a program declares outside of code.
use Rattle.std.specs.Prelude.{ℕ, zero, suc, ◌==◌, Bool, List, [], ◌∷◌, ◌++◌, Option, Some, None, unwrap_or, map, flat_map, fold, length, slice_get, if◌then◌else◌}
use Rattle.std.specs.List.{list_any, enumerate_from}
use Rattle.sr_check_expr.specs.declared.facts.Facts.{Facts}
use Rattle.sr_core.specs.declared.component.Operation.{Operation}
use Rattle.sr_names.specs.declared.meaning.Decl.{Decl}
use Rattle.sr_names.specs.declared.meaning.Sort.{Sort}
use Rattle.sr_names.specs.declared.meaning.Sort.TheVariants as sort
use Rattle.sr_names.specs.declared.spot.Spot.{Spot}
use Rattle.sr_names.specs.Spots.{spot_of}
use Rattle.sr_names.specs.Uses.{meaning_at}
use Rattle.sr_check_expr.specs.Naming.{decl_of}
use Rattle.sr_tree.specs.declared.component.Component.{Component as ComponentTree}
use Rattle.sr_tree.specs.declared.component.SpecItem.{SpecItem}
use Rattle.sr_tree.specs.declared.component.SpecItem.TheVariants as spec
use Rattle.sr_tree.specs.declared.declaration.OpTypeDecl.{OpTypeDecl}
use Rattle.sr_tree.specs.declared.declaration.TypeDecl.{TypeDecl}
use Rattle.sr_tree.specs.declared.name.Name.{Name}
use Rattle.sr_tree.specs.declared.types.TypeTree.{TypeTree, out-TypeTree}
use Rattle.sr_tree.specs.declared.types.TypeTree.TheOpen.{TypeTree-F}
use Rattle.sr_tree.specs.Nested.{types_within}
use Rattle.sr_tables.specs.declared.tables.Tables.{Tables}
use Rattle.sr_outline.specs.Heads.{Heads, heads_of, component_opened, operation_entry, spec_item_optypes}
use Rattle.sr_outline.specs.Numbers.{component_spots, served_spots, site_spots, shared_of, component_served, component_sites, component_shared}
use Rattle.sr_tables.specs.Parts.{in_component, component_spot}
use Rattle.sr_outline.specs.Shapes.{shapes_of, spec_item_types, with_types}
use Rattle.sr_tables.specs.Shapes.{Shapes}
use Rattle.sr_tables.specs.Tables.{table_of, number_in, with_spots, with_entries}

-- ---- tables

abbrev pub component_entries : Facts → Shapes → Heads → List Spot → ℕ × ComponentTree → List (Spot × Operation)
component_entries facts shapes heads procs numbered = map (operation_entry procs numbered.0) (component_opened facts shapes heads numbered.1)

abbrev pub operations_of : Facts → Shapes → Heads → List Spot → List ComponentTree → List (Spot × Operation)
operations_of facts shapes heads procs components = table_of (flat_map (component_entries facts shapes heads procs) (enumerate_from 0 components))

abbrev pub tables_with : Facts → List ComponentTree → Shapes → Heads → Tables
tables_with facts components shapes heads = record {
  components = component_spots components;
  procs = served_spots facts components;
  sites = site_spots facts components;
  shared = shared_of facts components;
  shapes = shapes;
  heads = heads;
  operations = operations_of facts shapes heads (served_spots facts components) components;
}

abbrev pub tables_of : Facts → List ComponentTree → Tables
tables_of facts components = tables_with facts components (shapes_of facts components) (heads_of facts (shapes_of facts components) components)

abbrev pub no_tables : Tables
no_tables = record { components = []; procs = []; sites = []; shared = []; shapes = []; heads = []; operations = [] }

-- with a component after those before it, but for signatures that have names and operations
abbrev pub with_component : Facts → Tables → ℕ × ComponentTree → Tables
with_component facts tables numbered = record tables {
  components = with_spots tables.components (component_spot numbered.1 ∷ []);
  procs = with_spots tables.procs (component_served facts numbered.1);
  sites = with_spots tables.sites (component_sites facts numbered.1);
  shared = with_entries tables.shared (component_shared facts numbered.0 numbered.1);
  shapes = with_types facts tables.shapes (in_component spec_item_types numbered.1);
}

-- the signatures of a program that have names
abbrev pub all_optypes : List ComponentTree → List OpTypeDecl
all_optypes components = flat_map (in_component spec_item_optypes) components

-- ---- imports

abbrev pub spec_item_imports : SpecItem → List Name
spec_item_imports (spec.Import imports) = imports.names
spec_item_imports _ = []

abbrev pub global_spot : Option Decl → List Spot
global_spot None = []
global_spot (Some decl) = by decl.sort
  where
    by : Sort → List Spot
    by sort.Global = decl.spot ∷ []
    by _ = []

abbrev pub member : ℕ → List ℕ → Bool
member n ns = list_any (λ m. n == m) ns

abbrev pub with_number : List ℕ → ℕ → List ℕ
with_number numbers number = if member number numbers then numbers else numbers ++ number ∷ []

abbrev pub globals_named : Facts → List Spot → Name → List ℕ
globals_named facts components name = map (number_in components) (global_spot (decl_of (meaning_at facts.uses (spot_of name.span))))

abbrev pub item_imports : Facts → List Spot → SpecItem → List ℕ
item_imports facts components inner = flat_map (globals_named facts components) (spec_item_imports inner)

-- the globals that a component imports, in the order of the text, each once
abbrev pub imports_of : Facts → List Spot → ComponentTree → List ℕ
imports_of facts components component = fold with_number [] (in_component (item_imports facts components) component)

-- what the global of a number imports; each number of an accepted program is that of a component
abbrev pub imports_at : List (List ℕ) → ℕ → List ℕ
imports_at imports global = unwrap_or (slice_get imports global) []

-- The globals that are wanted, each after those that it imports, after those that there are. No chain of
-- imports is longer than there are components.
abbrev pub with_needed : ℕ → List (List ℕ) → List ℕ → List ℕ → List ℕ
with_needed zero imports there wanted = there
with_needed (suc depth) imports there wanted =
    fold (λ made global. if member global made then made else with_number (with_needed depth imports made (imports_at imports global)) global) there wanted

-- directly or through globals
abbrev pub needs_of : List (List ℕ) → ℕ → List ℕ
needs_of imports component = with_needed (length imports) imports [] (imports_at imports component)

-- ---- the names of enumerations

abbrev pub layer_literals : {B C D : Type 0} → TypeTree-F TypeTree B C D → List (List (List ℕ))
layer_literals (TypeTree-F.Enum span literals) = map (λ name. name.text) literals ∷ []
layer_literals _ = []

abbrev pub tree_literals : TypeTree → List (List (List ℕ))
tree_literals tree = layer_literals (out-TypeTree tree)

-- of all enumerations in a type, in the order of the text
abbrev pub type_literals : TypeDecl → List (List (List ℕ))
type_literals named = flat_map tree_literals (types_within named.ty)

abbrev pub item_literals : SpecItem → List (List (List ℕ))
item_literals inner = flat_map type_literals (spec_item_types inner)

abbrev pub component_literals : ComponentTree → List (List (List ℕ))
component_literals component = in_component item_literals component

-- enumerations are counted through the program
abbrev pub enumerations_of : List ComponentTree → List (List (List ℕ))
enumerations_of components = flat_map component_literals components
