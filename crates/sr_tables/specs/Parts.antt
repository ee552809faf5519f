-- The parts of files and components, in the order of the text.
use Rattle.std.specs.Prelude.{List, [], ◌++◌, unwrap_or, flat_map}
use Rattle.sr_core.specs.declared.component.Kind.{Kind}
use Rattle.sr_core.specs.declared.component.Kind.TheVariants as kind
use Rattle.sr_names.specs.declared.meaning.Decl.{Decl}
use Rattle.sr_names.specs.declared.meaning.Sort.{Sort}
use Rattle.sr_names.specs.declared.meaning.Sort.TheVariants as sort
use Rattle.sr_names.specs.declared.spot.Spot.{Spot}
use Rattle.sr_names.specs.Spots.{spot_of}
use Rattle.sr_tree.specs.declared.component.Component.{Component}
use Rattle.sr_tree.specs.declared.component.Component.TheVariants.{Resource, SplitResource, Global}
use Rattle.sr_tree.specs.declared.component.File.{File}
use Rattle.sr_tree.specs.declared.component.Item.{Item}
use Rattle.sr_tree.specs.declared.component.Item.TheVariants as item
use Rattle.sr_tree.specs.declared.component.SpecItem.{SpecItem}
use Rattle.sr_tree.specs.declared.declaration.OpItem.{OpItem}
use Rattle.sr_tree.specs.declared.declaration.OpItem.TheVariants.{Signed, Typed}
use Rattle.sr_tree.specs.declared.name.Name.{Name}
use Rattle.sr_tree.specs.declared.name.QualifiedName.{QualifiedName}
use Rattle.sr_tree.specs.declared.types.Decl.{Decl as DeclTree}
use Rattle.sr_tree.specs.declared.types.Formal.{Formal, out-Formal}
use Rattle.sr_tree.specs.Parts.{name_of, spec_of, body_of}
use Rattle.sr_value.specs.declared.place.Place.{Place}
use Rattle.sr_value.specs.declared.place.Span.{Span}

-- the line of a token
abbrev pub line_of : Span → Place
line_of span = record { file = span.file; line = span.line }

-- a declaration is known by the spot of its name
abbrev pub spot_named : Name → Spot
spot_named name = spot_of name.span

-- the last name of `name` or `component.name` decides
abbrev pub deciding : QualifiedName → Name
deciding qualified = unwrap_or qualified.second qualified.first

-- ---- components

-- a program is the components of all files
abbrev pub components_in : List File → List Component
components_in files = flat_map (λ file. file.components) files

abbrev pub sort_of : Component → Sort
sort_of (Resource span name formals items) = sort.Resource
sort_of (SplitResource span name spec formals items) = sort.Resource
sort_of (Global span name spec body) = sort.Global

abbrev pub kind_of : Component → Kind
kind_of (Resource span name formals items) = kind.Resource
kind_of (SplitResource span name spec formals items) = kind.Resource
kind_of (Global span name spec body) = kind.Global

abbrev pub component_spot : Component → Spot
component_spot component = spot_named (name_of component)

abbrev pub component_decl : Component → Decl
component_decl component = record { sort = sort_of component; spot = component_spot component }

-- what is said of each item of specs, for all items of a component: those of its spec, then those of its body
abbrev pub in_item : {A : Type 0} → (SpecItem → List A) → Item → List A
in_item parts (item.Spec inner) = parts inner
in_item parts _ = []

abbrev pub in_component : {A : Type 0} → (SpecItem → List A) → Component → List A
in_component parts component = flat_map parts (spec_of component) ++ flat_map (in_item parts) (body_of component)

-- ---- declarations

abbrev pub decls_of : Formal → List DeclTree
decls_of formal = (out-Formal formal).decls

abbrev pub op_item_name : OpItem → Name
op_item_name (Signed span name signature) = name
op_item_name (Typed span name optype) = name
