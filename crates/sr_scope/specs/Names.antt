-- What is found where a name is used.
use Rattle.std.specs.Prelude.{Bool, true, false, List, [], ◌∷◌, ◌++◌, Option, Some, None, if◌then◌else◌}
use Rattle.sr_names.specs.declared.finding.Finding.{Finding}
use Rattle.sr_names.specs.declared.meaning.Decl.{Decl}
use Rattle.sr_names.specs.declared.meaning.Meaning.{Meaning}
use Rattle.sr_names.specs.declared.meaning.Meaning.TheVariants.{Declared, Predefined}
use Rattle.sr_names.specs.declared.meaning.Sort.{Sort}
use Rattle.sr_names.specs.declared.meaning.Sort.TheVariants.{Resource, Global}
use Rattle.sr_names.specs.declared.place.Blocks.{Blocks}
use Rattle.sr_names.specs.declared.place.Place.{Place}
use Rattle.sr_names.specs.declared.finding.Rule.TheVariants.{Name as name_rule}
use Rattle.sr_names.specs.Readings.{broken, read_found, member_found}
use Rattle.sr_names.specs.Scopes.{denotes}
use Rattle.sr_names.specs.Spots.{spot_of}
use Rattle.sr_tree.specs.declared.name.Name.{Name}
use Rattle.sr_tree.specs.declared.name.QualifiedName.{QualifiedName}

abbrev pub is_component : Sort → Bool
is_component Resource = true
is_component Global = true
is_component _ = false

-- the component that a meaning is, where it is one
abbrev pub component : Option Meaning → Option Decl
component None = None
component (Some (Predefined name)) = None
component (Some (Declared decl)) = if is_component decl.sort then Some decl else None

-- the component that a name means
abbrev pub component_named : Place → Blocks → Name → Option Decl
component_named place blocks name = component (denotes place blocks name.text (spot_of name.span))

-- a name is used
abbrev pub name_found : Place → Blocks → Name → List Finding
name_found place blocks name = read_found place blocks name.text name.span

-- after a component and a point stands a name of its spec; after anything else a field, which has no scope
abbrev pub field_found : Place → Option Decl → Name → List Finding
field_found place None name = []
field_found place (Some component) name = member_found place component name.text name.span

-- in the name of a type or a resource only a component stands before a point
abbrev pub spec_name_found : Place → Option Decl → Name → List Finding
spec_name_found place None name = broken name_rule name.span ∷ []
spec_name_found place (Some component) name = member_found place component name.text name.span

abbrev pub second_found : Place → Option Decl → Option Name → List Finding
second_found place component None = []
second_found place component (Some name) = spec_name_found place component name

-- a name, or a component and a name of its spec
abbrev pub qualified_found : Place → Blocks → QualifiedName → List Finding
qualified_found place blocks qualified = name_found place blocks qualified.first ++ second_found place (component_named place blocks qualified.first) qualified.second
