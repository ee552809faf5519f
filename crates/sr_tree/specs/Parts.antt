-- The parts of a component, whichever way it is written.
use Rattle.std.specs.Prelude.{List, [], unwrap_or}
use Rattle.sr_value.specs.declared.place.Span.{Span}
use Rattle.sr_tree.specs.declared.component.Component.{Component}
use Rattle.sr_tree.specs.declared.component.Component.TheVariants.{Resource, SplitResource, Global}
use Rattle.sr_tree.specs.declared.component.Item.{Item}
use Rattle.sr_tree.specs.declared.component.SpecItem.{SpecItem}
use Rattle.sr_tree.specs.declared.name.Name.{Name}
use Rattle.sr_tree.specs.declared.types.Formal.{Formal}

abbrev pub span_of : Component → Span
span_of (Resource span name formals items) = span
span_of (SplitResource span name spec formals items) = span
span_of (Global span name spec body) = span

abbrev pub name_of : Component → Name
name_of (Resource span name formals items) = name
name_of (SplitResource span name spec formals items) = name
name_of (Global span name spec body) = name

-- a resource that has its formals directly after its name is all body
abbrev pub spec_of : Component → List SpecItem
spec_of (Resource span name formals items) = []
spec_of (SplitResource span name spec formals items) = spec
spec_of (Global span name spec body) = spec

abbrev pub formals_of : Component → List Formal
formals_of (Resource span name formals items) = formals
formals_of (SplitResource span name spec formals items) = formals
formals_of (Global span name spec body) = []

abbrev pub body_of : Component → List Item
body_of (Resource span name formals items) = items
body_of (SplitResource span name spec formals items) = items
body_of (Global span name spec body) = unwrap_or body []
