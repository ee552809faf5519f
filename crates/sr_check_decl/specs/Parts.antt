-- The declaration that a component is.
use Rattle.sr_names.specs.declared.meaning.Decl.{Decl}
use Rattle.sr_names.specs.declared.meaning.Sort.{Sort}
use Rattle.sr_names.specs.declared.meaning.Sort.TheVariants.{Resource as resource_sort, Global as global_sort}
use Rattle.sr_names.specs.Readings.{declaration}
use Rattle.sr_tree.specs.declared.component.Component.{Component}
use Rattle.sr_tree.specs.declared.component.Component.TheVariants.{Resource, SplitResource, Global}
use Rattle.sr_tree.specs.Parts.{name_of}

abbrev pub sort_of : Component → Sort
sort_of (Resource span name formals items) = resource_sort
sort_of (SplitResource span name spec formals items) = resource_sort
sort_of (Global span name spec body) = global_sort

abbrev pub component_decl : Component → Decl
component_decl component = declaration (sort_of component) (name_of component).span
