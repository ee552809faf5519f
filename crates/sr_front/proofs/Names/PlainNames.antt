-- The names of a program, but for those of operations.
use Rattle.std.specs.Prelude.{List, [], ◌∷◌, ◌++◌, flat_map}
use Rattle.sr_order.specs.Names.{formal_names, name_names, names_spans, proc_item_names, quantifier_names, signature_names, spec_item_names, statement_names, where_some}
use Rattle.sr_tree.specs.declared.component.Component.{Component}
use Rattle.sr_tree.specs.declared.component.Item.{Item}
use Rattle.sr_tree.specs.declared.component.Item.TheVariants as item
use Rattle.sr_tree.specs.declared.component.ProcItem.{ProcItem}
use Rattle.sr_tree.specs.declared.component.ProcItem.TheVariants as inner
use Rattle.sr_tree.specs.declared.component.SpecItem.{SpecItem}
use Rattle.sr_tree.specs.declared.component.SpecItem.TheVariants as spec
use Rattle.sr_tree.specs.Parts.{name_of, spec_of, formals_of, body_of}
use Rattle.sr_value.specs.declared.place.Span.{Span}

-- in a spec
abbrev pub spec_plain : SpecItem → List Span
spec_plain (spec.Op declared) = []
spec_plain (spec.Sem declared) = []
spec_plain one = spec_item_names one

-- in the block of a proc
abbrev pub inner_plain : ProcItem → List Span
inner_plain (inner.Op declared) = []
inner_plain (inner.Sem declared) = []
inner_plain one = proc_item_names one

abbrev pub block_plain : List ProcItem → List Span
block_plain block = flat_map inner_plain block

-- in the procs and statements of a component
abbrev pub code_plain : Item → List Span
code_plain (item.Spec declared) = []
code_plain (item.Proc proc) = proc.name.span ∷ (names_spans proc.formals ++ (where_some name_names proc.returned ++ block_plain proc.block))
code_plain (item.Procedure procedure) = signature_names procedure.signature ++ block_plain procedure.block
code_plain (item.Process process) = flat_map quantifier_names process.quantifiers ++ block_plain process.block
code_plain (item.Final final) = block_plain final.block
code_plain (item.Statement statement) = statement_names statement

abbrev pub component_code_plain : Component → List Span
component_code_plain component = flat_map code_plain (body_of component)

-- among the declarations of a component
abbrev pub item_plain : Item → List Span
item_plain (item.Spec declared) = spec_plain declared
item_plain _ = []

abbrev pub component_plain : Component → List Span
component_plain component = (name_of component).span ∷ (flat_map spec_plain (spec_of component) ++ (flat_map formal_names (formals_of component) ++ flat_map item_plain (body_of component)))
