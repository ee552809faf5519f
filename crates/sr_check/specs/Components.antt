-- What is found in procs, components and files.
use Rattle.std.specs.Prelude.{true, false, List, [], ◌∷◌, ◌++◌, Option, Some, None, is_some, map}
use Rattle.sr_names.specs.declared.finding.Finding.{Finding}
use Rattle.sr_names.specs.declared.finding.Rule.TheVariants.{BadType, BadUse}
use Rattle.sr_names.specs.Readings.{broken}
use Rattle.sr_names.specs.Spots.{spot_of}
use Rattle.sr_value.specs.declared.place.Span.{Span}
use Rattle.sr_tree.specs.declared.component.Component.{Component}
use Rattle.sr_tree.specs.declared.component.File.{File}
use Rattle.sr_tree.specs.declared.component.FinalCode.{FinalCode}
use Rattle.sr_tree.specs.declared.component.Item.{Item}
use Rattle.sr_tree.specs.declared.component.Item.TheVariants as item
use Rattle.sr_tree.specs.declared.component.Proc.{Proc}
use Rattle.sr_tree.specs.declared.component.Procedure.{Procedure}
use Rattle.sr_tree.specs.declared.component.Process.{Process}
use Rattle.sr_tree.specs.declared.component.ProcItem.{ProcItem}
use Rattle.sr_tree.specs.declared.component.ProcItem.TheVariants as inner
use Rattle.sr_tree.specs.declared.declaration.OpItem.{OpItem}
use Rattle.sr_tree.specs.declared.declaration.Semaphore.{Semaphore}
use Rattle.sr_tree.specs.declared.statement.Quantifier.{Quantifier}
use Rattle.sr_types.specs.declared.ty.Ty.TheVariants as ty
use Rattle.sr_check_expr.specs.declared.facts.Facts.{Facts}
use Rattle.sr_check_expr.specs.Typings.{broken_unless}
use Rattle.sr_check_decl.specs.declared.kind.NamedParam.{NamedParam}
use Rattle.sr_check_decl.specs.declared.kind.Signed.{Signed}
use Rattle.sr_check_decl.specs.Declarations.{ops_found, sems_found, spec_item_found, spec_items_found}
use Rattle.sr_check_decl.specs.Declaring.{declare_name, ops_declared, sems_declared, params_declared, standing}
use Rattle.sr_check_decl.specs.Entering.{ops_entered}
use Rattle.sr_check_decl.specs.Parts.{component_decl}
use Rattle.sr_tree.specs.Parts.{spec_of, formals_of, body_of}
use Rattle.sr_check_decl.specs.TypeTrees.{signature_read, formals_at, formal_read, formals_found}
use Rattle.sr_check_decl.specs.Variables.{declare, variable}
use Rattle.sr_check.specs.declared.operation.Operation.{Operation}
use Rattle.sr_check.specs.declared.serving.Serving.{Serving}
use Rattle.sr_check.specs.declared.serving.Serving.TheVariants.{SetsUp, Ends, Serves}
use Rattle.sr_check.specs.Contexts.{Context, Step, Steps, in_order, with_more}
use Rattle.sr_check.specs.Procs.{Procs, with_proc}
use Rattle.sr_check.specs.Quantifying.{quantifiers_found, quantifiers_known}
use Rattle.sr_check.specs.Services.{operation_named, head_rule, is_own, service_bound, type_of, spot_or}
use Rattle.sr_check.specs.Statements.{statement_read, const_read, var_read}

-- ---- items of procs

abbrev pub ops_read : List OpItem → Facts → Step
ops_read operations facts = record { found = ops_found (ops_declared true operations facts) operations; facts = ops_declared true operations facts }

abbrev pub sems_read : List Semaphore → Facts → Step
sems_read semaphores facts = record { found = sems_found facts semaphores; facts = sems_declared true semaphores facts }

abbrev pub proc_item_read : ProcItem → Steps
proc_item_read (inner.Const constant) context = const_read constant context.facts
proc_item_read (inner.Var variables) context = var_read variables context.facts
proc_item_read (inner.Op operations) context = ops_read operations.items (ops_entered operations.items context.facts)
proc_item_read (inner.Sem semaphores) context = sems_read semaphores.semaphores context.facts
proc_item_read (inner.Statement statement) context = statement_read statement context

abbrev pub block_read : List ProcItem → Steps
block_read items = in_order (map proc_item_read items)

-- ---- procs

-- code of its own has no loop around it
abbrev pub beginning : Procs → Serving → Facts → Context
beginning procs serving facts = record { facts = facts; procs = procs; serving = serving; in_loop = false }

-- a proc serves an operation of its own component, with as many names as formals
abbrev pub proc_rules : Facts → Proc → Option Operation → List Finding
proc_rules facts proc None = broken BadType proc.span ∷ []
proc_rules facts proc (Some operation) =
    broken_unless (head_rule facts.signatures proc.formals (is_some proc.returned) operation.ty) BadType proc.span ++ broken_unless (is_own facts operation) BadUse proc.span

abbrev pub proc_serving : Procs → Proc → Option Operation → Facts → Step
proc_serving procs proc served facts =
    with_more (proc_rules facts proc served)
    (block_read proc.block
    (beginning procs (Serves (spot_or (spot_of proc.name.span) served)) (service_bound proc.formals proc.returned (type_of served) facts)))

abbrev pub proc_read : Procs → Proc → Facts → Step
proc_read procs proc facts = proc_serving procs proc (operation_named facts proc.name) facts

abbrev pub returned_declared : Option NamedParam → Facts → Facts
returned_declared None facts = facts
returned_declared (Some returned) facts = declare facts returned.spot (variable returned.ty)

abbrev pub signed_declared : Signed → Facts → Facts
signed_declared signed facts = returned_declared signed.returned (params_declared signed.params facts)

-- a procedure is an operation with its proc
abbrev pub procedure_read : Procs → Procedure → Facts → Step
procedure_read procs procedure facts =
    with_more (signature_read procedure.signature facts).found
    (block_read procedure.block
    (beginning procs (Serves (spot_of procedure.name.span)) (signed_declared (signature_read procedure.signature facts).signed facts)))

-- in the body of a process the names of its quantifiers are formals
abbrev pub quantifiers_formal : List Quantifier → Facts → Facts
quantifiers_formal [] facts = facts
quantifiers_formal (quantifier ∷ more) facts = quantifiers_formal more (declare_name facts quantifier.name (variable ty.Int))

abbrev pub process_read : Procs → Process → Facts → Step
process_read procs process facts =
    with_more (quantifiers_found facts process.quantifiers)
    (block_read process.block
    (beginning procs (Serves (spot_of process.name.span)) (quantifiers_formal process.quantifiers (quantifiers_known facts process.quantifiers))))

abbrev pub final_read : Procs → FinalCode → Facts → Step
final_read procs final facts = block_read final.block (beginning procs Ends facts)

-- ---- components

abbrev pub facts_found : Facts → List Finding → Step
facts_found facts found = record { found = found; facts = facts }

-- the initial code of a component is its declarations and statements in order
abbrev pub item_read : Procs → Item → Facts → Step
item_read procs (item.Spec declared) facts = facts_found facts (spec_item_found false facts declared)
item_read procs (item.Proc proc) facts = proc_read procs proc facts
item_read procs (item.Procedure procedure) facts = procedure_read procs procedure facts
item_read procs (item.Process process) facts = process_read procs process facts
item_read procs (item.Final final) facts = final_read procs final facts
item_read procs (item.Statement statement) facts = statement_read statement (beginning procs SetsUp facts)

abbrev pub items_read : Procs → List Item → Facts → Step
items_read procs [] facts = facts_found facts []
items_read procs (item ∷ items) facts = with_more (item_read procs item facts).found (items_read procs items (item_read procs item facts).facts)

-- the procs of a component, by the operations that they serve
abbrev pub proc_entered : Option Operation → Span → Procs → Procs
proc_entered None span procs = procs
proc_entered (Some operation) span procs = with_proc procs operation.spot span

abbrev pub item_procs : Facts → Item → Procs → Procs
item_procs facts (item.Proc proc) procs = proc_entered (operation_named facts proc.name) proc.span procs
item_procs facts (item.Procedure procedure) procs = with_proc procs (spot_of procedure.name.span) procedure.span
item_procs facts (item.Process process) procs = with_proc procs (spot_of process.name.span) process.span
item_procs facts _ procs = procs

abbrev pub items_procs : Facts → List Item → Procs → Procs
items_procs facts [] procs = procs
items_procs facts (first ∷ more) procs = items_procs facts more (item_procs facts first procs)

-- what is found in the spec and the formals of a component
abbrev pub head_found : Component → Facts → List Finding
head_found component facts =
    spec_items_found facts (spec_of component) ++ formals_found (formals_at (map formal_read (formals_of component)) facts false)

abbrev pub component_within : Component → Facts → Step
component_within component facts =
    with_more (head_found component facts) (items_read (items_procs facts (body_of component) []) (body_of component) facts)

abbrev pub component_read : Component → Facts → Step
component_read component facts = component_within component (standing facts (component_decl component))

abbrev pub components_read : List Component → Facts → Step
components_read [] facts = facts_found facts []
components_read (component ∷ more) facts = with_more (component_read component facts).found (components_read more (component_read component facts).facts)

abbrev pub files_read : List File → Facts → Step
files_read [] facts = facts_found facts []
files_read (file ∷ files) facts = with_more (components_read file.components facts).found (files_read files (components_read file.components facts).facts)
