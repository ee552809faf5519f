-- What is found in the items of components, and what they declare.
use Rattle.std.specs.Prelude.{List, [], ◌∷◌, ◌++◌, Option, Some, None, Bool, true, false, if◌then◌else◌, map}
use Rattle.sr_names.specs.declared.finding.Finding.{Finding}
use Rattle.sr_names.specs.declared.meaning.Meaning.{Meaning}
use Rattle.sr_names.specs.declared.meaning.Meaning.TheVariants.{Predefined, Declared}
use Rattle.sr_names.specs.declared.meaning.Sort.{Sort}
use Rattle.sr_names.specs.declared.meaning.Sort.TheVariants.{Constant, Literal, «Type» as type_sort, OpType as optype_sort, Variable, Operation}
use Rattle.sr_names.specs.declared.place.Blocks.{Blocks}
use Rattle.sr_names.specs.declared.place.Place.{Place}
use Rattle.sr_names.specs.declared.spot.Spot.{Spot}
use Rattle.sr_names.specs.Entries.{Entries}
use Rattle.sr_names.specs.Scopes.{denotes}
use Rattle.sr_names.specs.Spots.{spot_of}
use Rattle.sr_tree.specs.declared.component.Item.{Item}
use Rattle.sr_tree.specs.declared.component.Item.TheVariants.{Spec, Proc, Procedure, Process, Final, Statement}
use Rattle.sr_tree.specs.declared.component.SpecItem.{SpecItem}
use Rattle.sr_tree.specs.declared.component.SpecItem.TheVariants.{Import, Const, «Type», OpType, Op, Var, Sem}
use Rattle.sr_tree.specs.declared.name.Name.{Name}
use Rattle.sr_scope.specs.Declarations.{const_found, var_found, var_names, semaphores_found, op_items_found}
use Rattle.sr_scope.specs.Declares.{name_declared, name_twice, names_declared, names_twice, op_name}
use Rattle.sr_scope.specs.Exprs.{Finds}
use Rattle.sr_scope.specs.Literals.{literals_of}
use Rattle.sr_scope.specs.Procs.{semaphore_names, proc_found, procedure_found, process_found, final_found}
use Rattle.sr_scope.specs.Statements.{statement_found}
use Rattle.sr_scope.specs.Types.{type_found, signature_read, signed_found}

-- the literals of the enumerations in a type are constants of the scope of the type
abbrev pub spec_declared : SpecItem → Entries → Entries
spec_declared (Import imports) table = table
spec_declared (Const constant) table = name_declared Constant constant.name table
spec_declared («Type» named) table = names_declared Literal (literals_of named.ty) (name_declared type_sort named.name table)
spec_declared (OpType named) table = name_declared optype_sort named.name table
spec_declared (Op operations) table = names_declared Operation (map op_name operations.items) table
spec_declared (Var variables) table = names_declared Variable (var_names variables) table
spec_declared (Sem declared) table = names_declared Operation (semaphore_names declared.semaphores) table

abbrev pub spec_twice : SpecItem → Entries → List Finding
spec_twice (Import imports) table = []
spec_twice (Const constant) table = name_twice Constant constant.name table
spec_twice («Type» named) table = name_twice type_sort named.name table ++ names_twice Literal (literals_of named.ty) (name_declared type_sort named.name table)
spec_twice (OpType named) table = name_twice optype_sort named.name table
spec_twice (Op operations) table = names_twice Operation (map op_name operations.items) table
spec_twice (Var variables) table = names_twice Variable (var_names variables) table
spec_twice (Sem declared) table = names_twice Operation (semaphore_names declared.semaphores) table

abbrev pub specs_declared : List SpecItem → Entries → Entries
specs_declared [] table = table
specs_declared (item ∷ items) table = specs_declared items (spec_declared item table)

abbrev pub specs_twice : List SpecItem → Entries → List Finding
specs_twice [] table = []
specs_twice (item ∷ items) table = spec_twice item table ++ specs_twice items (spec_declared item table)

-- a procedure and a process declare the operation that they serve
abbrev pub item_declared : Item → Entries → Entries
item_declared (Spec item) table = spec_declared item table
item_declared (Procedure procedure) table = name_declared Operation procedure.name table
item_declared (Process process) table = name_declared Operation process.name table
item_declared (Proc proc) table = table
item_declared (Final final) table = table
item_declared (Statement statement) table = table

abbrev pub item_twice : Item → Entries → List Finding
item_twice (Spec item) table = spec_twice item table
item_twice (Procedure procedure) table = name_twice Operation procedure.name table
item_twice (Process process) table = name_twice Operation process.name table
item_twice (Proc proc) table = []
item_twice (Final final) table = []
item_twice (Statement statement) table = []

abbrev pub items_declared : List Item → Entries → Entries
items_declared [] table = table
items_declared (item ∷ items) table = items_declared items (item_declared item table)

abbrev pub items_twice : List Item → Entries → List Finding
items_twice [] table = []
items_twice (item ∷ items) table = item_twice item table ++ items_twice items (item_declared item table)

-- the constant or type that an item declares: it isn't usable in its own declaration
abbrev pub spec_within : SpecItem → Option Spot
spec_within (Const constant) = Some (spot_of constant.name.span)
spec_within («Type» named) = Some (spot_of named.name.span)
spec_within (OpType named) = Some (spot_of named.name.span)
spec_within (Import imports) = None
spec_within (Op operations) = None
spec_within (Var variables) = None
spec_within (Sem declared) = None

abbrev pub item_within : Item → Option Spot
item_within (Spec item) = spec_within item
item_within (Proc proc) = None
item_within (Procedure procedure) = None
item_within (Process process) = None
item_within (Final final) = None
item_within (Statement statement) = None

abbrev pub inside : Place → Option Spot → Place
inside place within = record place { within = within }

abbrev pub spec_found : SpecItem → Finds
spec_found (Import imports) place blocks = []
spec_found (Const constant) place blocks = const_found constant place blocks
spec_found («Type» named) place blocks = type_found named.ty place blocks
spec_found (OpType named) place blocks = signed_found (signature_read named.signature) place blocks
spec_found (Op operations) place blocks = op_items_found operations.items place blocks
spec_found (Var variables) place blocks = var_found variables place blocks
spec_found (Sem declared) place blocks = semaphores_found declared.semaphores place blocks

abbrev pub specs_found : List SpecItem → Finds
specs_found [] place blocks = []
specs_found (item ∷ items) place blocks = spec_found item (inside place (spec_within item)) blocks ++ specs_found items place blocks

abbrev pub item_found : Item → Finds
item_found (Spec item) place blocks = spec_found item place blocks
item_found (Proc proc) place blocks = proc_found proc place blocks
item_found (Procedure procedure) place blocks = procedure_found procedure place blocks
item_found (Process process) place blocks = process_found process place blocks
item_found (Final final) place blocks = final_found final place blocks
item_found (Statement statement) place blocks = statement_found statement place blocks

abbrev pub items_found : List Item → Finds
items_found [] place blocks = []
items_found (item ∷ items) place blocks = item_found item (inside place (item_within item)) blocks ++ items_found items place blocks

-- the operation that an item serves
abbrev pub served_name : Item → Option Name
served_name (Proc proc) = Some proc.name
served_name (Procedure procedure) = Some procedure.name
served_name (Process process) = Some process.name
served_name (Spec item) = None
served_name (Final final) = None
served_name (Statement statement) = None

abbrev pub is_operation : Option Meaning → Bool
is_operation (Some (Declared decl)) = sort_is_operation decl.sort
  where
    sort_is_operation : Sort → Bool
    sort_is_operation Operation = true
    sort_is_operation _ = false
is_operation (Some (Predefined name)) = false
is_operation None = false

abbrev pub serves : Place → Blocks → Name → Bool
serves place blocks name = is_operation (denotes place blocks name.text (spot_of name.span))

abbrev pub name_served : Place → Blocks → Option Name → Entries → Entries
name_served place blocks None served = served
name_served place blocks (Some name) served = if serves place blocks name then name_declared Operation name served else served

-- two procs of a component for one operation: the later one is refused
abbrev pub name_served_twice : Place → Blocks → Option Name → Entries → List Finding
name_served_twice place blocks None served = []
name_served_twice place blocks (Some name) served = if serves place blocks name then name_twice Operation name served else []

abbrev pub served_twice : List Item → Place → Blocks → Entries → List Finding
served_twice [] place blocks served = []
served_twice (item ∷ items) place blocks served =
    name_served_twice place blocks (served_name item) served ++ served_twice items place blocks (name_served place blocks (served_name item) served)
