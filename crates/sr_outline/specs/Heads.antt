-- What signatures say of operations, and the operations of a program.
use Rattle.std.specs.Prelude.{ℕ, Bool, true, false, ◌||◌, List, [], ◌∷◌, ◌++◌, Option, Some, None, unwrap_or, map, flat_map, position}
use Rattle.std.specs.List.{list_any}
use Rattle.std.specs.Option.{option_map}
use Rattle.sr_check_expr.specs.declared.facts.Facts.{Facts}
use Rattle.sr_core.specs.declared.component.Operation.{Operation}
use Rattle.sr_core.specs.declared.component.Parameter.{Parameter}
use Rattle.sr_core.specs.declared.formal.FormalShape.TheVariants.{Fixed}
use Rattle.sr_core.specs.declared.formal.Mode.{Mode}
use Rattle.sr_core.specs.declared.formal.Mode.TheVariants.{Val, Var, Res}
use Rattle.sr_core.specs.declared.statement.Scope.{Scope}
use Rattle.sr_core.specs.declared.statement.Scope.TheVariants.{Own, Shared}
use Rattle.sr_names.specs.declared.spot.Spot.{Spot}
use Rattle.sr_names.specs.Spots.{same_spot}
use Rattle.sr_tree.specs.declared.component.Component.{Component}
use Rattle.sr_tree.specs.declared.component.Item.{Item}
use Rattle.sr_tree.specs.declared.component.Item.TheVariants as item
use Rattle.sr_tree.specs.declared.component.Procedure.{Procedure}
use Rattle.sr_tree.specs.declared.component.Process.{Process}
use Rattle.sr_tree.specs.declared.component.ProcItem.{ProcItem}
use Rattle.sr_tree.specs.declared.component.ProcItem.TheVariants as inner
use Rattle.sr_tree.specs.declared.component.SpecItem.{SpecItem}
use Rattle.sr_tree.specs.declared.component.SpecItem.TheVariants as spec
use Rattle.sr_tree.specs.declared.declaration.OpItem.{OpItem}
use Rattle.sr_tree.specs.declared.declaration.OpItem.TheVariants.{Signed, Typed}
use Rattle.sr_tree.specs.declared.declaration.OpTypeDecl.{OpTypeDecl}
use Rattle.sr_tree.specs.declared.declaration.Semaphore.{Semaphore}
use Rattle.sr_tree.specs.declared.name.Name.{Name}
use Rattle.sr_tree.specs.declared.name.QualifiedName.{QualifiedName}
use Rattle.sr_tree.specs.declared.statement.Quantifier.{Quantifier}
use Rattle.sr_tree.specs.declared.types.Formal.{Formal, out-Formal}
use Rattle.sr_tree.specs.declared.types.InvocationKind.{InvocationKind}
use Rattle.sr_tree.specs.declared.types.InvocationKind.TheVariants as kind
use Rattle.sr_tree.specs.declared.types.PassMode.{PassMode}
use Rattle.sr_tree.specs.declared.types.PassMode.TheVariants as pass
use Rattle.sr_tree.specs.declared.types.Returned.{Returned, out-Returned}
use Rattle.sr_tree.specs.declared.types.Signature.{Signature, out-Signature}
use Rattle.sr_value.specs.declared.shape.Shape.{Shape}
use Rattle.sr_value.specs.declared.shape.Shape.TheVariants as shape
use Rattle.sr_outline.specs.declared.operations.OperationTable.{OperationTable}
use Rattle.sr_tables.specs.declared.tables.Head.{Head}
use Rattle.sr_check_expr.specs.Meanings.{meant_by}
use Rattle.sr_tables.specs.Parts.{deciding, spot_named, in_component, op_item_name}
use Rattle.sr_tree.specs.Parts.{spec_of, body_of}
use Rattle.sr_outline.specs.Shapes.{type_shape, formal_shape, decl_shape}
use Rattle.sr_tables.specs.Shapes.{Shapes}
use Rattle.sr_tables.specs.Tables.{found_at, with_entries}

-- ---- signatures

-- an argument is passed by value where no word is written
abbrev pub mode_of : Option PassMode → Mode
mode_of None = Val
mode_of (Some pass.Val) = Val
mode_of (Some pass.Var) = Var
mode_of (Some pass.Res) = Res

-- formals of one type
abbrev pub parameters_in : Facts → Shapes → Formal → List Parameter
parameters_in facts shapes formal =
    map (λ decl. record { mode = mode_of (out-Formal formal).mode; shape = formal_shape facts shapes decl.dims (out-Formal formal).ty }) (out-Formal formal).decls

abbrev pub parameters_of : Facts → Shapes → List Formal → List Parameter
parameters_of facts shapes formals = flat_map (parameters_in facts shapes) formals

abbrev pub returned_shape : Facts → Shapes → Returned → Shape
returned_shape facts shapes returned = decl_shape facts (out-Returned returned).decl.dims (type_shape facts shapes (out-Returned returned).ty)

abbrev pub is_none : List InvocationKind → Bool
is_none [] = true
is_none (kind ∷ kinds) = false

abbrev pub same_kind : InvocationKind → InvocationKind → Bool
same_kind kind.Call kind.Call = true
same_kind kind.Send kind.Send = true
same_kind _ _ = false

-- where no braces are written both forms are allowed
abbrev pub allows : List InvocationKind → InvocationKind → Bool
allows kinds form = is_none kinds || list_any (λ kind. same_kind kind form) kinds

abbrev pub head_of : Facts → Shapes → Signature → Head
head_of facts shapes signature = record {
  parameters = parameters_of facts shapes (out-Signature signature).formals;
  returns = option_map (returned_shape facts shapes) (out-Signature signature).returned;
  can_call = allows (out-Signature signature).kinds kind.Call;
  can_send = allows (out-Signature signature).kinds kind.Send;
}

-- an operation that is sent to, without results
abbrev pub sent_head : List Parameter → Head
sent_head parameters = record { parameters = parameters; returns = None; can_call = false; can_send = true }

-- ---- signatures that have names

abbrev pub Heads : Type 0
Heads = List (Spot × Head)

abbrev pub spec_item_optypes : SpecItem → List OpTypeDecl
spec_item_optypes (spec.OpType named) = named ∷ []
spec_item_optypes _ = []

abbrev pub head_entry : Facts → Shapes → OpTypeDecl → Spot × Head
head_entry facts shapes named = (spot_named named.name, head_of facts shapes named.signature)

abbrev pub with_heads : Facts → Shapes → Heads → List OpTypeDecl → Heads
with_heads facts shapes heads declared = with_entries heads (map (head_entry facts shapes) declared)

abbrev pub heads_of : Facts → Shapes → List Component → Heads
heads_of facts shapes components = with_heads facts shapes [] (flat_map (in_component spec_item_optypes) components)

-- the head of a declared type of operations; one that has none, as in a program that is refused, takes nothing
abbrev pub head_at : Heads → Spot → Head
head_at heads spot = unwrap_or (found_at heads spot) (sent_head [])

-- what the signature says that a name means
abbrev pub named_head : Facts → Heads → QualifiedName → Head
named_head facts heads name = head_at heads (meant_by facts (deciding name))

-- an operation by its signature, or by the name of one
abbrev pub op_head : Facts → Shapes → Heads → OpItem → Head
op_head facts shapes heads (Signed span name signature) = head_of facts shapes signature
op_head facts shapes heads (Typed span name optype) = named_head facts heads optype

-- ---- the operations of a program, in the order of the text

-- an operation that is declared
pub record DeclaredOperation : Type 0 where
  pub name : Name
  pub scope : Scope
  pub head : Head

abbrev pub ops_opened : Facts → Shapes → Heads → Scope → List OpItem → List DeclaredOperation
ops_opened facts shapes heads scope ops = map (λ op. record { name = op_item_name op; scope = scope; head = op_head facts shapes heads op }) ops

-- `sem s` is `op s() {send}`
abbrev pub sems_opened : Scope → List Semaphore → List DeclaredOperation
sems_opened scope semaphores = map (λ semaphore. record { name = semaphore.name; scope = scope; head = sent_head [] }) semaphores

abbrev pub spec_item_opened : Facts → Shapes → Heads → SpecItem → List DeclaredOperation
spec_item_opened facts shapes heads (spec.Op operations) = ops_opened facts shapes heads Shared operations.items
spec_item_opened facts shapes heads (spec.Sem semaphores) = sems_opened Shared semaphores.semaphores
spec_item_opened facts shapes heads _ = []

-- an operation that a proc declares is the process's own
abbrev pub inner_opened : Facts → Shapes → Heads → ProcItem → List DeclaredOperation
inner_opened facts shapes heads (inner.Op operations) = ops_opened facts shapes heads Own operations.items
inner_opened facts shapes heads (inner.Sem semaphores) = sems_opened Own semaphores.semaphores
inner_opened facts shapes heads _ = []

abbrev pub block_opened : Facts → Shapes → Heads → List ProcItem → List DeclaredOperation
block_opened facts shapes heads block = flat_map (inner_opened facts shapes heads) block

-- `procedure f` is `op f` with its proc
abbrev pub procedure_opened : Facts → Shapes → Procedure → DeclaredOperation
procedure_opened facts shapes procedure = record { name = procedure.name; scope = Shared; head = head_of facts shapes procedure.signature }

-- a quantifier gives an int
abbrev pub int_parameter : Quantifier → Parameter
int_parameter quantifier = record { mode = Val; shape = Fixed shape.Int }

-- `process p` is `op p() {send}` with its proc, and an int for each quantifier
abbrev pub process_opened : Process → DeclaredOperation
process_opened process = record { name = process.name; scope = Shared; head = sent_head (map int_parameter process.quantifiers) }

abbrev pub item_opened : Facts → Shapes → Heads → Item → List DeclaredOperation
item_opened facts shapes heads (item.Spec inner) = spec_item_opened facts shapes heads inner
item_opened facts shapes heads (item.Proc proc) = block_opened facts shapes heads proc.block
item_opened facts shapes heads (item.Procedure procedure) = procedure_opened facts shapes procedure ∷ block_opened facts shapes heads procedure.block
item_opened facts shapes heads (item.Process process) = process_opened process ∷ block_opened facts shapes heads process.block
item_opened facts shapes heads (item.Final final) = block_opened facts shapes heads final.block
item_opened facts shapes heads (item.Statement statement) = []

abbrev pub component_opened : Facts → Shapes → Heads → Component → List DeclaredOperation
component_opened facts shapes heads component =
    flat_map (spec_item_opened facts shapes heads) (spec_of component) ++ flat_map (item_opened facts shapes heads) (body_of component)

-- an operation of a component, with the proc that serves it
abbrev pub operation_of : List Spot → ℕ → DeclaredOperation → Operation
operation_of procs component opened = record {
  name = opened.name.text;
  component = component;
  scope = opened.scope;
  parameters = opened.head.parameters;
  returns = opened.head.returns;
  can_call = opened.head.can_call;
  can_send = opened.head.can_send;
  proc = position (same_spot (spot_named opened.name)) procs;
}

abbrev pub operation_entry : List Spot → ℕ → DeclaredOperation → Spot × Operation
operation_entry procs component opened = (spot_named opened.name, operation_of procs component opened)

-- the operations of a component after those before it
abbrev pub with_opened : OperationTable → List DeclaredOperation → OperationTable
with_opened opening opened =
    record opening { operations = with_entries opening.operations (map (operation_entry opening.procs opening.component) opened) }
