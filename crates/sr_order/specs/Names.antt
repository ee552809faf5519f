-- Where the names in a tree stand, declared or used, in the order of the text. The list of a construct is the list of
-- its first part, then the list of its second, and so on: `A ++ (B ++ (C ++ D))`. A name after `end` or `body` is not
-- kept in the tree.
use Rattle.std.specs.Prelude.{List, [], ◌∷◌, ◌++◌, Option, Some, None, map, flat_map}
use Rattle.sr_value.specs.declared.place.Span.{Span}
use Rattle.sr_tree.specs.declared.component.Component.{Component}
use Rattle.sr_tree.specs.declared.component.File.{File}
use Rattle.sr_tree.specs.declared.component.FinalCode.{FinalCode}
use Rattle.sr_tree.specs.declared.component.Item.{Item}
use Rattle.sr_tree.specs.declared.component.Item.TheVariants as item
use Rattle.sr_tree.specs.declared.component.Proc.{Proc}
use Rattle.sr_tree.specs.declared.component.ProcItem.{ProcItem}
use Rattle.sr_tree.specs.declared.component.ProcItem.TheVariants as inner
use Rattle.sr_tree.specs.declared.component.Procedure.{Procedure}
use Rattle.sr_tree.specs.declared.component.Process.{Process}
use Rattle.sr_tree.specs.declared.component.SpecItem.{SpecItem}
use Rattle.sr_tree.specs.declared.component.SpecItem.TheVariants as spec
use Rattle.sr_tree.specs.declared.declaration.ConstDecl.{ConstDecl}
use Rattle.sr_tree.specs.declared.declaration.Import.{Import}
use Rattle.sr_tree.specs.declared.declaration.OpDecl.{OpDecl}
use Rattle.sr_tree.specs.declared.declaration.OpItem.{OpItem}
use Rattle.sr_tree.specs.declared.declaration.OpItem.TheVariants.{Signed, Typed}
use Rattle.sr_tree.specs.declared.declaration.OpTypeDecl.{OpTypeDecl}
use Rattle.sr_tree.specs.declared.declaration.SemDecl.{SemDecl}
use Rattle.sr_tree.specs.declared.declaration.Semaphore.{Semaphore}
use Rattle.sr_tree.specs.declared.declaration.TypeDecl.{TypeDecl}
use Rattle.sr_tree.specs.declared.declaration.VarDecl.{VarDecl}
use Rattle.sr_tree.specs.declared.expr.Create.{Create, fold-Create}
use Rattle.sr_tree.specs.declared.expr.Create.TheOpen.{Create-F, Expr-F, Invocation-F, Part-F}
use Rattle.sr_tree.specs.declared.expr.Expr.{Expr, fold-Expr}
use Rattle.sr_tree.specs.declared.expr.Invocation.{Invocation, fold-Invocation}
use Rattle.sr_tree.specs.declared.expr.Part.{Part, fold-Part}
use Rattle.sr_tree.specs.declared.name.Name.{Name}
use Rattle.sr_tree.specs.declared.name.QualifiedName.{QualifiedName}
use Rattle.sr_tree.specs.declared.statement.Arm.{Arm, fold-Arm}
use Rattle.sr_tree.specs.declared.statement.ArmCondition.{ArmCondition}
use Rattle.sr_tree.specs.declared.statement.BlockItem.{BlockItem, fold-BlockItem}
use Rattle.sr_tree.specs.declared.statement.BlockItem.TheOpen.{BlockItem-F, Statement-F, Arm-F, Branch-F, CoArm-F}
use Rattle.sr_tree.specs.declared.statement.Branch.{Branch, fold-Branch}
use Rattle.sr_tree.specs.declared.statement.CoArm.{CoArm, fold-CoArm}
use Rattle.sr_tree.specs.declared.statement.Quantifier.{Quantifier}
use Rattle.sr_tree.specs.declared.statement.Statement.{Statement, fold-Statement}
use Rattle.sr_tree.specs.declared.types.Decl.{Decl}
use Rattle.sr_tree.specs.declared.types.DimsTree.{DimsTree}
use Rattle.sr_tree.specs.declared.types.Formal.{Formal, fold-Formal}
use Rattle.sr_tree.specs.declared.types.RangeTree.{RangeTree}
use Rattle.sr_tree.specs.declared.types.RangeTree.TheVariants as range
use Rattle.sr_tree.specs.declared.types.Returned.{Returned, fold-Returned}
use Rattle.sr_tree.specs.declared.types.Signature.{Signature, fold-Signature}
use Rattle.sr_tree.specs.declared.types.TypeTree.{TypeTree, fold-TypeTree}
use Rattle.sr_tree.specs.declared.types.TypeTree.TheOpen.{TypeTree-F, Formal-F, Returned-F, Signature-F}
use Rattle.sr_tree.specs.Parts.{name_of, spec_of, formals_of, body_of}
use Rattle.sr_order.specs.Spans.{joined, joined_where}

-- those of a part that may be left out
abbrev pub where_some : {A : Type 0} → (A → List Span) → Option A → List Span
where_some names None = []
where_some names (Some part) = names part

-- where they are told already
abbrev pub told_where : Option (List Span) → List Span
told_where None = []
told_where (Some told) = told

-- ---- names

abbrev pub name_names : Name → List Span
name_names name = name.span ∷ []

abbrev pub names_spans : List Name → List Span
names_spans names = map (λ name. name.span) names

-- one or two
abbrev pub qualified_names : QualifiedName → List Span
qualified_names name = name.first.span ∷ where_some name_names name.second

-- ---- expressions

abbrev pub create_names_step : Create-F (List Span) (List Span) (List Span) (List Span) → List Span
create_names_step (Create-F.Resource span resource arguments machine) = qualified_names resource ++ (joined arguments ++ told_where machine)
create_names_step (Create-F.Machine span) = []

abbrev pub expr_names_step : Expr-F (List Span) (List Span) (List Span) (List Span) → List Span
expr_names_step (Expr-F.Literal span literal) = []
expr_names_step (Expr-F.Name name) = name.span ∷ []
expr_names_step (Expr-F.BasicType span basic) = []
expr_names_step (Expr-F.Conversion span conversion value) = value
expr_names_step (Expr-F.Group span inner) = inner
expr_names_step (Expr-F.Parts span parts) = joined parts
expr_names_step (Expr-F.Field span whole field) = whole ++ field.span ∷ []
expr_names_step (Expr-F.Index span array first second) = array ++ (first ++ told_where second)
expr_names_step (Expr-F.Call invocation) = invocation
expr_names_step (Expr-F.Create create) = create
expr_names_step (Expr-F.Unary span operator operand) = operand
expr_names_step (Expr-F.Pending span operation) = operation.span ∷ []
expr_names_step (Expr-F.Binary span left operator right) = left ++ right

abbrev pub invocation_names_step : Invocation-F (List Span) (List Span) (List Span) (List Span) → List Span
invocation_names_step invocation = invocation.callee ++ joined invocation.arguments

abbrev pub part_names_step : Part-F (List Span) (List Span) (List Span) (List Span) → List Span
part_names_step part = told_where part.count ++ part.value

abbrev pub create_names : Create → List Span
create_names = fold-Create (List Span) (List Span) (List Span) (List Span)
    create_names_step expr_names_step invocation_names_step part_names_step

abbrev pub expr_names : Expr → List Span
expr_names = fold-Expr (List Span) (List Span) (List Span) (List Span)
    create_names_step expr_names_step invocation_names_step part_names_step

abbrev pub invocation_names : Invocation → List Span
invocation_names = fold-Invocation (List Span) (List Span) (List Span) (List Span)
    create_names_step expr_names_step invocation_names_step part_names_step

abbrev pub part_names : Part → List Span
part_names = fold-Part (List Span) (List Span) (List Span) (List Span)
    create_names_step expr_names_step invocation_names_step part_names_step

-- ---- types: their names, and the words of enumerations and records, which stand for a name

abbrev pub range_names : RangeTree → List Span
range_names (range.Length span length) = expr_names length
range_names (range.Bounds span low high) = expr_names low ++ expr_names high
range_names (range.From span low) = expr_names low
range_names (range.Any span) = []

abbrev pub dims_names : DimsTree → List Span
dims_names dims = range_names dims.first ++ where_some range_names dims.second

abbrev pub decl_names : Decl → List Span
decl_names decl = decl.name.span ∷ where_some dims_names decl.dims

abbrev pub type_names_step : TypeTree-F (List Span) (List Span) (List Span) (List Span) → List Span
type_names_step (TypeTree-F.Int span) = []
type_names_step (TypeTree-F.Bool span) = []
type_names_step (TypeTree-F.Char span) = []
type_names_step (TypeTree-F.Str span length) = where_some expr_names length
type_names_step (TypeTree-F.Enum span literals) = span ∷ names_spans literals
type_names_step (TypeTree-F.Rec span fields) = span ∷ joined fields
type_names_step (TypeTree-F.CapOf span name) = qualified_names name
type_names_step (TypeTree-F.CapMachine span) = []
type_names_step (TypeTree-F.CapOperation span signature) = signature
type_names_step (TypeTree-F.Array span dims item) = dims_names dims ++ item
type_names_step (TypeTree-F.Named span name) = qualified_names name

abbrev pub formal_names_step : Formal-F (List Span) (List Span) (List Span) (List Span) → List Span
formal_names_step formal = flat_map decl_names formal.decls ++ formal.ty

abbrev pub returned_names_step : Returned-F (List Span) (List Span) (List Span) (List Span) → List Span
returned_names_step returned = decl_names returned.decl ++ returned.ty

abbrev pub signature_names_step : Signature-F (List Span) (List Span) (List Span) (List Span) → List Span
signature_names_step signature = joined signature.formals ++ told_where signature.returned

abbrev pub type_names : TypeTree → List Span
type_names = fold-TypeTree (List Span) (List Span) (List Span) (List Span)
    type_names_step formal_names_step returned_names_step signature_names_step

abbrev pub formal_names : Formal → List Span
formal_names = fold-Formal (List Span) (List Span) (List Span) (List Span)
    type_names_step formal_names_step returned_names_step signature_names_step

abbrev pub returned_names : Returned → List Span
returned_names = fold-Returned (List Span) (List Span) (List Span) (List Span)
    type_names_step formal_names_step returned_names_step signature_names_step

abbrev pub signature_names : Signature → List Span
signature_names = fold-Signature (List Span) (List Span) (List Span) (List Span)
    type_names_step formal_names_step returned_names_step signature_names_step

-- ---- declarations

abbrev pub import_names : Import → List Span
import_names declared = names_spans declared.names

abbrev pub const_names : ConstDecl → List Span
const_names declared = declared.name.span ∷ (where_some type_names declared.ty ++ expr_names declared.value)

abbrev pub type_decl_names : TypeDecl → List Span
type_decl_names declared = declared.name.span ∷ type_names declared.ty

abbrev pub optype_names : OpTypeDecl → List Span
optype_names declared = declared.name.span ∷ signature_names declared.signature

abbrev pub op_item_names : OpItem → List Span
op_item_names (Signed span name signature) = name.span ∷ signature_names signature
op_item_names (Typed span name optype) = name.span ∷ qualified_names optype

abbrev pub op_names : OpDecl → List Span
op_names declared = flat_map op_item_names declared.items

abbrev pub var_names : VarDecl → List Span
var_names declared = flat_map decl_names declared.decls ++ (where_some type_names declared.ty ++ flat_map expr_names declared.values)

abbrev pub semaphore_names : Semaphore → List Span
semaphore_names semaphore = semaphore.name.span ∷ where_some expr_names semaphore.value

abbrev pub sem_names : SemDecl → List Span
sem_names declared = flat_map semaphore_names declared.semaphores

-- ---- statements

abbrev pub quantifier_names : Quantifier → List Span
quantifier_names quantifier = quantifier.name.span
    ∷ (expr_names quantifier.first ++ (expr_names quantifier.last
    ++ (where_some expr_names quantifier.step ++ where_some expr_names quantifier.such_that)))

abbrev pub condition_names : ArmCondition → List Span
condition_names condition = expr_names condition.condition

abbrev pub statement_names_step : Statement-F (List Span) (List Span) (List Span) (List Span) (List Span) → List Span
statement_names_step (Statement-F.Skip span) = []
statement_names_step (Statement-F.Exit span) = []
statement_names_step (Statement-F.Next span) = []
statement_names_step (Statement-F.Return span) = []
statement_names_step (Statement-F.Reply span) = []
statement_names_step (Statement-F.Stop span status) = where_some expr_names status
statement_names_step (Statement-F.Call span with_call invocation) = invocation_names invocation
statement_names_step (Statement-F.Send span invocation) = invocation_names invocation
statement_names_step (Statement-F.Forward span invocation) = invocation_names invocation
statement_names_step (Statement-F.Receive span operation places) = operation.span ∷ flat_map expr_names places
statement_names_step (Statement-F.Assign span place value) = expr_names place ++ expr_names value
statement_names_step (Statement-F.Exchange span left right) = expr_names left ++ expr_names right
statement_names_step (Statement-F.Increment span place) = expr_names place
statement_names_step (Statement-F.Decrement span place) = expr_names place
statement_names_step (Statement-F.If span branches otherwise) = joined branches ++ joined_where otherwise
statement_names_step (Statement-F.Do span branches otherwise) = joined branches ++ joined_where otherwise
statement_names_step (Statement-F.ForAll span quantifiers block) = flat_map quantifier_names quantifiers ++ joined block
statement_names_step (Statement-F.In span arms otherwise) = joined arms ++ joined_where otherwise
statement_names_step (Statement-F.Co span arms) = joined arms
statement_names_step (Statement-F.Destroy span target) = expr_names target
statement_names_step (Statement-F.Create span create) = create_names create

abbrev pub block_item_names_step : BlockItem-F (List Span) (List Span) (List Span) (List Span) (List Span) → List Span
block_item_names_step (BlockItem-F.Const constant) = const_names constant
block_item_names_step (BlockItem-F.Var variables) = var_names variables
block_item_names_step (BlockItem-F.Statement statement) = statement

abbrev pub arm_names_step : Arm-F (List Span) (List Span) (List Span) (List Span) (List Span) → List Span
arm_names_step arm = arm.operation.span
    ∷ (names_spans arm.formals ++ (where_some name_names arm.returned
    ++ (where_some condition_names arm.condition ++ (where_some expr_names arm.order ++ joined arm.block))))

abbrev pub branch_names_step : Branch-F (List Span) (List Span) (List Span) (List Span) (List Span) → List Span
branch_names_step branch = expr_names branch.guard ++ joined branch.block

abbrev pub co_arm_names_step : CoArm-F (List Span) (List Span) (List Span) (List Span) (List Span) → List Span
co_arm_names_step arm = flat_map quantifier_names arm.quantifiers
    ++ (where_some expr_names arm.target ++ (invocation_names arm.invocation ++ joined_where arm.block))

abbrev pub statement_names : Statement → List Span
statement_names = fold-Statement (List Span) (List Span) (List Span) (List Span) (List Span)
    block_item_names_step statement_names_step arm_names_step branch_names_step co_arm_names_step

abbrev pub block_item_names : BlockItem → List Span
block_item_names = fold-BlockItem (List Span) (List Span) (List Span) (List Span) (List Span)
    block_item_names_step statement_names_step arm_names_step branch_names_step co_arm_names_step

abbrev pub arm_names : Arm → List Span
arm_names = fold-Arm (List Span) (List Span) (List Span) (List Span) (List Span)
    block_item_names_step statement_names_step arm_names_step branch_names_step co_arm_names_step

abbrev pub branch_names : Branch → List Span
branch_names = fold-Branch (List Span) (List Span) (List Span) (List Span) (List Span)
    block_item_names_step statement_names_step arm_names_step branch_names_step co_arm_names_step

abbrev pub co_arm_names : CoArm → List Span
co_arm_names = fold-CoArm (List Span) (List Span) (List Span) (List Span) (List Span)
    block_item_names_step statement_names_step arm_names_step branch_names_step co_arm_names_step

-- ---- components

abbrev pub spec_item_names : SpecItem → List Span
spec_item_names (spec.Import declared) = import_names declared
spec_item_names (spec.Const declared) = const_names declared
spec_item_names (spec.Type declared) = type_decl_names declared
spec_item_names (spec.OpType declared) = optype_names declared
spec_item_names (spec.Op declared) = op_names declared
spec_item_names (spec.Var declared) = var_names declared
spec_item_names (spec.Sem declared) = sem_names declared

-- in the block of a proc
abbrev pub proc_item_names : ProcItem → List Span
proc_item_names (inner.Const declared) = const_names declared
proc_item_names (inner.Var declared) = var_names declared
proc_item_names (inner.Op declared) = op_names declared
proc_item_names (inner.Sem declared) = sem_names declared
proc_item_names (inner.Statement statement) = statement_names statement

abbrev pub block_names : List ProcItem → List Span
block_names block = flat_map proc_item_names block

abbrev pub proc_names : Proc → List Span
proc_names proc = proc.name.span ∷ (names_spans proc.formals ++ (where_some name_names proc.returned ++ block_names proc.block))

abbrev pub procedure_names : Procedure → List Span
procedure_names procedure = procedure.name.span ∷ (signature_names procedure.signature ++ block_names procedure.block)

abbrev pub process_names : Process → List Span
process_names process = process.name.span ∷ (flat_map quantifier_names process.quantifiers ++ block_names process.block)

abbrev pub final_names : FinalCode → List Span
final_names final = block_names final.block

abbrev pub item_names : Item → List Span
item_names (item.Spec declared) = spec_item_names declared
item_names (item.Proc proc) = proc_names proc
item_names (item.Procedure procedure) = procedure_names procedure
item_names (item.Process process) = process_names process
item_names (item.Final final) = final_names final
item_names (item.Statement statement) = statement_names statement

-- the name, the spec, the formals and the body, whichever way the component is written
abbrev pub component_names : Component → List Span
component_names component = (name_of component).span
    ∷ (flat_map spec_item_names (spec_of component)
    ++ (flat_map formal_names (formals_of component) ++ flat_map item_names (body_of component)))

abbrev pub file_names : File → List Span
file_names file = flat_map component_names file.components
