-- Where the statements, operations and components of a file stand, in the order of the text.
use Rattle.std.specs.Prelude.{List, [], ◌∷◌, ◌++◌, Option, Some, None, map, flat_map}
use Rattle.sr_value.specs.declared.place.Span.{Span}
use Rattle.sr_tree.specs.declared.component.Component.{Component}
use Rattle.sr_tree.specs.declared.component.File.{File}
use Rattle.sr_tree.specs.declared.component.Item.{Item}
use Rattle.sr_tree.specs.declared.component.Item.TheVariants as item
use Rattle.sr_tree.specs.declared.component.ProcItem.{ProcItem}
use Rattle.sr_tree.specs.declared.component.ProcItem.TheVariants as inner
use Rattle.sr_tree.specs.declared.component.SpecItem.{SpecItem}
use Rattle.sr_tree.specs.declared.component.SpecItem.TheVariants as spec
use Rattle.sr_tree.specs.declared.declaration.OpDecl.{OpDecl}
use Rattle.sr_tree.specs.declared.declaration.OpItem.{OpItem}
use Rattle.sr_tree.specs.declared.declaration.OpItem.TheVariants.{Signed, Typed}
use Rattle.sr_tree.specs.declared.declaration.SemDecl.{SemDecl}
use Rattle.sr_tree.specs.declared.statement.Arm.{Arm, fold-Arm}
use Rattle.sr_tree.specs.declared.statement.BlockItem.{BlockItem, fold-BlockItem}
use Rattle.sr_tree.specs.declared.statement.BlockItem.TheOpen.{BlockItem-F, Statement-F, Arm-F, Branch-F, CoArm-F}
use Rattle.sr_tree.specs.declared.statement.Branch.{Branch, fold-Branch}
use Rattle.sr_tree.specs.declared.statement.CoArm.{CoArm, fold-CoArm}
use Rattle.sr_tree.specs.declared.statement.Statement.{Statement, fold-Statement}
use Rattle.sr_tree.specs.Parts.{name_of, spec_of, body_of}

-- ---- statements: each by its first token

abbrev pub joined : List (List Span) → List Span
joined all = flat_map (λ some. some) all

-- those of a block that may be left out
abbrev pub joined_where : Option (List (List Span)) → List Span
joined_where None = []
joined_where (Some all) = joined all

-- a statement, and then those inside of it
abbrev pub statement_step : Statement-F (List Span) (List Span) (List Span) (List Span) (List Span) → List Span
statement_step (Statement-F.Skip span) = span ∷ []
statement_step (Statement-F.Exit span) = span ∷ []
statement_step (Statement-F.Next span) = span ∷ []
statement_step (Statement-F.Return span) = span ∷ []
statement_step (Statement-F.Reply span) = span ∷ []
statement_step (Statement-F.Stop span status) = span ∷ []
statement_step (Statement-F.Call span with_call invocation) = span ∷ []
statement_step (Statement-F.Send span invocation) = span ∷ []
statement_step (Statement-F.Forward span invocation) = span ∷ []
statement_step (Statement-F.Receive span operation places) = span ∷ []
statement_step (Statement-F.Assign span place value) = span ∷ []
statement_step (Statement-F.Exchange span left right) = span ∷ []
statement_step (Statement-F.Increment span place) = span ∷ []
statement_step (Statement-F.Decrement span place) = span ∷ []
statement_step (Statement-F.If span branches otherwise) = span ∷ joined branches ++ joined_where otherwise
statement_step (Statement-F.Do span branches otherwise) = span ∷ joined branches ++ joined_where otherwise
statement_step (Statement-F.ForAll span quantifiers block) = span ∷ joined block
statement_step (Statement-F.In span arms otherwise) = span ∷ joined arms ++ joined_where otherwise
statement_step (Statement-F.Co span arms) = span ∷ joined arms
statement_step (Statement-F.Destroy span target) = span ∷ []
statement_step (Statement-F.Create span create) = span ∷ []

-- what else stands in a block is no statement
abbrev pub block_item_step : BlockItem-F (List Span) (List Span) (List Span) (List Span) (List Span) → List Span
block_item_step (BlockItem-F.Const constant) = []
block_item_step (BlockItem-F.Var variables) = []
block_item_step (BlockItem-F.Statement statement) = statement

abbrev pub arm_step : Arm-F (List Span) (List Span) (List Span) (List Span) (List Span) → List Span
arm_step arm = joined arm.block

abbrev pub branch_step : Branch-F (List Span) (List Span) (List Span) (List Span) (List Span) → List Span
branch_step branch = joined branch.block

abbrev pub co_arm_step : CoArm-F (List Span) (List Span) (List Span) (List Span) (List Span) → List Span
co_arm_step arm = joined_where arm.block

abbrev pub spans_in : Statement → List Span
spans_in = fold-Statement (List Span) (List Span) (List Span) (List Span) (List Span)
    block_item_step statement_step arm_step branch_step co_arm_step

abbrev pub block_item_spans : BlockItem → List Span
block_item_spans = fold-BlockItem (List Span) (List Span) (List Span) (List Span) (List Span)
    block_item_step statement_step arm_step branch_step co_arm_step

abbrev pub arm_spans : Arm → List Span
arm_spans = fold-Arm (List Span) (List Span) (List Span) (List Span) (List Span)
    block_item_step statement_step arm_step branch_step co_arm_step

abbrev pub branch_spans : Branch → List Span
branch_spans = fold-Branch (List Span) (List Span) (List Span) (List Span) (List Span)
    block_item_step statement_step arm_step branch_step co_arm_step

abbrev pub co_arm_spans : CoArm → List Span
co_arm_spans = fold-CoArm (List Span) (List Span) (List Span) (List Span) (List Span)
    block_item_step statement_step arm_step branch_step co_arm_step

-- in the block of a proc
abbrev pub inner_statements : ProcItem → List Span
inner_statements (inner.Statement statement) = spans_in statement
inner_statements _ = []

abbrev pub block_statements : List ProcItem → List Span
block_statements block = flat_map inner_statements block

-- in a body
abbrev pub item_statements : Item → List Span
item_statements (item.Spec declared) = []
item_statements (item.Proc proc) = block_statements proc.block
item_statements (item.Procedure procedure) = block_statements procedure.block
item_statements (item.Process process) = block_statements process.block
item_statements (item.Final final) = block_statements final.block
item_statements (item.Statement statement) = spans_in statement

abbrev pub component_statements : Component → List Span
component_statements component = flat_map item_statements (body_of component)

abbrev pub statement_spans : File → List Span
statement_spans file = flat_map component_statements file.components

-- ---- operations: each by its name

abbrev pub op_item_span : OpItem → Span
op_item_span (Signed span name signature) = name.span
op_item_span (Typed span name optype) = name.span

abbrev pub op_spans : OpDecl → List Span
op_spans declared = map op_item_span declared.items

abbrev pub semaphore_spans : SemDecl → List Span
semaphore_spans declared = map (λ semaphore. semaphore.name.span) declared.semaphores

-- in a spec
abbrev pub spec_operations : SpecItem → List Span
spec_operations (spec.Op declared) = op_spans declared
spec_operations (spec.Sem declared) = semaphore_spans declared
spec_operations _ = []

-- in the block of a proc
abbrev pub inner_operations : ProcItem → List Span
inner_operations (inner.Op declared) = op_spans declared
inner_operations (inner.Sem declared) = semaphore_spans declared
inner_operations _ = []

abbrev pub block_operations : List ProcItem → List Span
block_operations block = flat_map inner_operations block

-- in a body: a procedure and a process declare an operation, a proc serves one that is declared elsewhere
abbrev pub item_operations : Item → List Span
item_operations (item.Spec declared) = spec_operations declared
item_operations (item.Proc proc) = block_operations proc.block
item_operations (item.Procedure procedure) = procedure.name.span ∷ block_operations procedure.block
item_operations (item.Process process) = process.name.span ∷ block_operations process.block
item_operations (item.Final final) = block_operations final.block
item_operations (item.Statement statement) = []

abbrev pub component_operations : Component → List Span
component_operations component = flat_map spec_operations (spec_of component) ++ flat_map item_operations (body_of component)

abbrev pub operation_spans : File → List Span
operation_spans file = flat_map component_operations file.components

-- ---- components: each by its name

abbrev pub component_span : Component → Span
component_span component = (name_of component).span

abbrev pub component_spans : File → List Span
component_spans file = map component_span file.components
