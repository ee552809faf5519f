-- What is found in statements and blocks.
use Rattle.std.specs.Prelude.{Bool, true, false, List, [], ◌∷◌, ◌++◌, Option, Some, None, if◌then◌else◌}
use Rattle.sr_names.specs.declared.finding.Finding.{Finding}
use Rattle.sr_names.specs.declared.meaning.Sort.TheVariants.{Constant, Variable}
use Rattle.sr_names.specs.declared.place.Blocks.{Blocks}
use Rattle.sr_names.specs.declared.place.Place.{Place}
use Rattle.sr_names.specs.Entries.{Entries}
use Rattle.sr_names.specs.Scopes.{opened}
use Rattle.sr_tree.specs.declared.expr.Expr.{Expr}
use Rattle.sr_tree.specs.declared.name.Name.{Name}
use Rattle.sr_tree.specs.declared.statement.ArmCondition.{ArmCondition}
use Rattle.sr_tree.specs.declared.statement.BlockItem.{BlockItem, fold-BlockItem}
use Rattle.sr_tree.specs.declared.statement.Quantifier.{Quantifier}
use Rattle.sr_tree.specs.declared.statement.Statement.{Statement, fold-Statement, out-Statement}
use Rattle.sr_tree.specs.declared.statement.Arm.{Arm, fold-Arm}
use Rattle.sr_tree.specs.declared.statement.Branch.{Branch, fold-Branch}
use Rattle.sr_tree.specs.declared.statement.CoArm.{CoArm, fold-CoArm}
use Rattle.sr_tree.specs.declared.statement.BlockItem.TheOpen.{BlockItem-F, Statement-F, Arm-F, Branch-F, CoArm-F}
use Rattle.sr_scope.specs.Declarations.{with_inner, exprs_found, const_found, var_found, var_names, quantifiers_found, with_quantifiers}
use Rattle.sr_scope.specs.Declares.{name_declared, name_twice, names_declared, names_twice, returned_declared, returned_twice}
use Rattle.sr_scope.specs.Exprs.{Finds, all_found, create_found, invocation_found}
use Rattle.sr_scope.specs.Names.{name_found}
use Rattle.sr_scope.specs.Types.{expr_found, maybe_expr_found}

-- what is found in an item of a block, and the innermost scope after it
pub record Step : Type 0 where
  pub found : List Finding
  pub inner : Entries

abbrev pub Steps : Type 0
Steps = Place → Blocks → Step

-- each item of a block sees what those before it declare
abbrev pub steps_found : List Steps → Finds
steps_found [] place blocks = []
steps_found (steps ∷ more) place blocks = (steps place blocks).found ++ steps_found more place (with_inner blocks (steps place blocks).inner)

-- a block is a scope
abbrev pub block_found : List Steps → Finds
block_found items place blocks = steps_found items place (opened blocks)

abbrev pub maybe_block_found : Option (List Steps) → Finds
maybe_block_found None place blocks = []
maybe_block_found (Some items) place blocks = block_found items place blocks

-- a name in a block is visible after its declaration
abbrev pub item_step : BlockItem-F Steps Finds Finds Finds Finds → Steps
item_step (BlockItem-F.Const constant) place blocks = record {
  found = const_found constant place blocks ++ name_twice Constant constant.name blocks.inner;
  inner = name_declared Constant constant.name blocks.inner;
}
item_step (BlockItem-F.Var variables) place blocks = record {
  found = var_found variables place blocks ++ names_twice Variable (var_names variables) blocks.inner;
  inner = names_declared Variable (var_names variables) blocks.inner;
}
item_step (BlockItem-F.Statement statement) place blocks = record { found = statement place blocks; inner = blocks.inner }

abbrev pub condition_found : Option ArmCondition → Finds
condition_found None place blocks = []
condition_found (Some written) place blocks = expr_found written.condition place blocks

-- an arm with its formals and what it returns is a scope
abbrev pub arm_scope : List Name → Option Name → Blocks → Blocks
arm_scope formals returned blocks = with_inner (opened blocks) (returned_declared returned (names_declared Variable formals []))

abbrev pub arm_twice : List Name → Option Name → List Finding
arm_twice formals returned = names_twice Variable formals [] ++ returned_twice returned (names_declared Variable formals [])

abbrev pub inner_found : Option ArmCondition → Option Expr → List Steps → Finds
inner_found condition order block place blocks =
    condition_found condition place blocks ++ (maybe_expr_found order place blocks ++ block_found block place blocks)

abbrev pub arm_step : Arm-F Steps Finds Finds Finds Finds → Finds
arm_step arm place blocks =
    name_found place blocks arm.operation
    ++ (arm_twice arm.formals arm.returned ++ inner_found arm.condition arm.order arm.block place (arm_scope arm.formals arm.returned blocks))

abbrev pub branch_step : Branch-F Steps Finds Finds Finds Finds → Finds
branch_step branch place blocks = expr_found branch.guard place blocks ++ block_found branch.block place blocks

-- the quantifiers of an arm of `co` are a scope around all of it
abbrev pub co_inner_found : Option Expr → Finds → Option (List Steps) → Finds
co_inner_found target invocation block place blocks =
    maybe_expr_found target place blocks ++ (invocation place blocks ++ maybe_block_found block place blocks)

abbrev pub co_arm_step : CoArm-F Steps Finds Finds Finds Finds → Finds
co_arm_step arm place blocks =
    quantifiers_found arm.quantifiers place (opened blocks)
    ++ co_inner_found arm.target (invocation_found arm.invocation) arm.block place (with_quantifiers arm.quantifiers (opened blocks))

-- quantifiers are a scope around their block
abbrev pub for_all_found : List Quantifier → List Steps → Finds
for_all_found quantifiers block place blocks =
    quantifiers_found quantifiers place (opened blocks) ++ block_found block place (with_quantifiers quantifiers (opened blocks))

abbrev pub statement_step : Statement-F Steps Finds Finds Finds Finds → Finds
statement_step (Statement-F.Skip span) place blocks = []
statement_step (Statement-F.Exit span) place blocks = []
statement_step (Statement-F.Next span) place blocks = []
statement_step (Statement-F.Return span) place blocks = []
statement_step (Statement-F.Reply span) place blocks = []
statement_step (Statement-F.Stop span status) place blocks = maybe_expr_found status place blocks
statement_step (Statement-F.Call span with_call invocation) place blocks = invocation_found invocation place blocks
statement_step (Statement-F.Send span invocation) place blocks = invocation_found invocation place blocks
statement_step (Statement-F.Forward span invocation) place blocks = invocation_found invocation place blocks
statement_step (Statement-F.Receive span operation places) place blocks = name_found place blocks operation ++ exprs_found places place blocks
statement_step (Statement-F.Assign span target value) place blocks = expr_found target place blocks ++ expr_found value place blocks
statement_step (Statement-F.Exchange span left right) place blocks = expr_found left place blocks ++ expr_found right place blocks
statement_step (Statement-F.Increment span target) place blocks = expr_found target place blocks
statement_step (Statement-F.Decrement span target) place blocks = expr_found target place blocks
statement_step (Statement-F.If span branches otherwise) place blocks = all_found branches place blocks ++ maybe_block_found otherwise place blocks
statement_step (Statement-F.Do span branches otherwise) place blocks = all_found branches place blocks ++ maybe_block_found otherwise place blocks
statement_step (Statement-F.ForAll span quantifiers block) place blocks = for_all_found quantifiers block place blocks
statement_step (Statement-F.In span arms otherwise) place blocks = all_found arms place blocks ++ maybe_block_found otherwise place blocks
statement_step (Statement-F.Co span arms) place blocks = all_found arms place blocks
statement_step (Statement-F.Destroy span target) place blocks = expr_found target place blocks
statement_step (Statement-F.Create span create) place blocks = create_found create place blocks

abbrev pub statement_found : Statement → Finds
statement_found = fold-Statement Steps Finds Finds Finds Finds item_step statement_step arm_step branch_step co_arm_step

-- a statement in which blocks stand
abbrev pub holds_blocks : Statement → Bool
holds_blocks statement = elim (out-Statement statement) [
  | Statement-F.If span branches otherwise ↦ true
  | Statement-F.Do span branches otherwise ↦ true
  | Statement-F.ForAll span quantifiers block ↦ true
  | Statement-F.In span arms otherwise ↦ true
  | Statement-F.Co span arms ↦ true
  | _ ↦ false
]

-- what is found in a statement in which no blocks stand
abbrev pub plain_statement_found : Statement → Finds
plain_statement_found statement place blocks = if holds_blocks statement then [] else statement_found statement place blocks

abbrev pub item_read : BlockItem → Steps
item_read = fold-BlockItem Steps Finds Finds Finds Finds item_step statement_step arm_step branch_step co_arm_step

abbrev pub arm_found : Arm → Finds
arm_found = fold-Arm Steps Finds Finds Finds Finds item_step statement_step arm_step branch_step co_arm_step

abbrev pub branch_found : Branch → Finds
branch_found = fold-Branch Steps Finds Finds Finds Finds item_step statement_step arm_step branch_step co_arm_step

abbrev pub co_arm_found : CoArm → Finds
co_arm_found = fold-CoArm Steps Finds Finds Finds Finds item_step statement_step arm_step branch_step co_arm_step
