-- The uses that are found in statements and in the blocks of procs are of the names in them.
use Rattle.std.proofs.Common.{subst, List, [], ◌∷◌, Option, Some, None, map}
use Rattle.sr_value.specs.declared.place.Span.{Span}
use Rattle.sr_names.specs.declared.meaning.Sort.TheVariants.{Constant, Variable, Operation}
use Rattle.sr_names.specs.declared.place.Blocks.{Blocks}
use Rattle.sr_names.specs.declared.place.Place.{Place}
use Rattle.sr_names.specs.Scopes.{opened}
use Rattle.sr_tree.specs.declared.component.FinalCode.{FinalCode}
use Rattle.sr_tree.specs.declared.component.Proc.{Proc}
use Rattle.sr_tree.specs.declared.component.Procedure.{Procedure}
use Rattle.sr_tree.specs.declared.component.Process.{Process}
use Rattle.sr_tree.specs.declared.component.ProcItem.{ProcItem}
use Rattle.sr_tree.specs.declared.component.ProcItem.TheVariants as inner
use Rattle.sr_tree.specs.declared.name.Name.{Name}
use Rattle.sr_tree.specs.declared.statement.ArmCondition.{ArmCondition}
use Rattle.sr_tree.specs.declared.statement.BlockItem.TheOpen.{BlockItem-F, Statement-F}
use Rattle.sr_tree.specs.declared.statement.Statement.{Statement}
use Rattle.sr_order.specs.Names.{name_names, names_spans, where_some, condition_names, statement_names, block_item_names, arm_names, branch_names, co_arm_names, proc_item_names, block_names, proc_names, procedure_names, process_names, final_names}
use Rattle.sr_order.specs.Spans.{joined}
use Rattle.sr_scope.specs.Declarations.{with_inner, var_names, with_quantifiers}
use Rattle.sr_scope.specs.Declares.{names_declared, op_name}
use Rattle.sr_scope.specs.Exprs.{Finds, all_found}
use Rattle.sr_scope.specs.Procs.{semaphore_names, proc_item_read, proc_items_found, proc_found, procedure_found, quantifier_names as quantified, process_found, final_found}
use Rattle.sr_scope.specs.Statements.{Steps, steps_found, condition_found, arm_scope, arm_twice, statement_found, item_read, arm_found, branch_found, co_arm_found}
use Rattle.sr_scope.specs.Types.{signature_read, signed_declared}
use Rattle.sr_tree.proofs.StatementFolds.{ArmNode, BranchNode, ByParts, Claim, CoArmNode, ItemNode, Known, StatementNode, arm_folds, bare_arm, bare_branch, bare_co_arm, bare_item, bare_statement, branch_folds, co_arm_folds, each_statement, from_arm, from_branch, from_co_arm, from_item, from_statement, item_folds, statement_folds}
use Rattle.sr_order.proofs.NameFolds.{naming}
use Rattle.sr_scope.proofs.FoundFolds.{finding}
use Rattle.sr_scope.proofs.Among.{Among, nothing, both, besides, and_twice, after_one, after}
use Rattle.sr_scope.proofs.FoundExprs.{Good, expr_among, maybe_expr_among, exprs_among, create_among, invocation_among, name_among, twice_among, names_twice_among, returned_twice_among}
use Rattle.sr_scope.proofs.FoundTypes.{const_among, var_among, semaphores_among, op_items_among, quantifiers_among, signature_among, signed_twice_among}

-- ---- trees with what is known of them

abbrev ItemGood : Steps → List Span → Type 0
ItemGood steps names = (place : Place) (blocks : Blocks) → Among (steps place blocks).found names

abbrev among : Claim
among = record {
  item = λ tree. ItemGood (item_read tree) (block_item_names tree);
  statement = λ tree. Good (statement_found tree) (statement_names tree);
  arm = λ tree. Good (arm_found tree) (arm_names tree);
  branch = λ tree. Good (branch_found tree) (branch_names tree);
  co_arm = λ tree. Good (co_arm_found tree) (co_arm_names tree);
}

items_good : (items : List (Known among.item)) (place : Place) (blocks : Blocks)
    → Among (steps_found (map item_read (map (λ e. e.0) items)) place blocks) (joined (map block_item_names (map (λ e. e.0) items)))
items_good [] place blocks = nothing
items_good (item ∷ items) place blocks = both (item.1 place blocks) (items_good items place (with_inner blocks (item_read item.0 place blocks).inner))

all_good : {X : Type 0} (finds : X → Finds) (names : X → List Span) (trees : List (Known (λ tree. Good (finds tree) (names tree)))) (place : Place) (blocks : Blocks)
    → Among (all_found (map finds (map (λ e. e.0) trees)) place blocks) (joined (map names (map (λ e. e.0) trees)))
all_good finds names [] place blocks = nothing
all_good finds names (tree ∷ trees) place blocks = both (tree.1 place blocks) (all_good finds names trees place blocks)

-- ---- each kind of tree from its parts

item_good : (y : ItemNode among) → ItemGood (from_item finding (bare_item among y)) (from_item naming (bare_item among y))
item_good (BlockItem-F.Const constant) place blocks = and_twice (const_among constant place blocks) (twice_among Constant constant.name blocks.inner)
item_good (BlockItem-F.Var variables) place blocks = and_twice (var_among variables place blocks) (names_twice_among Variable (var_names variables) blocks.inner)
item_good (BlockItem-F.Statement statement) place blocks = statement.1 place blocks

statement_good : (y : StatementNode among) → Good (from_statement finding (bare_statement among y)) (from_statement naming (bare_statement among y))
statement_good (Statement-F.Skip span) place blocks = nothing
statement_good (Statement-F.Exit span) place blocks = nothing
statement_good (Statement-F.Next span) place blocks = nothing
statement_good (Statement-F.Return span) place blocks = nothing
statement_good (Statement-F.Reply span) place blocks = nothing
statement_good (Statement-F.Stop span status) place blocks = maybe_expr_among status place blocks
statement_good (Statement-F.Call span with_call invocation) place blocks = invocation_among invocation place blocks
statement_good (Statement-F.Send span invocation) place blocks = invocation_among invocation place blocks
statement_good (Statement-F.Forward span invocation) place blocks = invocation_among invocation place blocks
statement_good (Statement-F.Receive span operation places) place blocks = both (name_among place blocks operation) (exprs_among places place blocks)
statement_good (Statement-F.Assign span target value) place blocks = both (expr_among target place blocks) (expr_among value place blocks)
statement_good (Statement-F.Exchange span left right) place blocks = both (expr_among left place blocks) (expr_among right place blocks)
statement_good (Statement-F.Increment span target) place blocks = expr_among target place blocks
statement_good (Statement-F.Decrement span target) place blocks = expr_among target place blocks
statement_good (Statement-F.If span branches None) place blocks = both (all_good branch_found branch_names branches place blocks) (nothing {s = []})
statement_good (Statement-F.If span branches (Some otherwise)) place blocks = both (all_good branch_found branch_names branches place blocks) (items_good otherwise place (opened blocks))
statement_good (Statement-F.Do span branches None) place blocks = both (all_good branch_found branch_names branches place blocks) (nothing {s = []})
statement_good (Statement-F.Do span branches (Some otherwise)) place blocks = both (all_good branch_found branch_names branches place blocks) (items_good otherwise place (opened blocks))
statement_good (Statement-F.ForAll span quantifiers block) place blocks =
    both (quantifiers_among quantifiers place (opened blocks)) (items_good block place (opened (with_quantifiers quantifiers (opened blocks))))
statement_good (Statement-F.In span arms None) place blocks = both (all_good arm_found arm_names arms place blocks) (nothing {s = []})
statement_good (Statement-F.In span arms (Some otherwise)) place blocks = both (all_good arm_found arm_names arms place blocks) (items_good otherwise place (opened blocks))
statement_good (Statement-F.Co span arms) place blocks = all_good co_arm_found co_arm_names arms place blocks
statement_good (Statement-F.Destroy span target) place blocks = expr_among target place blocks
statement_good (Statement-F.Create span create) place blocks = create_among create place blocks

pub arm_twice_among : (formals : List Name) (returned : Option Name) → Among (arm_twice formals returned) []
arm_twice_among formals returned = besides (names_twice_among Variable formals []) (returned_twice_among returned (names_declared Variable formals []))

condition_among : (condition : Option ArmCondition) (place : Place) (blocks : Blocks) → Among (condition_found condition place blocks) (where_some condition_names condition)
condition_among None place blocks = nothing
condition_among (Some written) place blocks = expr_among written.condition place blocks

arm_good : (y : ArmNode among) → Good (from_arm finding (bare_arm among y)) (from_arm naming (bare_arm among y))
arm_good y place blocks =
    let within = arm_scope y.formals y.returned blocks in
    both (name_among place blocks y.operation)
    (besides (arm_twice_among y.formals y.returned)
    (after (names_spans y.formals) (after (where_some name_names y.returned)
    (both (condition_among y.condition place within) (both (maybe_expr_among y.order place within) (items_good y.block place (opened within)))))))

branch_good : (y : BranchNode among) → Good (from_branch finding (bare_branch among y)) (from_branch naming (bare_branch among y))
branch_good y place blocks = both (expr_among y.guard place blocks) (items_good y.block place (opened blocks))

co_arm_good : (y : CoArmNode among) → Good (from_co_arm finding (bare_co_arm among y)) (from_co_arm naming (bare_co_arm among y))
co_arm_good y place blocks = by y.block
  where
    within : Blocks
    within = with_quantifiers y.quantifiers (opened blocks)

    by : (block : Option (List (Known among.item)))
        → Among (from_co_arm finding (bare_co_arm among (record y { block = block })) place blocks) (from_co_arm naming (bare_co_arm among (record y { block = block })))
    by None =
        both (quantifiers_among y.quantifiers place (opened blocks))
        (both (maybe_expr_among y.target place within) (both (invocation_among y.invocation place within) (nothing {s = []})))
    by (Some items) =
        both (quantifiers_among y.quantifiers place (opened blocks))
        (both (maybe_expr_among y.target place within) (both (invocation_among y.invocation place within) (items_good items place (opened within))))

-- ---- all trees

by_parts : ByParts among
by_parts = record {
  item = λ y. subst (λ t. t) (λ i. ItemGood (item_folds finding (bare_item among y) i) (item_folds naming (bare_item among y) i)) (item_good y);
  statement = λ y. subst (λ t. t) (λ i. Good (statement_folds finding (bare_statement among y) i) (statement_folds naming (bare_statement among y) i)) (statement_good y);
  arm = λ y. subst (λ t. t) (λ i. Good (arm_folds finding (bare_arm among y) i) (arm_folds naming (bare_arm among y) i)) (arm_good y);
  branch = λ y. subst (λ t. t) (λ i. Good (branch_folds finding (bare_branch among y) i) (branch_folds naming (bare_branch among y) i)) (branch_good y);
  co_arm = λ y. subst (λ t. t) (λ i. Good (co_arm_folds finding (bare_co_arm among y) i) (co_arm_folds naming (bare_co_arm among y) i)) (co_arm_good y);
}

pub statement_among : (tree : Statement) (place : Place) (blocks : Blocks) → Among (statement_found tree place blocks) (statement_names tree)
statement_among = each_statement among by_parts

-- ---- procs, procedures, processes and final code

proc_item_among : (item : ProcItem) (place : Place) (blocks : Blocks) → Among (proc_item_read item place blocks).found (proc_item_names item)
proc_item_among (inner.Const constant) place blocks = and_twice (const_among constant place blocks) (twice_among Constant constant.name blocks.inner)
proc_item_among (inner.Var variables) place blocks = and_twice (var_among variables place blocks) (names_twice_among Variable (var_names variables) blocks.inner)
proc_item_among (inner.Op operations) place blocks = and_twice (op_items_among operations.items place blocks) (names_twice_among Operation (map op_name operations.items) blocks.inner)
proc_item_among (inner.Sem declared) place blocks = and_twice (semaphores_among declared.semaphores place blocks) (names_twice_among Operation (semaphore_names declared.semaphores) blocks.inner)
proc_item_among (inner.Statement statement) place blocks = statement_among statement place blocks

block_among : (items : List ProcItem) (place : Place) (blocks : Blocks) → Among (proc_items_found items place blocks) (block_names items)
block_among [] place blocks = nothing
block_among (item ∷ items) place blocks = both (proc_item_among item place blocks) (block_among items place (with_inner blocks (proc_item_read item place blocks).inner))

pub proc_among : (proc : Proc) (place : Place) (blocks : Blocks) → Among (proc_found proc place blocks) (proc_names proc)
proc_among proc place blocks =
    both (name_among place blocks proc.name)
    (besides (arm_twice_among proc.formals proc.returned)
    (after (names_spans proc.formals) (after (where_some name_names proc.returned) (block_among proc.block place (arm_scope proc.formals proc.returned blocks)))))

pub procedure_among : (procedure : Procedure) (place : Place) (blocks : Blocks) → Among (procedure_found procedure place blocks) (procedure_names procedure)
procedure_among procedure place blocks =
    after_one procedure.name.span
    (both (signature_among procedure.signature place blocks)
    (besides (signed_twice_among (signature_read procedure.signature) [])
    (block_among procedure.block place (with_inner (opened blocks) (signed_declared (signature_read procedure.signature) [])))))

pub process_among : (process : Process) (place : Place) (blocks : Blocks) → Among (process_found process place blocks) (process_names process)
process_among process place blocks =
    after_one process.name.span
    (both (quantifiers_among process.quantifiers place (opened blocks))
    (besides (names_twice_among Variable (quantified process.quantifiers) [])
    (block_among process.block place (with_inner (opened blocks) (names_declared Variable (quantified process.quantifiers) [])))))

pub final_among : (final : FinalCode) (place : Place) (blocks : Blocks) → Among (final_found final place blocks) (final_names final)
final_among final place blocks = block_among final.block place (opened blocks)
