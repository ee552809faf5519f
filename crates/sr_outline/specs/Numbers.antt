-- What has a number: each list is in the order of the text, and a number is a place in it.
use Rattle.std.specs.Prelude.{ℕ, Bool, true, false, List, [], ◌∷◌, ◌++◌, Option, Some, unwrap_or, map, flat_map, if◌then◌else◌}
use Rattle.std.specs.List.{enumerate_from}
use Rattle.sr_check_expr.specs.declared.facts.Facts.{Facts}
use Rattle.sr_names.specs.declared.predefined.Predefined.{Predefined}
use Rattle.sr_names.specs.declared.predefined.Predefined.TheVariants.{P}
use Rattle.sr_names.specs.declared.spot.Spot.{Spot}
use Rattle.sr_names.specs.Spots.{spot_of}
use Rattle.sr_tree.specs.declared.component.Component.{Component}
use Rattle.sr_tree.specs.declared.component.Item.{Item}
use Rattle.sr_tree.specs.declared.component.Item.TheVariants as item
use Rattle.sr_tree.specs.declared.component.ProcItem.{ProcItem}
use Rattle.sr_tree.specs.declared.component.ProcItem.TheVariants as inner
use Rattle.sr_tree.specs.declared.component.SpecItem.{SpecItem}
use Rattle.sr_tree.specs.declared.component.SpecItem.TheVariants as spec
use Rattle.sr_tree.specs.declared.declaration.ConstDecl.{ConstDecl}
use Rattle.sr_tree.specs.declared.declaration.VarDecl.{VarDecl}
use Rattle.sr_tree.specs.declared.expr.Expr.{Expr}
use Rattle.sr_tree.specs.declared.expr.Invocation.{Invocation, out-Invocation}
use Rattle.sr_tree.specs.declared.name.Name.{Name}
use Rattle.sr_tree.specs.declared.statement.BlockItem.TheOpen.{BlockItem-F, Statement-F, Arm-F, CoArm-F}
use Rattle.sr_tree.specs.declared.statement.Arm.{Arm, fold-Arm}
use Rattle.sr_tree.specs.declared.statement.BlockItem.{BlockItem, fold-BlockItem}
use Rattle.sr_tree.specs.declared.statement.Branch.{Branch, fold-Branch}
use Rattle.sr_tree.specs.declared.statement.CoArm.{CoArm, fold-CoArm}
use Rattle.sr_tree.specs.declared.statement.Quantifier.{Quantifier}
use Rattle.sr_tree.specs.declared.statement.Statement.{Statement, fold-Statement}
use Rattle.sr_tree.specs.declared.types.Formal.{Formal}
use Rattle.sr_tree.specs.declared.types.Returned.{out-Returned}
use Rattle.sr_tree.specs.declared.types.Signature.{Signature, out-Signature}
use Rattle.sr_tree.specs.Expressions.{expr_span}
use Rattle.sr_value.specs.declared.place.Span.{Span}
use Rattle.sr_tables.specs.declared.tables.SharedVariable.{SharedVariable}
use Rattle.sr_check_expr.specs.Meanings.{is_constant, type_at, returned_by, meant_by, function_called, operation_meant}
use Rattle.sr_tables.specs.Parts.{spot_named, component_spot, decls_of}
use Rattle.sr_tree.specs.Parts.{formals_of, spec_of, body_of}
use Rattle.sr_tables.specs.Lists.{maybe, lists, maybe_lists}
use Rattle.sr_tables.specs.Tables.{each_once, table_of}

-- ---- components and procs

abbrev pub component_spots : List Component → List Spot
component_spots components = each_once (map component_spot components)

-- a proc goes by the operation that it serves
abbrev pub item_served : Facts → Item → List Spot
item_served facts (item.Proc proc) = meant_by facts proc.name ∷ []
item_served facts (item.Procedure procedure) = spot_named procedure.name ∷ []
item_served facts (item.Process process) = spot_named process.name ∷ []
item_served facts _ = []

abbrev pub component_served : Facts → Component → List Spot
component_served facts component = flat_map (item_served facts) (body_of component)

abbrev pub served_spots : Facts → List Component → List Spot
served_spots facts components = each_once (flat_map (component_served facts) components)

-- ---- statements that wait: `in`, `receive` and `P`, each by its first token

abbrev pub is_p : Option Predefined → Bool
is_p (Some P) = true
is_p _ = false

-- `P(s)` is `receive s()`
abbrev pub is_wait : Facts → Invocation → Bool
is_wait facts invocation = is_p (function_called facts invocation)

abbrev pub call_sites : Facts → Span → Invocation → List Spot
call_sites facts span invocation = if is_wait facts invocation then spot_of span ∷ [] else []

abbrev pub statement_sites : Facts → Statement-F (List Spot) (List Spot) (List Spot) (List Spot) (List Spot) → List Spot
statement_sites facts (Statement-F.Call span with_call invocation) = call_sites facts span invocation
statement_sites facts (Statement-F.Receive span operation places) = spot_of span ∷ []
statement_sites facts (Statement-F.If span branches otherwise) = lists branches ++ maybe_lists otherwise
statement_sites facts (Statement-F.Do span branches otherwise) = lists branches ++ maybe_lists otherwise
statement_sites facts (Statement-F.ForAll span quantifiers block) = lists block
statement_sites facts (Statement-F.In span arms otherwise) = spot_of span ∷ lists arms ++ maybe_lists otherwise
statement_sites facts (Statement-F.Co span arms) = lists arms
statement_sites facts _ = []

abbrev pub block_item_sites : BlockItem-F (List Spot) (List Spot) (List Spot) (List Spot) (List Spot) → List Spot
block_item_sites (BlockItem-F.Statement statement) = statement
block_item_sites _ = []

abbrev pub sites_in : Facts → Statement → List Spot
sites_in facts = fold-Statement (List Spot) (List Spot) (List Spot) (List Spot) (List Spot)
    block_item_sites (statement_sites facts) (λ arm. lists arm.block) (λ branch. lists branch.block) (λ arm. maybe_lists arm.block)

abbrev pub block_item_in_sites : Facts → BlockItem → List Spot
block_item_in_sites facts = fold-BlockItem (List Spot) (List Spot) (List Spot) (List Spot) (List Spot)
    block_item_sites (statement_sites facts) (λ arm. lists arm.block) (λ branch. lists branch.block) (λ arm. maybe_lists arm.block)

abbrev pub block_sites : Facts → List BlockItem → List Spot
block_sites facts block = lists (map (block_item_in_sites facts) block)

abbrev pub branch_sites : Facts → Branch → List Spot
branch_sites facts = fold-Branch (List Spot) (List Spot) (List Spot) (List Spot) (List Spot)
    block_item_sites (statement_sites facts) (λ arm. lists arm.block) (λ branch. lists branch.block) (λ arm. maybe_lists arm.block)

abbrev pub arm_sites : Facts → Arm → List Spot
arm_sites facts = fold-Arm (List Spot) (List Spot) (List Spot) (List Spot) (List Spot)
    block_item_sites (statement_sites facts) (λ arm. lists arm.block) (λ branch. lists branch.block) (λ arm. maybe_lists arm.block)

abbrev pub co_arm_sites : Facts → CoArm → List Spot
co_arm_sites facts = fold-CoArm (List Spot) (List Spot) (List Spot) (List Spot) (List Spot)
    block_item_sites (statement_sites facts) (λ arm. lists arm.block) (λ branch. lists branch.block) (λ arm. maybe_lists arm.block)

abbrev pub inner_sites : Facts → ProcItem → List Spot
inner_sites facts (inner.Statement statement) = sites_in facts statement
inner_sites facts _ = []

abbrev pub item_sites : Facts → Item → List Spot
item_sites facts (item.Spec declared) = []
item_sites facts (item.Proc proc) = flat_map (inner_sites facts) proc.block
item_sites facts (item.Procedure procedure) = flat_map (inner_sites facts) procedure.block
item_sites facts (item.Process process) = flat_map (inner_sites facts) process.block
item_sites facts (item.Final final) = flat_map (inner_sites facts) final.block
item_sites facts (item.Statement statement) = sites_in facts statement

abbrev pub component_sites : Facts → Component → List Spot
component_sites facts component = flat_map (item_sites facts) (body_of component)

abbrev pub site_spots : Facts → List Component → List Spot
site_spots facts components = each_once (flat_map (component_sites facts) components)

-- ---- variables that declarations declare

-- a static constant is no variable
unfoldable pub const_names : Facts → ConstDecl → List Spot
const_names facts constant = if is_constant facts (spot_named constant.name) then [] else spot_named constant.name ∷ []

unfoldable pub var_names : VarDecl → List Spot
var_names variables = map (λ decl. spot_named decl.name) variables.decls

abbrev pub formal_spots : Formal → List Spot
formal_spots formal = map (λ decl. spot_named decl.name) (decls_of formal)

abbrev pub formal_names : List Formal → List Spot
formal_names formals = flat_map formal_spots formals

abbrev pub returned_names : Option Name → List Spot
returned_names returned = maybe (λ name. spot_named name ∷ []) returned

abbrev pub quantifier_names : List Quantifier → List Spot
quantifier_names quantifiers = map (λ quantifier. spot_named quantifier.name) quantifiers

-- ---- the shared variables of a component: its formals, then what its declarations declare

abbrev pub spec_item_shared : Facts → SpecItem → List Spot
spec_item_shared facts (spec.Const constant) = const_names facts constant
spec_item_shared facts (spec.Var variables) = var_names variables
spec_item_shared facts _ = []

abbrev pub item_shared : Facts → Item → List Spot
item_shared facts (item.Spec declared) = spec_item_shared facts declared
item_shared facts _ = []

abbrev pub shared_spots : Facts → Component → List Spot
shared_spots facts component =
    formal_names (formals_of component) ++ (flat_map (spec_item_shared facts) (spec_of component) ++ flat_map (item_shared facts) (body_of component))

abbrev pub shared_entries : ℕ → List (ℕ × Spot) → List (Spot × SharedVariable)
shared_entries component spots = map (λ numbered. (numbered.1, record { component = component; var = numbered.0 })) spots

abbrev pub component_shared : Facts → ℕ → Component → List (Spot × SharedVariable)
component_shared facts number component = shared_entries number (enumerate_from 0 (each_once (shared_spots facts component)))

-- each with its component and its number in it
abbrev pub shared_of : Facts → List Component → List (Spot × SharedVariable)
shared_of facts components =
    table_of (flat_map (λ numbered. component_shared facts numbered.0 numbered.1) (enumerate_from 0 components))

-- ---- the own variables of a process: its formals, then all that its code declares

-- what a received operation returns goes by the statement that receives it
abbrev pub receive_returned : Facts → Span → Spot → List Spot
receive_returned facts span operation = maybe (λ returned. spot_of span ∷ []) (returned_by facts (type_at facts operation))

-- the formals of a `receive` go by the places that they are assigned to
abbrev pub place_spots : List Expr → List Spot
place_spots places = map (λ place. spot_of (expr_span place)) places

abbrev pub receive_names : Facts → Span → Spot → List Expr → List Spot
receive_names facts span operation places = place_spots places ++ receive_returned facts span operation

-- the same of an operation by its name
unfoldable pub received_names : Facts → Span → Name → List Expr → List Spot
received_names facts span operation places = receive_names facts span (meant_by facts operation) places

-- the operation that `P` receives; without one, as in a program that is refused, where the `P` stands
abbrev pub waited_by : Facts → Span → List Expr → Spot
waited_by facts span (semaphore ∷ []) = unwrap_or (operation_meant facts semaphore) (spot_of span)
waited_by facts span _ = spot_of span

abbrev pub wait_operation : Facts → Span → Invocation → Spot
wait_operation facts span invocation = waited_by facts span (out-Invocation invocation).arguments

unfoldable pub call_names : Facts → Span → Invocation → List Spot
call_names facts span invocation = if is_wait facts invocation then receive_names facts span (wait_operation facts span invocation) [] else []

abbrev pub statement_names : Facts → Statement-F (List Spot) (List Spot) (List Spot) (List Spot) (List Spot) → List Spot
statement_names facts (Statement-F.Call span with_call invocation) = call_names facts span invocation
statement_names facts (Statement-F.Receive span operation places) = received_names facts span operation places
statement_names facts (Statement-F.If span branches otherwise) = lists branches ++ maybe_lists otherwise
statement_names facts (Statement-F.Do span branches otherwise) = lists branches ++ maybe_lists otherwise
statement_names facts (Statement-F.ForAll span quantifiers block) = quantifier_names quantifiers ++ lists block
statement_names facts (Statement-F.In span arms otherwise) = lists arms ++ maybe_lists otherwise
statement_names facts (Statement-F.Co span arms) = lists arms
statement_names facts _ = []

abbrev pub block_item_names : Facts → BlockItem-F (List Spot) (List Spot) (List Spot) (List Spot) (List Spot) → List Spot
block_item_names facts (BlockItem-F.Const constant) = const_names facts constant
block_item_names facts (BlockItem-F.Var variables) = var_names variables
block_item_names facts (BlockItem-F.Statement statement) = statement

abbrev pub arm_names : Arm-F (List Spot) (List Spot) (List Spot) (List Spot) (List Spot) → List Spot
arm_names arm = map spot_named arm.formals ++ (returned_names arm.returned ++ lists arm.block)

abbrev pub co_arm_names : CoArm-F (List Spot) (List Spot) (List Spot) (List Spot) (List Spot) → List Spot
co_arm_names arm = quantifier_names arm.quantifiers ++ maybe_lists arm.block

abbrev pub names_in : Facts → Statement → List Spot
names_in facts = fold-Statement (List Spot) (List Spot) (List Spot) (List Spot) (List Spot)
    (block_item_names facts) (statement_names facts) arm_names (λ branch. lists branch.block) co_arm_names

abbrev pub item_in : Facts → BlockItem → List Spot
item_in facts = fold-BlockItem (List Spot) (List Spot) (List Spot) (List Spot) (List Spot)
    (block_item_names facts) (statement_names facts) arm_names (λ branch. lists branch.block) co_arm_names

abbrev pub block_in : Facts → List BlockItem → List Spot
block_in facts block = lists (map (item_in facts) block)

abbrev pub branch_in : Facts → Branch → List Spot
branch_in facts = fold-Branch (List Spot) (List Spot) (List Spot) (List Spot) (List Spot)
    (block_item_names facts) (statement_names facts) arm_names (λ branch. lists branch.block) co_arm_names

abbrev pub arm_in : Facts → Arm → List Spot
arm_in facts = fold-Arm (List Spot) (List Spot) (List Spot) (List Spot) (List Spot)
    (block_item_names facts) (statement_names facts) arm_names (λ branch. lists branch.block) co_arm_names

abbrev pub co_arm_in : Facts → CoArm → List Spot
co_arm_in facts = fold-CoArm (List Spot) (List Spot) (List Spot) (List Spot) (List Spot)
    (block_item_names facts) (statement_names facts) arm_names (λ branch. lists branch.block) co_arm_names

abbrev pub inner_names : Facts → ProcItem → List Spot
inner_names facts (inner.Const constant) = const_names facts constant
inner_names facts (inner.Var variables) = var_names variables
inner_names facts (inner.Op operations) = []
inner_names facts (inner.Sem semaphores) = []
inner_names facts (inner.Statement statement) = names_in facts statement

-- of a proc, procedure, process or final code: its formals, the name of what it returns, and what its block declares
abbrev pub own_spots : Facts → List Spot → List Spot → List ProcItem → List Spot
own_spots facts formals returned block = each_once (formals ++ (returned ++ flat_map (inner_names facts) block))

-- in initial code stand the sends of processes, and statements
abbrev pub item_names : Facts → Item → List Spot
item_names facts (item.Process process) = quantifier_names process.quantifiers
item_names facts (item.Statement statement) = names_in facts statement
item_names facts _ = []

abbrev pub initial_spots : Facts → Component → List Spot
initial_spots facts component = each_once (flat_map (item_names facts) (body_of component))

-- the name of what a signature returns
abbrev pub signature_returned : Signature → List Spot
signature_returned signature = maybe (λ returned. spot_named (out-Returned returned).decl.name ∷ []) (out-Signature signature).returned
