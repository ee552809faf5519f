-- Where no rule is broken nothing stands in the core where it has nothing to leave or to answer.
use Rattle.std.proofs.Common.{◌≡◌, refl, sym, subst, Bool, true, false, List, [], ◌∷◌, ◌++◌, Option, Some, None, map}
use Rattle.std.specs.Prelude.{IsTrue, is_some, if◌then◌else◌}
use Rattle.std.specs.List.{list_all}
use Rattle.std.proofs.lemmas.List.{map-append}
use Rattle.sr_core.specs.declared.expression.Expr.{Expr as CoreExpr}
use Rattle.sr_core.specs.declared.statement.Action.{Action}
use Rattle.sr_core.specs.declared.statement.CoArm.{CoArm as CoreCoArm, out-CoArm}
use Rattle.sr_core.specs.declared.statement.Guarded.{Guarded}
use Rattle.sr_core.specs.declared.statement.Statement.{Statement as CoreStatement, roll-Statement as roll_core, map-Statement as map_core}
use Rattle.sr_core.specs.declared.statement.Statement.TheFolds.{fold-Statement as fold_core, fold-CoArm as fold_core_arm, fold-Guarded, fold-roll-Statement as fold_roll_core, fold-roll-CoArm as fold_roll_core_arm, fold-roll-Guarded, map-CoArm as map_core_arm}
use Rattle.sr_core.specs.declared.statement.Statement.TheOpen.{Statement-F as Core-F, CoArm-F as CoreArm-F}
use Rattle.sr_core.specs.declared.statement.Statement.TheVariants as core
use Rattle.sr_core.specs.Leaving.{Enclosing, Rule, all_allowed, block_allowed, within_arm, action_allowed, co_arm_allowed, guarded_allowed, statement_allowed}
use Rattle.sr_check.specs.Contexts.{Context, in_order, with_facts, looping}
use Rattle.sr_check.specs.Invoking.{invoked_found, is_serving, may_reply, started_found}
use Rattle.sr_check.specs.Quantifying.{expr_with, quantifiers_found, quantifiers_known}
use Rattle.sr_check.specs.Services.{head_found, operation_named}
use Rattle.sr_check.specs.Uses.{condition_rule}
use Rattle.sr_check.specs.Statements.{arm_context, arms_at, arm_read, block_item_read, branch_read, co_arms_at, co_arm_read, guards_found, mixture_found, statement_read}
use Rattle.sr_names.specs.declared.predefined.Predefined.{Predefined}
use Rattle.sr_names.specs.declared.predefined.Predefined.TheVariants as predefined
use Rattle.sr_names.specs.declared.spot.Spot.{Spot}
use Rattle.sr_names.specs.Spots.{spot_of}
use Rattle.sr_check_expr.specs.Calls.{parts_found}
use Rattle.sr_check_expr.specs.Typings.{broken_unless, typed_exprs_of}
use Rattle.sr_names.specs.declared.finding.Rule.TheVariants.{BadUse}
use Rattle.sr_check_expr.specs.Exprs.{infer_invocation}
use Rattle.sr_core.specs.declared.statement.Scope.{Scope}
use Rattle.sr_core.specs.declared.statement.Scope.TheVariants.{Own}
use Rattle.sr_core.specs.declared.statement.Setup.{Setup}
use Rattle.sr_check_expr.specs.Meanings.{function_called, is_constant, meant_by}
use Rattle.sr_outline.specs.Numbers.{is_p, wait_operation}
use Rattle.sr_tables.specs.Parts.{line_of, spot_named}
use Rattle.sr_tree.specs.declared.declaration.ConstDecl.{ConstDecl}
use Rattle.sr_tree.specs.declared.declaration.VarDecl.{VarDecl}
use Rattle.sr_tree.specs.declared.types.Decl.{Decl}
use Rattle.sr_tree.specs.declared.types.TypeTree.{TypeTree}
use Rattle.sr_desugar.specs.Declarations.{after_first, const_core, declare, first_of, typed, typed_vars, untyped, untyped_vars, var_core}
use Rattle.sr_lower_expr.specs.Places.{site_number}
use Rattle.sr_tree.specs.declared.expr.Expr.{Expr}
use Rattle.sr_tree.specs.declared.expr.Invocation.{Invocation}
use Rattle.sr_tree.specs.declared.statement.Arm.{Arm}
use Rattle.sr_tree.specs.declared.statement.BlockItem.{BlockItem}
use Rattle.sr_tree.specs.declared.statement.BlockItem.TheOpen.{BlockItem-F, Statement-F}
use Rattle.sr_tree.specs.declared.statement.Branch.{Branch}
use Rattle.sr_tree.specs.declared.statement.CoArm.{CoArm}
use Rattle.sr_tree.specs.declared.statement.Statement.{Statement}
use Rattle.sr_value.specs.declared.place.Place.{Place}
use Rattle.sr_value.specs.declared.place.Span.{Span}
use Rattle.sr_lower_expr.specs.declared.scene.Scene.{Scene}
use Rattle.sr_desugar.specs.Statements.{WithSites, all_made, block_made, blocks_of, call_action, call_made, core_arm, core_block_item, core_branch, core_co_arm, core_statement, named_action, quantifiers_core, receive_assign, receive_made}
use Rattle.sr_desugar.proofs.Waits.{all_appended, both}
use Rattle.sr_check.specs.ErrorFree.{ErrorFree}
use Rattle.sr_check.proofs.ErrorFree.{rule_met, error_free_first, error_free_second}
use Rattle.sr_desugar.proofs.CodeFold.{making}
use Rattle.sr_check.proofs.ReadFolds.{reading}
use Rattle.sr_tree.proofs.StatementFolds.{ArmNode, BranchNode, ByParts, Claim, CoArmNode, ItemNode, Known, StatementNode, arm_folds, bare_arm, bare_branch, bare_co_arm, bare_item, bare_statement, branch_folds, co_arm_folds, each_statement, from_arm, from_branch, from_co_arm, from_item, from_statement, item_folds, statement_folds}

-- ---- lists of tests

-- ---- the core

abbrev pub allowed : CoreStatement → Rule
allowed = fold_core Rule Rule Rule statement_allowed co_arm_allowed guarded_allowed

abbrev arm_is_allowed : CoreCoArm → Rule
arm_is_allowed = fold_core_arm Rule Rule Rule statement_allowed co_arm_allowed guarded_allowed

abbrev guarded_is_allowed : Guarded → Rule
guarded_is_allowed = fold-Guarded Rule Rule Rule statement_allowed co_arm_allowed guarded_allowed

abbrev pub opened : Core-F CoreStatement CoreCoArm Guarded → Core-F Rule Rule Rule
opened = map_core CoreStatement CoreCoArm Guarded Rule Rule Rule allowed arm_is_allowed guarded_is_allowed

abbrev opened_arm : CoreArm-F CoreStatement CoreCoArm Guarded → CoreArm-F Rule Rule Rule
opened_arm = map_core_arm CoreStatement CoreCoArm Guarded Rule Rule Rule allowed arm_is_allowed guarded_is_allowed

-- a statement is allowed where it is, part by part
pub rolled : (enclosing : Enclosing) (made : CoreStatement) (parts : Core-F CoreStatement CoreCoArm Guarded) → roll_core parts ≡ made
    → IsTrue (statement_allowed (opened parts) enclosing) → IsTrue (allowed made enclosing)
rolled enclosing made parts is allowed_parts =
    subst (λ one. IsTrue (allowed one enclosing)) is
    (subst (λ rule. IsTrue (rule enclosing)) (sym (fold_roll_core Rule Rule Rule statement_allowed co_arm_allowed guarded_allowed parts)) allowed_parts)

-- a statement that does something is allowed where what it does is
pub act_allowed : (enclosing : Enclosing) (place : Place) (action : Action) → IsTrue (action_allowed action enclosing) → IsTrue (allowed (core.Act place action) enclosing)
act_allowed enclosing place action is = rolled enclosing (core.Act place action) (Core-F.Act place action) (core.rolls-Act place action) is

pub block_appended : (enclosing : Enclosing) (a b : List CoreStatement) → IsTrue (block_allowed a enclosing) → IsTrue (block_allowed b enclosing) → IsTrue (block_allowed (a ++ b) enclosing)
block_appended enclosing a b first second =
    subst (λ rules. IsTrue (all_allowed rules enclosing)) (sym (map-append allowed a b)) (all_appended (λ rule. rule enclosing) (map allowed a) (map allowed b) first second)

-- ---- where the core stands

-- what is around a statement in the core is what is around it in the text
abbrev pub enclosing_of : Context → Enclosing
enclosing_of context = record { in_loop = context.in_loop; may_reply = may_reply context.serving; may_forward = is_serving context.serving }

-- ---- statements without blocks

-- declarations and invocations are allowed everywhere
named_call_allowed : (scene : Scene) (enclosing : Enclosing) (invocation : Invocation) (name : Predefined) → IsTrue (action_allowed (named_action scene invocation name) enclosing)
named_call_allowed scene enclosing invocation predefined.Write = refl
named_call_allowed scene enclosing invocation predefined.Writes = refl
named_call_allowed scene enclosing invocation predefined.V = refl
named_call_allowed scene enclosing invocation _ = refl

call_allowed : (scene : Scene) (enclosing : Enclosing) (invocation : Invocation) (name : Option Predefined) → IsTrue (action_allowed (call_action scene invocation name) enclosing)
call_allowed scene enclosing invocation None = refl
call_allowed scene enclosing invocation (Some name) = named_call_allowed scene enclosing invocation name

assigns_allowed : (scene : Scene) (enclosing : Enclosing) (span : Span) (places : List Expr) → IsTrue (block_allowed (map (receive_assign scene span) places) enclosing)
assigns_allowed scene enclosing span [] = refl
assigns_allowed scene enclosing span (place ∷ places) =
    both (allowed (receive_assign scene span place) enclosing) (block_allowed (map (receive_assign scene span) places) enclosing)
    (act_allowed enclosing _ _ refl) (assigns_allowed scene enclosing span places)

receive_allowed : (scene : Scene) (enclosing : Enclosing) (span : Span) (operation : Spot) (places : List Expr) → IsTrue (allowed (receive_made scene span operation places).made enclosing)
receive_allowed scene enclosing span operation places =
    rolled enclosing _ (Core-F.In (line_of span) (site_number scene (spot_of span)) (map (receive_assign scene span) places ∷ []) []) (core.rolls-In _ _ _ _)
    (both _ true (both (block_allowed (map (receive_assign scene span) places) (within_arm enclosing)) true (assigns_allowed scene (within_arm enclosing) span places) refl) refl)

either_allowed : (enclosing : Enclosing) (test : Bool) (one other : WithSites CoreStatement) → IsTrue (allowed one.made enclosing) → IsTrue (allowed other.made enclosing)
    → IsTrue (allowed (if test then one else other).made enclosing)
either_allowed enclosing true one other first second = first
either_allowed enclosing false one other first second = second

invocation_allowed : (scene : Scene) (enclosing : Enclosing) (span : Span) (invocation : Invocation) (function : Option Predefined) → IsTrue (allowed (call_made scene span invocation function).made enclosing)
invocation_allowed scene enclosing span invocation function =
    either_allowed enclosing (is_p function) _ _
    (receive_allowed scene enclosing span (wait_operation scene.facts span invocation) [])
    (act_allowed enclosing (line_of span) (call_action scene invocation function) (call_allowed scene enclosing invocation function))

-- the sends of a semaphore
pub sends_allowed : (enclosing : Enclosing) (place : Place) (target count : CoreExpr) → IsTrue (allowed (core.Sends place target count) enclosing)
sends_allowed enclosing place target count = rolled enclosing _ (Core-F.Sends place target count) (core.rolls-Sends _ _ _) refl

-- ---- trees

abbrev ItemGood : BlockItem → Type 0
ItemGood item = (scene : Scene) (context : Context) → ErrorFree (block_item_read item context).found → IsTrue (block_allowed (core_block_item scene item).made (enclosing_of context))

abbrev pub StatementGood : Statement → Type 0
StatementGood tree = (scene : Scene) (context : Context) → ErrorFree (statement_read tree context).found → IsTrue (allowed (core_statement scene tree).made (enclosing_of context))

abbrev ArmGood : Arm → Type 0
ArmGood arm = (scene : Scene) (context : Context) (span : Span) → ErrorFree ((arm_read arm).steps span context).found → IsTrue (block_allowed (core_arm scene arm).made.block (within_arm (enclosing_of context)))

abbrev BranchGood : Branch → Type 0
BranchGood branch = (scene : Scene) (context : Context) → ErrorFree (branch_read branch context).found → IsTrue (guarded_is_allowed (core_branch scene branch).made (enclosing_of context))

abbrev CoArmGood : CoArm → Type 0
CoArmGood arm = (scene : Scene) (context : Context) (span : Span) → ErrorFree (co_arm_read arm span context).found → IsTrue (arm_is_allowed (core_co_arm scene arm).made (enclosing_of context))

abbrev good : Claim
good = record { item = ItemGood; statement = StatementGood; arm = ArmGood; branch = BranchGood; co_arm = CoArmGood }

items_good : (scene : Scene) (context : Context) (items : List (Known ItemGood))
    → ErrorFree (in_order (map block_item_read (map (λ e. e.0) items)) context).found
    → IsTrue (block_allowed (block_made (map (core_block_item scene) (map (λ e. e.0) items))).made (enclosing_of context))
items_good scene context [] whole = refl
items_good scene context (item ∷ items) whole =
    block_appended (enclosing_of context) (core_block_item scene item.0).made (block_made (map (core_block_item scene) (map (λ e. e.0) items))).made
    (item.1 scene context (error_free_first (block_item_read item.0 context).found _ whole))
    (items_good scene (with_facts context (block_item_read item.0 context).facts) items (error_free_second (block_item_read item.0 context).found _ whole))

branches_good : (scene : Scene) (context : Context) (branches : List (Known BranchGood))
    → ErrorFree (in_order (map branch_read (map (λ e. e.0) branches)) context).found
    → IsTrue (all_allowed (map guarded_is_allowed (all_made (map (core_branch scene) (map (λ e. e.0) branches)))) (enclosing_of context))
branches_good scene context [] whole = refl
branches_good scene context (branch ∷ branches) whole =
    both (guarded_is_allowed (core_branch scene branch.0).made (enclosing_of context)) _
    (branch.1 scene context (error_free_first (branch_read branch.0 context).found _ whole))
    (branches_good scene (with_facts context (branch_read branch.0 context).facts) branches (error_free_second (branch_read branch.0 context).found _ whole))

co_arms_good : (scene : Scene) (context : Context) (span : Span) (arms : List (Known CoArmGood))
    → ErrorFree (in_order (co_arms_at span (map co_arm_read (map (λ e. e.0) arms))) context).found
    → IsTrue (all_allowed (map arm_is_allowed (all_made (map (core_co_arm scene) (map (λ e. e.0) arms)))) (enclosing_of context))
co_arms_good scene context span [] whole = refl
co_arms_good scene context span (arm ∷ arms) whole =
    both (arm_is_allowed (core_co_arm scene arm.0).made (enclosing_of context)) _
    (arm.1 scene context span (error_free_first (co_arm_read arm.0 span context).found _ whole))
    (co_arms_good scene (with_facts context (co_arm_read arm.0 span context).facts) span arms (error_free_second (co_arm_read arm.0 span context).found _ whole))

arms_good : (scene : Scene) (context : Context) (span : Span) (arms : List (Known ArmGood))
    → ErrorFree (in_order (arms_at span (map arm_read (map (λ e. e.0) arms))) context).found
    → IsTrue (list_all (λ block. all_allowed block (within_arm (enclosing_of context))) (map (map allowed) (blocks_of (map (core_arm scene) (map (λ e. e.0) arms)))))
arms_good scene context span [] whole = refl
arms_good scene context span (arm ∷ arms) whole =
    both (block_allowed (core_arm scene arm.0).made.block (within_arm (enclosing_of context))) _
    (arm.1 scene context span (error_free_first ((arm_read arm.0).steps span context).found _ whole))
    (arms_good scene (with_facts context ((arm_read arm.0).steps span context).facts) span arms (error_free_second ((arm_read arm.0).steps span context).found _ whole))

-- ---- the open trees

statement_good : (y : StatementNode good) (scene : Scene) (context : Context)
    → ErrorFree (from_statement reading (bare_statement good y) context).found
    → IsTrue (allowed (from_statement (making scene) (bare_statement good y)).made (enclosing_of context))
statement_good (Statement-F.Exit span) scene context whole = act_allowed (enclosing_of context) _ _ (rule_met context.in_loop _ _ whole)
statement_good (Statement-F.Next span) scene context whole = act_allowed (enclosing_of context) _ _ (rule_met context.in_loop _ _ whole)
statement_good (Statement-F.Reply span) scene context whole = act_allowed (enclosing_of context) _ _ (rule_met (may_reply context.serving) _ _ whole)
statement_good (Statement-F.Call span with_call invocation) scene context whole =
    invocation_allowed scene (enclosing_of context) span invocation (function_called scene.facts invocation)
statement_good (Statement-F.Forward span invocation) scene context whole =
    let called = infer_invocation invocation context.facts in
    act_allowed (enclosing_of context) _ _
    (rule_met (is_serving context.serving) BadUse span
    (error_free_first (broken_unless (is_serving context.serving) BadUse span) _
    (error_free_second (invoked_found context.facts span true called.callee.typed_expr (typed_exprs_of called.arguments)) _ (error_free_second (parts_found called) _ whole))))
statement_good (Statement-F.Receive span operation places) scene context whole = receive_allowed scene (enclosing_of context) span (meant_by scene.facts operation) places
statement_good (Statement-F.If span branches None) scene context whole =
    rolled (enclosing_of context) _ (Core-F.If (line_of span) (all_made (map (core_branch scene) (map (λ e. e.0) branches))) []) (core.rolls-If _ _ _)
    (both _ true (branches_good scene context branches (error_free_first (in_order (map branch_read (map (λ e. e.0) branches)) context).found _ whole)) refl)
statement_good (Statement-F.If span branches (Some otherwise)) scene context whole =
    let first = in_order (map branch_read (map (λ e. e.0) branches)) context in
    rolled (enclosing_of context) _
    (Core-F.If (line_of span) (all_made (map (core_branch scene) (map (λ e. e.0) branches))) (block_made (map (core_block_item scene) (map (λ e. e.0) otherwise))).made) (core.rolls-If _ _ _)
    (both _ _ (branches_good scene context branches (error_free_first first.found _ whole)) (items_good scene (with_facts context first.facts) otherwise (error_free_second first.found _ whole)))
statement_good (Statement-F.Do span branches None) scene context whole =
    rolled (enclosing_of context) _ (Core-F.Do (line_of span) (all_made (map (core_branch scene) (map (λ e. e.0) branches))) None) (core.rolls-Do _ _ _)
    (both _ true (branches_good scene (looping context) branches (error_free_first (in_order (map branch_read (map (λ e. e.0) branches)) (looping context)).found _ whole)) refl)
statement_good (Statement-F.Do span branches (Some otherwise)) scene context whole =
    let first = in_order (map branch_read (map (λ e. e.0) branches)) (looping context) in
    rolled (enclosing_of context) _
    (Core-F.Do (line_of span) (all_made (map (core_branch scene) (map (λ e. e.0) branches))) (Some (block_made (map (core_block_item scene) (map (λ e. e.0) otherwise))).made)) (core.rolls-Do _ _ _)
    (both _ _ (branches_good scene (looping context) branches (error_free_first first.found _ whole)) (items_good scene (with_facts (looping context) first.facts) otherwise (error_free_second first.found _ whole)))
statement_good (Statement-F.ForAll span quantifiers block) scene context whole =
    rolled (enclosing_of context) _ (Core-F.Fa (line_of span) (quantifiers_core scene quantifiers) (block_made (map (core_block_item scene) (map (λ e. e.0) block))).made) (core.rolls-Fa _ _ _)
    (items_good scene (looping (with_facts context (quantifiers_known context.facts quantifiers))) block (error_free_second (quantifiers_found context.facts quantifiers) _ whole))
statement_good (Statement-F.In span arms None) scene context whole =
    let after_first = error_free_second (mixture_found context.facts span (map arm_read (map (λ e. e.0) arms))) _ whole in
    rolled (enclosing_of context) _ (Core-F.In (line_of span) (site_number scene (spot_of span)) (blocks_of (map (core_arm scene) (map (λ e. e.0) arms))) []) (core.rolls-In _ _ _ _)
    (both _ true (arms_good scene context span arms (error_free_first (in_order (arms_at span (map arm_read (map (λ e. e.0) arms))) context).found _ after_first)) refl)
statement_good (Statement-F.In span arms (Some otherwise)) scene context whole =
    let after_first = error_free_second (mixture_found context.facts span (map arm_read (map (λ e. e.0) arms))) _ whole in
    let first = in_order (arms_at span (map arm_read (map (λ e. e.0) arms))) context in
    rolled (enclosing_of context) _
    (Core-F.In (line_of span) (site_number scene (spot_of span)) (blocks_of (map (core_arm scene) (map (λ e. e.0) arms))) (block_made (map (core_block_item scene) (map (λ e. e.0) otherwise))).made) (core.rolls-In _ _ _ _)
    (both _ _ (arms_good scene context span arms (error_free_first first.found _ after_first)) (items_good scene (with_facts context first.facts) otherwise (error_free_second first.found _ after_first)))
statement_good (Statement-F.Co span arms) scene context whole =
    rolled (enclosing_of context) _ (Core-F.Co (line_of span) (all_made (map (core_co_arm scene) (map (λ e. e.0) arms)))) (core.rolls-Co _ _) (co_arms_good scene context span arms whole)
statement_good _ scene context whole = act_allowed (enclosing_of context) _ _ refl

-- ---- arms, branches and items

-- declarations are allowed everywhere
declared_allowed : (enclosing : Enclosing) (scope : Scope) (place : Place) (scene : Scene) (spot : Spot) (setup : Setup) → IsTrue (allowed (declare scene scope place spot setup) enclosing)
declared_allowed enclosing scope place scene spot setup = rolled enclosing _ (Core-F.Declare _ _) (core.rolls-Declare _ _) refl

typed_allowed : (enclosing : Enclosing) (scene : Scene) (scope : Scope) (place : Place) (ty : TypeTree) (decls : List Decl) (values : List Expr)
    → IsTrue (block_allowed (typed_vars scene scope place ty decls values) enclosing)
typed_allowed enclosing scene scope place ty [] values = refl
typed_allowed enclosing scene scope place ty (decl ∷ decls) values =
    both (allowed (declare scene scope place (spot_named decl.name) (typed scene decl ty (first_of values))) enclosing) _
    (declared_allowed enclosing scope place scene _ _)
    (typed_allowed enclosing scene scope place ty decls (after_first values))

untyped_allowed : (enclosing : Enclosing) (scene : Scene) (scope : Scope) (place : Place) (decls : List Decl) (values : List Expr)
    → IsTrue (block_allowed (untyped_vars scene scope place decls values) enclosing)
untyped_allowed enclosing scene scope place [] values = refl
untyped_allowed enclosing scene scope place (decl ∷ decls) [] = refl
untyped_allowed enclosing scene scope place (decl ∷ decls) (value ∷ values) =
    both (allowed (declare scene scope place (spot_named decl.name) (untyped scene (spot_named decl.name) value)) enclosing) _
    (declared_allowed enclosing scope place scene _ _)
    (untyped_allowed enclosing scene scope place decls values)

pub const_allowed : (enclosing : Enclosing) (scene : Scene) (scope : Scope) (constant : ConstDecl) → IsTrue (block_allowed (const_core scene scope constant) enclosing)
const_allowed enclosing scene scope constant = by (is_constant scene.facts (spot_named constant.name))
  where
    by : (static : Bool)
        → IsTrue (block_allowed (if static then [] else (declare scene scope (line_of constant.span) (spot_named constant.name) (untyped scene (spot_named constant.name) constant.value) ∷ [])) enclosing)
    by true = refl
    by false = both _ true (declared_allowed enclosing scope (line_of constant.span) scene _ _) refl

pub var_allowed : (enclosing : Enclosing) (scene : Scene) (scope : Scope) (variables : VarDecl) → IsTrue (block_allowed (var_core scene scope variables) enclosing)
var_allowed enclosing scene scope variables = by variables.ty
  where
    by : (ty : Option TypeTree) → IsTrue (block_allowed (var_core scene scope (record variables { ty = ty })) enclosing)
    by None = untyped_allowed enclosing scene scope (line_of variables.span) variables.decls variables.values
    by (Some ty) = typed_allowed enclosing scene scope (line_of variables.span) ty variables.decls variables.values

item_good : (y : ItemNode good) (scene : Scene) (context : Context)
    → ErrorFree (from_item reading (bare_item good y) context).found
    → IsTrue (block_allowed (from_item (making scene) (bare_item good y)).made (enclosing_of context))
item_good (BlockItem-F.Const constant) scene context whole = const_allowed (enclosing_of context) scene Own constant
item_good (BlockItem-F.Var variables) scene context whole = var_allowed (enclosing_of context) scene Own variables
item_good (BlockItem-F.Statement statement) scene context whole =
    both (allowed (core_statement scene statement.0).made (enclosing_of context)) true (statement.1 scene context whole) refl

-- the service of an arm is there to be answered
arm_good : (y : ArmNode good) (scene : Scene) (context : Context) (span : Span)
    → ErrorFree ((from_arm reading (bare_arm good y)).steps span context).found
    → IsTrue (block_allowed (from_arm (making scene) (bare_arm good y)).made.block (within_arm (enclosing_of context)))
arm_good y scene context span whole =
    items_good scene (arm_context context (spot_of y.operation.span) y.formals y.returned (operation_named context.facts y.operation)) y.block
    (error_free_second (guards_found (arm_context context (spot_of y.operation.span) y.formals y.returned (operation_named context.facts y.operation)).facts y.condition y.order) _
    (error_free_second (head_found context.facts context.procs span y.formals (is_some y.returned) (operation_named context.facts y.operation)) _ whole))

branch_good : (y : BranchNode good) (scene : Scene) (context : Context)
    → ErrorFree (from_branch reading (bare_branch good y) context).found
    → IsTrue (guarded_is_allowed (from_branch (making scene) (bare_branch good y)).made (enclosing_of context))
branch_good y scene context whole =
    subst (λ rule. IsTrue (rule (enclosing_of context))) (sym (fold-roll-Guarded Rule Rule Rule statement_allowed co_arm_allowed guarded_allowed _))
    (items_good scene context y.block (error_free_second (expr_with condition_rule context.facts y.guard) _ whole))

co_arm_by : (y : CoArmNode good) (block : Option (List (Known ItemGood))) (scene : Scene) (context : Context) (at : Span)
    → ErrorFree (from_co_arm reading (bare_co_arm good (record y { block = block })) at context).found
    → IsTrue (co_arm_allowed (opened_arm (out-CoArm (from_co_arm (making scene) (bare_co_arm good (record y { block = block }))).made)) (enclosing_of context))
co_arm_by y None scene context at whole = refl
co_arm_by y (Some items) scene context at whole =
    let known = quantifiers_known context.facts y.quantifiers in
    items_good scene (looping (with_facts context known)) items
    (error_free_second (started_found known at y.target (infer_invocation y.invocation known)) _ (error_free_second (quantifiers_found context.facts y.quantifiers) _ whole))

co_arm_good : (y : CoArmNode good) (scene : Scene) (context : Context) (span : Span)
    → ErrorFree (from_co_arm reading (bare_co_arm good y) span context).found
    → IsTrue (arm_is_allowed (from_co_arm (making scene) (bare_co_arm good y)).made (enclosing_of context))
co_arm_good y scene context span whole =
    subst (λ rule. IsTrue (rule (enclosing_of context))) (sym (fold_roll_core_arm Rule Rule Rule statement_allowed co_arm_allowed guarded_allowed _))
    (co_arm_by y y.block scene context span whole)

-- ---- all trees

by_parts : ByParts good
by_parts = record {
  item = λ y scene context. subst (λ t. t) (λ i. ErrorFree (item_folds reading (bare_item good y) i context).found → IsTrue (block_allowed (item_folds (making scene) (bare_item good y) i).made (enclosing_of context))) (item_good y scene context);
  statement = λ y scene context. subst (λ t. t) (λ i. ErrorFree (statement_folds reading (bare_statement good y) i context).found → IsTrue (allowed (statement_folds (making scene) (bare_statement good y) i).made (enclosing_of context))) (statement_good y scene context);
  arm = λ y scene context span. subst (λ t. t) (λ i. ErrorFree ((arm_folds reading (bare_arm good y) i).steps span context).found → IsTrue (block_allowed (arm_folds (making scene) (bare_arm good y) i).made.block (within_arm (enclosing_of context)))) (arm_good y scene context span);
  branch = λ y scene context. subst (λ t. t) (λ i. ErrorFree (branch_folds reading (bare_branch good y) i context).found → IsTrue (guarded_is_allowed (branch_folds (making scene) (bare_branch good y) i).made (enclosing_of context))) (branch_good y scene context);
  co_arm = λ y scene context span. subst (λ t. t) (λ i. ErrorFree (co_arm_folds reading (bare_co_arm good y) i span context).found → IsTrue (arm_is_allowed (co_arm_folds (making scene) (bare_co_arm good y) i).made (enclosing_of context))) (co_arm_good y scene context span);
}

pub statement_is_allowed : (tree : Statement) → StatementGood tree
statement_is_allowed = each_statement good by_parts
