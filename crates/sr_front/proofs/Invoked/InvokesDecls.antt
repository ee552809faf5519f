-- Where no rule is broken in a declaration, what is invoked in its core passes.
use Rattle.std.proofs.Common.{◌≡◌, ℕ, Bool, true, List, Option, Some, None, IsTrue, length, refl, sym, subst, flat_map}
use Rattle.std.proofs.lemmas.Bool.{and_from}
use Rattle.sr_value.specs.declared.place.Span.{Span}
use Rattle.sr_check.proofs.Each.{Each}
use Rattle.sr_check.proofs.ErrorFree.{error_free_first}
use Rattle.sr_check.specs.ErrorFree.{ErrorFree}
use Rattle.sr_check_decl.specs.Constants.{const_found}
use Rattle.sr_check_decl.specs.Declarations.{sems_found}
use Rattle.sr_check_decl.specs.Variables.{var_found}
use Rattle.sr_check_expr.specs.declared.facts.Facts.{Facts}
use Rattle.sr_check_expr.specs.Exprs.{infer_expr}
use Rattle.sr_check_expr.specs.Typings.{value_found, valued}
use Rattle.sr_core.specs.declared.component.Operation.{Operation}
use Rattle.sr_core.specs.declared.expression.Expr.{Expr as CoreExpr}
use Rattle.sr_core.specs.declared.expression.Expr.TheVariants as core
use Rattle.sr_core.specs.declared.expression.Leaf.TheVariants as leaf
use Rattle.sr_core.specs.declared.statement.Scope.{Scope}
use Rattle.sr_core.specs.declared.statement.DimsExpr.{DimsExpr}
use Rattle.sr_core.specs.declared.statement.DimsExpr.TheVariants as dims
use Rattle.sr_core.specs.declared.statement.Setup.{Setup}
use Rattle.sr_core.specs.Tests.{if_some}
use Rattle.sr_desugar.specs.Declarations.{const_core, int_constant, var_core}
use Rattle.sr_desugar.specs.Statements.{semaphores_core}
use Rattle.sr_lower_expr.specs.declared.scene.Scene.{Scene}
use Rattle.sr_lower_expr.specs.Expressions.{core_value}
use Rattle.sr_lower_expr.specs.Places.{nothing, operation_expr, operation_number, whose_by}
use Rattle.sr_names.specs.declared.spot.Spot.{Spot}
use Rattle.sr_tables.specs.Parts.{spot_named}
use Rattle.sr_tables.specs.Tables.{found_at}
use Rattle.sr_tree.specs.declared.declaration.ConstDecl.{ConstDecl}
use Rattle.sr_tree.specs.declared.declaration.Semaphore.{Semaphore}
use Rattle.sr_tree.specs.declared.declaration.VarDecl.{VarDecl}
use Rattle.sr_tree.specs.declared.expr.Expr.{Expr}
use Rattle.sr_front.specs.Invocations.{InvocationTest, dims_invoke, expr_invokes, expr_seen, item_invokes, setup_invokes, target_passes}
use Rattle.sr_front.proofs.Invoked.InvokesExprs.{expr_value_invokes}
use Rattle.sr_front.proofs.Invoked.InvokesMet.{Allowed}
use Rattle.sr_front.proofs.Invoked.InvokesNames.{leaf_names}
use Rattle.sr_front.proofs.Invoked.InvokesTargets.{Reads}
use Rattle.sr_front.proofs.Invoked.InvokesRules.{AllInvoke, declare_rule, leaf_rule, nothing_invokes, sends_rule}
use Rattle.sr_core.specs.declared.statement.ItemShape.{ItemShape}
use Rattle.sr_core.specs.declared.statement.ItemShape.TheVariants as item
use Rattle.sr_core.specs.declared.statement.Setup.TheVariants as setup
use Rattle.sr_names.specs.Spots.{spot_of}
use Rattle.sr_order.specs.Names.{const_names, expr_names, semaphore_names, var_names}
use Rattle.sr_front.proofs.Invoked.InvokesMade.{invocation_tests}
use Rattle.sr_front.proofs.Known.KeptNames.{Anywhere, all_fit}
use Rattle.sr_front.proofs.Made.MadeDecls.{DeclRules, DimsFit, ItemFits, SetupFits, const_passes, semaphores_pass, vars_pass}

-- an operation that may be sent to with this many arguments
pub record SentTo (scene : Scene) (spot : Spot) (args : ℕ) : Type 0 where
  pub operation : Operation
  pub at : found_at scene.tables.operations spot ≡ Some operation
  pub may : operation.can_send ≡ true
  pub count : length operation.parameters ≡ args

module _ (test : InvocationTest) (scene : Scene) (allowed : Allowed test scene) where
  pub int_invokes : (number : ℕ) → IsTrue (expr_invokes test (int_constant number))
  int_invokes number = leaf_rule test _

  abbrev operation_found : Spot → Option Operation → CoreExpr
  operation_found spot None = nothing
  operation_found spot (Some operation) = core.Leaf (leaf.Operation (whose_by scene operation.scope operation.component) (operation_number scene spot))

  -- what is sent to the operation that is declared at a spot passes
  pub own_invokes : (spot : Spot) (args : ℕ) → SentTo scene spot args → IsTrue (target_passes test.sends (expr_seen test (operation_expr scene spot)) args)
  own_invokes spot args sent =
      let named = leaf.Operation (whose_by scene sent.operation.scope sent.operation.component) (operation_number scene spot) in
      let passes = subst (λ (n : ℕ). IsTrue (test.sends (operation_number scene spot) n)) sent.count (allowed.sends (operation_number scene spot) sent.operation (allowed.ends spot sent.operation sent.at).numbered sent.may) in
      subst (λ (found : Option Operation). IsTrue (target_passes test.sends (expr_seen test (operation_found spot found)) args)) (sym sent.at)
      (and_from _ _ (leaf_rule test named) (subst (λ (found : Option ℕ). IsTrue (if_some (λ operation. test.sends operation args) found)) (sym (leaf_names test named)) passes))

  abbrev Sent : Spot → Type 0
  Sent spot = SentTo scene spot 0

  dims_by : (one : DimsExpr) → DimsFit (invocation_tests test) one → IsTrue (dims_invoke test one)
  dims_by dims.None fits = refl
  dims_by (dims.One range) fits = and_from _ _ fits.0 fits.1
  dims_by (dims.Two range second) fits = and_from _ _ (and_from _ _ fits.0.0 fits.0.1) (and_from _ _ fits.1.0 fits.1.1)

  item_by : (one : ItemShape) → ItemFits (invocation_tests test) one → IsTrue (item_invokes test one)
  item_by (item.Fixed shape) fits = refl
  item_by (item.Str most) fits = fits

  setup_by : (one : Setup) → SetupFits (invocation_tests test) one → IsTrue (setup_invokes test one)
  setup_by (setup.Typed shape value) fits = and_from _ _ (and_from _ _ (dims_by shape.dims fits.0.0) (item_by shape.item fits.0.1)) fits.1
  setup_by (setup.Untyped shape value) fits = fits

  decl_rules : DeclRules scene (invocation_tests test) Sent
  decl_rules = record {
    int = int_invokes 1;
    none = nothing_invokes test;
    declare_rule = λ place declaration fits. declare_rule test place declaration (setup_by declaration.setup fits);
    sends_rule = λ place spot count sent ok. sends_rule test place (operation_expr scene spot) count (own_invokes spot 0 sent) ok;
  }

  module _ (facts : Facts) (reads : Reads test scene facts) where
    abbrev AnyName : Span → Type 0
    AnyName span = Anywhere (spot_of span)

    valued_invokes : (tree : Expr) → Each AnyName (expr_names tree) → ErrorFree (valued (infer_expr tree facts)) → IsTrue (expr_invokes test (core_value scene tree))
    valued_invokes tree any whole = expr_value_invokes test scene allowed facts reads tree (error_free_first (infer_expr tree facts).found (value_found (infer_expr tree facts).typed_expr) whole)

    pub var_invokes : (scope : Scope) (variables : VarDecl) → ErrorFree (var_found facts variables) → AllInvoke test (var_core scene scope variables)
    var_invokes scope variables = vars_pass scene (invocation_tests test) Sent decl_rules facts AnyName valued_invokes scope variables (all_fit spot_of (var_names variables))

    pub const_invokes : (in_spec : Bool) (scope : Scope) (constant : ConstDecl) → ErrorFree (const_found in_spec facts constant) → AllInvoke test (const_core scene scope constant)
    const_invokes in_spec scope constant = const_passes scene (invocation_tests test) Sent decl_rules facts AnyName valued_invokes in_spec scope constant (all_fit spot_of (const_names constant))

    pub semaphores_invoke : (span : Span) (semaphores : List Semaphore) → Each (λ semaphore. SentTo scene (spot_named semaphore.name) 0) semaphores → ErrorFree (sems_found facts semaphores)
        → AllInvoke test (semaphores_core scene span semaphores)
    semaphores_invoke span semaphores = semaphores_pass scene (invocation_tests test) Sent decl_rules facts AnyName valued_invokes span semaphores (all_fit spot_of (flat_map semaphore_names semaphores))
