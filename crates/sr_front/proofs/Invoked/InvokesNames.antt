-- Expressions of the core that name an operation, and those that name none.
use Rattle.std.proofs.Common.{◌≡◌, ℕ, Bool, true, false, List, [], ◌∷◌, Option, Some, None, Result, Ok, Err, refl, ap, ◌∙◌}
use Rattle.std.specs.Prelude.{position}
use Rattle.sr_core.specs.declared.component.Operation.{Operation}
use Rattle.sr_core.specs.declared.expression.Argument.{Argument}
use Rattle.sr_core.specs.declared.expression.Argument.TheFolds.{map-Expr}
use Rattle.sr_core.specs.declared.expression.Argument.TheOpen.{Expr-F}
use Rattle.sr_core.specs.declared.expression.Expr.{Expr, roll-Expr}
use Rattle.sr_core.specs.declared.expression.Expr.TheVariants as core
use Rattle.sr_core.specs.declared.expression.Function.{Function}
use Rattle.sr_core.specs.declared.expression.Leaf.{Leaf}
use Rattle.sr_core.specs.declared.expression.Leaf.TheVariants as leaf
use Rattle.sr_core.specs.declared.expression.Part.{Part}
use Rattle.sr_core.specs.declared.expression.PlaceExpr.{PlaceExpr}
use Rattle.sr_core.specs.declared.expression.Reading.{Reading}
use Rattle.sr_core.specs.declared.expression.Step.{Step}
use Rattle.sr_check_expr.specs.declared.typed_expr.Named.{Named}
use Rattle.sr_check_expr.specs.declared.typed_expr.Named.TheVariants as named
use Rattle.sr_lower_expr.specs.declared.scene.Lowered.{Lowered}
use Rattle.sr_lower_expr.specs.declared.scene.Lowered.TheVariants as lowered
use Rattle.sr_lower_expr.specs.declared.scene.Scene.{Scene}
use Rattle.sr_lower_expr.specs.Expressions.{LoweredInvocation, call_core, constant_or_nothing, end_or_nothing, end_value, ends_core, function_core, instance_core, lowered_of, trees_of}
use Rattle.sr_lower_expr.specs.Operators.{binary_core}
use Rattle.sr_lower_expr.specs.Places.{naming, nothing, operation_at, operation_number, part_of, value_of}
use Rattle.sr_lower_expr.specs.Shapes.{shape_of_type}
use Rattle.sr_names.specs.declared.predefined.Predefined.{Predefined}
use Rattle.sr_names.specs.declared.predefined.Predefined.TheVariants.{Read, Abs, Min, Max, Low, High, Lb, Ub, Length, Pred, Succ, MyResource, MyVm}
use Rattle.sr_names.specs.declared.spot.Spot.{Spot}
use Rattle.sr_names.specs.Spots.{same_spot}
use Rattle.sr_tree.specs.declared.expr.BinaryOperator.{BinaryOperator}
use Rattle.sr_tree.specs.declared.expr.BinaryOperator.TheVariants as binary
use Rattle.sr_tree.specs.declared.expr.Expr.{Expr as Tree}
use Rattle.sr_types.specs.declared.ty.Ty.{Ty}
use Rattle.sr_value.specs.declared.fault.Fault.{Fault}
use Rattle.sr_value.specs.declared.operator.Operator.{Operator}
use Rattle.sr_value.specs.declared.value.Value.{Value}
use Rattle.sr_front.specs.Invocations.{InvocationTest, Seen, argument_invokes, expr_seen, leaf_operation, node_operation, place_invokes}
use Rattle.sr_front.proofs.Invoked.InvokesRules.{part_invokes, reading_invokes, seen_of, step_invokes}

module _ (test : InvocationTest) where
  abbrev pub Nameless : Expr → Type 0
  Nameless expr = (expr_seen test expr).operation ≡ None

  by_node : (node : Expr-F Argument Expr Part Step PlaceExpr Reading) (expr : Expr) → roll-Expr node ≡ expr
      → node_operation (map-Expr Argument Expr Part Step PlaceExpr Reading Bool Seen Bool Bool Bool Bool (argument_invokes test) (expr_seen test) (part_invokes test) (step_invokes test) (place_invokes test) (reading_invokes test) node) ≡ None
      → Nameless expr
  by_node node expr is none = ap (λ (seen : Seen). seen.operation) (seen_of test node expr is) ∙ none

  pub leaf_names : (leaf : Leaf) → (expr_seen test (core.Leaf leaf)).operation ≡ leaf_operation leaf
  leaf_names leaf = ap (λ (seen : Seen). seen.operation) (seen_of test (Expr-F.Leaf leaf) (core.Leaf leaf) (core.rolls-Leaf leaf))

  pub member_names : (of : Expr) (op : ℕ) → (expr_seen test (core.Member of op)).operation ≡ Some op
  member_names of op = ap (λ (seen : Seen). seen.operation) (seen_of test (Expr-F.Member of op) (core.Member of op) (core.rolls-Member of op))

  pub load_nameless : (place : PlaceExpr) → Nameless (core.Load place)
  load_nameless place = by_node (Expr-F.Load place) (core.Load place) (core.rolls-Load place) refl

  pub nothing_nameless : Nameless nothing
  nothing_nameless = leaf_names (leaf.Constant _)

  pub apply_nameless : (function : Function) (args : List Expr) → Nameless (core.Apply function args)
  apply_nameless function args = by_node (Expr-F.Apply function args) (core.Apply function args) (core.rolls-Apply function args) refl

  pub unary_nameless : (op : Operator) (operand : Expr) → Nameless (core.Unary op operand)
  unary_nameless op operand = by_node (Expr-F.Unary op operand) (core.Unary op operand) (core.rolls-Unary op operand) refl

  pub array_nameless : (parts : List Part) → Nameless (core.Array parts)
  array_nameless parts = by_node (Expr-F.Array parts) (core.Array parts) (core.rolls-Array parts) refl

  pub binary_nameless : (operator : BinaryOperator) (left right : Expr) → Nameless (binary_core operator left right)
  binary_nameless binary.And left right = by_node (Expr-F.And left right) (core.And left right) (core.rolls-And left right) refl
  binary_nameless binary.Or left right = by_node (Expr-F.Or left right) (core.Or left right) (core.rolls-Or left right) refl
  binary_nameless operator left right = by_node (Expr-F.Binary _ left right) (core.Binary _ left right) (core.rolls-Binary _ left right) refl

  pub part_nameless : (one : Lowered) (step : Step) → Nameless (value_of (part_of one step))
  part_nameless (lowered.Place place) step = load_nameless _
  part_nameless (lowered.Value value) step = by_node (Expr-F.Of value step) (core.Of value step) (core.rolls-Of value step) refl

  pub constant_nameless : (written : Option Value) → Nameless (constant_or_nothing written)
  constant_nameless None = nothing_nameless
  constant_nameless (Some written) = leaf_names (leaf.Constant written)

  abbrev operation_found : Scene → Spot → (Operation → ℕ → Expr) → Option Operation → Expr
  operation_found scene spot made None = nothing
  operation_found scene spot made (Some operation) = made operation (operation_number scene spot)

  pub naming_nameless : (scene : Scene) (spot : Spot) (made : Operation → ℕ → Expr) → ((operation : Operation) (number : ℕ) → Nameless (made operation number)) → Nameless (naming scene spot made)
  naming_nameless scene spot made each = by (operation_at scene spot)
    where
      by : (found : Option Operation) → Nameless (operation_found scene spot made found)
      by None = nothing_nameless
      by (Some operation) = each operation (operation_number scene spot)

  module _ (scene : Scene) where
    ended : (end : Result Value Fault) → Nameless (end_or_nothing end)
    ended (Ok end) = leaf_names (leaf.Constant end)
    ended (Err fault) = nothing_nameless

    ends_nameless : (is_high : Bool) (types : List Ty) → Nameless (ends_core scene is_high types)
    ends_nameless is_high [] = nothing_nameless
    ends_nameless is_high (ty ∷ types) = ended (end_value is_high (shape_of_type scene.tables.shapes ty))

    function_nameless : (name : Predefined) (trees : List Tree) (all : List Lowered) → Nameless (function_core scene name trees all)
    function_nameless Abs trees all = apply_nameless _ _
    function_nameless Min trees all = apply_nameless _ _
    function_nameless Max trees all = apply_nameless _ _
    function_nameless Low trees all = ends_nameless false _
    function_nameless High trees all = ends_nameless true _
    function_nameless Lb trees all = apply_nameless _ _
    function_nameless Ub trees all = apply_nameless _ _
    function_nameless Length trees all = apply_nameless _ _
    function_nameless Pred trees all = apply_nameless _ _
    function_nameless Succ trees all = apply_nameless _ _
    function_nameless MyResource trees all = leaf_names leaf.MyResource
    function_nameless MyVm trees all = leaf_names leaf.MyMachine
    function_nameless Read trees all = by_node (Expr-F.Read _) (core.Read _) (core.rolls-Read _) refl
    function_nameless _ trees all = nothing_nameless

    pub call_nameless : (sending : LoweredInvocation) (what : Named) → Nameless (call_core scene sending what)
    call_nameless sending (named.Predefined name) = function_nameless name (trees_of sending.arguments) (lowered_of sending.arguments)
    call_nameless sending (named.«Type» ty) = apply_nameless _ _
    call_nameless sending _ = by_node (Expr-F.Call _ _ _) (core.Call _ _ _) (core.rolls-Call _ _ _) refl

    abbrev instance_by : List Expr → Expr → Option ℕ → Expr
    instance_by args machine None = nothing
    instance_by args machine (Some component) = core.Create component args machine

    pub instance_nameless : (spot : Spot) (args : List Expr) (machine : Expr) → Nameless (instance_core scene spot args machine)
    instance_nameless spot args machine = by (position (same_spot spot) scene.tables.components)
      where
        by : (found : Option ℕ) → Nameless (instance_by args machine found)
        by None = nothing_nameless
        by (Some number) = by_node (Expr-F.Create number args machine) (core.Create number args machine) (core.rolls-Create number args machine) refl
