-- Each number in what declarations are in the core names something.
use Rattle.std.proofs.Common.{◌≡◌, ◌<◌, Bool, true, false, ◌&&◌, ℤ, List, [], ◌∷◌, Option, Some, None, IsTrue, length, if◌then◌else◌, option_map, refl, sym, subst, arith}
use Rattle.std.proofs.lemmas.Bool.{and_from, lt-ltb}
use Rattle.std.proofs.lemmas.List.{length-map}
use Rattle.std.specs.List.{list_all}
use Rattle.sr_core.specs.declared.expression.Leaf.TheVariants.{Constant}
use Rattle.sr_core.specs.declared.statement.DimsExpr.{DimsExpr}
use Rattle.sr_core.specs.declared.statement.DimsExpr.TheVariants as dims
use Rattle.sr_core.specs.declared.statement.Scope.{Scope}
use Rattle.sr_core.specs.declared.statement.Scope.TheVariants.{Own, Shared}
use Rattle.sr_core.specs.declared.statement.Setup.{Setup}
use Rattle.sr_core.specs.declared.statement.Statement.{Statement}
use Rattle.sr_core.specs.Numbers.{Where, dims_ok, expr_ok, item_ok, setup_ok, var_ok}
use Rattle.sr_core.specs.Tests.{if_some}
use Rattle.sr_names.specs.declared.spot.Spot.{Spot}
use Rattle.sr_tree.specs.declared.declaration.ConstDecl.{ConstDecl}
use Rattle.sr_tree.specs.declared.declaration.VarDecl.{VarDecl}
use Rattle.sr_tree.specs.declared.expr.Expr.{Expr}
use Rattle.sr_tree.specs.declared.types.Decl.{Decl}
use Rattle.sr_tree.specs.declared.types.DimsTree.{DimsTree}
use Rattle.sr_tree.specs.declared.types.RangeTree.{RangeTree}
use Rattle.sr_tree.specs.declared.types.RangeTree.TheVariants.{Length, Bounds, From, Any}
use Rattle.sr_tree.specs.declared.types.TypeTree.{TypeTree, out-TypeTree}
use Rattle.sr_tree.specs.declared.types.TypeTree.TheOpen.{TypeTree-F}
use Rattle.sr_value.specs.declared.place.Place.{Place}
use Rattle.sr_value.specs.declared.value.Value.TheVariants as value
use Rattle.sr_check_expr.specs.Meanings.{is_constant}
use Rattle.sr_outline.specs.Numbers.{const_names, var_names}
use Rattle.sr_tables.specs.Parts.{line_of, spot_named}
use Rattle.sr_lower_expr.specs.declared.scene.Scene.{Scene}
use Rattle.sr_desugar.specs.Declarations.{after_first, const_core, declare, dims_core, first_of, int_expr, item_core, layer_item, layer_place, maybe_dims, range_core, shape_expr, typed, typed_vars, untyped, untyped_vars, var_core, var_number}
use Rattle.sr_lower_expr.specs.Expressions.{core_value}
use Rattle.sr_lower_expr.specs.Places.{own_number}
use Rattle.sr_lower_expr.proofs.ExprNumbers.{core_value_ok}
use Rattle.sr_lower_expr.proofs.ExprRules.{leaf_rule}
use Rattle.sr_lower_expr.proofs.PlaceNumbers.{Fits, nothing_ok}
use Rattle.sr_desugar.proofs.Room.{Room}
use Rattle.sr_desugar.proofs.StatementRules.{declare_rule, one_ok}
use Rattle.sr_lower_expr.proofs.Within.{number_within}

pub int_ok : (at : Where) (number : ℤ) → IsTrue (expr_ok (int_expr number) at)
int_ok at number = leaf_rule at (Constant (value.Int number)) refl

-- a declaration of this scope has what it declares: own variables, where it is the process's own
abbrev pub RoomFor : Scene → Scope → Type 0
RoomFor scene Own = 0 < length scene.own
RoomFor scene Shared = Unit {0}

abbrev pub dims_found : Scene → RangeTree → Option RangeTree → DimsExpr
dims_found scene first None = dims.One (range_core scene first)
dims_found scene first (Some second) = dims.Two (range_core scene first) (range_core scene second)

module _ (scene : Scene) (at : Where) (fits : Fits scene at) where
  -- ---- types

  value_good : (tree : Expr) → IsTrue (expr_ok (core_value scene tree) at)
  value_good = core_value_ok scene at fits

  range_good : (tree : RangeTree) → IsTrue (expr_ok (range_core scene tree).lo at && expr_ok (range_core scene tree).hi at)
  range_good (Length span length) = and_from _ _ (int_ok at _) (value_good length)
  range_good (Bounds span low high) = and_from _ _ (value_good low) (value_good high)
  range_good (From span low) = and_from _ _ (value_good low) (nothing_ok at)
  range_good (Any span) = and_from _ _ (int_ok at _) (nothing_ok at)

  dims_good : (tree : DimsTree) → IsTrue (dims_ok (dims_core scene tree) at)
  dims_good tree = by tree.second
    where
      by : (second : Option RangeTree) → IsTrue (dims_ok (dims_found scene tree.first second) at)
      by None = range_good tree.first
      by (Some second) = and_from _ _ (range_good tree.first) (range_good second)

  maybe_dims_good : (written : Option DimsTree) → IsTrue (dims_ok (maybe_dims scene written) at)
  maybe_dims_good None = refl
  maybe_dims_good (Some tree) = dims_good tree

  layer_item_good : {B C D : Type 0} (ty : TypeTree) (layer : TypeTree-F TypeTree B C D) → IsTrue (item_ok (layer_item scene ty layer) at)
  layer_item_good ty (TypeTree-F.Str span None) = refl
  layer_item_good ty (TypeTree-F.Str span (Some length)) = value_good length
  layer_item_good ty _ = refl

  item_good : (ty : TypeTree) → IsTrue (item_ok (item_core scene ty) at)
  item_good ty = layer_item_good ty (out-TypeTree ty)

  layer_place_good : {B C D : Type 0} (written : Option DimsTree) (ty : TypeTree) (layer : TypeTree-F TypeTree B C D)
      → IsTrue (dims_ok (layer_place scene written ty layer).dims at && item_ok (layer_place scene written ty layer).item at)
  layer_place_good None ty (TypeTree-F.Array span tree inner) = and_from _ _ (dims_good tree) (item_good inner)
  layer_place_good written ty _ = and_from _ _ (maybe_dims_good written) (item_good ty)

  shape_good : (written : Option DimsTree) (ty : TypeTree) → IsTrue (dims_ok (shape_expr scene written ty).dims at && item_ok (shape_expr scene written ty).item at)
  shape_good written ty = layer_place_good written ty (out-TypeTree ty)

  -- ---- what is set up

  pub maybe_value_ok : (written : Option Expr) → IsTrue (if_some (λ expr. expr_ok expr at) (option_map (core_value scene) written))
  maybe_value_ok None = refl
  maybe_value_ok (Some tree) = value_good tree

  typed_good : (decl : Decl) (ty : TypeTree) (written : Option Expr) → IsTrue (setup_ok (typed scene decl ty written) at)
  typed_good decl ty written = and_from _ _ (shape_good decl.dims ty) (maybe_value_ok written)

  untyped_good : (spot : Spot) (tree : Expr) → IsTrue (setup_ok (untyped scene spot tree) at)
  untyped_good spot tree = value_good tree

  -- ---- names

  pub own_number_ok : (spot : Spot) → 0 < length scene.own → own_number scene spot < at.owns
  own_number_ok spot some =
      let within = number_within scene.own spot some in
      omega (arith, within, fits.owns)

  var_good : (scope : Scope) (spot : Spot) → RoomFor scene scope → IsTrue (var_ok scope (var_number scene scope spot) at)
  var_good Own spot some = lt-ltb (own_number scene spot) at.owns (own_number_ok spot some)
  var_good Shared spot some = refl

  declare_good : (scope : Scope) (place : Place) (spot : Spot) (setup : Setup)
      → RoomFor scene scope → IsTrue (setup_ok setup at) → IsTrue (one_ok (declare scene scope place spot setup) at)
  declare_good scope place spot setup some ok =
      declare_rule at place (record { scope = scope; var = var_number scene scope spot; setup = setup }) (var_good scope spot some) ok

  -- ---- variables

  typed_vars_good : (scope : Scope) (place : Place) (ty : TypeTree) (decls : List Decl) (values : List Expr)
      → (0 < length decls → RoomFor scene scope) → IsTrue (list_all (λ one. one_ok one at) (typed_vars scene scope place ty decls values))
  typed_vars_good scope place ty [] values room = refl
  typed_vars_good scope place ty (decl ∷ decls) values room =
      and_from _ _
      (declare_good scope place (spot_named decl.name) (typed scene decl ty (first_of values)) (room (omega arith)) (typed_good decl ty (first_of values)))
      (typed_vars_good scope place ty decls (after_first values) (λ some. room (omega arith)))

  untyped_vars_good : (scope : Scope) (place : Place) (decls : List Decl) (values : List Expr)
      → (0 < length decls → RoomFor scene scope) → IsTrue (list_all (λ one. one_ok one at) (untyped_vars scene scope place decls values))
  untyped_vars_good scope place [] values room = refl
  untyped_vars_good scope place (decl ∷ decls) [] room = refl
  untyped_vars_good scope place (decl ∷ decls) (value ∷ values) room =
      and_from _ _
      (declare_good scope place (spot_named decl.name) (untyped scene (spot_named decl.name) value) (room (omega arith)) (untyped_good (spot_named decl.name) value))
      (untyped_vars_good scope place decls values (λ some. room (omega arith)))

  abbrev vars_by : Scope → VarDecl → Option TypeTree → List Statement
  vars_by scope variables (Some ty) = typed_vars scene scope (line_of variables.span) ty variables.decls variables.values
  vars_by scope variables None = untyped_vars scene scope (line_of variables.span) variables.decls variables.values

  vars_good : (scope : Scope) (variables : VarDecl) → (0 < length variables.decls → RoomFor scene scope)
      → IsTrue (list_all (λ one. one_ok one at) (var_core scene scope variables))
  vars_good scope variables room = by variables.ty
    where
      by : (ty : Option TypeTree) → IsTrue (list_all (λ one. one_ok one at) (vars_by scope variables ty))
      by (Some ty) = typed_vars_good scope (line_of variables.span) ty variables.decls variables.values room
      by None = untyped_vars_good scope (line_of variables.span) variables.decls variables.values room

  const_good_by : (scope : Scope) (constant : ConstDecl) (b : Bool) → (b ≡ false → RoomFor scene scope)
      → IsTrue (list_all (λ one. one_ok one at) (if b then [] else (declare scene scope (line_of constant.span) (spot_named constant.name) (untyped scene (spot_named constant.name) constant.value) ∷ [])))
  const_good_by scope constant true room = refl
  const_good_by scope constant false room =
      and_from _ _
      (declare_good scope (line_of constant.span) (spot_named constant.name) (untyped scene (spot_named constant.name) constant.value)
      (room refl) (untyped_good (spot_named constant.name) constant.value)) refl

  pub shared_vars_ok : (variables : VarDecl) → IsTrue (list_all (λ one. one_ok one at) (var_core scene Shared variables))
  shared_vars_ok variables = vars_good Shared variables (λ some. tt)

  pub shared_const_ok : (constant : ConstDecl) → IsTrue (list_all (λ one. one_ok one at) (const_core scene Shared constant))
  shared_const_ok constant = const_good_by Shared constant (is_constant scene.facts (spot_named constant.name)) (λ is. tt)

  pub own_vars_ok : (variables : VarDecl) → Room scene (var_names variables) → IsTrue (list_all (λ one. one_ok one at) (var_core scene Own variables))
  unfolding var_names
  own_vars_ok variables room =
      let same = length-map variables.decls (λ decl. spot_named decl.name) in
      vars_good Own variables (λ some. room (subst (λ n. 0 < n) (sym same) some))

  pub own_const_ok : (constant : ConstDecl) → Room scene (const_names scene.facts constant) → IsTrue (list_all (λ one. one_ok one at) (const_core scene Own constant))
  unfolding const_names
  own_const_ok constant room =
      const_good_by Own constant (is_constant scene.facts (spot_named constant.name))
      (λ is. room (subst (λ b. 0 < length (if b then [] else (spot_named constant.name ∷ []))) (sym is) (omega arith)))
