-- Where no rule is broken in a declaration, what is made of it passes, where its values do.
use Rattle.std.proofs.Common.{Bool, true, false, List, [], ◌∷◌, ◌++◌, Option, Some, None, IsTrue, flat_map, if◌then◌else◌, refl, subst}
use Rattle.std.proofs.lemmas.Bool.{and_from}
use Rattle.sr_core.specs.declared.statement.Statement.{Statement}
use Rattle.sr_names.specs.declared.spot.Spot.{Spot}
use Rattle.sr_tree.specs.declared.expr.Expr.{Expr}
use Rattle.sr_value.specs.declared.place.Span.{Span}
use Rattle.sr_check_expr.specs.Meanings.{is_constant}
use Rattle.sr_tables.specs.Lists.{maybe}
use Rattle.sr_tables.specs.Parts.{line_of, spot_named}
use Rattle.sr_lower_expr.specs.declared.scene.Scene.{Scene}
use Rattle.sr_lower_expr.specs.Expressions.{core_value}
use Rattle.sr_lower_expr.specs.Places.{nothing, operation_expr}
use Rattle.sr_desugar.specs.Statements.{semaphore_sends, semaphores_core, value_sends}
use Rattle.sr_core.specs.declared.statement.DimsExpr.{DimsExpr}
use Rattle.sr_core.specs.declared.statement.Scope.{Scope}
use Rattle.sr_core.specs.declared.statement.Setup.{Setup}
use Rattle.sr_tree.specs.declared.declaration.ConstDecl.{ConstDecl}
use Rattle.sr_tree.specs.declared.declaration.Semaphore.{Semaphore}
use Rattle.sr_tree.specs.declared.declaration.VarDecl.{VarDecl}
use Rattle.sr_tree.specs.declared.types.Decl.{Decl}
use Rattle.sr_tree.specs.declared.types.DimsTree.{DimsTree}
use Rattle.sr_tree.specs.declared.types.RangeTree.{RangeTree}
use Rattle.sr_order.specs.Names.{const_names, decl_names, dims_names, expr_names, formal_names, formal_names_step, range_names, returned_names, returned_names_step, semaphore_names, signature_names, signature_names_step, type_names, type_names_step, var_names, where_some}
use Rattle.sr_tree.specs.declared.types.Formal.{Formal}
use Rattle.sr_tree.specs.declared.types.Returned.{Returned}
use Rattle.sr_tree.specs.declared.types.Signature.{Signature}
use Rattle.sr_tree.specs.declared.types.TypeTree.TheFolds.{fold_out-TypeTree, map-TypeTree}
use Rattle.sr_tree.specs.declared.types.TypeTree.{TypeTree, out-TypeTree}
use Rattle.sr_tree.specs.declared.types.TypeTree.TheOpen.{TypeTree-F}
use Rattle.sr_value.specs.declared.place.Place.{Place}
use Rattle.sr_desugar.specs.Declarations.{after_first, const_core, declare, dims_core, first_of, item_core, layer_item, layer_place, maybe_dims, range_core, typed, typed_vars, untyped, untyped_vars, var_core, var_number, int_constant}
use Rattle.sr_check.proofs.Each.{each-left, each-right, Each}
use Rattle.sr_lower_expr.proofs.Each.{both_pass}
use Rattle.sr_check.proofs.ErrorFree.{error_free_first, error_free_second, error_free_both}
use Rattle.sr_check.specs.ErrorFree.{ErrorFree}
use Rattle.sr_check_decl.specs.declared.kind.BoundPolicy.{BoundPolicy}
use Rattle.sr_check_decl.specs.declared.kind.Kind.{Kind}
use Rattle.sr_check_decl.specs.Constants.{const_found, written_found}
use Rattle.sr_check_decl.specs.Declarations.{initial_found, sems_found}
use Rattle.sr_check_decl.specs.TypeTrees.{Kinds, Kinding, ReadsFormals, ReadsReturned, ReadsSignature, bound_found, decl_found, decls_found, dims_found, formal_read, formal_step, free_bounds, range_found, returned_read, returned_step, second_range_found, signature_read, signature_step, type_kinding, type_step}
use Rattle.sr_check_decl.specs.Variables.{typings_of, var_found, var_rules_found}
use Rattle.sr_check_expr.specs.declared.facts.Facts.{Facts}
use Rattle.sr_check_expr.specs.Arguments.{all_found, all_valued}
use Rattle.sr_check_expr.specs.Exprs.{infer_expr}
use Rattle.sr_check_expr.specs.Typings.{typed_exprs_of, value_found, valued}
use Rattle.sr_core.specs.declared.statement.DimsExpr.TheVariants as dims
use Rattle.sr_tree.specs.declared.types.RangeTree.TheVariants as range
use Rattle.std.specs.Option.{option_map}
use Rattle.sr_core.specs.declared.expression.Expr.{Expr as CoreExpr}
use Rattle.sr_core.specs.declared.statement.Declaration.{Declaration}
use Rattle.sr_core.specs.declared.statement.ItemShape.{ItemShape}
use Rattle.sr_core.specs.declared.statement.ItemShape.TheVariants as item
use Rattle.sr_core.specs.declared.statement.Range.{Range}
use Rattle.sr_core.specs.declared.statement.Setup.TheVariants as setup
use Rattle.sr_core.specs.declared.statement.Statement.TheVariants as written
use Rattle.sr_core.specs.Tests.{if_some}
use Rattle.sr_front.proofs.Made.MadeTests.{AllOne, MadeTests}
use Rattle.sr_desugar.proofs.DeclNumbers.{dims_found as dims_by}

module _ (tests : MadeTests) where
  abbrev pub RangeFits : Range → Type 0
  RangeFits range = IsTrue (tests.expr range.lo) × IsTrue (tests.expr range.hi)

  abbrev pub DimsFit : DimsExpr → Type 0
  DimsFit dims.None = Unit {0}
  DimsFit (dims.One range) = RangeFits range
  DimsFit (dims.Two range second) = RangeFits range × RangeFits second

  abbrev pub ItemFits : ItemShape → Type 0
  ItemFits (item.Fixed shape) = Unit {0}
  ItemFits (item.Str most) = IsTrue (tests.expr most)

  abbrev pub SetupFits : Setup → Type 0
  SetupFits (setup.Typed shape value) = (DimsFit shape.dims × ItemFits shape.item) × IsTrue (if_some tests.expr value)
  SetupFits (setup.Untyped shape value) = IsTrue (tests.expr value)

-- A declaration passes where its parts do, and so does what is sent to an operation that may be sent to.
pub record DeclRules (scene : Scene) (tests : MadeTests) (Sent : Spot → Type 0) : Type 0 where
  pub int : IsTrue (tests.expr (int_constant 1))
  pub none : IsTrue (tests.expr nothing)
  pub declare_rule : (place : Place) (declaration : Declaration) → SetupFits tests declaration.setup → IsTrue (tests.one (written.Declare place declaration))
  pub sends_rule : (place : Place) (spot : Spot) (count : CoreExpr) → Sent spot → IsTrue (tests.expr count) → IsTrue (tests.one (written.Sends place (operation_expr scene spot) count))

module _ (scene : Scene) (tests : MadeTests) (Sent : Spot → Type 0) (rules : DeclRules scene tests Sent) (known : Facts) (HadName : Span → Type 0)
    (value_at : (tree : Expr) → Each HadName (expr_names tree) → ErrorFree (valued (infer_expr tree known)) → IsTrue (tests.expr (core_value scene tree))) where
  abbrev Names : List Span → Type 0
  Names = Each HadName

  abbrev Passes : CoreExpr → Type 0
  Passes expr = IsTrue (tests.expr expr)

  -- ---- bounds

  bound : (fixed : Bool) (tree : Expr) → Names (expr_names tree) → ErrorFree (bound_found fixed (infer_expr tree known)) → Passes (core_value scene tree)
  bound fixed tree had whole = value_at tree had (error_free_first (valued (infer_expr tree known)) _ whole)

  range_passes : (policy : BoundPolicy) (tree : RangeTree) → Names (range_names tree) → ErrorFree (range_found policy known tree) → RangeFits tests (range_core scene tree)
  range_passes policy (range.Length span length) had whole =
      (rules.int, bound policy.fixed length had (error_free_first (bound_found policy.fixed (infer_expr length known)) _ whole))
  range_passes policy (range.Bounds span low high) had whole =
      let after = error_free_second (bound_found policy.fixed (infer_expr low known)) _ whole in (
        bound policy.fixed low (each-left HadName (expr_names low) _ had) (error_free_first (bound_found policy.fixed (infer_expr low known)) _ whole),
        bound policy.fixed high (each-right HadName (expr_names low) _ had) (error_free_first (bound_found policy.fixed (infer_expr high known)) _ after),
      )
  range_passes policy (range.From span low) had whole =
      (bound policy.fixed low had (error_free_first (bound_found policy.fixed (infer_expr low known)) _ whole), rules.none)
  range_passes policy (range.Any span) had whole = (rules.int, rules.none)

  dims_pass : (policy : BoundPolicy) (tree : DimsTree) → Names (dims_names tree) → ErrorFree (dims_found policy known tree) → DimsFit tests (dims_core scene tree)
  dims_pass policy tree = by tree.second
    where
      by : (second : Option RangeTree) → Names (range_names tree.first ++ where_some range_names second) → ErrorFree (range_found policy known tree.first ++ second_range_found policy known second)
          → DimsFit tests (dims_by scene tree.first second)
      by None had whole = range_passes policy tree.first (each-left HadName (range_names tree.first) [] had) (error_free_first (range_found policy known tree.first) [] whole)
      by (Some second) had whole = (
        range_passes policy tree.first (each-left HadName (range_names tree.first) _ had) (error_free_first (range_found policy known tree.first) _ whole),
        range_passes policy second (each-right HadName (range_names tree.first) _ had) (error_free_second (range_found policy known tree.first) _ whole),
      )

  decl_dims_pass : (item : Kind) (written : Option DimsTree) → Names (where_some dims_names written) → ErrorFree (decl_found free_bounds known item written) → DimsFit tests (maybe_dims scene written)
  decl_dims_pass item None had whole = tt
  decl_dims_pass item (Some tree) had whole = dims_pass free_bounds tree had (error_free_first (dims_found free_bounds known tree) _ whole)

  -- ---- types

  abbrev layer_names : TypeTree-F TypeTree Formal Returned Signature → List Span
  layer_names layer = type_names_step (map-TypeTree TypeTree Formal Returned Signature (List Span) (List Span) (List Span) (List Span) type_names formal_names returned_names signature_names layer)

  type_layer : (ty : TypeTree) → Names (type_names ty) → Names (layer_names (out-TypeTree ty))
  type_layer ty = subst Names (fold_out-TypeTree (List Span) (List Span) (List Span) (List Span) type_names_step formal_names_step returned_names_step signature_names_step ty)

  abbrev kinded : TypeTree-F TypeTree Formal Returned Signature → Kinding
  kinded layer = type_step (map-TypeTree TypeTree Formal Returned Signature Kinds ReadsFormals ReadsReturned ReadsSignature type_kinding formal_read returned_read signature_read layer) known free_bounds

  -- what is found in a type is found in its layer
  layer_found : (ty : TypeTree) → ErrorFree (type_kinding ty known free_bounds).found → ErrorFree (kinded (out-TypeTree ty)).found
  layer_found ty = subst (λ (kinds : Kinds). ErrorFree (kinds known free_bounds).found) (fold_out-TypeTree Kinds ReadsFormals ReadsReturned ReadsSignature type_step formal_step returned_step signature_step ty)

  layer_item_passes : (ty : TypeTree) (layer : TypeTree-F TypeTree Formal Returned Signature) → Names (layer_names layer) → ErrorFree (kinded layer).found → ItemFits tests (layer_item scene ty layer)
  layer_item_passes ty (TypeTree-F.Str span None) had whole = tt
  layer_item_passes ty (TypeTree-F.Str span (Some length)) had whole = value_at length had (error_free_first (valued (infer_expr length known)) _ whole)
  layer_item_passes ty _ had whole = tt

  item_passes : (ty : TypeTree) → Names (type_names ty) → ErrorFree (type_kinding ty known free_bounds).found → ItemFits tests (item_core scene ty)
  item_passes ty had whole = layer_item_passes ty (out-TypeTree ty) (type_layer ty had) (layer_found ty whole)

  layer_place_passes : (item : Kind) (written : Option DimsTree) (ty : TypeTree) (layer : TypeTree-F TypeTree Formal Returned Signature) → Names (where_some dims_names written) → Names (type_names ty) → Names (layer_names layer)
      → ErrorFree (decl_found free_bounds known item written) → ErrorFree (kinded layer).found → ErrorFree (type_kinding ty known free_bounds).found
      → DimsFit tests (layer_place scene written ty layer).dims × ItemFits tests (layer_place scene written ty layer).item
  layer_place_passes item None ty (TypeTree-F.Array span tree inner) dims had names around layer whole =
      let after = error_free_second (type_kinding inner known free_bounds).found _ layer in (
        dims_pass free_bounds tree (each-left HadName (dims_names tree) _ names) (error_free_first (dims_found free_bounds known tree) _ after),
        item_passes inner (each-right HadName (dims_names tree) _ names) (error_free_first (type_kinding inner known free_bounds).found _ layer),
      )
  layer_place_passes item written ty _ dims had names around layer whole = (decl_dims_pass item written dims around, item_passes ty had whole)

  -- ---- what is set up

  declare_passes : (scope : Scope) (place : Place) (spot : Spot) (setup : Setup) → SetupFits tests setup → IsTrue (tests.one (declare scene scope place spot setup))
  declare_passes scope place spot setup ok = rules.declare_rule place (record { scope = scope; var = var_number scene scope spot; setup = setup }) ok

  -- values that are given
  record Given (values : List Expr) : Type 0 where
    had : Names (flat_map expr_names values)
    found : ErrorFree (all_found (typings_of known values))
    valid : ErrorFree (all_valued (typed_exprs_of (typings_of known values)))

  given_value : (tree : Expr) (values : List Expr) → Given (tree ∷ values) → Passes (core_value scene tree)
  given_value tree values given =
      let here = infer_expr tree known in
      value_at tree (each-left HadName (expr_names tree) _ given.had)
      (error_free_both here.found (value_found here.typed_expr) (error_free_first here.found _ given.found) (error_free_first (value_found here.typed_expr) _ given.valid))

  given_after : (tree : Expr) (values : List Expr) → Given (tree ∷ values) → Given values
  given_after tree values given =
      let here = infer_expr tree known in
      record {
        had = each-right HadName (expr_names tree) _ given.had;
        found = error_free_second here.found _ given.found;
        valid = error_free_second (value_found here.typed_expr) _ given.valid;
      }

  first_value : (values : List Expr) → Given values → IsTrue (if_some tests.expr (option_map (core_value scene) (first_of values)))
  first_value [] given = refl
  first_value (tree ∷ values) given = given_value tree values given

  values_after : (values : List Expr) → Given values → Given (after_first values)
  values_after [] given = given
  values_after (tree ∷ values) given = given_after tree values given

  typed_vars_pass : (scope : Scope) (place : Place) (item : Kind) (ty : TypeTree) (decls : List Decl) (values : List Expr) → Names (flat_map decl_names decls) → Names (type_names ty) → Given values
      → ErrorFree (type_kinding ty known free_bounds).found → ErrorFree (decls_found free_bounds known item decls) → AllOne tests (typed_vars scene scope place ty decls values)
  typed_vars_pass scope place item ty [] values declared had given kind found = refl
  typed_vars_pass scope place item ty (decl ∷ decls) values declared had given kind found =
      and_from _ _
      (declare_passes scope place (spot_named decl.name) (typed scene decl ty (first_of values)) (
        layer_place_passes item decl.dims ty (out-TypeTree ty) (each-left HadName (decl_names decl) _ declared).1 had (type_layer ty had) (error_free_first (decl_found free_bounds known item decl.dims) _ found) (layer_found ty kind) kind,
        first_value values given,
      ))
      (typed_vars_pass scope place item ty decls (after_first values) (each-right HadName (decl_names decl) _ declared) had (values_after values given) kind (error_free_second (decl_found free_bounds known item decl.dims) _ found))

  untyped_vars_pass : (scope : Scope) (place : Place) (decls : List Decl) (values : List Expr) → Given values → AllOne tests (untyped_vars scene scope place decls values)
  untyped_vars_pass scope place [] values given = refl
  untyped_vars_pass scope place (decl ∷ decls) [] given = refl
  untyped_vars_pass scope place (decl ∷ decls) (tree ∷ values) given =
      and_from _ _ (declare_passes scope place (spot_named decl.name) (untyped scene (spot_named decl.name) tree) (given_value tree values given)) (untyped_vars_pass scope place decls values (given_after tree values given))

  abbrev vars_by : Scope → VarDecl → Option TypeTree → List Statement
  vars_by scope variables (Some ty) = typed_vars scene scope (line_of variables.span) ty variables.decls variables.values
  vars_by scope variables None = untyped_vars scene scope (line_of variables.span) variables.decls variables.values

  pub vars_pass : (scope : Scope) (variables : VarDecl) → Names (var_names variables) → ErrorFree (var_found known variables) → AllOne tests (var_core scene scope variables)
  vars_pass scope variables all whole =
      let typings = typings_of known variables.values in
      let after = error_free_second (all_found typings) _ whole in
      by variables.ty (each-right HadName (flat_map decl_names variables.decls) _ all) (error_free_first (all_found typings) _ whole) (error_free_first (all_valued (typed_exprs_of typings)) _ after)
      (error_free_second (all_valued (typed_exprs_of typings)) _ after)
    where
      declared : Names (flat_map decl_names variables.decls)
      declared = each-left HadName (flat_map decl_names variables.decls) _ all

      by : (ty : Option TypeTree) → Names (where_some type_names ty ++ flat_map expr_names variables.values) → ErrorFree (all_found (typings_of known variables.values)) → ErrorFree (all_valued (typed_exprs_of (typings_of known variables.values)))
          → ErrorFree (var_rules_found known variables.span ty variables.decls (typed_exprs_of (typings_of known variables.values))) → AllOne tests (vars_by scope variables ty)
      by None had found valid rules = untyped_vars_pass scope (line_of variables.span) variables.decls variables.values (record { had = had; found = found; valid = valid })
      by (Some ty) had found valid rules =
          let kind = type_kinding ty known free_bounds in
          let rest = error_free_second kind.found _ rules in
          typed_vars_pass scope (line_of variables.span) kind.kind ty variables.decls variables.values declared (each-left HadName (type_names ty) _ had)
          (record { had = each-right HadName (type_names ty) _ had; found = found; valid = valid })
          (error_free_first kind.found _ rules) (error_free_first (decls_found free_bounds known kind.kind variables.decls) _ rest)

  if_not : (b : Bool) (one : Statement) → IsTrue (tests.one one) → AllOne tests (if b then [] else one ∷ [])
  if_not true one ok = refl
  if_not false one ok = and_from _ _ ok refl

  pub const_passes : (in_spec : Bool) (scope : Scope) (constant : ConstDecl) → Names (const_names constant) → ErrorFree (const_found in_spec known constant) → AllOne tests (const_core scene scope constant)
  const_passes in_spec scope constant had whole =
      let after = error_free_second (written_found known constant.ty) _ whole in
      if_not (is_constant scene.facts (spot_named constant.name)) _
      (declare_passes scope (line_of constant.span) (spot_named constant.name) (untyped scene (spot_named constant.name) constant.value)
      (value_at constant.value (each-right HadName (where_some type_names constant.ty) _ had.1) (error_free_first (valued (infer_expr constant.value known)) _ after)))

  -- ---- semaphores

  semaphore_passes : (place : Place) (semaphore : Semaphore) → Names (semaphore_names semaphore) → Sent (spot_named semaphore.name) → ErrorFree (initial_found known semaphore.value) → AllOne tests (semaphore_sends scene place semaphore)
  semaphore_passes place semaphore all sent = by semaphore.value all.1
    where
      by : (written : Option Expr) → Names (where_some expr_names written) → ErrorFree (initial_found known written) → AllOne tests (maybe (value_sends scene place (spot_named semaphore.name)) written)
      by None had whole = refl
      by (Some tree) had whole =
          and_from _ _ (rules.sends_rule place (spot_named semaphore.name) (core_value scene tree) sent (value_at tree had (error_free_first (valued (infer_expr tree known)) _ whole))) refl

  pub semaphores_pass : (span : Span) (semaphores : List Semaphore) → Names (flat_map semaphore_names semaphores) → Each (λ semaphore. Sent (spot_named semaphore.name)) semaphores → ErrorFree (sems_found known semaphores)
      → AllOne tests (semaphores_core scene span semaphores)
  semaphores_pass span [] had sent whole = refl
  semaphores_pass span (semaphore ∷ semaphores) had sent whole =
      both_pass tests.one (semaphore_sends scene (line_of span) semaphore) (semaphores_core scene span semaphores)
      (semaphore_passes (line_of span) semaphore (each-left HadName (semaphore_names semaphore) _ had) sent.0 (error_free_first (initial_found known semaphore.value) _ whole))
      (semaphores_pass span semaphores (each-right HadName (semaphore_names semaphore) _ had) sent.1 (error_free_second (initial_found known semaphore.value) _ whole))
