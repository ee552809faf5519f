-- What declarations and statements without blocks mention passes a test that the scene passes.
use Rattle.std.proofs.Common.{Bool, true, false, ℤ, List, [], ◌∷◌, ◌++◌, Option, Some, None, IsTrue, flat_map, map, if◌then◌else◌, option_map, refl, subst}
use Rattle.std.proofs.lemmas.Bool.{and_from}
use Rattle.std.specs.List.{list_all}
use Rattle.sr_core.specs.declared.statement.Action.TheVariants as action
use Rattle.sr_core.specs.declared.statement.Statement.{Statement}
use Rattle.sr_names.specs.declared.spot.Spot.{Spot}
use Rattle.sr_names.specs.Spots.{spot_of}
use Rattle.sr_tree.specs.declared.expr.Expr.{Expr}
use Rattle.sr_tree.specs.declared.expr.Invocation.{Invocation}
use Rattle.sr_tree.specs.declared.statement.Quantifier.{Quantifier as QuantifierTree}
use Rattle.sr_value.specs.declared.place.Span.{Span}
use Rattle.sr_check_expr.specs.Meanings.{is_constant}
use Rattle.sr_outline.specs.Numbers.{is_p, wait_operation}
use Rattle.sr_tables.specs.Lists.{maybe}
use Rattle.sr_tables.specs.Parts.{line_of, spot_named}
use Rattle.sr_lower_expr.specs.declared.scene.Scene.{Scene}
use Rattle.sr_lower_expr.specs.Expressions.{sent_arguments, core_create, core_place, core_sending, core_value}
use Rattle.sr_lower_expr.specs.Places.{nothing, value_of, site_number, operation_expr, own_place}
use Rattle.sr_desugar.specs.Statements.{co_call, forward_of, quantifiers_core, send_of, act, all_told, alone, call_action, call_made, evaluation, first_expr, named_action, quantifier_core, receive_assign, receive_made, semaphore_sends, semaphores_core, step_core, value_sends}
use Rattle.sr_core.specs.declared.expression.Expr.{Expr as CoreExpr}
use Rattle.sr_core.specs.declared.expression.Expr.TheVariants as core
use Rattle.sr_core.specs.declared.expression.Leaf.TheVariants.{Constant}
use Rattle.sr_core.specs.declared.statement.Action.{Action}
use Rattle.sr_core.specs.declared.statement.DimsExpr.TheVariants as dims
use Rattle.sr_core.specs.declared.statement.Scope.{Scope}
use Rattle.sr_core.specs.declared.statement.Setup.{Setup}
use Rattle.sr_names.specs.declared.predefined.Predefined.{Predefined}
use Rattle.sr_names.specs.declared.predefined.Predefined.TheVariants as predefined
use Rattle.sr_tree.specs.declared.declaration.ConstDecl.{ConstDecl}
use Rattle.sr_tree.specs.declared.declaration.Semaphore.{Semaphore}
use Rattle.sr_tree.specs.declared.declaration.VarDecl.{VarDecl}
use Rattle.sr_tree.specs.declared.types.Decl.{Decl}
use Rattle.sr_tree.specs.declared.types.DimsTree.{DimsTree}
use Rattle.sr_tree.specs.declared.types.RangeTree.{RangeTree}
use Rattle.sr_tree.specs.declared.types.RangeTree.TheVariants.{Length, Bounds, From, Any}
use Rattle.sr_order.specs.Names.{const_names, create_names, decl_names, dims_names, expr_names, formal_names, formal_names_step, invocation_names, quantifier_names, range_names, returned_names, returned_names_step, semaphore_names, signature_names, signature_names_step, type_names, type_names_step, var_names, where_some}
use Rattle.sr_tree.specs.declared.types.Formal.{Formal}
use Rattle.sr_tree.specs.declared.types.Returned.{Returned}
use Rattle.sr_tree.specs.declared.types.Signature.{Signature}
use Rattle.sr_tree.specs.declared.types.TypeTree.TheFolds.{fold_out-TypeTree, map-TypeTree}
use Rattle.sr_tree.specs.declared.types.TypeTree.{TypeTree, out-TypeTree}
use Rattle.sr_tree.specs.declared.types.TypeTree.TheOpen.{TypeTree-F}
use Rattle.sr_tree.specs.Expressions.{expr_span}
use Rattle.sr_value.specs.declared.place.Place.{Place}
use Rattle.sr_value.specs.declared.value.Value.TheVariants as value
use Rattle.sr_tables.specs.declared.sites.Mention.{Mention}
use Rattle.sr_tables.specs.Sites.{mentions_at, mentions_in, mentions_in_argument}
use Rattle.sr_desugar.specs.Declarations.{after_first, const_core, declare, dims_core, first_of, int_expr, item_core, layer_item, layer_place, maybe_dims, range_core, shape_expr, typed, typed_vars, untyped, untyped_vars, var_core, var_number}
use Rattle.sr_check.proofs.Each.{each-left, each-right}
use Rattle.sr_lower_expr.proofs.Each.{both_pass, first_passes}
use Rattle.sr_front.specs.Imports.{arguments_mentions, co_call_mentions, dims_mentions, item_mentions, range_mentions, setup_mentions}
use Rattle.sr_front.proofs.Mentioned.CodeRules.{act_rule, action_passes, block_rule, declare_rule, in_rule, one_passes, quantifier_passes, sends_rule}
use Rattle.sr_front.proofs.Mentioned.MentionRules.{all_pass, expr_passes, leaf_rule, load_rule, rows}
use Rattle.sr_front.proofs.Mentioned.Mentions.{Means, NamePasses, NamesPass, all_told_passes, call_passes, core_place_passes, core_value_passes, create_passes, nothing_passes, operation_expr_passes, own_place_passes, sending_passes, sent_passes, value_of_passes}
use Rattle.sr_tree.specs.declared.expr.Create.{Create}
use Rattle.sr_desugar.proofs.DeclNumbers.{dims_found}

module _ (scene : Scene) (test : Mention → Bool) (means : Means scene test) where
  abbrev Pass : List Mention → Type 0
  Pass mentions = IsTrue (all_pass test mentions)

  both : (xs ys : List Mention) → Pass xs → Pass ys → Pass (xs ++ ys)
  both = both_pass test

  abbrev Name : Span → Type 0
  Name = NamePasses scene test means

  abbrev Names : List Span → Type 0
  Names = NamesPass scene test means

  pub value_passes : (tree : Expr) → Names (expr_names tree) → Pass (mentions_in (core_value scene tree))
  value_passes = core_value_passes scene test means

  pub written_passes : (tree : Expr) → Names (expr_names tree) → Pass (mentions_at (core_place scene tree))
  written_passes = core_place_passes scene test means

  pub create_of : (tree : Create) → Names (create_names tree) → Pass (mentions_in (core_create scene tree))
  create_of = create_passes scene test means

  int_passes : (number : ℤ) → Pass (mentions_in (int_expr number))
  int_passes number = leaf_rule test (Constant (value.Int number)) refl

  none_passes : Pass (mentions_in nothing)
  none_passes = nothing_passes scene test means

  maybe_value_passes : (written : Option Expr) → Names (where_some expr_names written) → Pass (maybe mentions_in (option_map (core_value scene) written))
  maybe_value_passes None names = refl
  maybe_value_passes (Some tree) names = value_passes tree names

  -- ---- types

  ends_pass : (low high : CoreExpr) → Pass (mentions_in low) → Pass (mentions_in high) → Pass (mentions_in low ++ mentions_in high)
  ends_pass low high first second = both (mentions_in low) (mentions_in high) first second

  range_passes : (tree : RangeTree) → Names (range_names tree) → Pass (range_mentions (range_core scene tree))
  range_passes (Length span length) names = ends_pass _ _ (int_passes _) (value_passes length names)
  range_passes (Bounds span low high) names =
      ends_pass _ _ (value_passes low (each-left Name (expr_names low) _ names)) (value_passes high (each-right Name (expr_names low) _ names))
  range_passes (From span low) names = ends_pass _ _ (value_passes low names) none_passes
  range_passes (Any span) names = ends_pass _ _ (int_passes _) none_passes

  dims_pass : (tree : DimsTree) → Names (dims_names tree) → Pass (dims_mentions (dims_core scene tree))
  dims_pass tree = by tree.second
    where
      by : (second : Option RangeTree) → Names (range_names tree.first ++ where_some range_names second) → Pass (dims_mentions (dims_found scene tree.first second))
      by None names = range_passes tree.first (each-left Name (range_names tree.first) [] names)
      by (Some second) names =
          both (range_mentions (range_core scene tree.first)) (range_mentions (range_core scene second))
          (range_passes tree.first (each-left Name (range_names tree.first) _ names)) (range_passes second (each-right Name (range_names tree.first) _ names))

  maybe_dims_pass : (written : Option DimsTree) → Names (where_some dims_names written) → Pass (dims_mentions (maybe_dims scene written))
  maybe_dims_pass None names = refl
  maybe_dims_pass (Some tree) names = dims_pass tree names

  abbrev layer_names : TypeTree-F TypeTree Formal Returned Signature → List Span
  layer_names layer = type_names_step (map-TypeTree TypeTree Formal Returned Signature (List Span) (List Span) (List Span) (List Span) type_names formal_names returned_names signature_names layer)

  type_layer : (ty : TypeTree) → Names (type_names ty) → Names (layer_names (out-TypeTree ty))
  type_layer ty = subst Names (fold_out-TypeTree (List Span) (List Span) (List Span) (List Span) type_names_step formal_names_step returned_names_step signature_names_step ty)

  layer_item_passes : (ty : TypeTree) (layer : TypeTree-F TypeTree Formal Returned Signature) → Names (layer_names layer) → Pass (item_mentions (layer_item scene ty layer))
  layer_item_passes ty (TypeTree-F.Str span None) names = refl
  layer_item_passes ty (TypeTree-F.Str span (Some length)) names = value_passes length names
  layer_item_passes ty _ names = refl

  item_passes : (ty : TypeTree) → Names (type_names ty) → Pass (item_mentions (item_core scene ty))
  item_passes ty names = layer_item_passes ty (out-TypeTree ty) (type_layer ty names)

  layer_place_passes : (written : Option DimsTree) (ty : TypeTree) (layer : TypeTree-F TypeTree Formal Returned Signature) → Names (where_some dims_names written) → Names (type_names ty) → Names (layer_names layer)
      → Pass (dims_mentions (layer_place scene written ty layer).dims ++ item_mentions (layer_place scene written ty layer).item)
  layer_place_passes None ty (TypeTree-F.Array span tree inner) dims names layer =
      both (dims_mentions (dims_core scene tree)) (item_mentions (item_core scene inner)) (dims_pass tree (each-left Name (dims_names tree) _ layer)) (item_passes inner (each-right Name (dims_names tree) _ layer))
  layer_place_passes written ty _ dims names layer = both (dims_mentions (maybe_dims scene written)) (item_mentions (item_core scene ty)) (maybe_dims_pass written dims) (item_passes ty names)

  -- ---- declarations

  typed_passes : (decl : Decl) (ty : TypeTree) (written : Option Expr) → Names (where_some dims_names decl.dims) → Names (type_names ty) → Names (where_some expr_names written) → Pass (setup_mentions (typed scene decl ty written))
  typed_passes decl ty written dims names value =
      both (dims_mentions (shape_expr scene decl.dims ty).dims ++ item_mentions (shape_expr scene decl.dims ty).item) (maybe mentions_in (option_map (core_value scene) written))
      (layer_place_passes decl.dims ty (out-TypeTree ty) dims names (type_layer ty names)) (maybe_value_passes written value)

  declare_passes : (scope : Scope) (place : Place) (spot : Spot) (setup : Setup) → Pass (setup_mentions setup) → IsTrue (one_passes test (declare scene scope place spot setup))
  declare_passes scope place spot setup ok = declare_rule test place (record { scope = scope; var = var_number scene scope spot; setup = setup }) ok

  first_names : (values : List Expr) → Names (flat_map expr_names values) → Names (where_some expr_names (first_of values))
  first_names [] names = tt
  first_names (value ∷ values) names = each-left Name (expr_names value) _ names

  after_names : (values : List Expr) → Names (flat_map expr_names values) → Names (flat_map expr_names (after_first values))
  after_names [] names = tt
  after_names (value ∷ values) names = each-right Name (expr_names value) _ names

  typed_vars_pass : (scope : Scope) (place : Place) (ty : TypeTree) (decls : List Decl) (values : List Expr) → Names (flat_map decl_names decls) → Names (type_names ty) → Names (flat_map expr_names values)
      → IsTrue (list_all (one_passes test) (typed_vars scene scope place ty decls values))
  typed_vars_pass scope place ty [] values declared names written = refl
  typed_vars_pass scope place ty (decl ∷ decls) values declared names written =
      and_from _ _ (declare_passes scope place (spot_named decl.name) (typed scene decl ty (first_of values)) (typed_passes decl ty (first_of values) (each-left Name (decl_names decl) _ declared).1 names (first_names values written)))
      (typed_vars_pass scope place ty decls (after_first values) (each-right Name (decl_names decl) _ declared) names (after_names values written))

  untyped_vars_pass : (scope : Scope) (place : Place) (decls : List Decl) (values : List Expr) → Names (flat_map expr_names values) → IsTrue (list_all (one_passes test) (untyped_vars scene scope place decls values))
  untyped_vars_pass scope place [] values names = refl
  untyped_vars_pass scope place (decl ∷ decls) [] names = refl
  untyped_vars_pass scope place (decl ∷ decls) (value ∷ values) names =
      and_from _ _ (declare_passes scope place (spot_named decl.name) (untyped scene (spot_named decl.name) value) (value_passes value (each-left Name (expr_names value) _ names)))
      (untyped_vars_pass scope place decls values (each-right Name (expr_names value) _ names))

  abbrev vars_by : Scope → VarDecl → Option TypeTree → List Statement
  vars_by scope variables (Some ty) = typed_vars scene scope (line_of variables.span) ty variables.decls variables.values
  vars_by scope variables None = untyped_vars scene scope (line_of variables.span) variables.decls variables.values

  pub vars_pass : (scope : Scope) (variables : VarDecl) → Names (var_names variables) → IsTrue (list_all (one_passes test) (var_core scene scope variables))
  vars_pass scope variables all = by variables.ty (each-right Name (flat_map decl_names variables.decls) _ all)
    where
      declared : Names (flat_map decl_names variables.decls)
      declared = each-left Name (flat_map decl_names variables.decls) _ all

      by : (ty : Option TypeTree) → Names (where_some type_names ty ++ flat_map expr_names variables.values) → IsTrue (list_all (one_passes test) (vars_by scope variables ty))
      by (Some ty) names =
          typed_vars_pass scope (line_of variables.span) ty variables.decls variables.values declared (each-left Name (type_names ty) _ names) (each-right Name (type_names ty) _ names)
      by None names = untyped_vars_pass scope (line_of variables.span) variables.decls variables.values names

  pub const_passes : (scope : Scope) (constant : ConstDecl) → Names (const_names constant) → IsTrue (list_all (one_passes test) (const_core scene scope constant))
  const_passes scope constant names = by (is_constant scene.facts (spot_named constant.name))
    where
      by : (b : Bool)
          → IsTrue (list_all (one_passes test) (if b then [] else (declare scene scope (line_of constant.span) (spot_named constant.name) (untyped scene (spot_named constant.name) constant.value) ∷ [])))
      by true = refl
      by false =
          and_from _ _ (declare_passes scope (line_of constant.span) (spot_named constant.name) (untyped scene (spot_named constant.name) constant.value)
          (value_passes constant.value (each-right Name (where_some type_names constant.ty) _ names.1))) refl

  -- ---- invocations as statements

  pub act_passes : (span : Span) (one : Action) → IsTrue (action_passes test one) → IsTrue (one_passes test (act span one))
  act_passes span one ok = act_rule test (line_of span) one ok

  abbrev sent_in : Invocation → List Mention
  sent_in tree = mentions_in (value_of (core_sending scene tree).callee.1) ++ arguments_mentions (sent_arguments scene.facts (core_sending scene tree))

  sent_pass : (tree : Invocation) → Names (invocation_names tree) → Pass (sent_in tree)
  sent_pass tree names =
      let good = sending_passes scene test means tree names in
      both (mentions_in (value_of (core_sending scene tree).callee.1)) (arguments_mentions (sent_arguments scene.facts (core_sending scene tree)))
      (value_of_passes scene test means (core_sending scene tree).callee.1 good.0)
      (rows test mentions_in_argument (sent_arguments scene.facts (core_sending scene tree)) (sent_passes scene test means (core_sending scene tree) good))

  pub send_passes : (tree : Invocation) → Names (invocation_names tree) → IsTrue (action_passes test (send_of scene (core_sending scene tree)))
  send_passes tree names = sent_pass tree names

  pub forward_passes : (tree : Invocation) → Names (invocation_names tree) → IsTrue (action_passes test (forward_of scene (core_sending scene tree)))
  forward_passes tree names = sent_pass tree names

  told_pass : (tree : Invocation) → Names (invocation_names tree) → IsTrue (list_all (expr_passes test) (all_told (core_sending scene tree)))
  told_pass tree names = all_told_passes scene test means (core_sending scene tree) (sending_passes scene test means tree names)

  first_expr_passes : (exprs : List CoreExpr) → IsTrue (list_all (expr_passes test) exprs) → Pass (mentions_in (first_expr exprs))
  first_expr_passes [] all = none_passes
  first_expr_passes (expr ∷ exprs) all = first_passes (expr_passes test) expr exprs all

  evaluation_passes : (tree : Invocation) → Names (invocation_names tree) → IsTrue (action_passes test (evaluation scene tree))
  evaluation_passes tree names = call_passes scene test means (core_sending scene tree) (sending_passes scene test means tree names)

  named_passes : (tree : Invocation) (name : Predefined) → Names (invocation_names tree) → IsTrue (action_passes test (named_action scene tree name))
  named_passes tree predefined.Write names = rows test mentions_in (all_told (core_sending scene tree)) (told_pass tree names)
  named_passes tree predefined.Writes names = rows test mentions_in (all_told (core_sending scene tree)) (told_pass tree names)
  named_passes tree predefined.V names =
      both (mentions_in (first_expr (all_told (core_sending scene tree)))) [] (first_expr_passes (all_told (core_sending scene tree)) (told_pass tree names)) refl
  named_passes tree _ names = evaluation_passes tree names

  call_action_passes : (tree : Invocation) (function : Option Predefined) → Names (invocation_names tree) → IsTrue (action_passes test (call_action scene tree function))
  call_action_passes tree None names = evaluation_passes tree names
  call_action_passes tree (Some name) names = named_passes tree name names

  -- ---- `receive`

  receive_assign_passes : (span : Span) (place : Expr) → Names (expr_names place) → IsTrue (one_passes test (receive_assign scene span place))
  receive_assign_passes span place names =
      let from = own_place scene (spot_of (expr_span place)) in
      act_passes span (action.Assign (core_place scene place) (core.Load from))
      (both (mentions_at (core_place scene place)) (mentions_in (core.Load from)) (written_passes place names) (load_rule test from (own_place_passes scene test means (spot_of (expr_span place)))))

  receive_assigns_pass : (span : Span) (places : List Expr) → Names (flat_map expr_names places) → IsTrue (list_all (one_passes test) (map (receive_assign scene span) places))
  receive_assigns_pass span [] names = refl
  receive_assigns_pass span (place ∷ places) names =
      and_from _ _ (receive_assign_passes span place (each-left Name (expr_names place) _ names)) (receive_assigns_pass span places (each-right Name (expr_names place) _ names))

  pub receive_passes : (span : Span) (operation : Spot) (places : List Expr) → Names (flat_map expr_names places) → IsTrue (one_passes test (receive_made scene span operation places).made)
  receive_passes span operation places names =
      in_rule test (line_of span) (site_number scene (spot_of span)) (map (receive_assign scene span) places ∷ []) []
      (and_from _ _ (block_rule test (map (receive_assign scene span) places) (receive_assigns_pass span places names)) refl) refl

  pub call_made_passes : (span : Span) (tree : Invocation) (function : Option Predefined) → Names (invocation_names tree) → IsTrue (one_passes test (call_made scene span tree function).made)
  call_made_passes span tree function names = by (is_p function)
    where
      by : (b : Bool)
          → IsTrue (one_passes test (if b then receive_made scene span (wait_operation scene.facts span tree) [] else alone (act span (call_action scene tree function))).made)
      by true = receive_passes span (wait_operation scene.facts span tree) [] tt
      by false = act_passes span (call_action scene tree function) (call_action_passes tree function names)

  -- ---- quantifiers

  step_passes : (written : Option Expr) → Names (where_some expr_names written) → Pass (mentions_in (step_core scene written))
  step_passes None names = int_passes _
  step_passes (Some step) names = value_passes step names

  quantifier_is_good : (tree : QuantifierTree) → Names (quantifier_names tree) → IsTrue (quantifier_passes test (quantifier_core scene tree))
  quantifier_is_good tree names =
      let after = each-right Name (expr_names tree.first) _ names.1 in
      let rest = each-right Name (expr_names tree.last) _ after in
      both (mentions_in (core_value scene tree.first) ++ mentions_in (core_value scene tree.last)) (mentions_in (step_core scene tree.step) ++ maybe mentions_in (option_map (core_value scene) tree.such_that))
      (ends_pass (core_value scene tree.first) (core_value scene tree.last) (value_passes tree.first (each-left Name (expr_names tree.first) _ names.1)) (value_passes tree.last (each-left Name (expr_names tree.last) _ after)))
      (both (mentions_in (step_core scene tree.step)) (maybe mentions_in (option_map (core_value scene) tree.such_that))
      (step_passes tree.step (each-left Name (where_some expr_names tree.step) _ rest)) (maybe_value_passes tree.such_that (each-right Name (where_some expr_names tree.step) _ rest)))

  pub quantifiers_pass : (trees : List QuantifierTree) → Names (flat_map quantifier_names trees) → IsTrue (list_all (quantifier_passes test) (quantifiers_core scene trees))
  quantifiers_pass [] names = refl
  quantifiers_pass (tree ∷ trees) names = and_from _ _ (quantifier_is_good tree (each-left Name (quantifier_names tree) _ names)) (quantifiers_pass trees (each-right Name (quantifier_names tree) _ names))

  -- ---- `sem`

  semaphore_passes : (place : Place) (semaphore : Semaphore) → Names (semaphore_names semaphore) → IsTrue (list_all (one_passes test) (semaphore_sends scene place semaphore))
  semaphore_passes place semaphore all = by semaphore.value all.1
    where
      by : (written : Option Expr) → Names (where_some expr_names written) → IsTrue (list_all (one_passes test) (maybe (value_sends scene place (spot_named semaphore.name)) written))
      by None names = refl
      by (Some value) names =
          and_from _ _ (sends_rule test place (operation_expr scene (spot_named semaphore.name)) (core_value scene value)
          (operation_expr_passes scene test means (spot_named semaphore.name)) (value_passes value names)) refl

  pub semaphores_pass : (span : Span) (semaphores : List Semaphore) → Names (flat_map semaphore_names semaphores) → IsTrue (list_all (one_passes test) (semaphores_core scene span semaphores))
  semaphores_pass span [] names = refl
  semaphores_pass span (semaphore ∷ semaphores) names =
      both_pass (one_passes test) (semaphore_sends scene (line_of span) semaphore) (semaphores_core scene span semaphores)
      (semaphore_passes (line_of span) semaphore (each-left Name (semaphore_names semaphore) _ names)) (semaphores_pass span semaphores (each-right Name (semaphore_names semaphore) _ names))

  -- ---- `co`

  pub co_call_passes : (target : Option Expr) (tree : Invocation) → Names (where_some expr_names target) → Names (invocation_names tree) → Pass (co_call_mentions (co_call scene target (core_sending scene tree)))
  co_call_passes target tree names invoked = both (maybe mentions_at (option_map (core_place scene) target)) (sent_in tree) (by target names) (sent_pass tree invoked)
    where
      by : (written : Option Expr) → Names (where_some expr_names written) → Pass (maybe mentions_at (option_map (core_place scene) written))
      by None names = refl
      by (Some place) names = written_passes place names
