-- Each number in what statements without blocks are in the core names something.
use Rattle.std.proofs.Common.{◌<◌, Bool, true, false, List, [], ◌∷◌, Option, Some, None, IsTrue, length, map, if◌then◌else◌, option_map, refl}
use Rattle.std.proofs.lemmas.Bool.{and_from, lt-ltb}
use Rattle.std.specs.List.{list_all}
use Rattle.sr_core.specs.declared.expression.Expr.{Expr as CoreExpr}
use Rattle.sr_core.specs.declared.expression.Expr.TheVariants as core
use Rattle.sr_core.specs.declared.statement.Action.{Action}
use Rattle.sr_core.specs.declared.statement.Action.TheVariants as action
use Rattle.sr_core.specs.Numbers.{Where, action_ok, co_ok, expr_ok, place_ok, quantifier_ok}
use Rattle.sr_core.specs.Tests.{if_some}
use Rattle.sr_names.specs.declared.predefined.Predefined.{Predefined}
use Rattle.sr_names.specs.declared.predefined.Predefined.TheVariants as predefined
use Rattle.sr_names.specs.declared.spot.Spot.{Spot}
use Rattle.sr_names.specs.Spots.{spot_of}
use Rattle.sr_tree.specs.declared.declaration.Semaphore.{Semaphore}
use Rattle.sr_tree.specs.declared.expr.Expr.{Expr}
use Rattle.sr_tree.specs.declared.expr.Invocation.{Invocation}
use Rattle.sr_tree.specs.declared.statement.Quantifier.{Quantifier as QuantifierTree}
use Rattle.sr_tree.specs.Expressions.{expr_span}
use Rattle.sr_value.specs.declared.place.Place.{Place}
use Rattle.sr_value.specs.declared.place.Span.{Span}
use Rattle.sr_outline.specs.Numbers.{is_p, quantifier_names, wait_operation}
use Rattle.sr_tables.specs.Lists.{maybe}
use Rattle.sr_tables.specs.Parts.{line_of, spot_named}
use Rattle.sr_lower_expr.specs.declared.scene.Scene.{Scene}
use Rattle.sr_lower_expr.specs.Expressions.{core_place, core_sending, core_value}
use Rattle.sr_lower_expr.specs.Places.{operation_expr, own_number, own_place, site_number}
use Rattle.sr_desugar.specs.Statements.{act, all_told, alone, call_action, call_made, co_call, evaluation, first_expr, forward_of, named_action, quantifier_core, quantifiers_core, receive_assign, receive_made, semaphore_sends, semaphores_core, send_of, step_core, value_sends}
use Rattle.sr_desugar.proofs.DeclNumbers.{int_ok, maybe_value_ok, own_number_ok}
use Rattle.sr_lower_expr.proofs.Each.{first_passes, lists_pass, made_passes}
use Rattle.sr_lower_expr.proofs.ExprNumbers.{all_told_ok, call_ok, core_place_ok, core_value_ok, sending_ok, sent_ok}
use Rattle.sr_lower_expr.proofs.ExprRules.{load_rule}
use Rattle.sr_lower_expr.proofs.PlaceNumbers.{Fits, nothing_ok, operation_expr_ok, own_place_ok, value_of_ok}
use Rattle.sr_desugar.proofs.Room.{Room, room_here, room_second}
use Rattle.sr_desugar.proofs.StatementRules.{act_rule, block_rule, in_rule, one_ok, sends_rule}

module _ (scene : Scene) (at : Where) (fits : Fits scene at) where
  pub act_ok : (span : Span) (one : Action) → IsTrue (action_ok one at) → IsTrue (one_ok (act span one) at)
  act_ok span one ok = act_rule at (line_of span) one ok

  -- ---- invocations as statements

  pub send_ok : (tree : Invocation) → IsTrue (action_ok (send_of scene (core_sending scene tree)) at)
  send_ok tree =
      let good = sending_ok scene at fits tree in
      and_from _ _ (value_of_ok at (core_sending scene tree).callee.1 good.0) (sent_ok scene at fits (core_sending scene tree) good)

  pub forward_ok : (tree : Invocation) → IsTrue (action_ok (forward_of scene (core_sending scene tree)) at)
  forward_ok tree =
      let good = sending_ok scene at fits tree in
      and_from _ _ (value_of_ok at (core_sending scene tree).callee.1 good.0) (sent_ok scene at fits (core_sending scene tree) good)

  told_good : (tree : Invocation) → IsTrue (list_all (λ expr. expr_ok expr at) (all_told (core_sending scene tree)))
  told_good tree = all_told_ok scene at fits (core_sending scene tree) (sending_ok scene at fits tree)

  first_good : (exprs : List CoreExpr) → IsTrue (list_all (λ expr. expr_ok expr at) exprs) → IsTrue (expr_ok (first_expr exprs) at)
  first_good [] all = nothing_ok at
  first_good (expr ∷ exprs) all = first_passes (λ one. expr_ok one at) expr exprs all

  evaluation_good : (tree : Invocation) → IsTrue (action_ok (evaluation scene tree) at)
  evaluation_good tree = call_ok scene at fits (core_sending scene tree) (sending_ok scene at fits tree)

  named_good : (tree : Invocation) (name : Predefined) → IsTrue (action_ok (named_action scene tree name) at)
  named_good tree predefined.Write = told_good tree
  named_good tree predefined.Writes = told_good tree
  named_good tree predefined.V = and_from _ _ (first_good (all_told (core_sending scene tree)) (told_good tree)) refl
  named_good tree _ = evaluation_good tree

  action_good : (tree : Invocation) (function : Option Predefined) → IsTrue (action_ok (call_action scene tree function) at)
  action_good tree None = evaluation_good tree
  action_good tree (Some name) = named_good tree name

  -- ---- `receive`

  receive_assign_good : (span : Span) (place : Expr) → IsTrue (one_ok (receive_assign scene span place) at)
  receive_assign_good span place =
      act_ok span (action.Assign (core_place scene place) (core.Load (own_place scene (spot_of (expr_span place)))))
      (and_from _ _ (core_place_ok scene at fits place)
      (load_rule at (own_place scene (spot_of (expr_span place))) (own_place_ok scene at fits (spot_of (expr_span place)))))

  pub receive_ok : (span : Span) (operation : Spot) (places : List Expr) → IsTrue (one_ok (receive_made scene span operation places).made at)
  receive_ok span operation places =
      in_rule at (line_of span) (site_number scene (spot_of span)) (map (receive_assign scene span) places ∷ []) []
      (and_from _ _
      (block_rule at (map (receive_assign scene span) places) (made_passes (λ one. one_ok one at) (receive_assign scene span) (receive_assign_good span) places)) refl) refl

  pub call_made_ok : (span : Span) (tree : Invocation) (function : Option Predefined) → IsTrue (one_ok (call_made scene span tree function).made at)
  call_made_ok span tree function = by (is_p function)
    where
      by : (b : Bool)
          → IsTrue (one_ok (if b then receive_made scene span (wait_operation scene.facts span tree) [] else alone (act span (call_action scene tree function))).made at)
      by true = receive_ok span (wait_operation scene.facts span tree) []
      by false = act_ok span (call_action scene tree function) (action_good tree function)

  -- ---- quantifiers

  step_good : (written : Option Expr) → IsTrue (expr_ok (step_core scene written) at)
  step_good None = int_ok at _
  step_good (Some step) = core_value_ok scene at fits step

  quantifier_good : (tree : QuantifierTree) → 0 < length scene.own → IsTrue (quantifier_ok (quantifier_core scene tree) at)
  quantifier_good tree some =
      and_from _ _ (lt-ltb (own_number scene (spot_named tree.name)) at.owns (own_number_ok scene at fits (spot_named tree.name) some))
      (and_from _ _ (and_from _ _ (core_value_ok scene at fits tree.first) (core_value_ok scene at fits tree.last))
      (and_from _ _ (step_good tree.step) (maybe_value_ok scene at fits tree.such_that)))

  pub quantifiers_ok : (trees : List QuantifierTree) → Room scene (quantifier_names trees) → IsTrue (list_all (λ q. quantifier_ok q at) (quantifiers_core scene trees))
  quantifiers_ok [] room = refl
  quantifiers_ok (tree ∷ trees) room =
      and_from _ _ (quantifier_good tree (room_here scene (spot_named tree.name) (quantifier_names trees) room))
      (quantifiers_ok trees (room_second scene (spot_named tree.name ∷ []) (quantifier_names trees) room))

  -- ---- `sem`

  semaphore_good : (place : Place) (semaphore : Semaphore) → IsTrue (list_all (λ one. one_ok one at) (semaphore_sends scene place semaphore))
  semaphore_good place semaphore = by semaphore.value
    where
      by : (written : Option Expr) → IsTrue (list_all (λ one. one_ok one at) (maybe (value_sends scene place (spot_named semaphore.name)) written))
      by None = refl
      by (Some value) =
          and_from _ _ (sends_rule at place (operation_expr scene (spot_named semaphore.name)) (core_value scene value)
          (operation_expr_ok scene at fits (spot_named semaphore.name)) (core_value_ok scene at fits value)) refl

  pub semaphores_ok : (span : Span) (semaphores : List Semaphore) → IsTrue (list_all (λ one. one_ok one at) (semaphores_core scene span semaphores))
  semaphores_ok span semaphores = lists_pass (λ one. one_ok one at) (semaphore_sends scene (line_of span)) (semaphore_good (line_of span)) semaphores

  -- ---- `co`

  pub co_call_ok : (target : Option Expr) (tree : Invocation) → IsTrue (co_ok (co_call scene target (core_sending scene tree)) at)
  co_call_ok target tree =
      let good = sending_ok scene at fits tree in
      and_from _ _ (by target)
      (and_from _ _ (value_of_ok at (core_sending scene tree).callee.1 good.0) (sent_ok scene at fits (core_sending scene tree) good))
    where
      by : (written : Option Expr) → IsTrue (if_some (λ place. place_ok place at) (option_map (core_place scene) written))
      by None = refl
      by (Some place) = core_place_ok scene at fits place
