-- Where no rule is broken in an invocation that is a statement or an arm of `co`, what is invoked in its core passes.
use Rattle.std.proofs.Common.{◌≡◌, ℕ, Bool, true, List, [], ◌∷◌, Option, Some, None, map, IsTrue, length, refl, sym, ap, subst, ◌∙◌, suc}
use Rattle.std.proofs.lemmas.Bool.{and_from}
use Rattle.std.specs.List.{list_all}
use Rattle.std.specs.Option.{option_map}
use Rattle.sr_check.proofs.ErrorFree.{error_free_first, error_free_second}
use Rattle.sr_check.specs.Contexts.{Context}
use Rattle.sr_check.specs.ErrorFree.{ErrorFree}
use Rattle.sr_check.specs.Invoking.{call_found, called_found, forward_found, invoked_found, place_found, send_found, started_found, v_found}
use Rattle.sr_check_decl.specs.Variables.{typings_of}
use Rattle.sr_check_expr.specs.declared.facts.Facts.{Facts}
use Rattle.sr_check_expr.specs.declared.typed_expr.Named.{Named}
use Rattle.sr_check_expr.specs.Arguments.{all_found, is_callable, is_sendable}
use Rattle.sr_check_expr.specs.Calls.{parts_found}
use Rattle.sr_check_expr.specs.Exprs.{infer_expr, infer_invocation}
use Rattle.sr_check_expr.specs.Meanings.{function_called, params_of, typed_expr, type_of as type_of_expr}
use Rattle.sr_check_expr.specs.Typings.{typed_exprs_of, value_found, valued}
use Rattle.sr_core.specs.Tests.{if_some}
use Rattle.sr_desugar.specs.Statements.{all_told, call_action, co_call, first_expr, forward_of, named_action, send_of}
use Rattle.sr_lower_expr.specs.declared.scene.Lowered.{Lowered}
use Rattle.sr_lower_expr.specs.declared.scene.Scene.{Scene}
use Rattle.sr_lower_expr.specs.Expressions.{call_of, core_place, core_sending, core_value, lowered_of, sent_arguments, values, with_core}
use Rattle.sr_lower_expr.specs.Places.{value_of}
use Rattle.sr_lower_expr.proofs.Each.{turned_passes}
use Rattle.sr_names.specs.declared.predefined.Predefined.{Predefined}
use Rattle.sr_names.specs.declared.predefined.Predefined.TheVariants as predefined
use Rattle.sr_tree.specs.declared.expr.Expr.{Expr}
use Rattle.sr_tree.specs.declared.expr.Invocation.{Invocation}
use Rattle.sr_types.specs.declared.ty.Ty.{Ty}
use Rattle.sr_value.specs.declared.place.Span.{Span}
use Rattle.sr_front.specs.Invocations.{InvocationTest, action_invokes, argument_invokes, co_invokes, expr_invokes, expr_seen, place_invokes, target_passes}
use Rattle.sr_front.proofs.Served.CalledParts.{arguments_typed, called_at, called_is, callee_is, callee_of, callee_typed, trees_in}
use Rattle.sr_front.proofs.Invoked.InvokesExprs.{arguments_invoke, call_invokes, expr_place_invokes, expr_value_invokes, tree_invokes}
use Rattle.sr_front.proofs.Invoked.InvokesMet.{Allowed, Passes, bare_target, forwarded_passes, invoked_met, invoked_target, sent_passes, started_passes, statement_passes}
use Rattle.sr_front.proofs.Invoked.InvokesRules.{lowered_invokes, value_of_invokes}
use Rattle.sr_front.proofs.Invoked.InvokesTargets.{Reads}
use Rattle.sr_front.proofs.Invoked.InvokesTrees.{FitsHere, number_of, tree_fits}

module _ (test : InvocationTest) (scene : Scene) (allowed : Allowed test scene) (known : Facts) (reads : Reads test scene known) where
  abbrev AllLowered : List Lowered → Type 0
  AllLowered all = IsTrue (list_all (lowered_invokes test) all)

  pub value : (tree : Expr) → ErrorFree (valued (infer_expr tree known)) → IsTrue (expr_invokes test (core_value scene tree))
  value tree whole = expr_value_invokes test scene allowed known reads tree (error_free_first (infer_expr tree known).found (value_found (infer_expr tree known).typed_expr) whole)

  pub place : (tree : Expr) → ErrorFree (valued (infer_expr tree known)) → IsTrue (place_invokes test (core_place scene tree))
  place tree whole = expr_place_invokes test scene allowed known reads tree (error_free_first (infer_expr tree known).found (value_found (infer_expr tree known).typed_expr) whole)

  -- ---- parts

  args_invoke : (trees : List Expr) → ErrorFree (all_found (typings_of known trees)) → AllLowered (lowered_of (map (with_core scene) trees))
  args_invoke [] whole = refl
  args_invoke (tree ∷ trees) whole =
      and_from _ _ (tree_invokes test scene allowed known reads tree (error_free_first (infer_expr tree known).found _ whole)) (args_invoke trees (error_free_second (infer_expr tree known).found _ whole))

  args_count : (trees : List Expr) → length (typed_exprs_of (typings_of known trees)) ≡ length (lowered_of (map (with_core scene) trees))
  args_count [] = refl
  args_count (tree ∷ trees) = ap suc (args_count trees)

  abbrev final_type : Invocation → Ty
  final_type invocation = type_of_expr scene.facts (callee_of invocation)

  -- the parts of an invocation pass
  record Parts (invocation : Invocation) : Type 0 where
    callee : IsTrue (lowered_invokes test (core_sending scene invocation).callee.1)
    arguments : AllLowered (lowered_of (core_sending scene invocation).arguments)
    fits : FitsHere test scene allowed.ends known reads (callee_typed known invocation) (final_type invocation) (number_of test scene allowed.ends known reads (core_value scene (callee_of invocation)))

  parts_pass : (invocation : Invocation) → ErrorFree (parts_found (called_at known invocation)) → Parts invocation
  parts_pass invocation whole =
      let first = error_free_first (infer_expr (callee_of invocation) known).found (all_found (typings_of known (trees_in invocation))) whole in
      record {
        callee = tree_invokes test scene allowed known reads (callee_of invocation) first;
        arguments = args_invoke (trees_in invocation) (error_free_second (infer_expr (callee_of invocation) known).found (all_found (typings_of known (trees_in invocation))) whole);
        fits = tree_fits test scene allowed.ends known reads (callee_of invocation) first;
      }

  sent_invoke : (invocation : Invocation) → Parts invocation → IsTrue (list_all (argument_invokes test) (sent_arguments scene.facts (core_sending scene invocation)))
  sent_invoke invocation parts = arguments_invoke test scene allowed (params_of scene.facts (final_type invocation)) (lowered_of (core_sending scene invocation).arguments) parts.arguments

  -- a target with its arguments
  target_invokes : (passes : ℕ → ℕ → Bool) (invocation : Invocation) → Parts invocation → Passes test scene allowed known reads passes (callee_typed known invocation) (final_type invocation) (length (arguments_typed known invocation))
      → IsTrue (target_passes passes (expr_seen test (core_value scene (callee_of invocation))) (length (sent_arguments scene.facts (core_sending scene invocation))))
  target_invokes passes invocation parts met =
      invoked_target test scene allowed known reads passes (core_value scene (callee_of invocation)) (callee_typed known invocation) (final_type invocation) (lowered_of (core_sending scene invocation).arguments)
      (value_of_invokes test (core_sending scene invocation).callee.1 parts.callee) parts.fits
      (λ number target. ((met number target).0, (met number target).1 ∙ args_count (trees_in invocation)))

  told_invoke : (invocation : Invocation) → Parts invocation → IsTrue (list_all (expr_invokes test) (all_told (core_sending scene invocation)))
  told_invoke invocation parts = turned_passes (expr_invokes test) (lowered_invokes test) value_of (value_of_invokes test) (lowered_of (core_sending scene invocation).arguments) parts.arguments

  -- ---- `send` and `forward`

  pub send_invokes : (span : Span) (invocation : Invocation) → ErrorFree (send_found known span (infer_invocation invocation known)) → IsTrue (action_invokes test (send_of scene (core_sending scene invocation)))
  send_invokes span invocation found =
      let whole = subst (λ called. ErrorFree (send_found known span called)) (called_is known invocation) found in
      let parts = parts_pass invocation (error_free_first (parts_found (called_at known invocation)) _ whole) in
      let met = invoked_met known span (is_sendable known.signatures (callee_typed known invocation).typed.ty) (callee_typed known invocation) (arguments_typed known invocation) (error_free_second (parts_found (called_at known invocation)) _ whole) in
      and_from _ _ (target_invokes test.sends invocation parts (sent_passes test scene allowed known reads (callee_typed known invocation) (final_type invocation) (arguments_typed known invocation) met)) (sent_invoke invocation parts)

  pub forward_invokes : (context : Context) → context.facts ≡ known → (span : Span) (invocation : Invocation) → ErrorFree (forward_found context span (infer_invocation invocation context.facts))
      → IsTrue (action_invokes test (forward_of scene (core_sending scene invocation)))
  forward_invokes context same span invocation found =
      let whole = subst (λ called. ErrorFree (forward_found context span called)) (ap (infer_invocation invocation) same ∙ called_is known invocation) found in
      let parts = parts_pass invocation (error_free_first (parts_found (called_at known invocation)) _ whole) in
      let there = error_free_first (invoked_found context.facts span true (callee_typed known invocation) (arguments_typed known invocation)) _ (error_free_second (parts_found (called_at known invocation)) _ whole) in
      let here = subst (λ facts. ErrorFree (invoked_found facts span true (callee_typed known invocation) (arguments_typed known invocation))) same there in
      let met = invoked_met known span true (callee_typed known invocation) (arguments_typed known invocation) here in
      and_from _ _ (target_invokes test.forwards invocation parts (forwarded_passes test scene allowed known reads (callee_typed known invocation) (final_type invocation) (arguments_typed known invocation) met)) (sent_invoke invocation parts)

  -- `V(e)` sends to its one argument
  v_invokes : (span : Span) (trees : List Expr) → ErrorFree (all_found (typings_of known trees)) → ErrorFree (v_found known span (typed_exprs_of (typings_of known trees)))
      → IsTrue (target_passes test.sends (expr_seen test (first_expr (values (lowered_of (map (with_core scene) trees))))) 0)
  v_invokes span [] found whole = absurd whole
  v_invokes span (tree ∷ []) found whole =
      let first = error_free_first (infer_expr tree known).found _ found in
      let typed = (infer_expr tree known).typed_expr in
      bare_target test scene allowed known reads test.sends (core_value scene tree) typed (type_of_expr scene.facts tree) (expr_value_invokes test scene allowed known reads tree first)
      (tree_fits test scene allowed.ends known reads tree first)
      (sent_passes test scene allowed known reads typed (type_of_expr scene.facts tree) [] (invoked_met known span (is_sendable known.signatures typed.typed.ty) typed [] whole))
  v_invokes span (tree ∷ other ∷ trees) found whole = absurd whole

  -- ---- calls

  evaluated : (invocation : Invocation) → Parts invocation → Passes test scene allowed known reads test.calls (callee_typed known invocation) (final_type invocation) (length (arguments_typed known invocation))
      → IsTrue (expr_invokes test (call_of scene (core_sending scene invocation)))
  evaluated invocation parts met =
      let sending = core_sending scene invocation in
      call_invokes test scene allowed sending (typed_expr scene.facts sending.callee.0).named parts.callee parts.arguments (target_invokes test.calls invocation parts met)

  module _ (context : Context) (same : context.facts ≡ known) (span : Span) (invocation : Invocation) where
    abbrev Found : Named → Type 0
    Found what = ErrorFree (called_found context span (callee_typed known invocation) (arguments_typed known invocation) what)

    v_found_is : Found (callee_typed known invocation).named → function_called scene.facts invocation ≡ Some predefined.V → ErrorFree (v_found known span (arguments_typed known invocation))
    v_found_is found e = subst (λ facts. ErrorFree (v_found facts span (arguments_typed known invocation))) same (subst Found (callee_is scene known (sym reads.stay.uses) predefined.V (λ span. refl) invocation e) found)

    named_invokes : (name : Predefined) → function_called scene.facts invocation ≡ Some name → Parts invocation → ErrorFree (all_found (typings_of known (trees_in invocation))) → Found (callee_typed known invocation).named
        → IsTrue (expr_invokes test (call_of scene (core_sending scene invocation))) → IsTrue (action_invokes test (named_action scene invocation name))
    named_invokes predefined.Write e parts arguments found evaluation = told_invoke invocation parts
    named_invokes predefined.Writes e parts arguments found evaluation = told_invoke invocation parts
    named_invokes predefined.V e parts arguments found evaluation = and_from _ _ (v_invokes span (trees_in invocation) arguments (v_found_is found e)) refl
    named_invokes _ e parts arguments found evaluation = evaluation

    action_by : (function : Option Predefined) → function_called scene.facts invocation ≡ function → Parts invocation → ErrorFree (all_found (typings_of known (trees_in invocation))) → Found (callee_typed known invocation).named
        → IsTrue (expr_invokes test (call_of scene (core_sending scene invocation))) → IsTrue (action_invokes test (call_action scene invocation function))
    action_by None e parts arguments found evaluation = evaluation
    action_by (Some name) e parts arguments found evaluation = named_invokes name e parts arguments found evaluation

    pub call_action_invokes : ErrorFree (call_found context span (infer_invocation invocation context.facts)) → IsTrue (action_invokes test (call_action scene invocation (function_called scene.facts invocation)))
    call_action_invokes found =
        let whole = subst (λ called. ErrorFree (call_found context span called)) (ap (infer_invocation invocation) same ∙ called_is known invocation) found in
        let first = error_free_first (parts_found (called_at known invocation)) _ whole in
        let parts = parts_pass invocation first in
        let call = error_free_second (parts_found (called_at known invocation)) _ whole in
        action_by (function_called scene.facts invocation) refl parts (error_free_second (infer_expr (callee_of invocation) known).found _ first) call
        (evaluated invocation parts (statement_passes test scene allowed known reads context same span (callee_typed known invocation) (final_type invocation) (arguments_typed known invocation) call))

  -- ---- arms of `co`

  co_target : (span : Span) (target : Option Expr) (ty : Ty) (invoked : Span) → ErrorFree (place_found known span target ty invoked) → IsTrue (if_some (place_invokes test) (option_map (core_place scene) target))
  co_target span None ty invoked whole = refl
  co_target span (Some target) ty invoked whole = place target (error_free_first (valued (infer_expr target known)) _ whole)

  pub co_call_invokes : (span : Span) (target : Option Expr) (invocation : Invocation) → ErrorFree (started_found known span target (infer_invocation invocation known)) → IsTrue (co_invokes test (co_call scene target (core_sending scene invocation)))
  co_call_invokes span target invocation found =
      let called = called_at known invocation in
      let whole = subst (λ one. ErrorFree (started_found known span target one)) (called_is known invocation) found in
      let parts = parts_pass invocation (error_free_first (parts_found called) _ whole) in
      let after = error_free_second (parts_found called) _ whole in
      let invoked = invoked_found known called.span (is_callable known.signatures called.callee.typed_expr.typed.ty) called.callee.typed_expr (typed_exprs_of called.arguments) in
      let met = invoked_met known called.span (is_callable known.signatures (callee_typed known invocation).typed.ty) (callee_typed known invocation) (arguments_typed known invocation) (error_free_first invoked _ after) in
      and_from _ _ (co_target span target called.callee.typed_expr.typed.ty called.span (error_free_second invoked _ after))
      (and_from _ _ (target_invokes test.calls invocation parts (started_passes test scene allowed known reads (callee_typed known invocation) (final_type invocation) (arguments_typed known invocation) met)) (sent_invoke invocation parts))
