-- Where no rule is broken in an invocation that is a statement or an arm of `co`, what its core mentions passes.
use Rattle.std.proofs.Common.{◌≡◌, Bool, true, List, [], ◌∷◌, ◌++◌, Option, Some, None, map, IsTrue, refl, ap, subst, ◌∙◌}
use Rattle.std.proofs.lemmas.Bool.{and_parts}
use Rattle.std.specs.List.{list_all}
use Rattle.std.specs.Option.{option_map}
use Rattle.sr_check.proofs.Each.{each-left, each-right}
use Rattle.sr_check.proofs.ErrorFree.{error_free_first, error_free_second, rule_met}
use Rattle.sr_check.specs.Contexts.{Context}
use Rattle.sr_check.specs.ErrorFree.{ErrorFree}
use Rattle.sr_check.specs.Invoking.{call_found, called_found, forward_found, function_called as function_found, invoked_found, place_found, result_found, send_found, started_found, v_found}
use Rattle.sr_check_decl.specs.Variables.{typings_of}
use Rattle.sr_check_expr.specs.declared.facts.Facts.{Facts}
use Rattle.sr_check_expr.specs.declared.typed_expr.TypedExpr.{TypedExpr}
use Rattle.sr_check_expr.specs.declared.typed_expr.Named.{Named}
use Rattle.sr_check_expr.specs.declared.typed_expr.Named.TheVariants as named
use Rattle.sr_check_expr.specs.Arguments.{all_found, all_valued, is_callable, is_sendable, returned_by}
use Rattle.sr_check_expr.specs.Calls.{invocation_found, parts_found}
use Rattle.sr_check_expr.specs.Exprs.{infer_expr, infer_invocation}
use Rattle.sr_check_expr.specs.Meanings.{function_called, type_of, typed_expr}
use Rattle.sr_check_expr.specs.PredefinedCalls.{function_found as typing_found}
use Rattle.sr_check_expr.specs.Typings.{typed_exprs_of, value_found, valued}
use Rattle.sr_core.specs.declared.expression.Function.TheVariants as function
use Rattle.sr_desugar.specs.Statements.{all_told, call_action, co_call, first_expr, forward_of, named_action, send_of}
use Rattle.sr_lower_expr.specs.declared.scene.Scene.{Scene}
use Rattle.sr_lower_expr.specs.Expressions.{call_core, call_of, call_returns, core_expr, core_place, core_sending, core_value, function_core, lowered_of, sent_arguments, trees_of, values, with_core}
use Rattle.sr_lower_expr.specs.Places.{value_of}
use Rattle.sr_lower_expr.proofs.Each.{both_pass}
use Rattle.sr_names.specs.declared.finding.Rule.TheVariants.{BadType}
use Rattle.sr_names.specs.declared.predefined.Predefined.{Predefined}
use Rattle.sr_names.specs.declared.predefined.Predefined.TheVariants as predefined
use Rattle.sr_order.specs.Names.{create_names_step, expr_names, expr_names_step, invocation_names, invocation_names_step, part_names_step, where_some}
use Rattle.sr_order.specs.Spans.{joined}
use Rattle.sr_tables.specs.declared.sites.Mention.{Mention}
use Rattle.sr_front.specs.Imports.{co_call_mentions, arguments_mentions}
use Rattle.sr_tables.specs.Sites.{mentions_at, mentions_in, mentions_in_argument}
use Rattle.sr_tables.specs.Lists.{maybe}
use Rattle.sr_tree.specs.declared.expr.Create.TheFolds.{fold_out-Invocation}
use Rattle.sr_tree.specs.declared.expr.Expr.{Expr}
use Rattle.sr_tree.specs.declared.expr.Invocation.{Invocation}
use Rattle.sr_types.specs.declared.ty.Ty.{Ty}
use Rattle.sr_types.specs.Storing.{store_rule}
use Rattle.sr_types.specs.Outcomes.{computed}
use Rattle.sr_types.specs.declared.typed.Static.TheVariants.{Unknown}
use Rattle.sr_value.specs.declared.place.Span.{Span}
use Rattle.sr_front.proofs.Served.CalledParts.{arguments_typed, called_at, called_is, callee_is, callee_of, callee_typed, trees_in}
use Rattle.sr_front.proofs.Mentioned.CodeRules.{action_passes}
use Rattle.sr_front.proofs.Known.ExprsStay.{expr_stays}
use Rattle.sr_front.proofs.Invoked.InvokesMet.{invoked_met}
use Rattle.sr_front.proofs.Mentioned.MentionRules.{all_pass, call_rule, expr_passes, place_passes, rows}
use Rattle.sr_front.proofs.Mentioned.RootedExprs.{AllHad, Invoked, expr_fine, invoked}
use Rattle.sr_front.proofs.Mentioned.RootedParts.{AllFine, Fine, Had, Others, all_fine, applied, fine_place, fine_value, function_passes, nothing_passes, value_of_passes, values_pass}
use Rattle.sr_front.proofs.Typed.TypedPlaces.{AtPlace}

module _ (scene : Scene) (test : Mention → Bool) (others : Others scene test) (known : Facts) (at : AtPlace scene known) where
  abbrev HadName : Span → Type 0
  HadName = Had scene test

  abbrev Names : List Span → Type 0
  Names = AllHad scene test others

  abbrev Pass : List Mention → Type 0
  Pass mentions = IsTrue (all_pass test mentions)

  both : (xs ys : List Mention) → Pass xs → Pass ys → Pass (xs ++ ys)
  both = both_pass test

  -- ---- expressions

  fine : (tree : Expr) → Names (expr_names tree) → ErrorFree (infer_expr tree known).found → Fine scene test (infer_expr tree known).typed_expr (core_expr scene tree)
  fine = expr_fine scene test others known at

  pub value : (tree : Expr) → Names (expr_names tree) → ErrorFree (valued (infer_expr tree known)) → IsTrue (expr_passes test (core_value scene tree))
  value tree had whole =
      let here = infer_expr tree known in
      value_of_passes scene test (core_expr scene tree) (fine_value scene test here.typed_expr (core_expr scene tree) (fine tree had (error_free_first here.found _ whole)) (error_free_second here.found _ whole))

  pub place : (tree : Expr) → Names (expr_names tree) → ErrorFree (valued (infer_expr tree known)) → IsTrue (infer_expr tree known).typed_expr.typed.is_place → IsTrue (place_passes test (core_place scene tree))
  place tree had whole is =
      let here = infer_expr tree known in
      fine_place scene test here.typed_expr (core_expr scene tree) (fine tree had (error_free_first here.found _ whole)) (error_free_second here.found _ whole) is

  -- ---- parts

  args_fine : (trees : List Expr) → Names (joined (map expr_names trees)) → ErrorFree (all_found (typings_of known trees)) → AllFine scene test (typed_exprs_of (typings_of known trees)) (lowered_of (map (with_core scene) trees))
  args_fine [] had whole = tt
  args_fine (tree ∷ trees) had whole = (
    fine tree (each-left HadName (expr_names tree) _ had) (error_free_first (infer_expr tree known).found _ whole),
    args_fine trees (each-right HadName (expr_names tree) _ had) (error_free_second (infer_expr tree known).found _ whole),
  )

  -- the parts of an invocation are so
  record Parts (invocation : Invocation) : Type 0 where
    callee : Fine scene test (callee_typed known invocation) (core_expr scene (callee_of invocation))
    arguments : AllFine scene test (arguments_typed known invocation) (lowered_of (core_sending scene invocation).arguments)
    named : (callee_typed known invocation).named ≡ (typed_expr scene.facts (callee_of invocation)).named
    same : (callee_typed known invocation).typed.ty ≡ type_of scene.facts (callee_of invocation)

  parts_fine : (invocation : Invocation) → Names (invocation_names invocation) → ErrorFree (parts_found (called_at known invocation)) → Parts invocation
  parts_fine invocation all whole =
      let callee = callee_of invocation in
      let names = subst Names (fold_out-Invocation (List Span) (List Span) (List Span) (List Span) create_names_step expr_names_step invocation_names_step part_names_step invocation) all in
      let first = error_free_first (infer_expr callee known).found (all_found (typings_of known (trees_in invocation))) whole in
      let stays = expr_stays known scene.facts at.grows callee first in
      record {
        callee = fine callee (each-left HadName (expr_names callee) _ names) first;
        arguments = args_fine (trees_in invocation) (each-right HadName (expr_names callee) _ names) (error_free_second (infer_expr callee known).found (all_found (typings_of known (trees_in invocation))) whole);
        named = ap (λ (one : TypedExpr). one.named) stays;
        same = ap (λ (one : TypedExpr). one.typed.ty) stays;
      }

  -- what is invoked, and its arguments
  sent : (span : Span) (invocation : Invocation) (allowed : Bool) → Parts invocation → ErrorFree (invoked_found known span allowed (callee_typed known invocation) (arguments_typed known invocation))
      → Invoked scene test others known at (core_sending scene invocation)
  sent span invocation allowed parts whole =
      let callee = callee_typed known invocation in
      let typed = arguments_typed known invocation in
      invoked scene test others known at span callee typed (core_sending scene invocation) parts.callee.passes parts.arguments parts.same
      (error_free_first (invocation_found known span callee typed) _ whole) (invoked_met known span allowed callee typed whole).takes

  abbrev sent_in : Invocation → List Mention
  sent_in invocation = mentions_in (value_of (core_sending scene invocation).callee.1) ++ arguments_mentions (sent_arguments scene.facts (core_sending scene invocation))

  sent_pass : (invocation : Invocation) → Invoked scene test others known at (core_sending scene invocation) → Pass (sent_in invocation)
  sent_pass invocation one =
      let sending = core_sending scene invocation in
      both (mentions_in (value_of sending.callee.1)) (arguments_mentions (sent_arguments scene.facts sending)) one.target (rows test mentions_in_argument (sent_arguments scene.facts sending) one.arguments)

  told_pass : (invocation : Invocation) → Parts invocation → ErrorFree (all_valued (arguments_typed known invocation)) → IsTrue (list_all (expr_passes test) (all_told (core_sending scene invocation)))
  told_pass invocation parts whole =
      let all = lowered_of (core_sending scene invocation).arguments in
      values_pass scene test all (all_fine scene test (arguments_typed known invocation) all parts.arguments whole)

  -- ---- `send` and `forward`

  pub send_passes : (span : Span) (invocation : Invocation) → Names (invocation_names invocation) → ErrorFree (send_found known span (infer_invocation invocation known)) → IsTrue (action_passes test (send_of scene (core_sending scene invocation)))
  send_passes span invocation had found =
      let whole = subst (λ called. ErrorFree (send_found known span called)) (called_is known invocation) found in
      let parts = parts_fine invocation had (error_free_first (parts_found (called_at known invocation)) _ whole) in
      sent_pass invocation (sent span invocation (is_sendable known.signatures (callee_typed known invocation).typed.ty) parts (error_free_second (parts_found (called_at known invocation)) _ whole))

  -- ---- calls

  -- the function that is called as a statement
  function_called_passes : (context : Context) → context.facts ≡ known → (span : Span) (invocation : Invocation) (name : Predefined) → Parts invocation → ErrorFree (function_found context span name (arguments_typed known invocation))
      → IsTrue (expr_passes test (function_core scene name (trees_of (core_sending scene invocation).arguments) (lowered_of (core_sending scene invocation).arguments)))
  function_called_passes context same span invocation predefined.Read parts whole =
      let sending = core_sending scene invocation in
      function_passes scene test others.machine context.facts span predefined.Read (trees_of sending.arguments) (arguments_typed known invocation) (lowered_of sending.arguments) parts.arguments
      (error_free_first (typing_found context.facts span predefined.Read (arguments_typed known invocation)) _ whole)
  function_called_passes context same span invocation predefined.Write parts whole = nothing_passes scene test
  function_called_passes context same span invocation predefined.Writes parts whole = nothing_passes scene test
  function_called_passes context same span invocation predefined.P parts whole = nothing_passes scene test
  function_called_passes context same span invocation predefined.V parts whole = nothing_passes scene test
  function_called_passes context same span invocation name parts whole = absurd (error_free_second (all_valued (arguments_typed known invocation)) _ whole)

  arguments_had : (invocation : Invocation) → Names (invocation_names invocation) → Names (joined (map expr_names (trees_in invocation)))
  arguments_had invocation all =
      each-right HadName (expr_names (callee_of invocation)) _
      (subst Names (fold_out-Invocation (List Span) (List Span) (List Span) (List Span) create_names_step expr_names_step invocation_names_step part_names_step invocation) all)

  module _ (context : Context) (same : context.facts ≡ known) (span : Span) (invocation : Invocation) where
    abbrev Found : Named → Type 0
    Found what = ErrorFree (called_found context span (callee_typed known invocation) (arguments_typed known invocation) what)

    evaluated : (what : Named) → Parts invocation → Found what → IsTrue (expr_passes test (call_core scene (core_sending scene invocation) what))
    evaluated (named.Predefined name) parts found = function_called_passes context same span invocation name parts found
    evaluated (named.«Type» ty) parts found =
        let sending = core_sending scene invocation in
        let after = error_free_second (value_found (callee_typed known invocation)) _ (error_free_first (invocation_found context.facts span (callee_typed known invocation) (arguments_typed known invocation)) _ found) in
        applied scene test function.Record (lowered_of sending.arguments)
        (all_fine scene test (arguments_typed known invocation) (lowered_of sending.arguments) parts.arguments (error_free_first (all_valued (arguments_typed known invocation)) _ after))
    evaluated _ parts found =
        let sending = core_sending scene invocation in
        let callable = is_callable known.signatures (callee_typed known invocation).typed.ty in
        let here = subst (λ facts. ErrorFree (invoked_found facts span (is_callable facts.signatures (callee_typed known invocation).typed.ty) (callee_typed known invocation) (arguments_typed known invocation))) same found in
        let one = sent span invocation callable parts here in
        call_rule test (value_of sending.callee.1) (sent_arguments scene.facts sending) (call_returns scene sending) one.target one.arguments

    evaluation_passes : Parts invocation → Found (callee_typed known invocation).named → IsTrue (expr_passes test (call_of scene (core_sending scene invocation)))
    evaluation_passes parts found = subst (λ what. IsTrue (expr_passes test (call_core scene (core_sending scene invocation) what))) parts.named (evaluated (callee_typed known invocation).named parts found)

    -- ---- the statements among the predefined functions

    value_of_told : (trees : List Expr) → Names (joined (map expr_names trees)) → ErrorFree (all_found (typings_of known trees)) → ErrorFree (v_found context.facts span (typed_exprs_of (typings_of known trees)))
        → IsTrue (expr_passes test (first_expr (values (lowered_of (map (with_core scene) trees)))))
    value_of_told [] had found whole = absurd whole
    value_of_told (tree ∷ []) had found whole =
        let here = infer_expr tree known in
        let callee = here.typed_expr in
        let valid = error_free_first (value_found callee) _ (error_free_first (invocation_found context.facts span callee []) _ whole) in
        value_of_passes scene test (core_expr scene tree)
        (fine_value scene test callee (core_expr scene tree) (fine tree (each-left HadName (expr_names tree) [] had) (error_free_first here.found [] found)) valid)
    value_of_told (tree ∷ other ∷ trees) had found whole = absurd whole

    named_passes : (name : Predefined) → function_called scene.facts invocation ≡ Some name → Names (invocation_names invocation) → ErrorFree (parts_found (called_at known invocation)) → Parts invocation → Found (callee_typed known invocation).named
        → IsTrue (action_passes test (named_action scene invocation name))
    named_passes predefined.Write e had whole parts found =
        let told = told_pass invocation parts (error_free_first (all_valued (arguments_typed known invocation)) _ (subst Found (callee_is scene known at.grows.uses predefined.Write (λ span. refl) invocation e) found)) in
        rows test mentions_in (all_told (core_sending scene invocation)) told
    named_passes predefined.Writes e had whole parts found =
        let told = told_pass invocation parts (error_free_first (all_valued (arguments_typed known invocation)) _ (subst Found (callee_is scene known at.grows.uses predefined.Writes (λ span. refl) invocation e) found)) in
        rows test mentions_in (all_told (core_sending scene invocation)) told
    named_passes predefined.V e had whole parts found =
        both (mentions_in (first_expr (all_told (core_sending scene invocation)))) []
        (value_of_told (trees_in invocation) (arguments_had invocation had) (error_free_second (infer_expr (callee_of invocation) known).found _ whole) (subst Found (callee_is scene known at.grows.uses predefined.V (λ span. refl) invocation e) found)) refl
    named_passes name e had whole parts found = evaluation_passes parts found

    action_by : (function : Option Predefined) → function_called scene.facts invocation ≡ function → Names (invocation_names invocation) → ErrorFree (parts_found (called_at known invocation)) → Parts invocation → Found (callee_typed known invocation).named
        → IsTrue (action_passes test (call_action scene invocation function))
    action_by None e had whole parts found = evaluation_passes parts found
    action_by (Some name) e had whole parts found = named_passes name e had whole parts found

    pub call_action_passes : Names (invocation_names invocation) → ErrorFree (call_found context span (infer_invocation invocation context.facts)) → IsTrue (action_passes test (call_action scene invocation (function_called scene.facts invocation)))
    call_action_passes had found =
        let whole = subst (λ called. ErrorFree (call_found context span called)) (ap (infer_invocation invocation) same ∙ called_is known invocation) found in
        let first = error_free_first (parts_found (called_at known invocation)) _ whole in
        action_by (function_called scene.facts invocation) refl had first (parts_fine invocation had first) (error_free_second (parts_found (called_at known invocation)) _ whole)

    pub forward_passes : Names (invocation_names invocation) → ErrorFree (forward_found context span (infer_invocation invocation context.facts)) → IsTrue (action_passes test (forward_of scene (core_sending scene invocation)))
    forward_passes had found =
        let whole = subst (λ called. ErrorFree (forward_found context span called)) (ap (infer_invocation invocation) same ∙ called_is known invocation) found in
        let parts = parts_fine invocation had (error_free_first (parts_found (called_at known invocation)) _ whole) in
        let there = error_free_first (invoked_found context.facts span true (callee_typed known invocation) (arguments_typed known invocation)) _ (error_free_second (parts_found (called_at known invocation)) _ whole) in
        let here = subst (λ facts. ErrorFree (invoked_found facts span true (callee_typed known invocation) (arguments_typed known invocation))) same there in
        sent_pass invocation (sent span invocation true parts here)

  -- ---- arms of `co`

  stored : (span : Span) (target : TypedExpr) (returned : Option Ty) (invoked : Span) → ErrorFree (result_found span target returned invoked) → IsTrue target.typed.is_place
  stored span target None invoked whole = absurd whole
  stored span target (Some ty) invoked whole = (and_parts target.typed.is_place _ (rule_met (store_rule target.typed (computed ty Unknown)) BadType span whole)).0

  co_target : (span : Span) (target : Option Expr) (ty : Ty) (invoked : Span) → Names (where_some expr_names target) → ErrorFree (place_found known span target ty invoked) → Pass (maybe mentions_at (option_map (core_place scene) target))
  co_target span None ty invoked had whole = refl
  co_target span (Some target) ty invoked had whole =
      let here = infer_expr target known in
      place target had (error_free_first (valued here) _ whole) (stored span here.typed_expr (returned_by known.signatures ty) invoked (error_free_second (valued here) _ whole))

  pub co_call_passes : (span : Span) (target : Option Expr) (invocation : Invocation) → Names (where_some expr_names target) → Names (invocation_names invocation) → ErrorFree (started_found known span target (infer_invocation invocation known))
      → Pass (co_call_mentions (co_call scene target (core_sending scene invocation)))
  co_call_passes span target invocation had names found =
      let called = called_at known invocation in
      let whole = subst (λ one. ErrorFree (started_found known span target one)) (called_is known invocation) found in
      let parts = parts_fine invocation names (error_free_first (parts_found called) _ whole) in
      let after = error_free_second (parts_found called) _ whole in
      let invoked = invoked_found known called.span (is_callable known.signatures called.callee.typed_expr.typed.ty) called.callee.typed_expr (typed_exprs_of called.arguments) in
      let one = sent called.span invocation (is_callable known.signatures (callee_typed known invocation).typed.ty) parts (error_free_first invoked _ after) in
      both (maybe mentions_at (option_map (core_place scene) target)) (sent_in invocation)
      (co_target span target called.callee.typed_expr.typed.ty called.span had (error_free_second invoked _ after)) (sent_pass invocation one)
