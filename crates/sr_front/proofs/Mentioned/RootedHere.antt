-- Where no rule is broken, what the parts of statements mention passes.
use Rattle.std.proofs.Common.{◌≡◌, Bool, true, false, List, [], ◌∷◌, ◌++◌, ◌||◌, Option, Some, None, map, flat_map, IsTrue, refl, subst}
use Rattle.std.proofs.lemmas.Bool.{and_from, and_parts, false≢true}
use Rattle.std.proofs.lemmas.Option.{none-some}
use Rattle.std.specs.List.{list_all}
use Rattle.std.specs.Option.{option_map}
use Rattle.sr_value.specs.declared.place.Span.{Span}
use Rattle.sr_check.proofs.Each.{Each, each-left, each-right}
use Rattle.sr_check.proofs.ErrorFree.{error_free_both, error_free_first, error_free_second, rule_met}
use Rattle.sr_check.specs.declared.operation.Operation.{Operation}
use Rattle.sr_check.specs.Contexts.{Context}
use Rattle.sr_check.specs.ErrorFree.{ErrorFree}
use Rattle.sr_check.specs.Quantifying.{maybe_with}
use Rattle.sr_check.specs.Receiving.{receive_by, receive_found, received_found, received_rule, takes_all}
use Rattle.sr_check.specs.Services.{decl_named, operation_named, params_of}
use Rattle.sr_check.specs.Uses.{choice_rule}
use Rattle.sr_check_decl.specs.Variables.{typings_of}
use Rattle.sr_check_expr.specs.declared.facts.Facts.{Facts}
use Rattle.sr_check_expr.specs.declared.typed_expr.TypedExpr.{TypedExpr}
use Rattle.sr_check_expr.specs.Arguments.{all_found, all_valued, as_many}
use Rattle.sr_check_expr.specs.Exprs.{infer_expr}
use Rattle.sr_check_expr.specs.Typings.{broken_unless, typed_exprs_of, value_found, valued}
use Rattle.sr_core.specs.declared.expression.Expr.TheVariants as core
use Rattle.sr_core.specs.declared.expression.Leaf.TheVariants as leaf
use Rattle.sr_core.specs.declared.statement.Action.TheVariants as action
use Rattle.sr_desugar.specs.Statements.{receive_assign, receive_made, condition_of}
use Rattle.sr_lower_expr.specs.declared.scene.Scene.{Scene}
use Rattle.sr_lower_expr.specs.Expressions.{core_place, core_value}
use Rattle.sr_lower_expr.specs.Places.{own_place, own_root, site_number}
use Rattle.sr_lower_expr.proofs.Each.{both_pass}
use Rattle.sr_names.specs.declared.finding.Rule.TheVariants.{BadType}
use Rattle.sr_names.specs.declared.spot.Spot.{Spot}
use Rattle.sr_names.specs.Spots.{spot_of}
use Rattle.sr_order.specs.Names.{expr_names, where_some, condition_names, const_names, create_names, invocation_names, var_names}
use Rattle.sr_outline.specs.Numbers.{place_spots}
use Rattle.sr_tables.specs.declared.sites.Mention.{Mention}
use Rattle.sr_tables.specs.declared.sites.Mention.TheVariants as mention
use Rattle.sr_tables.specs.Lists.{maybe}
use Rattle.sr_tables.specs.Parts.{line_of}
use Rattle.sr_tables.specs.Sites.{mentions_at, mentions_in}
use Rattle.sr_tree.specs.declared.expr.Expr.{Expr}
use Rattle.sr_tree.specs.declared.name.Name.{Name}
use Rattle.sr_tree.specs.Expressions.{expr_span}
use Rattle.sr_types.specs.declared.signature.Param.{Param}
use Rattle.sr_types.specs.declared.signature.Signature.{Signature}
use Rattle.sr_types.specs.declared.ty.Ty.{Ty, out-Ty}
use Rattle.sr_types.specs.declared.ty.Ty.TheOpen.{Ty-F}
use Rattle.sr_types.specs.Signatures.{layer_signature}
use Rattle.sr_types.specs.Types.{layer_is_untyped}
use Rattle.sr_front.proofs.Mentioned.CodeRules.{act_rule, block_rule, in_rule, one_passes}
use Rattle.sr_front.proofs.Known.KeptBy.{Names}
use Rattle.sr_front.proofs.Mentioned.MentionRules.{all_pass, leaf_rule, load_rule, place_passes}
use Rattle.sr_front.proofs.Lists.Placed.{Ending}
use Rattle.sr_front.proofs.Mentioned.RootedActions.{place, value, call_action_passes, co_call_passes, forward_passes, send_passes}
use Rattle.sr_front.proofs.Mentioned.RootedDecls.{const_passes, vars_pass}
use Rattle.sr_front.proofs.Mentioned.RootedExprs.{AllHad, create_passes}
use Rattle.sr_front.proofs.Mentioned.RootedParts.{Had, Others, place_at_passes}
use Rattle.sr_front.proofs.Typed.TypedCode.{Good, HasSignature, SignedBy, operation_signed}
use Rattle.sr_front.proofs.Typed.TypedPlaces.{AtPlace}
use Rattle.sr_check.specs.Statements.{condition_found, guarding, guards_found}
use Rattle.sr_check_expr.specs.Meanings.{meant_by}
use Rattle.sr_tree.specs.declared.statement.ArmCondition.{ArmCondition}
use Rattle.sr_front.proofs.Made.MadeHere.{AndTyped, HeldIn, MadeParts}
use Rattle.sr_front.proofs.Mentioned.RootedFits.{mention_tests}
use Rattle.sr_front.proofs.Typed.TypedSteps.{guarding_place}

-- ---- what is received

-- what has a signature has a type
signed_layer : (facts : Facts) (layer : Ty-F Ty) (signature : Signature) → layer_signature facts.signatures layer ≡ Some signature → layer_is_untyped layer ≡ false
signed_layer facts Ty-F.Untyped signature is = absurd (none-some signature is)
signed_layer facts _ signature is = refl

taken_all : (facts : Facts) (ty : Ty) (places : List TypedExpr) → HasSignature facts ty → takes_all facts ty places ≡ true → as_many (params_of facts.signatures ty) places ≡ true
taken_all facts ty places signed met =
    subst (λ untyped. untyped || as_many (params_of facts.signatures ty) places ≡ true) (signed_layer facts (out-Ty ty) signed.0 signed.1) met

-- all are places
abbrev AllPlaces : List TypedExpr → Type 0
AllPlaces [] = Unit {0}
AllPlaces (one ∷ places) = IsTrue one.typed.is_place × AllPlaces places

received_places : (params : List Param) (places : List TypedExpr) → as_many params places ≡ true → ErrorFree (received_found params places) → AllPlaces places
received_places [] [] many whole = tt
received_places [] (one ∷ places) many whole = absurd (false≢true many)
received_places (param ∷ params) [] many whole = absurd (false≢true many)
received_places (param ∷ params) (one ∷ places) many whole =
    let rule = broken_unless (received_rule one.typed param.ty) BadType one.span in (
      (and_parts one.typed.is_place _ (rule_met (received_rule one.typed param.ty) BadType one.span (error_free_first rule _ whole))).0,
      received_places params places many (error_free_second rule _ whole),
    )

receive_places : (context : Context) (span : Span) (places : List TypedExpr) (found : Option Operation) → SignedBy context.facts found → ErrorFree (receive_by context span places found) → AllPlaces places
receive_places context span places None signed whole = absurd whole
receive_places context span places (Some operation) signed whole =
    let rule = broken_unless (takes_all context.facts operation.ty places) BadType span in
    let met = rule_met (takes_all context.facts operation.ty places) BadType span (error_free_first rule _ whole) in
    received_places (params_of context.facts.signatures operation.ty) places (taken_all context.facts operation.ty places signed met)
    (error_free_first (received_found (params_of context.facts.signatures operation.ty) places) _ (error_free_second rule _ whole))

module _ (scene : Scene) (test : Mention → Bool) (others : Others scene test) (Q : Facts → Type 0) (Free : Spot → Type 0) (had : (span : Span) → Free (spot_of span) → Had scene test span)
    (reads : (facts : Facts) → Q facts → Ending scene.facts facts → Good facts → AtPlace scene facts) where
  abbrev FreeName : Span → Type 0
  FreeName span = Free (spot_of span)

  abbrev Holds : Facts → Type 0
  Holds = AndTyped (Unit {0}) Q

  -- what is known where expressions are read
  abbrev Held : Facts → Type 0
  Held = HeldIn scene Holds

  known_by : (facts : Facts) → Held facts → AtPlace scene facts
  known_by facts held = reads facts held.0.0 held.1 (held.0.1 tt)

  -- variables that are declared here pass
  abbrev pub OwnPasses : Spot → Type 0
  OwnPasses spot = IsTrue (test (mention.Variable (own_root scene spot)))

  abbrev Owns : List Spot → Type 0
  Owns = Each OwnPasses

  hads : (names : List Span) → Names Free names → AllHad scene test others names
  hads [] free = tt
  hads (name ∷ names) free = (had name free.0, hads names free.1)

  -- ---- expressions

  abbrev Pass : List Mention → Type 0
  Pass mentions = IsTrue (all_pass test mentions)

  both : (xs ys : List Mention) → Pass xs → Pass ys → Pass (xs ++ ys)
  both = both_pass test

  value_at : (facts : Facts) → Held facts → (tree : Expr) → Names Free (expr_names tree) → ErrorFree (valued (infer_expr tree facts)) → Pass (mentions_in (core_value scene tree))
  value_at facts held tree free = value scene test others facts (known_by facts held) tree (hads (expr_names tree) free)

  place_in : (facts : Facts) → Held facts → (tree : Expr) → Names Free (expr_names tree) → ErrorFree (valued (infer_expr tree facts)) → IsTrue (infer_expr tree facts).typed_expr.typed.is_place → Pass (mentions_at (core_place scene tree))
  place_in facts held tree free = place scene test others facts (known_by facts held) tree (hads (expr_names tree) free)

  -- ---- `receive`

  own_place_passes : (spot : Spot) → OwnPasses spot → IsTrue (place_passes test (own_place scene spot))
  own_place_passes spot ok = place_at_passes scene test (own_root scene spot) ok

  -- places that are assigned to
  record Received (facts : Facts) (places : List Expr) : Type 0 where
    free : Names Free (flat_map expr_names places)
    own : Owns (place_spots places)
    found : ErrorFree (all_found (typings_of facts places))
    valid : ErrorFree (all_valued (typed_exprs_of (typings_of facts places)))
    placed : AllPlaces (typed_exprs_of (typings_of facts places))

  assigns_pass : (facts : Facts) → Held facts → (span : Span) (places : List Expr) → Received facts places → IsTrue (list_all (one_passes test) (map (receive_assign scene span) places))
  assigns_pass facts held span [] received = refl
  assigns_pass facts held span (tree ∷ places) received =
      let here = infer_expr tree facts in
      let from = own_place scene (spot_of (expr_span tree)) in
      and_from _ _
      (act_rule test (line_of span) (action.Assign (core_place scene tree) (core.Load from))
      (both (mentions_at (core_place scene tree)) (mentions_in (core.Load from))
      (place_in facts held tree (each-left FreeName (expr_names tree) _ received.free)
      (error_free_both here.found (value_found here.typed_expr) (error_free_first here.found _ received.found) (error_free_first (value_found here.typed_expr) _ received.valid)) received.placed.0)
      (load_rule test from (own_place_passes (spot_of (expr_span tree)) received.own.0))))
      (assigns_pass facts held span places (record {
        free = each-right FreeName (expr_names tree) _ received.free;
        own = received.own.1;
        found = error_free_second here.found _ received.found;
        valid = error_free_second (value_found here.typed_expr) _ received.valid;
        placed = received.placed.1;
      }))

  made_passes : (span : Span) (operation : Spot) (places : List Expr) → IsTrue (list_all (one_passes test) (map (receive_assign scene span) places)) → IsTrue (one_passes test (receive_made scene span operation places).made)
  made_passes span operation places ok =
      in_rule test (line_of span) (site_number scene (spot_of span)) (map (receive_assign scene span) places ∷ []) []
      (and_from _ _ (block_rule test (map (receive_assign scene span) places) ok) refl) refl

  received_by : (context : Context) → Held context.facts → (span : Span) (name : Name) (operation : Spot) (places : List Expr) → Names Free (flat_map expr_names places) → Owns (place_spots places) → ErrorFree (receive_found context span name places)
      → IsTrue (one_passes test (receive_made scene span operation places).made)
  received_by context held span name operation places free own whole =
      let typings = typings_of context.facts places in
      let after = error_free_second (all_found typings) _ whole in
      made_passes span operation places
      (assigns_pass context.facts held span places (record {
        free = free;
        own = own;
        found = error_free_first (all_found typings) _ whole;
        valid = error_free_first (all_valued (typed_exprs_of typings)) _ after;
        placed = receive_places context span (typed_exprs_of typings) (operation_named context.facts name) (operation_signed context.facts (held.0.1 tt).signed (decl_named context.facts name))
            (error_free_second (all_valued (typed_exprs_of typings)) _ after);
      }))

  -- ---- the guards and orders of arms

  condition_passes : (facts : Facts) → AtPlace scene facts → (condition : Option ArmCondition) → Names Free (where_some condition_names condition) → ErrorFree (condition_found facts condition) → Pass (maybe mentions_in (condition_of scene condition))
  condition_passes facts at None free whole = refl
  condition_passes facts at (Some written) free whole =
      value scene test others facts at written.condition (hads (expr_names written.condition) free) (error_free_first (valued (infer_expr written.condition facts)) _ whole)

  order_passes : (facts : Facts) → AtPlace scene facts → (order : Option Expr) → Names Free (where_some expr_names order) → ErrorFree (maybe_with choice_rule facts order) → Pass (maybe mentions_in (option_map (core_value scene) order))
  order_passes facts at None free whole = refl
  order_passes facts at (Some tree) free whole = value scene test others facts at tree (hads (expr_names tree) free) (error_free_first (valued (infer_expr tree facts)) _ whole)

  guards_pass : (facts : Facts) → Held facts → (condition : Option ArmCondition) (order : Option Expr) → Names Free (where_some condition_names condition) → Names Free (where_some expr_names order) → ErrorFree (guards_found facts condition order)
      → Pass (maybe mentions_in (condition_of scene condition) ++ maybe mentions_in (option_map (core_value scene) order))
  guards_pass facts held condition order free free_order whole =
      let at = guarding_place scene facts (known_by facts held) in
      both (maybe mentions_in (condition_of scene condition)) (maybe mentions_in (option_map (core_value scene) order))
      (condition_passes (guarding facts) at condition free (error_free_first (condition_found (guarding facts) condition) _ whole))
      (order_passes (guarding facts) at order free_order (error_free_second (condition_found (guarding facts) condition) _ whole))

  -- ---- all parts

  pub parts_pass : MadeParts scene (mention_tests test) Holds Free OwnPasses
  parts_pass = record {
    int = leaf_rule test (leaf.Constant _) refl;
    value = value_at;
    place = place_in;
    create = λ facts held create free whole. create_passes scene test others facts (known_by facts held) create (hads (create_names create) free) whole;
    const = λ facts held in_spec scope constant free whole. const_passes scene test others facts (known_by facts held) in_spec scope constant (hads (const_names constant) free) whole;
    var = λ facts held scope variables free whole. vars_pass scene test others facts (known_by facts held) scope variables (hads (var_names variables) free) whole;
    call = λ context held span invocation free whole. call_action_passes scene test others context.facts (known_by context.facts held) context refl span invocation (hads (invocation_names invocation) free) whole;
    send = λ facts held span invocation free whole. send_passes scene test others facts (known_by facts held) span invocation (hads (invocation_names invocation) free) whole;
    forward = λ context held span invocation free whole. forward_passes scene test others context.facts (known_by context.facts held) context refl span invocation (hads (invocation_names invocation) free) whole;
    started = λ facts held span target invocation free names whole.
        co_call_passes scene test others facts (known_by facts held) span target invocation (hads (where_some expr_names target) free) (hads (invocation_names invocation) names) whole;
    guards = λ facts held condition order free free_order whole span operation formals returned. guards_pass facts held condition order free free_order whole;
    receive = λ context held span name places free own whole. record { made = received_by context held span name (meant_by scene.facts name) places free own whole; sites = refl };
    wait = λ span operation. record { made = made_passes span operation [] refl; sites = refl };
  }
