-- Where no rule is broken in the parts of a statement, what is invoked in their core passes.
use Rattle.std.proofs.Common.{List, [], ◌∷◌, map, IsTrue, refl}
use Rattle.std.proofs.lemmas.Bool.{and_from}
use Rattle.sr_value.specs.declared.place.Span.{Span}
use Rattle.sr_check.proofs.ErrorFree.{error_free_first, error_free_second}
use Rattle.sr_check.specs.ErrorFree.{ErrorFree}
use Rattle.sr_check_decl.specs.Variables.{typings_of}
use Rattle.sr_check_expr.specs.declared.facts.Facts.{Facts}
use Rattle.sr_check_expr.specs.Arguments.{all_found}
use Rattle.sr_check_expr.specs.Exprs.{infer_expr}
use Rattle.sr_check_expr.specs.Meanings.{meant_by}
use Rattle.sr_core.specs.declared.expression.Expr.TheVariants as core
use Rattle.sr_core.specs.declared.statement.Action.TheVariants as action
use Rattle.sr_desugar.specs.Statements.{receive_assign, receive_made}
use Rattle.sr_lower_expr.specs.declared.scene.Scene.{Scene}
use Rattle.sr_lower_expr.specs.Expressions.{core_place}
use Rattle.sr_lower_expr.specs.Places.{own_place, own_root, site_number}
use Rattle.sr_names.specs.declared.spot.Spot.{Spot}
use Rattle.sr_names.specs.Spots.{spot_of}
use Rattle.sr_tree.specs.Expressions.{expr_span}
use Rattle.sr_tables.specs.Parts.{line_of}
use Rattle.sr_tree.specs.declared.expr.Expr.{Expr}
use Rattle.sr_front.specs.Invocations.{InvocationTest}
use Rattle.sr_front.proofs.Invoked.InvokesActions.{call_action_invokes, co_call_invokes, forward_invokes, place, send_invokes, value}
use Rattle.sr_front.proofs.Invoked.InvokesDecls.{const_invokes, int_invokes, var_invokes}
use Rattle.sr_front.proofs.Invoked.InvokesExprs.{create_invokes, expr_place_invokes}
use Rattle.sr_front.proofs.Invoked.InvokesMet.{Allowed}
use Rattle.sr_front.proofs.Invoked.InvokesRules.{AllInvoke, act_rule, block_rule, in_rule, load_rule, one_invokes, place_at_invokes}
use Rattle.sr_front.proofs.Invoked.InvokesTargets.{Reads}
use Rattle.sr_front.proofs.Lists.Placed.{Ending}
use Rattle.sr_front.proofs.Known.KeptNames.{Anywhere}
use Rattle.sr_front.proofs.Made.MadeHere.{AndTyped, HeldIn, MadeParts}
use Rattle.sr_front.proofs.Invoked.InvokesMade.{invocation_tests}

module _ (test : InvocationTest) (scene : Scene) (allowed : Allowed test scene) (Q : Facts → Type 0) (Free : Spot → Type 0)
    (reads : (facts : Facts) → Q facts → Ending scene.facts facts → Reads test scene facts) where
  -- what is known where expressions are read
  abbrev Held : Facts → Type 0
  Held = HeldIn scene (AndTyped ⊥ Q)

  known_by : (facts : Facts) → Held facts → Reads test scene facts
  known_by facts held = reads facts held.0.0 held.1

  -- ---- `receive`

  assigns_invoke : (facts : Facts) → Held facts → (span : Span) (places : List Expr) → ErrorFree (all_found (typings_of facts places)) → AllInvoke test (map (receive_assign scene span) places)
  assigns_invoke facts h span [] whole = refl
  assigns_invoke facts h span (tree ∷ places) whole =
      and_from _ _
      (act_rule test (line_of span) (action.Assign (core_place scene tree) (core.Load (own_place scene (spot_of (expr_span tree)))))
      (and_from _ _ (expr_place_invokes test scene allowed facts (known_by facts h) tree (error_free_first (infer_expr tree facts).found _ whole))
      (load_rule test (own_place scene (spot_of (expr_span tree))) (place_at_invokes test (own_root scene (spot_of (expr_span tree)))))))
      (assigns_invoke facts h span places (error_free_second (infer_expr tree facts).found _ whole))

  receive_invokes : (span : Span) (operation : Spot) (places : List Expr) → AllInvoke test (map (receive_assign scene span) places) → IsTrue (one_invokes test (receive_made scene span operation places).made)
  receive_invokes span operation places passes =
      in_rule test (line_of span) (site_number scene (spot_of span)) (map (receive_assign scene span) places ∷ []) []
      (and_from _ _ (block_rule test (map (receive_assign scene span) places) passes) refl) refl

  -- ---- all parts

  pub parts_pass : MadeParts scene (invocation_tests test) (AndTyped ⊥ Q) Free Anywhere
  parts_pass = record {
    int = int_invokes test scene allowed 1;
    value = λ facts held tree free whole. value test scene allowed facts (known_by facts held) tree whole;
    place = λ facts held tree free whole is_place. place test scene allowed facts (known_by facts held) tree whole;
    create = λ facts held create free whole. create_invokes test scene allowed facts (known_by facts held) create whole;
    const = λ facts held in_spec scope constant free whole. const_invokes test scene allowed facts (known_by facts held) in_spec scope constant whole;
    var = λ facts held scope variables free whole. var_invokes test scene allowed facts (known_by facts held) scope variables whole;
    call = λ context held span invocation free whole. call_action_invokes test scene allowed context.facts (known_by context.facts held) context refl span invocation whole;
    send = λ facts held span invocation free whole. send_invokes test scene allowed facts (known_by facts held) span invocation whole;
    forward = λ context held span invocation free whole. forward_invokes test scene allowed context.facts (known_by context.facts held) context refl span invocation whole;
    started = λ facts held span target invocation free names whole. co_call_invokes test scene allowed facts (known_by facts held) span target invocation whole;
    guards = λ facts held condition order free free_order whole span operation formals returned. refl;
    receive = λ context held span name places free own whole. record {
      made = receive_invokes span (meant_by scene.facts name) places (assigns_invoke context.facts held span places (error_free_first (all_found (typings_of context.facts places)) _ whole));
      sites = refl;
    };
    wait = λ span operation. record { made = receive_invokes span operation [] refl; sites = refl };
  }
