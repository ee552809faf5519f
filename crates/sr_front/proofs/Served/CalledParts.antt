-- An invocation by its parts, and by the predefined function that it names.
use Rattle.std.proofs.Common.{◌≡◌, List, Option, Some, sym, ap, subst, ◌∙◌}
use Rattle.std.proofs.lemmas.Option.{none-some, same_Some}
use Rattle.sr_check_decl.specs.Variables.{typings_of}
use Rattle.sr_check_expr.specs.declared.facts.Facts.{Facts}
use Rattle.sr_check_expr.specs.declared.typed_expr.TypedExpr.{TypedExpr}
use Rattle.sr_check_expr.specs.declared.typed_expr.Named.TheVariants as named
use Rattle.sr_check_expr.specs.Calls.{Called}
use Rattle.sr_check_expr.specs.Exprs.{CalledInferrer, Inferrer, PartInferrer, create_step, expr_step, infer_create, infer_expr, infer_invocation, infer_part, invocation_step, part_step}
use Rattle.sr_check_expr.specs.Meanings.{function_called, layer_function, predefined_in}
use Rattle.sr_check_expr.specs.Naming.{meaning_typing, predefined_at}
use Rattle.sr_check_expr.specs.Typings.{typed_exprs_of}
use Rattle.sr_lower_expr.specs.declared.scene.Scene.{Scene}
use Rattle.sr_names.specs.declared.predefined.Predefined.{Predefined}
use Rattle.sr_names.specs.declared.meaning.Meaning.{Meaning}
use Rattle.sr_names.specs.declared.meaning.Meaning.TheVariants.{Predefined as MeansPredefined}
use Rattle.sr_names.specs.Spots.{spot_of}
use Rattle.sr_names.specs.Uses.{meaning_at}
use Rattle.sr_tree.specs.declared.expr.Create.TheFolds.{fold_out-Expr, fold_out-Invocation, map-Expr}
use Rattle.sr_tree.specs.declared.expr.Create.{Create}
use Rattle.sr_tree.specs.declared.expr.Create.TheOpen.{Expr-F}
use Rattle.sr_tree.specs.declared.expr.Part.{Part}
use Rattle.sr_tree.specs.declared.expr.Expr.{Expr, out-Expr}
use Rattle.sr_tree.specs.declared.expr.Invocation.{Invocation, out-Invocation}
use Rattle.sr_value.specs.declared.place.Span.{Span}

abbrev pub callee_of : Invocation → Expr
callee_of invocation = (out-Invocation invocation).callee

abbrev pub trees_in : Invocation → List Expr
trees_in invocation = (out-Invocation invocation).arguments

module _ (known : Facts) where
  abbrev pub callee_typed : Invocation → TypedExpr
  callee_typed invocation = (infer_expr (callee_of invocation) known).typed_expr

  abbrev pub arguments_typed : Invocation → List TypedExpr
  arguments_typed invocation = typed_exprs_of (typings_of known (trees_in invocation))

  -- what an invocation is by its parts
  abbrev pub called_at : Invocation → Called
  called_at invocation = record { span = (out-Invocation invocation).span; callee = infer_expr (callee_of invocation) known; arguments = typings_of known (trees_in invocation) }

  pub called_is : (invocation : Invocation) → infer_invocation invocation known ≡ called_at invocation
  called_is invocation = ap (λ (infer : CalledInferrer). infer known) (fold_out-Invocation Inferrer Inferrer CalledInferrer PartInferrer create_step expr_step invocation_step part_step invocation)

-- ---- predefined functions by their names

module _ (scene : Scene) (known : Facts) (uses : known.uses ≡ scene.facts.uses) where
  -- a function's name is nothing else
  abbrev pub IsNamed : Predefined → Type 0
  IsNamed name = (span : Span) → (predefined_at span name).named ≡ named.Predefined name

  meaning_is : (name : Predefined) → IsNamed name → (span : Span) (meaning : Option Meaning) → predefined_in meaning ≡ Some name → (meaning_typing known.infos span meaning).typed_expr.named ≡ named.Predefined name
  meaning_is name is span (Some (MeansPredefined one)) e = subst (λ other. (meaning_typing known.infos span (Some (MeansPredefined other))).typed_expr.named ≡ named.Predefined name) (sym (same_Some one name e)) (is span)
  meaning_is name is span _ e = absurd (none-some name e)

  abbrev inferred_layer : Expr-F Create Expr Invocation Part → Expr-F Inferrer Inferrer CalledInferrer PartInferrer
  inferred_layer = map-Expr Create Expr Invocation Part Inferrer Inferrer CalledInferrer PartInferrer infer_create infer_expr infer_invocation infer_part

  layer_is : (name : Predefined) → IsNamed name → (layer : Expr-F Create Expr Invocation Part) → layer_function scene.facts layer ≡ Some name → (expr_step (inferred_layer layer) known).typed_expr.named ≡ named.Predefined name
  layer_is name is (Expr-F.Name one) e =
      meaning_is name is one.span (meaning_at known.uses (spot_of one.span)) (ap (λ uses. predefined_in (meaning_at uses (spot_of one.span))) uses ∙ e)
  layer_is name is _ e = absurd (none-some name e)

  pub callee_is : (name : Predefined) → IsNamed name → (invocation : Invocation) → function_called scene.facts invocation ≡ Some name → (callee_typed known invocation).named ≡ named.Predefined name
  callee_is name is invocation e =
      ap (λ (infer : Inferrer). (infer known).typed_expr.named) (fold_out-Expr Inferrer Inferrer CalledInferrer PartInferrer create_step expr_step invocation_step part_step (callee_of invocation))
      ∙ layer_is name is (out-Expr (callee_of invocation)) e
