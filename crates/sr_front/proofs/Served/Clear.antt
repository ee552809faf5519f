-- A call that waits by the facts of a program waits by what its names mean.
use Rattle.std.proofs.Common.{◌≡◌, refl, ap, ◌∙◌, true, List, [], ◌∷◌, Option, Some, unwrap_or}
use Rattle.std.specs.Prelude.{All}
use Rattle.std.specs.Option.{option_map}
use Rattle.std.proofs.lemmas.Bool.{false≢true}
use Rattle.std.proofs.lemmas.List.Elements.{All-cons, All-nil}
use Rattle.std.proofs.lemmas.Option.{none-some}
use Rattle.sr_check.specs.Servicing.{first_meant, layer_meant, layer_waits, waits_by}
use Rattle.sr_check_expr.specs.declared.facts.Facts.{Facts}
use Rattle.sr_names.specs.declared.meaning.Decl.{Decl}
use Rattle.sr_names.specs.declared.meaning.Meaning.{Meaning}
use Rattle.sr_names.specs.declared.meaning.Meaning.TheVariants.{Predefined as MeansPredefined}
use Rattle.sr_names.specs.declared.predefined.Predefined.TheVariants as predefined
use Rattle.sr_names.specs.declared.spot.Spot.{Spot}
use Rattle.sr_names.specs.Spots.{spot_of}
use Rattle.sr_names.specs.Uses.{meaning_at}
use Rattle.sr_check_expr.specs.Meanings.{layer_function, layer_operation, predefined_in}
use Rattle.sr_outline.specs.Numbers.{is_p, waited_by}
use Rattle.sr_tree.specs.declared.expr.Create.{Create}
use Rattle.sr_tree.specs.declared.expr.Create.TheOpen.{Expr-F}
use Rattle.sr_tree.specs.declared.expr.Expr.{Expr, out-Expr}
use Rattle.sr_tree.specs.declared.expr.Invocation.{Invocation, out-Invocation}
use Rattle.sr_tree.specs.declared.expr.Part.{Part}
use Rattle.sr_value.specs.declared.place.Span.{Span}
use Rattle.sr_tree.specs.declared.component.Component.{Component}
use Rattle.sr_desugar.specs.Core.{standing}
use Rattle.sr_front.proofs.Served.Serviced.{Called, IsClear, component_calls}

-- the operation that an expression names is what it means
layer_same : (facts : Facts) (layer : Expr-F Create Expr Invocation Part) → layer_operation facts layer ≡ option_map (λ decl. decl.spot) (layer_meant facts.uses layer)
layer_same facts (Expr-F.Name name) = refl
layer_same facts (Expr-F.Field span owner field) = refl
layer_same facts _ = refl

pub waits_for : (facts : Facts) (span : Span) (arguments : List Expr) (decl : Decl) → first_meant facts.uses arguments ≡ Some decl → waited_by facts span arguments ≡ decl.spot
waits_for facts span [] decl is = absurd (none-some decl is)
waits_for facts span (argument ∷ []) decl is =
    ap (λ (found : Option Spot). unwrap_or found (spot_of span)) (layer_same facts (out-Expr argument) ∙ ap (option_map (λ d. d.spot)) is)
waits_for facts span (argument ∷ (other ∷ more)) decl is = absurd (none-some decl is)

by_meaning : (uses : List (Spot × Meaning)) (arguments : List Expr) (meaning : Option Meaning) → is_p (predefined_in meaning) ≡ true → waits_by uses arguments meaning ≡ (first_meant uses arguments ∷ []) ∷ []
by_meaning uses arguments (Some (MeansPredefined predefined.P)) is = refl
by_meaning uses arguments _ is = absurd (false≢true is)

by_layer : (facts : Facts) (arguments : List Expr) (layer : Expr-F Create Expr Invocation Part) → is_p (layer_function facts layer) ≡ true
    → layer_waits facts.uses arguments layer ≡ (first_meant facts.uses arguments ∷ []) ∷ []
by_layer facts arguments (Expr-F.Name name) is = by_meaning facts.uses arguments (meaning_at facts.uses (spot_of name.span)) is
by_layer facts arguments _ is = absurd (false≢true is)

pub clear : (facts : Facts) (called : Called) → IsClear facts called
clear facts called waits = record {
  meant = first_meant facts.uses (out-Invocation called.1).arguments;
  waits = by_layer facts (out-Invocation called.1).arguments (out-Expr (out-Invocation called.1).callee) waits;
  operation = waits_for facts called.0 (out-Invocation called.1).arguments;
}

every : {A : Type 0} (P : A → Type 0) → ((a : A) → P a) → (xs : List A) → All P xs
every P each [] = All-nil P
every P each (x ∷ xs) = All-cons P x xs (each x) (every P each xs)

-- and so do all calls of all components
pub all_clear : (facts : Facts) (components : List Component) → All (λ component. All (IsClear (standing facts component)) (component_calls component)) components
all_clear facts components = every _ (λ component. every _ (clear (standing facts component)) (component_calls component)) components
