-- Where the rules of an invocation are met, its target passes the test of what is invoked.
use Rattle.std.proofs.Common.{◌≡◌, ℕ, Bool, true, false, List, [], ◌∷◌, ◌++◌, Option, Some, None, IsTrue, length, refl, sym, ap, subst, ◌∙◌, suc, zero, slice_get}
use Rattle.std.proofs.lemmas.Bool.{and_from, and_parts, false≢true}
use Rattle.sr_check_expr.specs.declared.facts.Facts.{Facts}
use Rattle.sr_check_expr.specs.declared.typed_expr.TypedExpr.{TypedExpr}
use Rattle.sr_check_expr.specs.declared.typed_expr.Named.{Named}
use Rattle.sr_check_expr.specs.declared.typed_expr.Named.TheVariants as named
use Rattle.sr_check_expr.specs.Arguments.{as_many, forms_in, invoked_outcome, is_callable, is_sendable, may_call, may_send, returned_by, returned_outcome, takes_as_many, takes_by}
use Rattle.sr_check_expr.specs.Calls.{called_by, invocation_found, invoked_typing}
use Rattle.sr_check_expr.specs.Meanings.{params_in, params_of}
use Rattle.sr_check_expr.specs.Typings.{broken_unless, is_met}
use Rattle.sr_check.specs.Contexts.{Context}
use Rattle.sr_check.specs.ErrorFree.{ErrorFree}
use Rattle.sr_check.specs.Invoking.{callee_rule, called_found, invoked_found, is_operation_name}
use Rattle.sr_check.proofs.ErrorFree.{error_free_first, error_free_second, rule_met}
use Rattle.sr_core.specs.declared.component.Operation.{Operation}
use Rattle.sr_core.specs.declared.expression.Expr.{Expr}
use Rattle.sr_core.specs.Tests.{if_some}
use Rattle.sr_lower_expr.specs.declared.scene.Lowered.{Lowered}
use Rattle.sr_lower_expr.specs.declared.scene.Scene.{Scene}
use Rattle.sr_lower_expr.specs.Expressions.{arguments_by}
use Rattle.sr_names.specs.declared.finding.Rule.TheVariants.{BadType, BadUse}
use Rattle.sr_tables.specs.Tables.{things_in}
use Rattle.sr_types.specs.declared.signature.Param.{Param}
use Rattle.sr_types.specs.declared.signature.Signature.{Signature}
use Rattle.sr_types.specs.declared.ty.Ty.{Ty}
use Rattle.sr_types.specs.Types.{is_no_type}
use Rattle.sr_value.specs.declared.place.Span.{Span}
use Rattle.sr_front.specs.Invocations.{InvocationTest, Seen, expr_invokes, expr_seen, target_passes}
use Rattle.sr_front.proofs.Headed.Headed.{HasHead}
use Rattle.sr_front.proofs.Invoked.InvokesTargets.{AllAtEnd, Fits, IsTarget, Reads, operation_of}

-- what passes a test: what is invoked with an argument for each parameter of an operation, in a form that it allows
pub record Allowed (test : InvocationTest) (scene : Scene) : Type 0 where
  pub ends : AllAtEnd scene
  pub calls : (number : ℕ) (operation : Operation) → slice_get (things_in scene.tables.operations) number ≡ Some operation → operation.can_call ≡ true → IsTrue (test.calls number (length operation.parameters))
  pub sends : (number : ℕ) (operation : Operation) → slice_get (things_in scene.tables.operations) number ≡ Some operation → operation.can_send ≡ true → IsTrue (test.sends number (length operation.parameters))
  pub forwards : (number : ℕ) (operation : Operation) → slice_get (things_in scene.tables.operations) number ≡ Some operation → IsTrue (test.forwards number (length operation.parameters))

-- ---- lengths

pub as_many_same : {A B : Type 0} (xs : List A) (ys : List B) → as_many xs ys ≡ true → length xs ≡ length ys
as_many_same [] [] h = refl
as_many_same [] (y ∷ ys) h = absurd (false≢true h)
as_many_same (x ∷ xs) [] h = absurd (false≢true h)
as_many_same (x ∷ xs) (y ∷ ys) h = ap suc (as_many_same xs ys h)

fewer : (m n : ℕ) → suc m ≡ suc n → m ≡ n
fewer m n e = cc

none_more : (n : ℕ) → zero ≡ suc n → ⊥
none_more n e = cc

arguments_length : (params : List Param) (all : List Lowered) → length params ≡ length all → length (arguments_by params all) ≡ length params
arguments_length [] all same = refl
arguments_length (param ∷ params) [] same = absurd (none_more (length params) (sym same))
arguments_length (param ∷ params) (one ∷ all) same = ap suc (arguments_length params all (fewer (length params) (length all) same))

-- ---- rules

-- what a type with the head of an operation takes
taken : (signatures : List Signature) (operation : Operation) (ty : Ty) (arguments : List TypedExpr) → HasHead signatures operation ty → takes_as_many signatures ty arguments ≡ true
    → length operation.parameters ≡ length arguments
taken signatures operation ty arguments head takes =
    sym head.fits.params ∙ as_many_same head.signature.params arguments (ap (λ found. takes_by found (is_no_type ty) arguments) (sym head.at) ∙ takes)

callable : (signatures : List Signature) (operation : Operation) (ty : Ty) → HasHead signatures operation ty → is_callable signatures ty ≡ true → operation.can_call ≡ true
callable signatures operation ty head may = sym head.fits.call ∙ ap (λ found. may_call (forms_in found)) (sym head.at) ∙ may

sendable : (signatures : List Signature) (operation : Operation) (ty : Ty) → HasHead signatures operation ty → is_sendable signatures ty ≡ true → operation.can_send ≡ true
sendable signatures operation ty head may = sym head.fits.send ∙ ap (λ found. may_send (forms_in found)) (sym head.at) ∙ may

returned_met : (met : Bool) (returned : Option Ty) → is_met (returned_outcome met returned) ≡ true → met ≡ true
returned_met met None h = absurd (false≢true h)
returned_met true (Some ty) h = refl
returned_met false (Some ty) h = absurd (false≢true h)

-- an operation's name is invoked
called_is : (facts : Facts) (span : Span) (callee : TypedExpr) (arguments : List TypedExpr) (what : Named) → is_operation_name what ≡ true → called_by facts span callee arguments what ≡ invoked_typing facts span callee arguments
called_is facts span callee arguments (named.Predefined name) is = absurd (false≢true is)
called_is facts span callee arguments (named.«Type» ty) is = absurd (false≢true is)
called_is facts span callee arguments _ is = refl

found_is : (context : Context) (span : Span) (callee : TypedExpr) (arguments : List TypedExpr) (what : Named) → is_operation_name what ≡ true
    → called_found context span callee arguments what ≡ invoked_found context.facts span (is_callable context.facts.signatures callee.typed.ty) callee arguments
found_is context span callee arguments (named.Predefined name) is = absurd (false≢true is)
found_is context span callee arguments (named.«Type» ty) is = absurd (false≢true is)
found_is context span callee arguments _ is = refl

-- what an invocation meets that is a statement, or an arm of `co`
pub record Invoked (facts : Facts) (allowed : Bool) (callee : TypedExpr) (arguments : List TypedExpr) : Type 0 where
  pub takes : takes_as_many facts.signatures callee.typed.ty arguments ≡ true
  pub may : allowed ≡ true

pub invoked_met : (facts : Facts) (span : Span) (allowed : Bool) (callee : TypedExpr) (arguments : List TypedExpr) → ErrorFree (invoked_found facts span allowed callee arguments) → Invoked facts allowed callee arguments
invoked_met facts span allowed callee arguments whole =
    let after = error_free_second (invocation_found facts span callee arguments) _ whole in
    let rule = rule_met (callee_rule facts callee arguments) BadType span (error_free_first (broken_unless (callee_rule facts callee arguments) BadType span) _ after) in
    record {
      takes = (and_parts (is_operation_name callee.named) (takes_as_many facts.signatures callee.typed.ty arguments) rule).1;
      may = rule_met allowed BadUse span (error_free_second (broken_unless (callee_rule facts callee arguments) BadType span) _ after);
    }

module _ (test : InvocationTest) (scene : Scene) (allowed : Allowed test scene) (known : Facts) (reads : Reads test scene known) where
  abbrev Target : TypedExpr → Ty → ℕ → Type 0
  Target = IsTarget test scene allowed.ends known reads

  abbrev FitsTarget : TypedExpr → Ty → Option ℕ → Type 0
  FitsTarget = Fits test scene allowed.ends known reads

  abbrev number_of : Expr → Option ℕ
  number_of = operation_of test scene allowed.ends known reads

  -- an operation with this many parameters passes
  abbrev pub Passes : (ℕ → ℕ → Bool) → TypedExpr → Ty → ℕ → Type 0
  Passes passes typed final args = (number : ℕ) (target : Target typed final number) → IsTrue (passes number (length target.operation.parameters)) × (length target.operation.parameters ≡ args)

  passes_by : (passes : ℕ → ℕ → Bool) (typed : TypedExpr) (final : Ty) (seen : Seen) (args : ℕ) → IsTrue seen.passes → FitsTarget typed final seen.operation
      → ((number : ℕ) → Target typed final number → IsTrue (passes number args)) → IsTrue (target_passes passes seen args)
  passes_by passes typed final seen args inside fits each = and_from _ _ inside (by seen.operation fits)
    where
      by : (found : Option ℕ) → FitsTarget typed final found → IsTrue (if_some (λ operation. passes operation args) found)
      by None fits = refl
      by (Some number) fits = each number fits

  -- a target with the arguments of an invocation
  pub invoked_target : (passes : ℕ → ℕ → Bool) (expr : Expr) (typed : TypedExpr) (final : Ty) (all : List Lowered) → IsTrue (expr_invokes test expr) → FitsTarget typed final (number_of expr)
      → Passes passes typed final (length all) → IsTrue (target_passes passes (expr_seen test expr) (length (arguments_by (params_of scene.facts final) all)))
  invoked_target passes expr typed final all inside fits each =
      passes_by passes typed final (expr_seen test expr) (length (arguments_by (params_of scene.facts final) all)) inside fits
      (λ number target.
      let params : params_of scene.facts final ≡ target.final.signature.params = ap params_in target.final.at in
      let count : length (params_of scene.facts final) ≡ length target.operation.parameters = ap length params ∙ target.final.fits.params in
      let args : length (arguments_by (params_of scene.facts final) all) ≡ length target.operation.parameters =
      arguments_length (params_of scene.facts final) all (count ∙ (each number target).1) ∙ count in
      subst (λ (n : ℕ). IsTrue (passes number n)) (sym args) (each number target).0)

  -- a target without arguments
  pub bare_target : (passes : ℕ → ℕ → Bool) (expr : Expr) (typed : TypedExpr) (final : Ty) → IsTrue (expr_invokes test expr) → FitsTarget typed final (number_of expr) → Passes passes typed final 0
      → IsTrue (target_passes passes (expr_seen test expr) 0)
  bare_target passes expr typed final inside fits each =
      passes_by passes typed final (expr_seen test expr) 0 inside fits (λ number target. subst (λ (n : ℕ). IsTrue (passes number n)) (each number target).1 (each number target).0)

  -- ---- calls in expressions, and invocations as statements

  pub call_passes : (span : Span) (typed : TypedExpr) (final : Ty) (arguments : List TypedExpr) → ErrorFree (called_by known span typed arguments typed.named).found → Passes test.calls typed final (length arguments)
  call_passes span typed final arguments whole number target =
      let typing = invoked_typing known span typed arguments in
      let found : ErrorFree typing.found = subst (λ one. ErrorFree one.found) (called_is known span typed arguments typed.named target.is_name) whole in
      let parts = invocation_found known span typed arguments ++ broken_unless (is_callable known.signatures typed.typed.ty) BadUse span in
      let may = rule_met (is_callable known.signatures typed.typed.ty) BadUse span (error_free_second (invocation_found known span typed arguments) _ (error_free_first parts _ found)) in
      let met = rule_met (is_met (invoked_outcome known.signatures typed.typed.ty arguments)) BadType span (error_free_second parts _ found) in (
        allowed.calls number target.operation target.numbered (callable known.signatures target.operation typed.typed.ty target.head may),
        taken known.signatures target.operation typed.typed.ty arguments target.head (returned_met (takes_as_many known.signatures typed.typed.ty arguments) (returned_by known.signatures typed.typed.ty) met),
      )

  pub started_passes : (typed : TypedExpr) (final : Ty) (arguments : List TypedExpr) → Invoked known (is_callable known.signatures typed.typed.ty) typed arguments → Passes test.calls typed final (length arguments)
  started_passes typed final arguments met number target = (
    allowed.calls number target.operation target.numbered (callable known.signatures target.operation typed.typed.ty target.head met.may),
    taken known.signatures target.operation typed.typed.ty arguments target.head met.takes,
  )

  pub statement_passes : (context : Context) → context.facts ≡ known → (span : Span) (typed : TypedExpr) (final : Ty) (arguments : List TypedExpr) → ErrorFree (called_found context span typed arguments typed.named)
      → Passes test.calls typed final (length arguments)
  statement_passes context same span typed final arguments whole number target =
      started_passes typed final arguments
      (subst (λ facts. Invoked facts (is_callable facts.signatures typed.typed.ty) typed arguments) same
      (invoked_met context.facts span (is_callable context.facts.signatures typed.typed.ty) typed arguments (subst ErrorFree (found_is context span typed arguments typed.named target.is_name) whole))) number target

  pub sent_passes : (typed : TypedExpr) (final : Ty) (arguments : List TypedExpr) → Invoked known (is_sendable known.signatures typed.typed.ty) typed arguments → Passes test.sends typed final (length arguments)
  sent_passes typed final arguments met number target = (
    allowed.sends number target.operation target.numbered (sendable known.signatures target.operation typed.typed.ty target.head met.may),
    taken known.signatures target.operation typed.typed.ty arguments target.head met.takes,
  )

  pub forwarded_passes : (typed : TypedExpr) (final : Ty) (arguments : List TypedExpr) → Invoked known true typed arguments → Passes test.forwards typed final (length arguments)
  forwarded_passes typed final arguments met number target =
      (allowed.forwards number target.operation target.numbered, taken known.signatures target.operation typed.typed.ty arguments target.head met.takes)
