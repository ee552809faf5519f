-- What is serviced without an error leaves own variables for its formals, and for what it returns.
use Rattle.std.proofs.Common.{◌≡◌, ◌∙◌, ℕ, ◌<◌, Bool, true, false, true≢false, ◌||◌, List, [], ◌∷◌, ◌++◌, Option, Some, None, IsTrue, is_some, length, map, refl, sym, ap, subst, arith}
use Rattle.std.proofs.lemmas.Bool.{and_parts, false≢true}
use Rattle.std.proofs.lemmas.List.{length-map}
use Rattle.std.proofs.lemmas.Option.{none-some}
use Rattle.sr_check.proofs.ErrorFree.{error_free_first, error_free_second, rule_met, same_error_free}
use Rattle.sr_check.proofs.Named.{Meant, by_expr, meant_by as meant_operation}
use Rattle.sr_check.proofs.Owners.{Meets, Sound, known_now}
use Rattle.sr_check.specs.declared.operation.Operation.{Operation as Serviced}
use Rattle.sr_check.specs.Contexts.{Context}
use Rattle.sr_check.specs.ErrorFree.{ErrorFree}
use Rattle.sr_check.specs.Invoking.{call_found, called_found, named_operation, p_found, semaphore_found}
use Rattle.sr_check.specs.Procs.{Procs}
use Rattle.sr_check.specs.Receiving.{receive_by, receive_found, takes_all}
use Rattle.sr_check.specs.Services.{both_or_none, decl_named, head_found, head_rule, heads_by, operation_named, params_of}
use Rattle.sr_check.specs.Servicing.{expr_meant}
use Rattle.sr_check_decl.specs.Variables.{typings_of}
use Rattle.sr_check_expr.specs.declared.facts.Facts.{Facts}
use Rattle.sr_check_expr.specs.declared.typed_expr.TypedExpr.{TypedExpr}
use Rattle.sr_check_expr.specs.Arguments.{all_found, all_valued, as_many, takes_as_many, takes_by}
use Rattle.sr_check_expr.specs.Exprs.{CalledInferrer, Inferrer, PartInferrer, create_step, expr_step, infer_create, infer_expr, infer_invocation, infer_part, invocation_step, part_step}
use Rattle.sr_check_expr.specs.Meanings.{function_called, layer_function, meant_by, params_in, predefined_in, returned_by, type_at}
use Rattle.sr_check_expr.specs.Naming.{meaning_typing}
use Rattle.sr_check_expr.specs.Typings.{broken_unless, typed_exprs_of}
use Rattle.sr_core.specs.declared.component.Operation.{Operation}
use Rattle.sr_lower_expr.specs.declared.scene.Scene.{Scene}
use Rattle.sr_lower_expr.specs.Places.{parameters_at, returns_at}
use Rattle.sr_names.specs.declared.finding.Rule.TheVariants.{BadType}
use Rattle.sr_names.specs.declared.meaning.Decl.{Decl}
use Rattle.sr_names.specs.declared.meaning.Meaning.{Meaning}
use Rattle.sr_names.specs.declared.meaning.Meaning.TheVariants.{Predefined as MeansPredefined}
use Rattle.sr_names.specs.declared.predefined.Predefined.TheVariants as predefined
use Rattle.sr_names.specs.declared.spot.Spot.{Spot}
use Rattle.sr_names.specs.Spots.{spot_of}
use Rattle.sr_names.specs.Uses.{meaning_at}
use Rattle.sr_outline.specs.Numbers.{is_p, place_spots, receive_names, receive_returned, returned_names, wait_operation, waited_by}
use Rattle.sr_tables.specs.Lists.{maybe}
use Rattle.sr_tables.specs.Parts.{spot_named}
use Rattle.sr_tables.specs.Tables.{found_at}
use Rattle.sr_tree.specs.Expressions.{expr_span}
use Rattle.sr_tree.specs.declared.expr.Create.{Create}
use Rattle.sr_tree.specs.declared.expr.Create.TheFolds.{fold_out-Expr, fold_out-Invocation, map-Expr}
use Rattle.sr_tree.specs.declared.expr.Create.TheOpen.{Expr-F}
use Rattle.sr_tree.specs.declared.expr.Expr.{Expr, out-Expr}
use Rattle.sr_tree.specs.declared.expr.Invocation.{Invocation, out-Invocation}
use Rattle.sr_tree.specs.declared.expr.Part.{Part}
use Rattle.sr_tree.specs.declared.name.Name.{Name}
use Rattle.sr_types.specs.declared.signature.Signature.{Signature}
use Rattle.sr_types.specs.declared.ty.Ty.{Ty, out-Ty}
use Rattle.sr_types.specs.declared.ty.Ty.TheOpen.{Ty-F}
use Rattle.sr_types.specs.Signatures.{layer_signature, signature_of}
use Rattle.sr_types.specs.Types.{is_no_type, layer_is_untyped}
use Rattle.sr_value.specs.declared.place.Span.{Span}
use Rattle.sr_front.proofs.Served.Clear.{waits_for}
use Rattle.sr_front.proofs.Own.OwnFormals.{HasRoom, Room, room_left, room_right}
use Rattle.sr_front.proofs.Served.Services.{meant_is}

-- An operation is in the table of operations, its type has a signature that fits it, and it returns by these facts where it
-- returns.
pub record IsFitting (facts : Facts) (table : List (Spot × Operation)) (signatures : List Signature) (spot : Spot) (ty : Ty) : Type 0 where
  pub operation : Operation
  pub found : found_at table spot ≡ Some operation
  pub signature : Signature
  pub at : signature_of signatures ty ≡ Some signature
  pub params : length signature.params ≡ length operation.parameters
  pub returns : is_some signature.returns ≡ is_some operation.returns
  pub lasts : is_some (returned_by facts (type_at facts spot)) ≡ is_some operation.returns

-- so is what meets this
abbrev pub Fitting : Meets → Facts → List (Spot × Operation) → Type 0
Fitting P facts table =
    (signatures : List Signature) (spot : Spot) (ty : Ty) (component : Spot) (is_local : Bool) → P signatures spot ty component is_local → IsFitting facts table signatures spot ty

-- ---- as many

same_length : {A B : Type 0} (xs : List A) (ys : List B) → IsTrue (as_many xs ys) → length xs ≡ length ys
same_length [] [] is = refl
same_length [] (y ∷ ys) is = absurd (false≢true is)
same_length (x ∷ xs) [] is = absurd (false≢true is)
same_length (x ∷ xs) (y ∷ ys) is = let same = same_length xs ys is in omega (arith, same)

told : (returns other : Bool) → IsTrue (both_or_none returns other) → other ≡ true → returns ≡ true
told true other both is = refl
told false true both is = absurd (false≢true both)
told false false both is = absurd (false≢true is)

typed_by : (signatures : List Signature) (signature : Signature) (layer : Ty-F Ty) → layer_signature signatures layer ≡ Some signature → layer_is_untyped layer ≡ false
typed_by signatures signature (Ty-F.Untyped) e = absurd (none-some signature e)
typed_by signatures signature _ e = refl

second_of : (a b : Bool) → a ≡ false → IsTrue (a || b) → IsTrue b
second_of false b is or = or
second_of true b is or = absurd (true≢false is)

typings_length : (facts : Facts) (places : List Expr) → length (typed_exprs_of (typings_of facts places)) ≡ length places
typings_length facts [] = refl
typings_length facts (place ∷ places) = let same = typings_length facts places in omega (arith, same)

-- ---- what is serviced

module _ (P : Meets) (scene : Scene) (owns : ℕ) (fitting : Fitting P scene.facts scene.tables.operations) (component : Spot) where
  abbrev pub Holds : Facts → Type 0
  Holds = Sound P scene.facts.uses component

  abbrev Fits : List Signature → Spot → Ty → Type 0
  Fits = IsFitting scene.facts scene.tables.operations

  fits_at : (facts : Facts) → Holds facts → (meant : Option Decl) (operation : Serviced) → (m : Meant facts meant operation) → Fits facts.signatures m.decl.spot operation.ty
  fits_at facts h meant operation m =
      fitting facts.signatures m.decl.spot operation.ty operation.component operation.is_local
      (known_now P facts h.1.1 m.decl.spot operation.ty operation.component operation.is_local m.is)

  parameters_are : (spot : Spot) (operation : Operation) → found_at scene.tables.operations spot ≡ Some operation → parameters_at scene spot ≡ operation.parameters
  parameters_are spot operation found = rw found refl

  returns_are : (spot : Spot) (operation : Operation) → found_at scene.tables.operations spot ≡ Some operation → returns_at scene spot ≡ operation.returns
  returns_are spot operation found = rw found refl

  -- where there are variables for as many formals, and for what is returned
  has_room : (signatures : List Signature) (spot : Spot) (ty : Ty) (fit : Fits signatures spot ty) → (0 < length fit.signature.params → 0 < owns) → (is_some fit.operation.returns ≡ true → 0 < owns)
      → HasRoom scene owns spot
  has_room signatures spot ty fit few one = record {
    parameters = λ some.
        let same = ap length (parameters_are spot fit.operation fit.found) in
        let params = fit.params in
        few (omega (arith, same, params, some));
    returns = λ is. one (sym (ap is_some (returns_are spot fit.operation fit.found)) ∙ is);
  }

  -- ---- by names

  name_room : (returned : Option Name) → Room owns (returned_names returned) → is_some returned ≡ true → 0 < owns
  name_room None room is = absurd (false≢true is)
  name_room (Some name) room is = room (omega arith)

  names_room : (signatures : List Signature) (spot : Spot) (ty : Ty) → Fits signatures spot ty → (formals : List Name) (returned : Option Name)
      → IsTrue (head_rule signatures formals (is_some returned) ty) → Room owns (map spot_named formals) → Room owns (returned_names returned) → HasRoom scene owns spot
  names_room signatures spot ty fit formals returned rule room one =
      let parts = and_parts (as_many formals fit.signature.params) (both_or_none (is_some returned) (is_some fit.signature.returns))
      (subst (λ (found : Option Signature). IsTrue (heads_by found formals (is_some returned))) fit.at rule) in
      let many = same_length formals fit.signature.params parts.0 in
      let spots = length-map formals spot_named in
      has_room signatures spot ty fit (λ some. room (omega (arith, some, many, spots)))
      (λ is. name_room returned one (told (is_some returned) (is_some fit.signature.returns) parts.1 (fit.returns ∙ is)))

  -- a service whose head is met
  pub rule_room : (facts : Facts) → Holds facts → (name : Name) (operation : Serviced) → operation_named facts name ≡ Some operation → (formals : List Name) (returned : Option Name)
      → IsTrue (head_rule facts.signatures formals (is_some returned) operation.ty) → Room owns (map spot_named formals) → Room owns (returned_names returned)
      → HasRoom scene owns (meant_by scene.facts name)
  rule_room facts h name operation is formals returned rule room one =
      let m = meant_operation facts (decl_named facts name) operation is in
      subst (HasRoom scene owns) (sym (meant_is facts.uses scene.facts name m.decl (sym h.1.0) m.means))
      (names_room facts.signatures m.decl.spot operation.ty (fits_at facts h (decl_named facts name) operation m) formals returned rule room one)

  head_by : (facts : Facts) → Holds facts → (procs : Procs) (span : Span) (name : Name) (found : Option Serviced) → operation_named facts name ≡ found → (formals : List Name) (returned : Option Name)
      → ErrorFree (head_found facts procs span formals (is_some returned) found) → Room owns (map spot_named formals) → Room owns (returned_names returned)
      → HasRoom scene owns (meant_by scene.facts name)
  head_by facts h procs span name None is formals returned whole room one = absurd whole
  head_by facts h procs span name (Some operation) is formals returned whole room one =
      let rule = head_rule facts.signatures formals (is_some returned) operation.ty in
      rule_room facts h name operation is formals returned (rule_met rule BadType span (error_free_first (broken_unless rule BadType span) _ whole)) room one

  -- an arm
  pub head_room : (facts : Facts) → Holds facts → (procs : Procs) (span : Span) (name : Name) (formals : List Name) (returned : Option Name)
      → ErrorFree (head_found facts procs span formals (is_some returned) (operation_named facts name)) → Room owns (map spot_named formals) → Room owns (returned_names returned)
      → HasRoom scene owns (meant_by scene.facts name)
  head_room facts h procs span name formals returned = head_by facts h procs span name (operation_named facts name) refl formals returned

  -- ---- by places

  returned_room : (span : Span) (returned : Option Ty) → Room owns (maybe (λ one. spot_of span ∷ []) returned) → is_some returned ≡ true → 0 < owns
  returned_room span None room is = absurd (false≢true is)
  returned_room span (Some ty) room is = room (omega arith)

  places_room : (signatures : List Signature) (spot : Spot) (ty : Ty) (fit : Fits signatures spot ty) (span : Span) (places : List Expr) → length fit.signature.params ≡ length places
      → Room owns (receive_names scene.facts span spot places) → HasRoom scene owns spot
  places_room signatures spot ty fit span places many room =
      let spots = length-map places (λ (place : Expr). spot_of (expr_span place)) in
      has_room signatures spot ty fit
      (λ some. room_left owns (place_spots places) (receive_returned scene.facts span spot) room (omega (arith, some, many, spots)))
      (λ is. returned_room span (returned_by scene.facts (type_at scene.facts spot)) (room_right owns (place_spots places) (receive_returned scene.facts span spot) room) (fit.lasts ∙ is))

  takes_length : (facts : Facts) (spot : Spot) (ty : Ty) (fit : Fits facts.signatures spot ty) (places : List TypedExpr) → IsTrue (takes_all facts ty places) → length fit.signature.params ≡ length places
  takes_length facts spot ty fit places takes =
      same_length fit.signature.params places
      (subst (λ (found : Option Signature). IsTrue (as_many (params_in found) places)) fit.at
      (second_of (is_no_type ty) (as_many (params_of facts.signatures ty) places) (typed_by facts.signatures fit.signature (out-Ty ty) fit.at) takes))

  receive_at : (context : Context) → Holds context.facts → (span : Span) (name : Name) (places : List Expr) (found : Option Serviced) → operation_named context.facts name ≡ found
      → ErrorFree (receive_by context span (typed_exprs_of (typings_of context.facts places)) found)
      → Room owns (receive_names scene.facts span (meant_by scene.facts name) places) → HasRoom scene owns (meant_by scene.facts name)
  receive_at context h span name places None is whole room = absurd whole
  receive_at context h span name places (Some operation) is whole room =
      let facts = context.facts in
      let typed = typed_exprs_of (typings_of facts places) in
      let m = meant_operation facts (decl_named facts name) operation is in
      let fit = fits_at facts h (decl_named facts name) operation m in
      let takes = rule_met (takes_all facts operation.ty typed) BadType span (error_free_first (broken_unless (takes_all facts operation.ty typed) BadType span) _ whole) in
      let many = takes_length facts m.decl.spot operation.ty fit typed takes ∙ typings_length facts places in
      let meant = meant_is facts.uses scene.facts name m.decl (sym h.1.0) m.means in
      subst (HasRoom scene owns) (sym meant)
      (places_room facts.signatures m.decl.spot operation.ty fit span places many (subst (λ (spot : Spot). Room owns (receive_names scene.facts span spot places)) meant room))

  -- a `receive`
  pub receive_room : (context : Context) → Holds context.facts → (span : Span) (name : Name) (places : List Expr) → ErrorFree (receive_found context span name places)
      → Room owns (receive_names scene.facts span (meant_by scene.facts name) places) → HasRoom scene owns (meant_by scene.facts name)
  receive_room context h span name places whole room =
      let typed = typed_exprs_of (typings_of context.facts places) in
      receive_at context h span name places (operation_named context.facts name) refl
      (error_free_second (all_valued typed) _ (error_free_second (all_found (typings_of context.facts places)) _ whole)) room

  -- ---- `P`

  -- the operation that `P` waits for
  abbrev Waited : Span → List Expr → Type 0
  Waited span arguments = Room owns (receive_names scene.facts span (waited_by scene.facts span arguments) []) → HasRoom scene owns (waited_by scene.facts span arguments)

  semaphore_room : (context : Context) → Holds context.facts → (span : Span) (expr : Expr) (found : Option Serviced)
      → named_operation context.facts (infer_expr expr context.facts).typed_expr.named ≡ found → ErrorFree (semaphore_found context span found) → Waited span (expr ∷ [])
  semaphore_room context h span expr None is whole room = absurd whole
  semaphore_room context h span expr (Some operation) is whole room =
      let facts = context.facts in
      let m = by_expr facts operation expr is in
      let fit = fits_at facts h (expr_meant facts.uses expr) operation m in
      let takes = rule_met (takes_as_many facts.signatures operation.ty []) BadType span (error_free_first (broken_unless (takes_as_many facts.signatures operation.ty []) BadType span) _ whole) in
      let none : List TypedExpr = [] in
      let many = same_length fit.signature.params none (subst (λ (found : Option Signature). IsTrue (takes_by found (is_no_type operation.ty) none)) fit.at takes) in
      let meant = waits_for scene.facts span (expr ∷ []) m.decl (subst (λ uses. expr_meant uses expr ≡ Some m.decl) h.1.0 m.means) in
      subst (HasRoom scene owns) (sym meant)
      (places_room facts.signatures m.decl.spot operation.ty fit span [] many (subst (λ (spot : Spot). Room owns (receive_names scene.facts span spot [])) meant room))

  arguments_room : (context : Context) → Holds context.facts → (span : Span) (arguments : List Expr)
      → ErrorFree (p_found context span (typed_exprs_of (typings_of context.facts arguments))) → Waited span arguments
  arguments_room context h span [] whole room = absurd whole
  arguments_room context h span (expr ∷ []) whole room = semaphore_room context h span expr (named_operation context.facts (infer_expr expr context.facts).typed_expr.named) refl whole room
  arguments_room context h span (expr ∷ (other ∷ more)) whole room = absurd whole

  meaning_room : (context : Context) → Holds context.facts → (span used : Span) (arguments : List Expr) (meaning : Option Meaning) → is_p (predefined_in meaning) ≡ true
      → ErrorFree (called_found context span (meaning_typing context.facts.infos used meaning).typed_expr (typed_exprs_of (typings_of context.facts arguments)) (meaning_typing context.facts.infos used meaning).typed_expr.named)
      → Waited span arguments
  meaning_room context h span used arguments (Some (MeansPredefined predefined.P)) is whole =
      arguments_room context h span arguments (error_free_second (all_valued (typed_exprs_of (typings_of context.facts arguments))) _ whole)
  meaning_room context h span used arguments _ is whole = absurd (false≢true is)

  abbrev infer_layer : Expr-F Create Expr Invocation Part → Expr-F Inferrer Inferrer CalledInferrer PartInferrer
  infer_layer = map-Expr Create Expr Invocation Part Inferrer Inferrer CalledInferrer PartInferrer infer_create infer_expr infer_invocation infer_part

  layer_room : (context : Context) → Holds context.facts → (span : Span) (arguments : List Expr) (layer : Expr-F Create Expr Invocation Part) → is_p (layer_function scene.facts layer) ≡ true
      → ErrorFree (called_found context span (expr_step (infer_layer layer) context.facts).typed_expr (typed_exprs_of (typings_of context.facts arguments)) (expr_step (infer_layer layer) context.facts).typed_expr.named)
      → Waited span arguments
  layer_room context h span arguments (Expr-F.Name name) is whole =
      meaning_room context h span name.span arguments (meaning_at context.facts.uses (spot_of name.span))
      (subst (λ uses. is_p (predefined_in (meaning_at uses (spot_of name.span))) ≡ true) (sym h.1.0) is) whole
  layer_room context h span arguments _ is whole = absurd (false≢true is)

  pub call_room : (context : Context) → Holds context.facts → (span : Span) (invocation : Invocation) → is_p (function_called scene.facts invocation) ≡ true
      → ErrorFree (call_found context span (infer_invocation invocation context.facts))
      → Room owns (receive_names scene.facts span (wait_operation scene.facts span invocation) []) → HasRoom scene owns (wait_operation scene.facts span invocation)
  call_room context h span invocation is whole =
      let facts = context.facts in
      let callee = (out-Invocation invocation).callee in
      let arguments = (out-Invocation invocation).arguments in
      let opened = ap (λ infer. call_found context span (infer facts)) (fold_out-Invocation Inferrer Inferrer CalledInferrer PartInferrer create_step expr_step invocation_step part_step invocation) in
      let called = error_free_second ((infer_expr callee facts).found ++ all_found (typings_of facts arguments))
      (called_found context span (infer_expr callee facts).typed_expr (typed_exprs_of (typings_of facts arguments)) (infer_expr callee facts).typed_expr.named) (same_error_free (sym opened) whole) in
      let layer = ap (λ infer. called_found context span (infer facts).typed_expr (typed_exprs_of (typings_of facts arguments)) (infer facts).typed_expr.named)
      (fold_out-Expr Inferrer Inferrer CalledInferrer PartInferrer create_step expr_step invocation_step part_step callee) in
      layer_room context h span arguments (out-Expr callee) is (same_error_free (sym layer) called)
