-- What is static before the run has a type, where what is known has one: whether rules are broken in the expression or not.
use Rattle.std.proofs.Common.{◌≡◌, true, List, [], ◌∷◌, map, Option, Some, None, refl, sym, ap, subst, ◌∙◌}
use Rattle.std.proofs.lemmas.Bool.{false≢true}
use Rattle.sr_value.specs.declared.place.Span.{Span}
use Rattle.sr_names.specs.declared.meaning.Decl.{Decl}
use Rattle.sr_names.specs.declared.meaning.Meaning.{Meaning}
use Rattle.sr_names.specs.declared.meaning.Meaning.TheVariants.{Declared, Predefined as MeansPredefined}
use Rattle.sr_names.specs.declared.predefined.Predefined.{Predefined}
use Rattle.sr_names.specs.declared.predefined.Predefined.TheVariants as predefined
use Rattle.sr_names.specs.Spots.{spot_of}
use Rattle.sr_names.specs.Uses.{meaning_at}
use Rattle.sr_tree.specs.declared.expr.Create.TheOpen.{Create-F, Expr-F}
use Rattle.sr_tree.specs.declared.expr.Expr.{Expr as Tree}
use Rattle.sr_tree.specs.declared.expr.Part.{Part as PartTree}
use Rattle.sr_tree.specs.declared.name.Name.{Name}
use Rattle.sr_types.specs.declared.ty.Ty.{out-Ty}
use Rattle.sr_types.specs.declared.typed.Outcome.{Outcome}
use Rattle.sr_types.specs.declared.typed.Outcome.TheVariants.{Broken, Met}
use Rattle.sr_types.specs.declared.typed.Static.TheVariants.{Unknown}
use Rattle.sr_types.specs.Aggregates.{bracketed_rule}
use Rattle.sr_types.specs.Operators.{binary_rule, unary_rule}
use Rattle.sr_check_expr.specs.Arguments.{invoked_outcome}
use Rattle.sr_check_expr.specs.Calls.{called_by, made_outcome}
use Rattle.sr_check_expr.specs.Creating.{instance_type, resource_named, resource_type}
use Rattle.sr_check_expr.specs.declared.facts.Facts.{Facts}
use Rattle.sr_check_expr.specs.declared.info.Info.{Info}
use Rattle.sr_check_expr.specs.declared.info.Info.TheVariants as info
use Rattle.sr_check_expr.specs.declared.typed_expr.Named.{Named}
use Rattle.sr_check_expr.specs.declared.typed_expr.Named.TheVariants as named
use Rattle.sr_check_expr.specs.declared.typed_expr.TypedExpr.{TypedExpr}
use Rattle.sr_check_expr.specs.Exprs.{conversion_outcome, field_typing, index_outcome, infer_all, infer_create, infer_expr, infer_invocation, infer_part, infer_parts, operation_component, operator_of, pending_outcome, prefix_of, repeated}
use Rattle.sr_check_expr.specs.Infos.{info_at, type_spot}
use Rattle.sr_check_expr.specs.Naming.{decl_info, decl_of, declared_typing, field_outcome, info_typing, meaning_typing, name_typing, predefined_at}
use Rattle.sr_check_expr.specs.PredefinedCalls.{by_one, function_outcome, function_typing, one_outcome, only}
use Rattle.sr_check_expr.specs.Typings.{settled_typed, typed_exprs_of, value_at}
use Rattle.sr_check_decl.specs.Constants.{is_static}
use Rattle.sr_check.proofs.Each.{Each}
use Rattle.sr_front.proofs.Constants.UnknownValues.{bracketed, converted, fielded, function_unknown, made_unknown, pending, picked, recorded, returned_unknown}
use Rattle.sr_front.proofs.Typed.Typed.{IsTyped, typed_test}
use Rattle.sr_front.proofs.Typed.PassingExprs.{NamedPasses, basic_passes, high_passes, literal_names, literal_passes, low_passes}
use Rattle.sr_front.proofs.Typed.TypedHalf.{Half, HalfTyped}
use Rattle.sr_front.proofs.Typed.PassingTypes.{Computed, binary_passes, unary_passes, enum_passes, record_passes}
use Rattle.sr_tree.proofs.ExprFolds.{ByParts, Claim, CreateNode, ExprNode, Known, bare_create, bare_expr, bare_invocation, create_folds, each_expr, expr_folds, from_create, from_expr, invocation_folds}
use Rattle.sr_front.proofs.Typed.TypingFolds.{inferring}

-- what is static has a type, and what is named as a type is one
abbrev Sound : TypedExpr → Type 0
Sound expr = (is_static expr.typed.value ≡ true → IsTyped expr.typed.ty) × NamedPasses typed_test expr.named

-- what isn't static
silent : (span : Span) (outcome : Outcome) → (settled_typed outcome).value ≡ Unknown → Sound (value_at span (settled_typed outcome))
silent span outcome unknown = (λ static. absurd (false≢true (sym (ap is_static unknown) ∙ static)), tt)

-- what rules give with a type
met : (span : Span) (outcome : Outcome) → Computed typed_test outcome → Sound (value_at span (settled_typed outcome))
met span Broken typed = (λ static. absurd (false≢true static), tt)
met span (Met whole) typed = (λ static. typed.0, tt)

module _ (facts : Facts) (half : Half facts) where
  -- ---- names

  info_sound : (span : Span) (decl : Decl) (one : Info) → HalfTyped (Some one) → Sound (info_typing span decl one)
  info_sound span decl (info.Value typed) h = (λ static. h.0, tt)
  info_sound span decl (info.«Type» type) h = (λ static. absurd (false≢true static), h)
  info_sound span decl (info.Enumeration number literals) h = (λ static. absurd (false≢true static), enum_passes typed_test (type_spot decl.spot))
  info_sound span decl (info.Record fields) h = (λ static. absurd (false≢true static), record_passes typed_test (type_spot decl.spot))
  info_sound span decl _ h = (λ static. absurd (false≢true static), tt)

  declared_sound : (span : Span) (decl : Decl) (found : Option Info) → HalfTyped found → Sound (declared_typing span decl found).typed_expr
  declared_sound span decl None h = (λ static. absurd (false≢true static), tt)
  declared_sound span decl (Some one) h = info_sound span decl one h

  predefined_sound : (span : Span) (name : Predefined) → Sound (predefined_at span name)
  predefined_sound span predefined.Eof = (λ static. absurd (false≢true static), tt)
  predefined_sound span _ = (λ static. absurd (false≢true static), tt)

  meaning_sound : (span : Span) (meaning : Option Meaning) → Sound (meaning_typing facts.infos span meaning).typed_expr
  meaning_sound span None = (λ static. absurd (false≢true static), tt)
  meaning_sound span (Some (MeansPredefined name)) = predefined_sound span name
  meaning_sound span (Some (Declared decl)) = declared_sound span decl (info_at facts.infos decl.spot) (half.infos decl.spot)

  name_sound : (span used : Span) → Sound (name_typing facts span used).typed_expr
  name_sound span used = meaning_sound span (meaning_at facts.uses (spot_of used))

  -- ---- fields and calls

  field_sound : (span : Span) (owner : TypedExpr) (field : Name) (is : Named) → Sound (field_typing facts span owner field is).typed_expr
  field_sound span owner field (named.Component decl) = name_sound span field.span
  field_sound span owner field _ = silent span (field_outcome facts owner.typed field.text) (fielded facts owner.typed field.text (out-Ty owner.typed.ty))

  -- of one argument that means a type
  ended : (span : Span) (name : Predefined) (arguments : List TypedExpr) → ((one : TypedExpr) → Sound one → Computed typed_test (one_outcome facts.infos name one)) → Each Sound arguments
      → Sound (value_at span (settled_typed (by_one facts.infos name (only arguments))))
  ended span name (argument ∷ []) typed all = met span (one_outcome facts.infos name argument) (typed argument all.0)
  ended span name _ typed all = silent span Broken refl

  function_sound : (span : Span) (name : Predefined) (arguments : List TypedExpr) → Each Sound arguments → Sound (function_typing facts span name arguments).typed_expr
  function_sound span predefined.Low arguments all = ended span predefined.Low arguments (λ one sound. low_passes typed_test facts one.named sound.1) all
  function_sound span predefined.High arguments all = ended span predefined.High arguments (λ one sound. high_passes typed_test facts one.named sound.1) all
  function_sound span name arguments all = silent span (function_outcome facts name arguments) (function_unknown facts name arguments tt)

  called_sound : (span : Span) (callee : TypedExpr) (arguments : List TypedExpr) (is : Named) → Each Sound arguments → Sound (called_by facts span callee arguments is).typed_expr
  called_sound span callee arguments (named.Predefined name) all = function_sound span name arguments all
  called_sound span callee arguments (named.«Type» type) all = silent span (made_outcome facts type arguments) (recorded facts arguments (out-Ty type))
  called_sound span callee arguments _ all = silent span (invoked_outcome facts.signatures callee.typed.ty arguments) (returned_unknown _ _)

  -- ---- each tree, when its parts are so

  abbrev TreeGood : Tree → Type 0
  TreeGood tree = Sound (infer_expr tree facts).typed_expr

  abbrev good : Claim
  good = record {
    create = λ tree. Sound (infer_create tree facts).typed_expr;
    expr = TreeGood;
    invocation = λ tree. Each Sound (typed_exprs_of (infer_invocation tree facts).arguments);
    part = λ tree. Unit {0};
  }

  create_good : (y : CreateNode good) → Sound (from_create inferring (bare_create good y) facts).typed_expr
  create_good (Create-F.Resource span resource arguments machine) =
      let decl = resource_named facts resource in
      (λ static. absurd (false≢true (sym (ap is_static (made_unknown facts (typed_exprs_of (infer_all (map infer_expr (map (λ (x : Known TreeGood). x.0) arguments)) facts)) (instance_type decl) (resource_type facts.infos decl))) ∙ static)), tt)
  create_good (Create-F.Machine span) = (λ static. absurd (false≢true static), tt)

  all_sound : (xs : List (Known TreeGood)) → Each Sound (typed_exprs_of (infer_all (map infer_expr (map (λ (x : Known TreeGood). x.0) xs)) facts))
  all_sound [] = tt
  all_sound (x ∷ xs) = (x.1, all_sound xs)

  expr_good : (y : ExprNode good) → Sound (from_expr inferring (bare_expr good y) facts).typed_expr
  expr_good (Expr-F.Literal span one) = (λ static. literal_passes typed_test one, literal_names typed_test one)
  expr_good (Expr-F.Name name) = name_sound name.span name.span
  expr_good (Expr-F.BasicType span one) = (λ static. absurd (false≢true static), basic_passes typed_test one)
  expr_good (Expr-F.Conversion span one inner) = silent span (conversion_outcome one (infer_expr inner.0 facts).typed_expr.typed) (converted one (infer_expr inner.0 facts).typed_expr.typed)
  expr_good (Expr-F.Group span inner) = (inner.1.0, tt)
  expr_good (Expr-F.Parts span parts) =
      let all = map repeated (infer_parts (map infer_part (map (λ (x : Known (λ (part : PartTree). Unit {0})). x.0) parts)) facts) in
      silent span (bracketed_rule all) (bracketed all)
  expr_good (Expr-F.Field span owner field) = field_sound span (infer_expr owner.0 facts).typed_expr field (infer_expr owner.0 facts).typed_expr.named
  expr_good (Expr-F.Index span array first None) =
      silent span (index_outcome (infer_expr array.0 facts).typed_expr.typed (infer_expr first.0 facts).typed_expr.typed None)
      (picked (infer_expr array.0 facts).typed_expr.typed (infer_expr first.0 facts).typed_expr.typed None)
  expr_good (Expr-F.Index span array first (Some second)) =
      silent span (index_outcome (infer_expr array.0 facts).typed_expr.typed (infer_expr first.0 facts).typed_expr.typed (Some (infer_expr second.0 facts).typed_expr))
      (picked (infer_expr array.0 facts).typed_expr.typed (infer_expr first.0 facts).typed_expr.typed (Some (infer_expr second.0 facts).typed_expr))
  expr_good (Expr-F.Call invocation) =
      let called = infer_invocation invocation.0 facts in
      called_sound called.span called.callee.typed_expr (typed_exprs_of called.arguments) called.callee.typed_expr.named invocation.1
  expr_good (Expr-F.Create create) = create.1
  expr_good (Expr-F.Unary span operator inner) =
      met span (unary_rule (prefix_of operator) (infer_expr inner.0 facts).typed_expr.typed) (unary_passes typed_test (prefix_of operator) (infer_expr inner.0 facts).typed_expr.typed)
  expr_good (Expr-F.Pending span operation) =
      let component = operation_component (decl_info facts.infos (decl_of (meaning_at facts.uses (spot_of operation.span)))) in
      silent span (pending_outcome component) (pending component)
  expr_good (Expr-F.Binary span left operator right) =
      met span (binary_rule (operator_of operator) (infer_expr left.0 facts).typed_expr.typed (infer_expr right.0 facts).typed_expr.typed)
      (binary_passes typed_test (operator_of operator) (infer_expr left.0 facts).typed_expr.typed (infer_expr right.0 facts).typed_expr.typed)

  -- ---- all trees

  by_parts : ByParts good
  by_parts = record {
    create = λ y. subst (λ t. t) (λ i. Sound (create_folds inferring (bare_create good y) i facts).typed_expr) (create_good y);
    expr = λ y. subst (λ t. t) (λ i. Sound (expr_folds inferring (bare_expr good y) i facts).typed_expr) (expr_good y);
    invocation = λ y. subst (λ t. t) (λ i. Each Sound (typed_exprs_of (invocation_folds inferring (bare_invocation good y) i facts).arguments)) (all_sound y.arguments);
    part = λ y. tt;
  }

  -- what is static has a type
  pub static_typed : (tree : Tree) → is_static (infer_expr tree facts).typed_expr.typed.value ≡ true → IsTyped (infer_expr tree facts).typed_expr.typed.ty
  static_typed tree = (each_expr good by_parts tree).0
