-- The type of an expression passes a test where those of what is known do: where what was refused passes, whether rules are
-- broken in it or not, else where none is.
use Rattle.std.proofs.Common.{◌≡◌, Bool, true, false, List, [], ◌∷◌, ◌++◌, map, Option, Some, None, IsTrue, refl, subst, ◌||◌, if◌then◌else◌}
use Rattle.std.specs.Prelude.{ℕ}
use Rattle.std.specs.Option.{option_and_then}
use Rattle.std.proofs.lemmas.Bool.{false≢true}
use Rattle.sr_value.specs.declared.place.Span.{Span}
use Rattle.sr_value.specs.declared.predefined.Dimension.{Dimension}
use Rattle.sr_names.specs.declared.finding.Finding.{Finding}
use Rattle.sr_names.specs.declared.finding.Rule.TheVariants.{BadType, BadUse}
use Rattle.sr_names.specs.declared.meaning.Decl.{Decl}
use Rattle.sr_names.specs.declared.meaning.Meaning.{Meaning}
use Rattle.sr_names.specs.declared.meaning.Meaning.TheVariants.{Declared, Predefined as MeansPredefined}
use Rattle.sr_names.specs.declared.predefined.Predefined.{Predefined}
use Rattle.sr_names.specs.declared.predefined.Predefined.TheVariants as predefined
use Rattle.sr_names.specs.declared.spot.Spot.{Spot}
use Rattle.sr_names.specs.Components.{member_named}
use Rattle.sr_names.specs.Spots.{spot_of}
use Rattle.sr_names.specs.Uses.{meaning_at}
use Rattle.sr_tree.specs.declared.expr.Create.TheOpen.{Create-F, Expr-F}
use Rattle.sr_tree.specs.declared.expr.Expr.{Expr as Tree}
use Rattle.sr_tree.specs.declared.expr.Invocation.{Invocation}
use Rattle.sr_tree.specs.declared.expr.Part.{Part as PartTree}
use Rattle.sr_tree.specs.declared.expr.BasicType.{BasicType}
use Rattle.sr_tree.specs.declared.expr.BasicType.TheVariants as basic
use Rattle.sr_tree.specs.declared.expr.Conversion.{Conversion}
use Rattle.sr_tree.specs.declared.expr.Conversion.TheVariants as conversion
use Rattle.sr_tree.specs.declared.expr.Literal.{Literal}
use Rattle.sr_tree.specs.declared.expr.Literal.TheVariants as literal
use Rattle.sr_tree.specs.declared.name.Name.{Name}
use Rattle.sr_types.specs.declared.signature.Signature.{Signature}
use Rattle.sr_types.specs.declared.spot.Spot as types
use Rattle.sr_types.specs.declared.ty.Ty.{Ty, out-Ty}
use Rattle.sr_types.specs.declared.ty.Ty.TheOpen.{Ty-F}
use Rattle.sr_types.specs.declared.ty.Ty.TheVariants as ty
use Rattle.sr_types.specs.declared.typed.Outcome.{Outcome}
use Rattle.sr_types.specs.declared.typed.Outcome.TheVariants.{Broken, Met}
use Rattle.sr_types.specs.declared.typed.Typed.{Typed}
use Rattle.sr_types.specs.Aggregates.{bracketed_rule}
use Rattle.sr_types.specs.Operators.{binary_rule, unary_rule}
use Rattle.sr_types.specs.Outcomes.{refused_typed}
use Rattle.sr_types.specs.Signatures.{signature_of}
use Rattle.sr_types.specs.Types.{is_no_type}
use Rattle.sr_types.specs.Predefined.{high_rule, low_rule}
use Rattle.sr_check_expr.specs.declared.facts.Facts.{Facts}
use Rattle.sr_check_expr.specs.declared.info.Info.{Info}
use Rattle.sr_check_expr.specs.declared.info.Info.TheVariants as info
use Rattle.sr_check_expr.specs.declared.typed_expr.Named.{Named}
use Rattle.sr_check_expr.specs.declared.typed_expr.Named.TheVariants as named
use Rattle.sr_check_expr.specs.declared.typed_expr.TypedExpr.{TypedExpr}
use Rattle.sr_check_expr.specs.Arguments.{all_found, all_valued, invoked_outcome, is_callable, returned_in, returned_outcome}
use Rattle.sr_check_expr.specs.Calls.{Called, parts_found as called_found, called_by, invocation_found, layer_record, made_found, made_outcome, record_if}
use Rattle.sr_check_expr.specs.Creating.{instance_type, instance_typing, made_found as creation_found, made_of, resource_named, resource_type}
use Rattle.sr_check_expr.specs.Exprs.{around, grouped, infer_all, infer_create, infer_expr, infer_invocation, infer_part, infer_parts, operator_of, part_found, parts_found, prefix_of, repeated, second_found, second_typed, second_valued, conversion_outcome, field_typing, index_outcome, indexed, operation_component, pending_found, pending_outcome, pending_typing}
use Rattle.sr_check_expr.specs.Infos.{info_at, name_spot, type_spot}
use Rattle.sr_check_expr.specs.LiteralTypes.{basic_type, literal_named, literal_typed, number_named}
use Rattle.sr_check_expr.specs.Naming.{capability_part, decl_info, decl_of, declared_typing, field_named, field_outcome, field_part, info_typing, layer_field, meaning_typing, name_typing, operation_type, predefined_at, record_fields, spec_operation}
use Rattle.sr_check_expr.specs.PredefinedCalls.{bound_outcome, dimension_of, dimension_outcome, ends_shape, function_found, function_outcome, high_outcome, low_outcome, one_outcome, two_numbers_outcome, unless_untyped}
use Rattle.sr_check_expr.specs.Typings.{Typing, broken_unless, is_met, is_value_name, refused_at, settled, settled_typed, typed_exprs_of, value_found, valued, with_found}
use Rattle.sr_check.specs.ErrorFree.{ErrorFree}
use Rattle.sr_check.proofs.Each.{Each}
use Rattle.sr_check.proofs.ErrorFree.{error_free_first, error_free_second, rule_met}
use Rattle.sr_tree.proofs.ExprFolds.{ByParts, Claim, CreateNode, ExprNode, InvocationNode, Known, PartNode, bare_create, bare_expr, bare_invocation, bare_part, create_folds, each_expr, each_invocation, each_part, expr_folds, from_create, from_expr, from_invocation, from_part, invocation_folds, part_folds}
use Rattle.sr_front.proofs.Typed.PassingTypes.{AllPass, Computed, FoundPasses, InfoPasses, MaybePasses, OutcomePasses, PartsPass, Passes, SignedPasses, TypeTest, Unless, binary_passes, bool_passes, bracketed_passes, char_passes, computed_met, computed_passes, enum_passes, field_passes, fields_passes, index_one_passes, index_two_passes, int_passes, layer_passes, null_passes, record_passes, refused_passes, resource_passes, signed_passes, str_passes, unary_passes, unless_so, untyped_passes, vm_passes}
use Rattle.sr_front.proofs.Typed.TypingFolds.{inferring}

module _ (test : TypeTest) where
  -- ---- what is found

  -- nothing is asked of findings where what was refused passes; else no rule is broken
  abbrev pub Fine : List Finding → Type 0
  Fine found = Unless test.refused (ErrorFree found)

  fine_first : (xs ys : List Finding) → Fine (xs ++ ys) → Fine xs
  fine_first xs ys = unless_so test.refused (ErrorFree (xs ++ ys)) (ErrorFree xs) (error_free_first xs ys)

  fine_second : (xs ys : List Finding) → Fine (xs ++ ys) → Fine ys
  fine_second xs ys = unless_so test.refused (ErrorFree (xs ++ ys)) (ErrorFree ys) (error_free_second xs ys)

  -- a rule is broken only where what was refused passes
  broken_untyped : (found : List Finding) → (ErrorFree found → ⊥) → Fine found → Passes test ty.Untyped
  broken_untyped found none whole = untyped_passes test (by test.refused whole)
    where
      by : (refused : Bool) → Unless refused (ErrorFree found) → IsTrue refused
      by true h = refl
      by false h = absurd (none h)

  -- ---- what an expression is

  -- what is named as a type passes
  abbrev pub NamedPasses : Named → Type 0
  NamedPasses (named.«Type» meant) = Passes test meant
  NamedPasses _ = Unit {0}

  -- the type of a value passes; other names have no value
  abbrev pub ExprPasses : TypedExpr → Type 0
  ExprPasses expr = (IsTrue (test.refused || is_value_name expr.named) → Passes test expr.typed.ty) × NamedPasses expr.named

  abbrev pub TypingPasses : Typing → Type 0
  TypingPasses typing = Fine typing.found → ExprPasses typing.typed_expr

  -- where a value is wanted and stands, its type passes
  pub valued_passes : (expr : TypedExpr) → ExprPasses expr → Fine (value_found expr) → Passes test expr.typed.ty
  valued_passes expr h whole = h.0 (by test.refused whole)
    where
      by : (refused : Bool) → Unless refused (ErrorFree (value_found expr)) → IsTrue (refused || is_value_name expr.named)
      by true h = refl
      by false h = rule_met (is_value_name expr.named) BadType expr.span h

  outcome_so : (span : Span) (outcome : Outcome) → OutcomePasses test outcome → Fine (broken_unless (is_met outcome) BadType span) → Passes test (settled_typed outcome).ty
  outcome_so span Broken h whole = broken_untyped (broken_unless false BadType span) (λ free. free) whole
  outcome_so span (Met one) h whole = h

  -- a construct whose rule is met has a type that passes
  settled_so : (span : Span) (found : List Finding) (outcome : Outcome) → (Fine found → OutcomePasses test outcome) → TypingPasses (settled span found outcome)
  settled_so span found outcome h whole = (λ value. outcome_so span outcome (h (fine_first found _ whole)) (fine_second found _ whole), tt)

  computed_so : (span : Span) (found : List Finding) (outcome : Outcome) → (Fine found → Computed test outcome) → TypingPasses (settled span found outcome)
  computed_so span found outcome h = settled_so span found outcome (λ fine. computed_passes test outcome (h fine))

  -- what has no value has no type
  unnamed : IsTrue (test.refused || false) → Passes test ty.Untyped
  unnamed h = untyped_passes test (by test.refused h)
    where
      by : (refused : Bool) → IsTrue (refused || false) → IsTrue refused
      by true h = h
      by false h = h

  unplaced : IsTrue false → IsTrue test.refused
  unplaced place = absurd (false≢true place)

  -- ---- literals

  pub literal_passes : (one : Literal) → Passes test (literal_typed one).ty
  literal_passes (literal.Number text) = int_passes test
  literal_passes (literal.Char text) = char_passes test
  literal_passes (literal.Str text) = str_passes test
  literal_passes literal.True = bool_passes test
  literal_passes literal.False = bool_passes test
  literal_passes literal.Null = null_passes test
  literal_passes literal.Noop = null_passes test

  number_names : (number : Option ℕ) → NamedPasses (number_named number)
  number_names None = tt
  number_names (Some number) = tt

  pub literal_names : (one : Literal) → NamedPasses (literal_named one)
  literal_names (literal.Number text) = number_names _
  literal_names _ = tt

  pub basic_passes : (one : BasicType) → Passes test (basic_type one)
  basic_passes basic.Int = int_passes test
  basic_passes basic.Bool = bool_passes test
  basic_passes basic.Char = char_passes test

  -- ---- conversions

  pub conversion_passes : (one : Conversion) (value : Typed) → Computed test (conversion_outcome one value)
  conversion_passes conversion.Int value = computed_met test _ _ _ (int_passes test)
  conversion_passes conversion.Char value = computed_met test _ _ _ (char_passes test)
  conversion_passes conversion.Str value = computed_met test _ _ _ (str_passes test)

  -- ---- the arguments of a call

  abbrev pub ExprsPass : List TypedExpr → Type 0
  ExprsPass = Each ExprPasses

  -- ---- predefined functions

  two_passes : (arguments : List TypedExpr) → Computed test (two_numbers_outcome arguments)
  two_passes (a ∷ b ∷ []) = computed_met test _ _ _ (int_passes test)
  two_passes _ = tt

  dimension_passes : (array : TypedExpr) (dimension : Option Dimension) → Computed test (dimension_outcome array dimension)
  dimension_passes array None = tt
  dimension_passes array (Some dimension) = computed_met test _ _ _ (int_passes test)

  bound_passes : (arguments : List TypedExpr) → Computed test (bound_outcome arguments)
  bound_passes (array ∷ []) = computed_met test _ _ _ (int_passes test)
  bound_passes (array ∷ number ∷ []) = dimension_passes array (dimension_of number.named)
  bound_passes _ = tt

  pub unless_passes : (type : Ty) (outcome : Outcome) → Passes test type → Computed test outcome → Computed test (unless_untyped type outcome)
  unless_passes type outcome h fine = by (is_no_type type) (refused_passes test type h)
    where
      by : (untyped : Bool) → (untyped ≡ true → IsTrue test.refused) → Computed test (if untyped then Met refused_typed else outcome)
      by true is = (untyped_passes test (is refl), λ place. is refl)
      by false is = fine

  pub low_passes : (facts : Facts) (is : Named) → NamedPasses is → Computed test (low_outcome facts.infos is)
  low_passes facts (named.«Type» meant) h = unless_passes meant (low_rule meant (ends_shape facts.infos meant)) h (computed_met test _ _ _ h)
  low_passes facts _ h = tt

  pub high_passes : (facts : Facts) (is : Named) → NamedPasses is → Computed test (high_outcome facts.infos is)
  high_passes facts (named.«Type» meant) h = unless_passes meant (high_rule meant (ends_shape facts.infos meant)) h (computed_met test _ _ _ h)
  high_passes facts _ h = tt

  one_passes : (facts : Facts) (span : Span) (name : Predefined) (argument : TypedExpr) → ExprPasses argument → Fine (function_found facts span name (argument ∷ [])) → Computed test (one_outcome facts.infos name argument)
  one_passes facts span predefined.Abs argument h whole = computed_met test _ _ _ (int_passes test)
  one_passes facts span predefined.Low argument h whole = low_passes facts argument.named h.1
  one_passes facts span predefined.High argument h whole = high_passes facts argument.named h.1
  one_passes facts span predefined.Length argument h whole = computed_met test _ _ _ (int_passes test)
  one_passes facts span predefined.Pred argument h whole = computed_met test _ _ _ (valued_passes argument h (fine_first (value_found argument) [] whole))
  one_passes facts span predefined.Succ argument h whole = computed_met test _ _ _ (valued_passes argument h (fine_first (value_found argument) [] whole))
  one_passes facts span _ argument h whole = tt

  pub function_passes : (facts : Facts) (span : Span) (name : Predefined) (arguments : List TypedExpr) → ExprsPass arguments → Fine (function_found facts span name arguments) → Computed test (function_outcome facts name arguments)
  function_passes facts span predefined.Read arguments each whole = (int_passes test, unplaced)
  function_passes facts span predefined.Min arguments each whole = two_passes arguments
  function_passes facts span predefined.Max arguments each whole = two_passes arguments
  function_passes facts span predefined.Lb arguments each whole = bound_passes arguments
  function_passes facts span predefined.Ub arguments each whole = bound_passes arguments
  function_passes facts span predefined.MyResource [] each whole = (resource_passes test (type_spot facts.here.component.spot), unplaced)
  function_passes facts span predefined.MyResource (argument ∷ arguments) each whole = tt
  function_passes facts span predefined.MyVm [] each whole = (vm_passes test, unplaced)
  function_passes facts span predefined.MyVm (argument ∷ arguments) each whole = tt
  function_passes facts span name [] each whole = tt
  function_passes facts span name (argument ∷ []) each whole = one_passes facts span name argument each.0 whole
  function_passes facts span name (argument ∷ other ∷ arguments) each whole = tt

  -- ---- records

  made_if : (met : Bool) (spot : types.Spot) → Computed test (record_if met (ty.Rec spot))
  made_if true spot = (record_passes test spot, unplaced)
  made_if false spot = tt

  pub layer_made_passes : (facts : Facts) (arguments : List TypedExpr) (layer : Ty-F Ty) → IsTrue (layer_passes test layer) → Computed test (layer_record facts arguments layer)
  layer_made_passes facts arguments (Ty-F.Rec spot) h = made_if _ spot
  layer_made_passes facts arguments Ty-F.Untyped h = (untyped_passes test h, λ place. h)
  layer_made_passes facts arguments _ h = tt

  -- ---- operations

  returned_passes : (met : Bool) (returns : Option Ty) → MaybePasses test returns → Computed test (returned_outcome met returns)
  returned_passes met None h = tt
  returned_passes met (Some type) h = computed_met test met _ _ h

  pub invoked_by : (signature : Option Signature) (untyped met : Bool) → SignedPasses test signature → (untyped ≡ true → IsTrue test.refused) → Computed test (returned_outcome met (returned_in signature untyped))
  invoked_by None true met h is = computed_met test met _ _ (untyped_passes test (is refl))
  invoked_by None false met h is = tt
  invoked_by (Some signature) untyped met h is = returned_passes met signature.returns h.returns

  -- ---- creations

  made_passes : (facts : Facts) (arguments : List TypedExpr) (spot : types.Spot) (formals : Option Ty) → Computed test (made_of facts arguments (ty.Resource spot) formals)
  made_passes facts arguments spot None = tt
  made_passes facts arguments spot (Some formals) = computed_met test _ _ _ (resource_passes test spot)

  pub creation_passes : (facts : Facts) (arguments : List TypedExpr) (resource : Option Decl) → Computed test (made_of facts arguments (instance_type resource) (resource_type facts.infos resource))
  creation_passes facts arguments None = tt
  creation_passes facts arguments (Some decl) = made_passes facts arguments (type_spot decl.spot) (resource_type facts.infos (Some decl))

  creation_so : (facts : Facts) (span : Span) (resource : Option Decl) (arguments : List TypedExpr) (machine : Option TypedExpr) → TypingPasses (instance_typing facts span resource arguments machine)
  creation_so facts span resource arguments machine =
      computed_so span (creation_found facts span (resource_type facts.infos resource) arguments machine) (made_of facts arguments (instance_type resource) (resource_type facts.infos resource))
      (λ found. creation_passes facts arguments resource)

  -- ---- invocations that are counted

  pub counted_passes : (component : Option Spot) → Computed test (pending_outcome component)
  counted_passes None = tt
  counted_passes (Some component) = (int_passes test, unplaced)

  counted_so : (facts : Facts) (span used : Span) → TypingPasses (pending_typing facts span used)
  counted_so facts span used =
      let component = operation_component (decl_info facts.infos (decl_of (meaning_at facts.uses (spot_of used)))) in
      computed_so span (pending_found facts.here span component) (pending_outcome component) (λ found. counted_passes component)

  -- ---- items

  index_so : (span : Span) (array first : TypedExpr) (second : Option TypedExpr) → ExprPasses array → TypingPasses (indexed span array first second)
  index_so span array first None h whole =
      settled_so span (value_found array ++ (value_found first ++ [])) (index_outcome array.typed first.typed None)
      (λ found. index_one_passes test array.typed first.typed (valued_passes array h (fine_first (value_found array) _ found))) whole
  index_so span array first (Some second) h whole =
      settled_so span (value_found array ++ (value_found first ++ value_found second)) (index_outcome array.typed first.typed (Some second))
      (λ found. index_two_passes test array.typed first.typed second.typed (valued_passes array h (fine_first (value_found array) _ found))) whole

  module _ (facts : Facts) (all : AllPass test facts) where
    -- ---- names

    predefined_so : (span : Span) (name : Predefined) → ExprPasses (predefined_at span name)
    predefined_so span predefined.Eof = (λ value. int_passes test, tt)
    predefined_so span _ = (unnamed, tt)

    info_so : (span : Span) (decl : Decl) (one : Info) → InfoPasses test one → ExprPasses (info_typing span decl one)
    info_so span decl (info.Value typed) h = (λ value. h.0, tt)
    info_so span decl (info.«Type» type) h = (unnamed, h)
    info_so span decl (info.Enumeration number literals) h = (unnamed, enum_passes test (type_spot decl.spot))
    info_so span decl (info.Record fields) h = (unnamed, record_passes test (type_spot decl.spot))
    info_so span decl (info.Operation type component is_local) h = (λ value. h, tt)
    info_so span decl _ h = (unnamed, tt)

    declared_so : (span : Span) (decl : Decl) (found : Option Info) → FoundPasses test found → TypingPasses (declared_typing span decl found)
    declared_so span decl None h whole = (λ value. broken_untyped (refused_at span).found (λ free. free) whole, tt)
    declared_so span decl (Some one) h whole = info_so span decl one h

    meaning_so : (span : Span) (meaning : Option Meaning) → TypingPasses (meaning_typing facts.infos span meaning)
    meaning_so span None whole = (λ value. broken_untyped (refused_at span).found (λ free. free) whole, tt)
    meaning_so span (Some (MeansPredefined name)) whole = predefined_so span name
    meaning_so span (Some (Declared decl)) whole = declared_so span decl (info_at facts.infos decl.spot) (all.infos decl.spot) whole

    name_so : (span used : Span) → TypingPasses (name_typing facts span used)
    name_so span used = meaning_so span (meaning_at facts.uses (spot_of used))

    -- ---- fields, and operations of resources

    part_so : (owner : Typed) (found : Option Ty) → MaybePasses test found → OutcomePasses test (field_part owner found)
    part_so owner None h = tt
    part_so owner (Some type) h = h

    operation_so : (one : Info) → InfoPasses test one → MaybePasses test (operation_type one)
    operation_so (info.Operation type component is_local) h = h
    operation_so _ h = tt

    found_operation : (found : Option Info) → FoundPasses test found → MaybePasses test (option_and_then operation_type found)
    found_operation None h = tt
    found_operation (Some one) h = operation_so one h

    member_so : (member : Option Decl) → MaybePasses test (option_and_then (λ decl. option_and_then operation_type (info_at facts.infos decl.spot)) member)
    member_so None = tt
    member_so (Some decl) = found_operation (info_at facts.infos decl.spot) (all.infos decl.spot)

    capability_so : (found : Option Ty) → MaybePasses test found → OutcomePasses test (capability_part found)
    capability_so None h = tt
    capability_so (Some type) h = h

    layer_so : (owner : Typed) (name : List ℕ) (layer : Ty-F Ty) → IsTrue (layer_passes test layer) → OutcomePasses test (layer_field facts owner name layer)
    layer_so owner name (Ty-F.Rec spot) h = part_so owner (field_named (record_fields facts.infos spot) name) (field_passes test (record_fields facts.infos spot) name (fields_passes test facts all (name_spot spot)))
    layer_so owner name (Ty-F.Resource spot) h = capability_so (spec_operation facts spot name) (member_so (member_named facts.specs (name_spot spot) name))
    layer_so owner name Ty-F.Untyped h = untyped_passes test h
    layer_so owner name _ h = tt

    fields_so : (span : Span) (owner : TypedExpr) (field : Name) (is : Named) → ExprPasses owner → TypingPasses (field_typing facts span owner field is)
    fields_so span owner field (named.Component decl) h whole = name_so span field.span whole
    fields_so span owner field _ h whole =
        settled_so span (value_found owner) (field_outcome facts owner.typed field.text) (λ found. layer_so owner.typed field.text (out-Ty owner.typed.ty) (valued_passes owner h found)) whole

    -- ---- calls

    called_so : (span : Span) (callee : TypedExpr) (arguments : List TypedExpr) (is : Named) → NamedPasses is → ExprPasses callee → ExprsPass arguments → TypingPasses (called_by facts span callee arguments is)
    called_so span callee arguments (named.Predefined name) meant h each whole =
        computed_so span (function_found facts span name arguments) (function_outcome facts name arguments) (function_passes facts span name arguments each) whole
    called_so span callee arguments (named.«Type» type) meant h each whole =
        computed_so span (all_valued arguments ++ made_found facts type arguments) (made_outcome facts type arguments) (λ found. layer_made_passes facts arguments (out-Ty type) meant) whole
    called_so span callee arguments _ meant h each whole =
        computed_so span (invocation_found facts span callee arguments ++ broken_unless (is_callable facts.signatures callee.typed.ty) BadUse span) (invoked_outcome facts.signatures callee.typed.ty arguments)
        (λ found. invoked_by (signature_of facts.signatures callee.typed.ty) (is_no_type callee.typed.ty) _ (signed_passes test facts all callee.typed.ty)
        (refused_passes test callee.typed.ty (valued_passes callee h (fine_first (value_found callee) _ (fine_first (invocation_found facts span callee arguments) _ found))))) whole

    -- ---- each tree, when its parts are so

    abbrev TreeGood : Tree → Type 0
    TreeGood tree = TypingPasses (infer_expr tree facts)

    abbrev CalledPasses : Called → Type 0
    CalledPasses called = Fine (called_found called) → ExprPasses called.callee.typed_expr × ExprsPass (typed_exprs_of called.arguments)

    abbrev PartPasses : Option Typing × Typing → Type 0
    PartPasses part = Fine (part_found part) → Passes test part.1.typed_expr.typed.ty

    abbrev PartGood : PartTree → Type 0
    PartGood tree = PartPasses (infer_part tree facts)

    abbrev good : Claim
    good = record {
      create = λ tree. TypingPasses (infer_create tree facts);
      expr = TreeGood;
      invocation = λ tree. CalledPasses (infer_invocation tree facts);
      part = PartGood;
    }

    abbrev typings : List (Known TreeGood) → List Typing
    typings xs = infer_all (map infer_expr (map (λ (x : Known TreeGood). x.0) xs)) facts

    abbrev part_typings : List (Known PartGood) → List (Option Typing × Typing)
    part_typings xs = infer_parts (map infer_part (map (λ (x : Known PartGood). x.0) xs)) facts

    all_so : (xs : List (Known TreeGood)) → Fine (all_found (typings xs)) → ExprsPass (typed_exprs_of (typings xs))
    all_so [] whole = tt
    all_so (x ∷ xs) whole = (x.1 (fine_first (infer_expr x.0 facts).found _ whole), all_so xs (fine_second (infer_expr x.0 facts).found _ whole))

    parts_so : (xs : List (Known PartGood)) → Fine (parts_found (part_typings xs)) → PartsPass test (map repeated (part_typings xs))
    parts_so [] whole = tt
    parts_so (x ∷ xs) whole = (x.1 (fine_first (part_found (infer_part x.0 facts)) _ whole), parts_so xs (fine_second (part_found (infer_part x.0 facts)) _ whole))

    create_good : (y : CreateNode good) → TypingPasses (from_create inferring (bare_create good y) facts)
    create_good (Create-F.Resource span resource arguments None) whole =
        creation_so facts span (resource_named facts resource) (typed_exprs_of (typings arguments)) None (fine_second (all_found (typings arguments) ++ []) _ whole)
    create_good (Create-F.Resource span resource arguments (Some machine)) whole =
        let on = infer_expr machine.0 facts in
        creation_so facts span (resource_named facts resource) (typed_exprs_of (typings arguments)) (Some on.typed_expr) (fine_second (all_found (typings arguments) ++ on.found) _ whole)
    create_good (Create-F.Machine span) whole = (λ value. vm_passes test, tt)

    invocation_good : (y : InvocationNode good) → CalledPasses (from_invocation inferring (bare_invocation good y) facts)
    invocation_good y whole = (
      y.callee.1 (fine_first (infer_expr y.callee.0 facts).found _ whole),
      all_so y.arguments (fine_second (infer_expr y.callee.0 facts).found _ whole),
    )

    repeated_so : (count : Option Typing) (value : Typing) → TypingPasses value → PartPasses (count, value)
    repeated_so count value h whole =
        let found = fine_first (second_found count ++ value.found) _ whole in
        let valued = fine_second (second_found count ++ value.found) _ whole in
        valued_passes value.typed_expr (h (fine_second (second_found count) _ found)) (fine_second (second_valued (second_typed count)) _ valued)

    part_by : (y : PartNode good) (count : Option (Known TreeGood)) → PartPasses (from_part inferring (bare_part good (record y { count = count })) facts)
    part_by y None whole = repeated_so None (infer_expr y.value.0 facts) y.value.1 whole
    part_by y (Some count) whole = repeated_so (Some (infer_expr count.0 facts)) (infer_expr y.value.0 facts) y.value.1 whole

    part_good : (y : PartNode good) → PartPasses (from_part inferring (bare_part good y) facts)
    part_good y = part_by y y.count

    abbrev around_so : Span → Known TreeGood → Outcome → Type 0
    around_so span inner outcome = TypingPasses (with_found (infer_expr inner.0 facts).found (around span (infer_expr inner.0 facts).typed_expr outcome))

    -- a construct around a value has the type that its rule gives
    around_passes : (span : Span) (inner : Known TreeGood) (outcome : Outcome) → (Passes test (infer_expr inner.0 facts).typed_expr.typed.ty → OutcomePasses test outcome) → around_so span inner outcome
    around_passes span inner outcome h whole =
        let here = infer_expr inner.0 facts in
        settled_so span (value_found here.typed_expr) outcome
        (λ found. h (valued_passes here.typed_expr (inner.1 (fine_first here.found _ whole)) found)) (fine_second here.found _ whole)

    expr_good : (y : ExprNode good) → TypingPasses (from_expr inferring (bare_expr good y) facts)
    expr_good (Expr-F.Literal span literal) whole = (λ value. literal_passes literal, literal_names literal)
    expr_good (Expr-F.Name name) whole = name_so name.span name.span whole
    expr_good (Expr-F.BasicType span basic) whole = (unnamed, basic_passes basic)
    expr_good (Expr-F.Conversion span conversion value) whole = around_passes span value (conversion_outcome conversion (infer_expr value.0 facts).typed_expr.typed) (λ h. computed_passes test _ (conversion_passes conversion _)) whole
    expr_good (Expr-F.Group span inner) whole = around_passes span inner (Met (grouped (infer_expr inner.0 facts).typed_expr.typed)) (λ h. h) whole
    expr_good (Expr-F.Parts span parts) whole =
        computed_so span (parts_found (part_typings parts)) (bracketed_rule (map repeated (part_typings parts))) (λ found. bracketed_passes test (map repeated (part_typings parts)) (parts_so parts found)) whole
    expr_good (Expr-F.Field span owner field) whole =
        let here = infer_expr owner.0 facts in
        fields_so span here.typed_expr field here.typed_expr.named (owner.1 (fine_first here.found _ whole)) (fine_second here.found _ whole)
    expr_good (Expr-F.Index span array first None) whole =
        let here = infer_expr array.0 facts in
        let at = infer_expr first.0 facts in
        let found = here.found ++ (at.found ++ []) in
        index_so span here.typed_expr at.typed_expr None (array.1 (fine_first here.found _ (fine_first found _ whole))) (fine_second found _ whole)
    expr_good (Expr-F.Index span array first (Some second)) whole =
        let here = infer_expr array.0 facts in
        let at = infer_expr first.0 facts in
        let more = infer_expr second.0 facts in
        let found = here.found ++ (at.found ++ more.found) in
        index_so span here.typed_expr at.typed_expr (Some more.typed_expr) (array.1 (fine_first here.found _ (fine_first found _ whole))) (fine_second found _ whole)
    expr_good (Expr-F.Call invocation) whole =
        let here = infer_invocation invocation.0 facts in
        let parts = invocation.1 (fine_first (called_found here) _ whole) in
        called_so here.span here.callee.typed_expr (typed_exprs_of here.arguments) here.callee.typed_expr.named parts.0.1 parts.0 parts.1 (fine_second (called_found here) _ whole)
    expr_good (Expr-F.Create create) whole = create.1 whole
    expr_good (Expr-F.Unary span operator operand) whole = around_passes span operand (unary_rule (prefix_of operator) (infer_expr operand.0 facts).typed_expr.typed) (λ h. computed_passes test _ (unary_passes test (prefix_of operator) _)) whole
    expr_good (Expr-F.Pending span operation) whole = counted_so facts span operation.span whole
    expr_good (Expr-F.Binary span left operator right) whole =
        let a = infer_expr left.0 facts in
        let b = infer_expr right.0 facts in
        computed_so span (value_found a.typed_expr ++ value_found b.typed_expr) (binary_rule (operator_of operator) a.typed_expr.typed b.typed_expr.typed)
        (λ found. binary_passes test (operator_of operator) a.typed_expr.typed b.typed_expr.typed) (fine_second (a.found ++ b.found) _ whole)

    -- ---- all trees

    by_parts : ByParts good
    by_parts = record {
      create = λ y. subst (λ t. t) (λ i. TypingPasses (create_folds inferring (bare_create good y) i facts)) (create_good y);
      expr = λ y. subst (λ t. t) (λ i. TypingPasses (expr_folds inferring (bare_expr good y) i facts)) (expr_good y);
      invocation = λ y. subst (λ t. t) (λ i. CalledPasses (invocation_folds inferring (bare_invocation good y) i facts)) (invocation_good y);
      part = λ y. subst (λ t. t) (λ i. PartPasses (part_folds inferring (bare_part good y) i facts)) (part_good y);
    }

    -- the type of an expression passes, or it names what has no value
    pub expr_passes : (tree : Tree) → Fine (infer_expr tree facts).found → ExprPasses (infer_expr tree facts).typed_expr
    expr_passes = each_expr good by_parts

    -- so do what is called and its arguments
    pub invocation_passes : (tree : Invocation) → CalledPasses (infer_invocation tree facts)
    invocation_passes = each_invocation good by_parts

    -- and the values of parts
    part_passes : (tree : PartTree) → PartGood tree
    part_passes = each_part good by_parts

    pub parts_pass : (parts : List PartTree) → Fine (parts_found (infer_parts (map infer_part parts) facts)) → PartsPass test (map repeated (infer_parts (map infer_part parts) facts))
    parts_pass [] whole = tt
    parts_pass (part ∷ parts) whole = (part_passes part (fine_first (part_found (infer_part part facts)) _ whole), parts_pass parts (fine_second (part_found (infer_part part facts)) _ whole))

    -- a value that stands where one is wanted has a type that passes
    pub value_passes : (tree : Tree) → Fine (valued (infer_expr tree facts)) → Passes test (infer_expr tree facts).typed_expr.typed.ty
    value_passes tree whole =
        let here = infer_expr tree facts in
        valued_passes here.typed_expr (expr_passes tree (fine_first here.found _ whole)) (fine_second here.found _ whole)
