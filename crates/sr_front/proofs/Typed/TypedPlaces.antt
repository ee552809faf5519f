-- An expression that is a place where it stands, and in which no rule is broken, is a place in the core.
use Rattle.std.proofs.Common.{◌≡◌, ℕ, Bool, true, false, List, [], ◌++◌, map, Option, Some, None, IsTrue, refl, sym, ap, subst, ◌∙◌}
use Rattle.std.specs.Option.{option_and_then, option_map}
use Rattle.std.proofs.lemmas.Bool.{false≢true}
use Rattle.sr_value.specs.declared.place.Span.{Span}
use Rattle.sr_value.specs.declared.value.Value.{Value}
use Rattle.sr_names.specs.declared.finding.Finding.{Finding}
use Rattle.sr_names.specs.declared.finding.Rule.TheVariants.{BadType, BadUse}
use Rattle.sr_names.specs.declared.meaning.Decl.{Decl}
use Rattle.sr_names.specs.declared.meaning.Meaning.{Meaning}
use Rattle.sr_names.specs.declared.meaning.Meaning.TheVariants.{Declared, Predefined as MeansPredefined}
use Rattle.sr_names.specs.declared.predefined.Predefined.TheVariants as predefined
use Rattle.sr_names.specs.declared.spot.Spot.{Spot}
use Rattle.sr_names.specs.Spots.{spot_of}
use Rattle.sr_names.specs.Uses.{meaning_at}
use Rattle.sr_tree.specs.declared.expr.Create.TheOpen.{Create-F, Expr-F}
use Rattle.sr_tree.specs.declared.expr.Expr.{Expr as Tree}
use Rattle.sr_tree.specs.declared.expr.Literal.{Literal}
use Rattle.sr_tree.specs.declared.expr.Literal.TheVariants as literal
use Rattle.sr_tree.specs.declared.expr.Part.{Part as PartTree}
use Rattle.sr_tree.specs.declared.name.Name.{Name}
use Rattle.sr_types.specs.declared.ty.Ty.{Ty, out-Ty}
use Rattle.sr_types.specs.declared.ty.Ty.TheOpen.{Ty-F}
use Rattle.sr_types.specs.declared.typed.Outcome.{Outcome}
use Rattle.sr_types.specs.declared.typed.Outcome.TheVariants.{Broken, Met}
use Rattle.sr_types.specs.declared.typed.Typed.{Typed}
use Rattle.sr_types.specs.Aggregates.{bracketed_rule}
use Rattle.sr_types.specs.Operators.{binary_rule, unary_rule}
use Rattle.sr_types.specs.Parts.{indexed as part_indexed, item_of_one, item_of_two}
use Rattle.sr_types.specs.Signatures.{signature_of}
use Rattle.sr_types.specs.Types.{is_no_type}
use Rattle.sr_check_expr.specs.declared.facts.Facts.{Facts}
use Rattle.sr_check_expr.specs.declared.info.Info.{Info}
use Rattle.sr_check_expr.specs.declared.info.Info.TheVariants as info
use Rattle.sr_check_expr.specs.declared.typed_expr.Named.{Named}
use Rattle.sr_check_expr.specs.declared.typed_expr.Named.TheVariants as named
use Rattle.sr_check_expr.specs.declared.typed_expr.TypedExpr.{TypedExpr}
use Rattle.sr_check_expr.specs.Arguments.{all_found, all_valued, invoked_outcome, is_callable, returned_in, returned_outcome}
use Rattle.sr_check_expr.specs.Calls.{called_by, invocation_found, made_found, made_outcome, parts_found as called_found}
use Rattle.sr_check_expr.specs.Creating.{instance_type, instance_typing, made_found as creation_found, made_of, resource_named, resource_type}
use Rattle.sr_check_expr.specs.Exprs.{conversion_outcome, field_typing, index_outcome, indexed, infer_all, infer_create, infer_expr, infer_invocation, infer_part, infer_parts, operation_component, operator_of, parts_found, pending_found, pending_outcome, prefix_of, repeated, second_valued}
use Rattle.sr_check_expr.specs.Infos.{info_at}
use Rattle.sr_check_expr.specs.LiteralTypes.{literal_typed}
use Rattle.sr_check_expr.specs.Meanings.{constant_at, info_constant, type_of, typed_expr}
use Rattle.sr_check_expr.specs.Naming.{capability_part, decl_info, decl_of, declared_typing, field_named, field_outcome, field_part, layer_field, meaning_typing, name_typing, record_fields, spec_operation}
use Rattle.sr_check_expr.specs.PredefinedCalls.{function_found, function_outcome}
use Rattle.sr_check_expr.specs.Typings.{Typing, broken_unless, is_met, is_value_name, settled, settled_typed, typed_exprs_of, value_found}
use Rattle.sr_check.specs.ErrorFree.{ErrorFree}
use Rattle.sr_check.proofs.ErrorFree.{error_free_first, error_free_second, rule_met}
use Rattle.sr_core.specs.declared.component.Operation.{Operation}
use Rattle.sr_core.specs.declared.expression.Step.{Step}
use Rattle.sr_core.specs.declared.expression.Step.TheVariants as step
use Rattle.sr_lower_expr.specs.declared.scene.Lowered.{Lowered}
use Rattle.sr_lower_expr.specs.declared.scene.Lowered.TheVariants as lowered
use Rattle.sr_lower_expr.specs.declared.scene.Scene.{Scene}
use Rattle.sr_lower_expr.specs.Expressions.{LoweredTree, core_expr, core_value, field_core, layer_member, meaning_core, name_core, named_core}
use Rattle.sr_lower_expr.specs.Places.{operation_at, part_of}
use Rattle.sr_lower_expr.proofs.Trees.{told_is}
use Rattle.sr_tree.proofs.ExprFolds.{ByParts, Claim, CreateNode, ExprNode, Known, bare_create, bare_expr, create_folds, each_expr, expr_folds, from_create, from_expr}
use Rattle.sr_front.proofs.Known.ExprsStay.{expr_stays}
use Rattle.sr_front.proofs.Known.OnlyOperations.{Lone, OnlyOperations}
use Rattle.sr_front.proofs.Typed.PassingExprs.{ExprPasses, ExprsPass, NamedPasses, conversion_passes, counted_passes, creation_passes, expr_passes, function_passes, invocation_passes, layer_made_passes, parts_pass, valued_passes}
use Rattle.sr_front.proofs.Typed.PassingTypes.{Computed, binary_passes, bracketed_passes, unary_passes}
use Rattle.sr_front.proofs.Constants.Placeless.{placeless_info}
use Rattle.sr_front.proofs.Typed.Typed.{AllTyped, FoundTyped, ValueTyped, layer_typed, typed_test}
use Rattle.sr_front.proofs.Known.TypesStay.{Grows}
use Rattle.sr_lower_expr.proofs.LowerFold.{lowering}
use Rattle.sr_front.proofs.Typed.TypingFolds.{inferring}

-- a place in the core
abbrev pub IsPlace : Lowered → Type 0
IsPlace (lowered.Place place) = Unit {0}
IsPlace (lowered.Value value) = ⊥

-- a value that is a place is one in the core
abbrev pub Placed : TypedExpr → Lowered → Type 0
Placed expr made = IsTrue expr.typed.is_place → IsTrue (is_value_name expr.named) → IsPlace made

part_placed : (whole : Lowered) (step : Step) → IsPlace whole → IsPlace (part_of whole step)
part_placed (lowered.Place place) step h = tt
part_placed (lowered.Value value) step h = absurd h

-- ---- wholes that are no places

abbrev NoPlace : Outcome → Type 0
NoPlace outcome = IsTrue (is_met outcome) → IsTrue (settled_typed outcome).is_place → ⊥

loose : (outcome : Outcome) → Computed typed_test outcome → NoPlace outcome
loose Broken h met place = false≢true met
loose (Met whole) h met place = false≢true (h.1 place)

unplaced_by : (span : Span) (found : List Finding) (outcome : Outcome) → NoPlace outcome → ErrorFree (settled span found outcome).found → IsTrue (settled_typed outcome).is_place → ⊥
unplaced_by span found outcome none whole place = none (rule_met (is_met outcome) BadType span (error_free_second found _ whole)) place

unplaced : (span : Span) (found : List Finding) (outcome : Outcome) → (ErrorFree found → Computed typed_test outcome) → ErrorFree (settled span found outcome).found → IsTrue (settled_typed outcome).is_place → ⊥
unplaced span found outcome h whole place = unplaced_by span found outcome (loose outcome (h (error_free_first found _ whole))) whole place

no_literal : (one : Literal) → (literal_typed one).is_place ≡ false
no_literal (literal.Number text) = refl
no_literal _ = refl

creation_unplaced : (facts : Facts) (span : Span) (resource : Option Decl) (arguments : List TypedExpr) (machine : Option TypedExpr) → ErrorFree (instance_typing facts span resource arguments machine).found
    → IsTrue (instance_typing facts span resource arguments machine).typed_expr.typed.is_place → ⊥
creation_unplaced facts span resource arguments machine whole place =
    unplaced span (creation_found facts span (resource_type facts.infos resource) arguments machine) (made_of facts arguments (instance_type resource) (resource_type facts.infos resource))
    (λ found. creation_passes typed_test facts arguments resource) whole place

-- ---- calls

returned_loose : (met : Bool) (returns : Option Ty) → NoPlace (returned_outcome met returns)
returned_loose met None is place = false≢true is
returned_loose true (Some type) is place = false≢true place
returned_loose false (Some type) is place = false≢true is

called_unplaced : (facts : Facts) (span : Span) (callee : TypedExpr) (arguments : List TypedExpr) (is : Named) → NamedPasses typed_test is → ExprsPass typed_test arguments → ErrorFree (called_by facts span callee arguments is).found
    → IsTrue (called_by facts span callee arguments is).typed_expr.typed.is_place → ⊥
called_unplaced facts span callee arguments (named.Predefined name) h each whole =
    unplaced span (function_found facts span name arguments) (function_outcome facts name arguments) (λ found. function_passes typed_test facts span name arguments each found) whole
called_unplaced facts span callee arguments (named.«Type» type) h each whole =
    unplaced span (all_valued arguments ++ made_found facts type arguments) (made_outcome facts type arguments) (λ found. layer_made_passes typed_test facts arguments (out-Ty type) h) whole
called_unplaced facts span callee arguments _ h each whole =
    unplaced_by span (invocation_found facts span callee arguments ++ broken_unless (is_callable facts.signatures callee.typed.ty) BadUse span) (invoked_outcome facts.signatures callee.typed.ty arguments)
    (returned_loose _ (returned_in (signature_of facts.signatures callee.typed.ty) (is_no_type callee.typed.ty))) whole

-- ---- parts

owner_place : (owner : Typed) (found : Option Ty) → IsTrue (is_met (field_part owner found)) → IsTrue (settled_typed (field_part owner found)).is_place → IsTrue owner.is_place
owner_place owner None met place = absurd (false≢true met)
owner_place owner (Some type) met place = place

capability_loose : (found : Option Ty) → NoPlace (capability_part found)
capability_loose None met place = false≢true met
capability_loose (Some type) met place = false≢true place

item_place : (whole : Typed) (met : Bool) (item : Option Ty) → IsTrue (is_met (part_indexed whole met item)) → IsTrue (settled_typed (part_indexed whole met item)).is_place → IsTrue whole.is_place
item_place whole met None is place = absurd (false≢true is)
item_place whole true (Some item) is place = place
item_place whole false (Some item) is place = absurd (false≢true is)

index_place : (whole at : Typed) (second : Option TypedExpr) → IsTrue (is_met (index_outcome whole at second)) → IsTrue (settled_typed (index_outcome whole at second)).is_place → IsTrue whole.is_place
index_place whole at None is place = item_place whole _ (item_of_one whole.ty) is place
index_place whole at (Some second) is place = item_place whole _ (item_of_two whole.ty) is place

index_placed : (span : Span) (array first : TypedExpr) (second : Option TypedExpr) (told : Lowered) (step : Step) → Placed array told → ErrorFree (indexed span array first second).found → Placed (indexed span array first second).typed_expr (part_of told step)
index_placed span array first second told step placed whole place value =
    let values = value_found array ++ (value_found first ++ second_valued second) in
    let outcome = index_outcome array.typed first.typed second in
    part_placed told step
    (placed (index_place array.typed first.typed second (rule_met (is_met outcome) BadType span (error_free_second values _ whole)) place)
    (rule_met (is_value_name array.named) BadType array.span (error_free_first (value_found array) _ (error_free_first values _ whole))))

-- what is known at the place: all has a type, and where an operation of the table stands nothing but an operation is known
pub record AtPlace (scene : Scene) (known : Facts) : Type 0 where
  pub typed : AllTyped known
  pub grows : Grows known scene.facts
  pub operations : OnlyOperations scene.tables.operations known

abbrev value_in : Option Info → Option Value
value_in found = option_and_then info_constant found

one_value : (one : Info) → info_constant (placeless_info one) ≡ info_constant one
one_value (info.Value typed) = refl
one_value _ = refl

same_value : (found : Option Info) → value_in (option_map placeless_info found) ≡ value_in found
same_value None = refl
same_value (Some one) = one_value one

module _ (scene : Scene) (known : Facts) (at : AtPlace scene known) where
  -- ---- names

  -- what is a place isn't known before the run in the end
  not_static : (spot : Spot) (typed : Typed) → info_at known.infos spot ≡ Some (info.Value typed) → IsTrue typed.is_place → constant_at scene.facts spot ≡ None
  not_static spot typed is place =
      let here : ValueTyped typed = subst FoundTyped is (at.typed.infos spot) in
      sym (same_value (info_at scene.facts.infos spot)) ∙ ap value_in (at.grows.infos spot (info.Value typed) is) ∙ here.1 place

  -- nor an operation
  no_operation : (spot : Spot) (typed : Typed) → info_at known.infos spot ≡ Some (info.Value typed) → operation_at scene spot ≡ None
  no_operation spot typed is = by (operation_at scene spot) refl
    where
      by : (found : Option Operation) → operation_at scene spot ≡ found → found ≡ None
      by None same = refl
      by (Some operation) same = absurd (subst Lone is (at.operations spot operation same))

  variable_placed : (spot : Spot) → constant_at scene.facts spot ≡ None → operation_at scene spot ≡ None → IsPlace (named_core scene spot (constant_at scene.facts spot) (operation_at scene spot))
  variable_placed spot constant operation =
      subst (λ (value : Option Value). IsPlace (named_core scene spot value (operation_at scene spot))) (sym constant)
      (subst (λ (found : Option Operation). IsPlace (named_core scene spot None found)) (sym operation) tt)

  declared_placed : (span : Span) (decl : Decl) (found : Option Info) → info_at known.infos decl.spot ≡ found → ErrorFree (declared_typing span decl found).found
      → Placed (declared_typing span decl found).typed_expr (named_core scene decl.spot (constant_at scene.facts decl.spot) (operation_at scene decl.spot))
  declared_placed span decl None is whole place value = absurd whole
  declared_placed span decl (Some (info.Value typed)) is whole place value = variable_placed decl.spot (not_static decl.spot typed is place) (no_operation decl.spot typed is)
  declared_placed span decl (Some (info.Operation type component is_local)) is whole place value = absurd (false≢true place)
  declared_placed span decl (Some _) is whole place value = absurd (false≢true value)

  meaning_placed : (span : Span) (meaning : Option Meaning) → ErrorFree (meaning_typing known.infos span meaning).found → Placed (meaning_typing known.infos span meaning).typed_expr (meaning_core scene meaning)
  meaning_placed span None whole place value = absurd whole
  meaning_placed span (Some (MeansPredefined predefined.Eof)) whole place value = absurd (false≢true place)
  meaning_placed span (Some (MeansPredefined _)) whole place value = absurd (false≢true value)
  meaning_placed span (Some (Declared decl)) whole place value = declared_placed span decl (info_at known.infos decl.spot) refl whole place value

  name_placed : (span used : Span) → ErrorFree (name_typing known span used).found → Placed (name_typing known span used).typed_expr (name_core scene used)
  name_placed span used =
      subst (λ uses. ErrorFree (meaning_typing known.infos span (meaning_at uses (spot_of used))).found → Placed (meaning_typing known.infos span (meaning_at uses (spot_of used))).typed_expr (name_core scene used)) (sym at.grows.uses)
      (meaning_placed span (meaning_at scene.facts.uses (spot_of used)))

  -- ---- fields

  layer_placed : (owner : Typed) (whole : Lowered) (name : List ℕ) (layer : Ty-F Ty) → IsTrue (layer_typed layer) → IsTrue (is_met (layer_field known owner name layer)) → IsTrue (settled_typed (layer_field known owner name layer)).is_place
      → (IsTrue owner.is_place → IsPlace whole) → IsPlace (layer_member scene whole name layer)
  layer_placed owner whole name (Ty-F.Rec spot) typed met place placed = part_placed whole _ (placed (owner_place owner (field_named (record_fields known.infos spot) name) met place))
  layer_placed owner whole name (Ty-F.Resource spot) typed met place placed = absurd (capability_loose (spec_operation known spot name) met place)
  layer_placed owner whole name Ty-F.Untyped typed met place placed = absurd (false≢true typed)
  layer_placed owner whole name _ typed met place placed = absurd (false≢true met)

  field_placed : (span : Span) (owner : TypedExpr) (told : LoweredTree) (field : Name) (what : Named) → ExprPasses typed_test owner → owner.typed.ty ≡ type_of scene.facts told.0 → Placed owner told.1
      → ErrorFree (field_typing known span owner field what).found → Placed (field_typing known span owner field what).typed_expr (field_core scene told field what)
  field_placed span owner told field (named.Component decl) typed same placed whole place value = name_placed span field.span whole place value
  field_placed span owner told field _ typed same placed whole place value =
      let first = error_free_first (value_found owner) _ whole in
      let met = rule_met (is_met (field_outcome known owner.typed field.text)) BadType span (error_free_second (value_found owner) _ whole) in
      subst (λ type. IsPlace (layer_member scene told.1 field.text (out-Ty type))) same
      (layer_placed owner.typed told.1 field.text (out-Ty owner.typed.ty) (valued_passes typed_test owner typed first) met place (λ is. placed is (rule_met (is_value_name owner.named) BadType owner.span first)))

  -- ---- each tree, when its parts are so

  abbrev Unplaced : Typing → Type 0
  Unplaced typing = ErrorFree typing.found → IsTrue typing.typed_expr.typed.is_place → ⊥

  abbrev TypingPlaced : Typing → Lowered → Type 0
  TypingPlaced typing made = ErrorFree typing.found → Placed typing.typed_expr made

  abbrev TreeGood : Tree → Type 0
  TreeGood tree = TypingPlaced (infer_expr tree known) (core_expr scene tree)

  abbrev good : Claim
  good = record { create = λ tree. Unplaced (infer_create tree known); expr = TreeGood; invocation = λ tree. Unit {0}; part = λ tree. Unit {0} }

  create_good : (y : CreateNode good) → Unplaced (from_create inferring (bare_create good y) known)
  create_good (Create-F.Resource span resource arguments None) whole place =
      let all = infer_all (map infer_expr (map (λ (x : Known TreeGood). x.0) arguments)) known in
      creation_unplaced known span (resource_named known resource) (typed_exprs_of all) None (error_free_second (all_found all ++ []) _ whole) place
  create_good (Create-F.Resource span resource arguments (Some machine)) whole place =
      let all = infer_all (map infer_expr (map (λ (x : Known TreeGood). x.0) arguments)) known in
      let on = infer_expr machine.0 known in
      creation_unplaced known span (resource_named known resource) (typed_exprs_of all) (Some on.typed_expr) (error_free_second (all_found all ++ on.found) _ whole) place
  create_good (Create-F.Machine span) whole place = false≢true place

  expr_good : (y : ExprNode good) → TypingPlaced (from_expr inferring (bare_expr good y) known) (from_expr (lowering scene) (bare_expr good y)).1
  expr_good (Expr-F.Literal span literal) whole place value = absurd (false≢true (sym (no_literal literal) ∙ place))
  expr_good (Expr-F.Name name) whole place value = name_placed name.span name.span whole place value
  expr_good (Expr-F.BasicType span basic) whole place value = absurd (false≢true value)
  expr_good (Expr-F.Conversion span conversion inner) whole place value =
      let here = infer_expr inner.0 known in
      absurd (unplaced span (value_found here.typed_expr) (conversion_outcome conversion here.typed_expr.typed) (λ found. conversion_passes typed_test conversion here.typed_expr.typed) (error_free_second here.found _ whole) place)
  expr_good (Expr-F.Group span inner) whole place value = absurd (false≢true place)
  expr_good (Expr-F.Parts span parts) whole place value =
      let all = infer_parts (map infer_part (map (λ (x : Known (λ (part : PartTree). Unit {0})). x.0) parts)) known in
      absurd (unplaced span (parts_found all) (bracketed_rule (map repeated all)) (λ found. bracketed_passes typed_test (map repeated all) (parts_pass typed_test known at.typed (map (λ (x : Known (λ (part : PartTree). Unit {0})). x.0) parts) found)) whole place)
  expr_good (Expr-F.Field span owner field) whole place value =
      let here = (infer_expr owner.0 known).typed_expr in
      let end = (infer_expr owner.0 scene.facts).typed_expr in
      let found = error_free_first (infer_expr owner.0 known).found _ whole in
      let same = expr_stays known scene.facts at.grows owner.0 found in
      subst (λ (one : LoweredTree). Placed (from_expr inferring (Expr-F.Field span owner.0 field) known).typed_expr (field_core scene one field (typed_expr scene.facts one.0).named)) (sym (told_is scene owner.0))
      (subst (λ (what : Named). ErrorFree (field_typing known span here field what).found → Placed (field_typing known span here field what).typed_expr (field_core scene (owner.0, core_expr scene owner.0) field end.named))
      (sym (ap (λ (one : TypedExpr). one.named) same))
      (field_placed span here (owner.0, core_expr scene owner.0) field end.named (expr_passes typed_test known at.typed owner.0 found) (ap (λ (one : TypedExpr). one.typed.ty) same) (owner.1 found))
      (error_free_second (infer_expr owner.0 known).found _ whole)) place value
  expr_good (Expr-F.Index span array first None) whole place value =
      let here = infer_expr array.0 known in
      let index = infer_expr first.0 known in
      let found = here.found ++ (index.found ++ []) in
      index_placed span here.typed_expr index.typed_expr None (core_expr scene array.0) (step.At (core_value scene first.0)) (array.1 (error_free_first here.found _ (error_free_first found _ whole))) (error_free_second found _ whole) place value
  expr_good (Expr-F.Index span array first (Some second)) whole place value =
      let here = infer_expr array.0 known in
      let index = infer_expr first.0 known in
      let more = infer_expr second.0 known in
      let found = here.found ++ (index.found ++ more.found) in
      index_placed span here.typed_expr index.typed_expr (Some more.typed_expr) (core_expr scene array.0) (step.At2 (core_value scene first.0) (core_value scene second.0))
      (array.1 (error_free_first here.found _ (error_free_first found _ whole))) (error_free_second found _ whole) place value
  expr_good (Expr-F.Call invocation) whole place value =
      let here = infer_invocation invocation.0 known in
      let parts = invocation_passes typed_test known at.typed invocation.0 (error_free_first (called_found here) _ whole) in
      absurd (called_unplaced known here.span here.callee.typed_expr (typed_exprs_of here.arguments) here.callee.typed_expr.named parts.0.1 parts.1 (error_free_second (called_found here) _ whole) place)
  expr_good (Expr-F.Create create) whole place value = absurd (create.1 whole place)
  expr_good (Expr-F.Unary span operator operand) whole place value =
      let here = infer_expr operand.0 known in
      absurd (unplaced span (value_found here.typed_expr) (unary_rule (prefix_of operator) here.typed_expr.typed) (λ found. unary_passes typed_test (prefix_of operator) here.typed_expr.typed) (error_free_second here.found _ whole) place)
  expr_good (Expr-F.Pending span operation) whole place value =
      let component = operation_component (decl_info known.infos (decl_of (meaning_at known.uses (spot_of operation.span)))) in
      absurd (unplaced span (pending_found known.here span component) (pending_outcome component) (λ found. counted_passes typed_test component) whole place)
  expr_good (Expr-F.Binary span left operator right) whole place value =
      let a = infer_expr left.0 known in
      let b = infer_expr right.0 known in
      absurd (unplaced span (value_found a.typed_expr ++ value_found b.typed_expr) (binary_rule (operator_of operator) a.typed_expr.typed b.typed_expr.typed)
      (λ found. binary_passes typed_test (operator_of operator) a.typed_expr.typed b.typed_expr.typed) (error_free_second (a.found ++ b.found) _ whole) place)

  -- ---- all trees

  by_parts : ByParts good
  by_parts = record {
    create = λ y. subst (λ t. t) (λ i. Unplaced (create_folds inferring (bare_create good y) i known)) (create_good y);
    expr = λ y. subst (λ t. t) (λ i. TypingPlaced (expr_folds inferring (bare_expr good y) i known) (expr_folds (lowering scene) (bare_expr good y) i).1) (expr_good y);
    invocation = λ y. tt;
    part = λ y. tt;
  }

  -- what is a place where it stands is one in the core
  pub tree_placed : (tree : Tree) → ErrorFree (infer_expr tree known).found → Placed (infer_expr tree known).typed_expr (core_expr scene tree)
  tree_placed = each_expr good by_parts
