-- What an expression is, and what is found in it, is the same by all facts that tell the same of the names in it: the walk over expressions.
use Rattle.std.proofs.Common.{◌≡◌, inl, Bool, true, false, List, [], ◌∷◌, ◌++◌, map, Option, Some, None, refl, ap, subst, ◌∙◌}
use Rattle.std.specs.Prelude.{ℕ}
use Rattle.sr_check_decl.specs.NamesIn.{concat_spans, names_in, names_in_create, names_in_invocation, names_in_part}
use Rattle.sr_check_expr.specs.declared.facts.Facts.{Facts}
use Rattle.sr_check_expr.specs.declared.facts.Here.{Here}
use Rattle.sr_check_expr.specs.declared.info.FieldInfo.{FieldInfo}
use Rattle.sr_check_expr.specs.declared.typed_expr.Named.{Named}
use Rattle.sr_check_expr.specs.declared.typed_expr.Named.TheVariants as named
use Rattle.sr_check_expr.specs.declared.typed_expr.TypedExpr.{TypedExpr}
use Rattle.sr_check_expr.specs.Arguments.{all_found, all_valued, as_many, fields_found, formals_found, forms_in, may_call, returned_in, returned_outcome, takes_by}
use Rattle.sr_check_expr.specs.Calls.{Called, call_typing, called_by, layer_made, layer_record, parts_found as called_found, record_if}
use Rattle.sr_check_expr.specs.Creating.{component_type, instance_type, instance_typing, machine_found, machine_of, machine_valued, made_found, made_of, resource_if, resource_named, resource_type}
use Rattle.sr_check_expr.specs.Exprs.{around, between, conversion_outcome, field_typing, grouped, indexed, infer_all, infer_create, infer_expr, infer_invocation, infer_part, infer_parts, operation_component, operator_of, parts_found, pending_counted, pending_typing, prefix_of, repeated, second_found, second_typed}
use Rattle.sr_check_expr.specs.Infos.{info_at, name_spot}
use Rattle.sr_check_expr.specs.Naming.{capability_part, deciding, decl_info, decl_of, declared_typing, field_named, field_part, layer_field, meaning_typing, name_typing, record_fields, spec_operation}
use Rattle.sr_check_expr.specs.PredefinedCalls.{by_none, by_one, function_found, function_outcome, function_typing, guard_found, high_outcome, info_shape, is_resource, layer_shape, low_outcome, one_outcome, only, places_found, unless_untyped}
use Rattle.sr_check_expr.specs.Typings.{Typing, broken_unless, settled, typed_exprs_of, value_at, value_found, with_found}
use Rattle.sr_names.specs.declared.finding.Rule.TheVariants.{BadUse}
use Rattle.sr_names.specs.declared.meaning.Decl.{Decl}
use Rattle.sr_names.specs.declared.meaning.Meaning.{Meaning}
use Rattle.sr_names.specs.declared.meaning.Meaning.TheVariants.{Declared, Predefined as MeansPredefined}
use Rattle.sr_names.specs.declared.predefined.Predefined.{Predefined}
use Rattle.sr_names.specs.declared.predefined.Predefined.TheVariants as predefined
use Rattle.sr_names.specs.Spots.{spot_of}
use Rattle.sr_names.specs.Uses.{meaning_at}
use Rattle.sr_scope.proofs.Findings.{in_left, in_right}
use Rattle.sr_scope.specs.Uses.{IsIn}
use Rattle.sr_tree.specs.declared.expr.Create.{Create}
use Rattle.sr_tree.specs.declared.expr.Create.TheOpen.{Create-F, Expr-F}
use Rattle.sr_tree.specs.declared.expr.Expr.{Expr as Tree}
use Rattle.sr_tree.specs.declared.expr.Invocation.{Invocation}
use Rattle.sr_tree.specs.declared.expr.Part.{Part as PartTree}
use Rattle.sr_tree.specs.declared.name.Name.{Name}
use Rattle.sr_tree.specs.declared.name.QualifiedName.{QualifiedName}
use Rattle.sr_value.specs.declared.shape.Shape.{Shape}
use Rattle.sr_types.specs.declared.signature.Signature.{Signature}
use Rattle.sr_types.specs.declared.spot.Spot as types
use Rattle.sr_types.specs.declared.ty.Ty.{Ty, out-Ty}
use Rattle.sr_types.specs.declared.ty.Ty.TheOpen.{Ty-F}
use Rattle.sr_types.specs.declared.ty.Ty.TheVariants as ty
use Rattle.sr_types.specs.declared.typed.Outcome.TheVariants.{Met}
use Rattle.sr_types.specs.declared.typed.Static.TheVariants.{Unknown}
use Rattle.sr_types.specs.declared.typed.Typed.{Typed}
use Rattle.sr_types.specs.Aggregates.{bracketed_rule}
use Rattle.sr_types.specs.Operators.{unary_rule}
use Rattle.sr_types.specs.Outcomes.{computed, met_if}
use Rattle.sr_types.specs.Predefined.{high_rule, low_rule}
use Rattle.sr_types.specs.Signatures.{signature_of}
use Rattle.sr_types.specs.Types.{is_no_type}
use Rattle.sr_value.specs.declared.place.Span.{Span}
use Rattle.sr_tree.proofs.ExprFolds.{ByParts, Claim, CreateNode, ExprNode, InvocationNode, Known, PartNode, bare_create, bare_expr, bare_invocation, bare_part, create_folds, each_expr, expr_folds, from_create, from_expr, from_invocation, from_part, invocation_folds, part_folds}
use Rattle.sr_front.proofs.Typed.TypingFolds.{inferring, needing}

-- facts that tell the same: `Numbered type`: the signature of the type has its number
pub record Alike (Numbered : Ty → Type 0) (now end : Facts) : Type 0 where
  pub uses : now.uses ≡ end.uses
  pub here : now.here ≡ end.here
  pub fields : (spot : types.Spot) → record_fields now.infos spot ≡ record_fields end.infos spot
  pub shapes : (spot : types.Spot) → info_shape (info_at now.infos (name_spot spot)) ≡ info_shape (info_at end.infos (name_spot spot))
  pub operations : (spot : types.Spot) (name : List ℕ) → spec_operation now spot name ≡ spec_operation end spot name
  pub components : (decl : Decl) → component_type (info_at now.infos decl.spot) ≡ component_type (info_at end.infos decl.spot)
  pub signatures : (type : Ty) → Numbered type → signature_of now.signatures type ≡ signature_of end.signatures type
  pub numbered : (tree : Tree) → Numbered (infer_expr tree now).typed_expr.typed.ty
  pub made : (resource : Option Decl) (type : Ty) → resource_type now.infos resource ≡ Some type → Numbered type

module _ (Numbered : Ty → Type 0) (now end : Facts) (alike : Alike Numbered now end) where
  -- the same is known of what a name means
  abbrev pub SameName : Span → Type 0
  SameName used = (decl : Decl) → meaning_at now.uses (spot_of used) ≡ Some (Declared decl) → info_at now.infos decl.spot ≡ info_at end.infos decl.spot

  abbrev pub SameNames : List Span → Type 0
  SameNames names = (used : Span) → IsIn used names → SameName used

  -- ---- names

  meaning_same : (span : Span) (meaning : Option Meaning) → ((decl : Decl) → meaning ≡ Some (Declared decl) → info_at now.infos decl.spot ≡ info_at end.infos decl.spot)
      → meaning_typing now.infos span meaning ≡ meaning_typing end.infos span meaning
  meaning_same span None same = refl
  meaning_same span (Some (MeansPredefined name)) same = refl
  meaning_same span (Some (Declared decl)) same = ap (declared_typing span decl) (same decl refl)

  name_same : (span used : Span) → SameName used → name_typing now span used ≡ name_typing end span used
  name_same span used same =
      meaning_same span (meaning_at now.uses (spot_of used)) same ∙ ap (λ uses. meaning_typing end.infos span (meaning_at uses (spot_of used))) alike.uses

  info_same : (meaning : Option Meaning) → ((decl : Decl) → meaning ≡ Some (Declared decl) → info_at now.infos decl.spot ≡ info_at end.infos decl.spot) → decl_info now.infos (decl_of meaning) ≡ decl_info end.infos (decl_of meaning)
  info_same None same = refl
  info_same (Some (MeansPredefined name)) same = refl
  info_same (Some (Declared decl)) same = same decl refl

  pending_same : (span used : Span) → SameName used → pending_typing now span used ≡ pending_typing end span used
  pending_same span used same =
      ap (λ found. pending_counted now.here span (operation_component found)) (info_same (meaning_at now.uses (spot_of used)) same)
      ∙ (ap (λ uses. pending_counted now.here span (operation_component (decl_info end.infos (decl_of (meaning_at uses (spot_of used)))))) alike.uses
      ∙ ap (λ here. pending_counted here span (operation_component (decl_info end.infos (decl_of (meaning_at end.uses (spot_of used)))))) alike.here)

  -- ---- parts

  layer_same : (owner : Typed) (name : List ℕ) (layer : Ty-F Ty) → layer_field now owner name layer ≡ layer_field end owner name layer
  layer_same owner name (Ty-F.Rec spot) = ap (λ fields. field_part owner (field_named fields name)) (alike.fields spot)
  layer_same owner name (Ty-F.Resource spot) = ap capability_part (alike.operations spot name)
  layer_same owner name Ty-F.Untyped = refl
  layer_same owner name _ = refl

  field_same : (span : Span) (owner : TypedExpr) (field : Name) (is : Named) → SameName field.span → field_typing now span owner field is ≡ field_typing end span owner field is
  field_same span owner field (named.Component decl) same = name_same span field.span same
  field_same span owner field _ same = ap (settled span (value_found owner)) (layer_same owner.typed field.text (out-Ty owner.typed.ty))

  -- ---- predefined functions

  shape_same : (layer : Ty-F Ty) → layer_shape now.infos layer ≡ layer_shape end.infos layer
  shape_same (Ty-F.Enum spot) = alike.shapes spot
  shape_same _ = refl

  low_same : (is : Named) → low_outcome now.infos is ≡ low_outcome end.infos is
  low_same (named.«Type» type) = ap (λ (shape : Shape). unless_untyped type (low_rule type shape)) (shape_same (out-Ty type))
  low_same _ = refl

  high_same : (is : Named) → high_outcome now.infos is ≡ high_outcome end.infos is
  high_same (named.«Type» type) = ap (λ (shape : Shape). unless_untyped type (high_rule type shape)) (shape_same (out-Ty type))
  high_same _ = refl

  one_same : (name : Predefined) (argument : TypedExpr) → one_outcome now.infos name argument ≡ one_outcome end.infos name argument
  one_same predefined.Low argument = low_same argument.named
  one_same predefined.High argument = high_same argument.named
  one_same _ argument = refl

  by_one_same : (name : Predefined) (argument : Option TypedExpr) → by_one now.infos name argument ≡ by_one end.infos name argument
  by_one_same name None = refl
  by_one_same name (Some argument) = one_same name argument

  outcome_same : (name : Predefined) (arguments : List TypedExpr) → function_outcome now name arguments ≡ function_outcome end name arguments
  outcome_same predefined.Read arguments = refl
  outcome_same predefined.Min arguments = refl
  outcome_same predefined.Max arguments = refl
  outcome_same predefined.Lb arguments = refl
  outcome_same predefined.Ub arguments = refl
  outcome_same predefined.MyResource arguments = ap (λ (here : Here). by_none here.component predefined.MyResource arguments) alike.here
  outcome_same predefined.MyVm arguments = ap (λ (here : Here). by_none here.component predefined.MyVm arguments) alike.here
  outcome_same name arguments = by_one_same name (only arguments)

  found_same : (span : Span) (name : Predefined) (arguments : List TypedExpr) → function_found now span name arguments ≡ function_found end span name arguments
  found_same span predefined.Read arguments = ap (λ (here : Here). all_valued arguments ++ (places_found arguments ++ guard_found here span)) alike.here
  found_same span predefined.MyResource arguments = ap (λ (here : Here). all_valued arguments ++ broken_unless (is_resource here.component.sort) BadUse span) alike.here
  found_same span _ arguments = refl

  function_same : (span : Span) (name : Predefined) (arguments : List TypedExpr) → function_typing now span name arguments ≡ function_typing end span name arguments
  function_same span name arguments =
      ap (λ found. settled span found (function_outcome now name arguments)) (found_same span name arguments) ∙ ap (settled span (function_found end span name arguments)) (outcome_same name arguments)

  -- ---- records and operations

  made_layer : (span : Span) (arguments : List TypedExpr) (layer : Ty-F Ty)
      → settled span (all_valued arguments ++ layer_made now arguments layer) (layer_record now arguments layer) ≡ settled span (all_valued arguments ++ layer_made end arguments layer) (layer_record end arguments layer)
  made_layer span arguments (Ty-F.Rec spot) =
      ap (λ (fields : List FieldInfo). settled span (all_valued arguments ++ fields_found fields arguments) (record_if (as_many fields arguments) (ty.Rec spot))) (alike.fields spot)
  made_layer span arguments Ty-F.Untyped = refl
  made_layer span arguments _ = refl

  abbrev invoked_by : Span → TypedExpr → List TypedExpr → Option Signature → Here → Typing
  invoked_by span callee arguments signature here =
      settled span
      ((value_found callee ++ (all_valued arguments ++ (formals_found signature arguments ++ guard_found here span))) ++ broken_unless (may_call (forms_in signature)) BadUse span)
      (returned_outcome (takes_by signature (is_no_type callee.typed.ty) arguments) (returned_in signature (is_no_type callee.typed.ty)))

  invoked_same : (span : Span) (callee : TypedExpr) (arguments : List TypedExpr) → Numbered callee.typed.ty
      → invoked_by span callee arguments (signature_of now.signatures callee.typed.ty) now.here ≡ invoked_by span callee arguments (signature_of end.signatures callee.typed.ty) end.here
  invoked_same span callee arguments numbered =
      ap (λ signature. invoked_by span callee arguments signature now.here) (alike.signatures callee.typed.ty numbered) ∙ ap (invoked_by span callee arguments (signature_of end.signatures callee.typed.ty)) alike.here

  called_same : (span : Span) (callee : TypedExpr) (arguments : List TypedExpr) (is : Named) → Numbered callee.typed.ty → called_by now span callee arguments is ≡ called_by end span callee arguments is
  called_same span callee arguments (named.Predefined name) numbered = function_same span name arguments
  called_same span callee arguments (named.«Type» type) numbered = made_layer span arguments (out-Ty type)
  called_same span callee arguments _ numbered = invoked_same span callee arguments numbered

  call_same : (called : Called) → Numbered called.callee.typed_expr.typed.ty → call_typing now called ≡ call_typing end called
  call_same called numbered =
      ap (with_found (called_found called)) (called_same called.span called.callee.typed_expr (typed_exprs_of called.arguments) called.callee.typed_expr.named numbered)

  -- ---- creations

  resource_same : (resource : Option Decl) → resource_type now.infos resource ≡ resource_type end.infos resource
  resource_same None = refl
  resource_same (Some decl) = by (is_resource decl.sort)
    where
      by : (b : Bool) → resource_if b (info_at now.infos decl.spot) ≡ resource_if b (info_at end.infos decl.spot)
      by true = alike.components decl
      by false = refl

  abbrev instance_by : Facts → Span → Option Decl → List TypedExpr → Option TypedExpr → Option Ty → Typing
  instance_by facts span resource arguments machine formals = settled span (made_found facts span formals arguments machine) (made_of facts arguments (instance_type resource) formals)

  abbrev instance_with : Span → Option Decl → List TypedExpr → Option TypedExpr → Ty → Option Signature → Here → Typing
  instance_with span resource arguments machine formals signature here =
      settled span (all_valued arguments ++ (machine_valued machine ++ (formals_found signature arguments ++ guard_found here span)))
      (met_if (takes_by signature (is_no_type formals) arguments) (computed (instance_type resource) Unknown))

  formals_same : (span : Span) (resource : Option Decl) (arguments : List TypedExpr) (machine : Option TypedExpr) (formals : Option Ty) → ((type : Ty) → formals ≡ Some type → Numbered type)
      → instance_by now span resource arguments machine formals ≡ instance_by end span resource arguments machine formals
  formals_same span resource arguments machine None numbered =
      ap (λ (here : Here). settled span (all_valued arguments ++ (machine_valued machine ++ ([] ++ guard_found here span))) (made_of now arguments (instance_type resource) None)) alike.here
  formals_same span resource arguments machine (Some formals) numbered =
      ap (λ signature. instance_with span resource arguments machine formals signature now.here) (alike.signatures formals (numbered formals refl))
      ∙ ap (instance_with span resource arguments machine formals (signature_of end.signatures formals)) alike.here

  instance_same : (span : Span) (resource : Option Decl) (arguments : List TypedExpr) (machine : Option TypedExpr) → instance_typing now span resource arguments machine ≡ instance_typing end span resource arguments machine
  instance_same span resource arguments machine =
      formals_same span resource arguments machine (resource_type now.infos resource) (alike.made resource) ∙ ap (instance_by end span resource arguments machine) (resource_same resource)

  -- ---- each tree, when its parts are so

  abbrev CreateGood : Create → Type 0
  CreateGood tree = SameNames (names_in_create tree) → infer_create tree now ≡ infer_create tree end

  abbrev TreeGood : Tree → Type 0
  TreeGood tree = SameNames (names_in tree) → infer_expr tree now ≡ infer_expr tree end

  abbrev InvocationGood : Invocation → Type 0
  InvocationGood tree = SameNames (names_in_invocation tree) → (infer_invocation tree now ≡ infer_invocation tree end) × Numbered (infer_invocation tree now).callee.typed_expr.typed.ty

  abbrev PartGood : PartTree → Type 0
  PartGood tree = SameNames (names_in_part tree) → infer_part tree now ≡ infer_part tree end

  abbrev good : Claim
  good = record { create = CreateGood; expr = TreeGood; invocation = InvocationGood; part = PartGood }

  abbrev trees_of : List (Known TreeGood) → List Tree
  trees_of xs = map (λ (x : Known TreeGood). x.0) xs

  abbrev parts_of : List (Known PartGood) → List PartTree
  parts_of xs = map (λ (x : Known PartGood). x.0) xs

  abbrev typings : List (Known TreeGood) → Facts → List Typing
  typings xs facts = infer_all (map infer_expr (trees_of xs)) facts

  abbrev part_typings : List (Known PartGood) → Facts → List (Option Typing × Typing)
  part_typings xs facts = infer_parts (map infer_part (parts_of xs)) facts

  names_left : (xs ys : List Span) → SameNames (xs ++ ys) → SameNames xs
  names_left xs ys same used k = same used (in_left used xs ys k)

  names_right : (xs ys : List Span) → SameNames (xs ++ ys) → SameNames ys
  names_right xs ys same used k = same used (in_right used xs ys k)

  all_same : (xs : List (Known TreeGood)) → SameNames (concat_spans (map names_in (trees_of xs))) → typings xs now ≡ typings xs end
  all_same [] same = refl
  all_same (x ∷ xs) same =
      let one = x.1 (names_left (names_in x.0) (concat_spans (map names_in (trees_of xs))) same) in
      let more = all_same xs (names_right (names_in x.0) (concat_spans (map names_in (trees_of xs))) same) in
      ap (λ (e : Typing). e ∷ typings xs now) one ∙ ap (λ (es : List Typing). infer_expr x.0 end ∷ es) more

  parts_same : (xs : List (Known PartGood)) → SameNames (concat_spans (map names_in_part (parts_of xs))) → part_typings xs now ≡ part_typings xs end
  parts_same [] same = refl
  parts_same (x ∷ xs) same =
      let one = x.1 (names_left (names_in_part x.0) (concat_spans (map names_in_part (parts_of xs))) same) in
      let more = parts_same xs (names_right (names_in_part x.0) (concat_spans (map names_in_part (parts_of xs))) same) in
      ap (λ (e : Option Typing × Typing). e ∷ part_typings xs now) one ∙ ap (λ (es : List (Option Typing × Typing)). infer_part x.0 end ∷ es) more

  create_by : (span : Span) (resource : QualifiedName) (here there : List Typing) (machine other : Option Typing) → here ≡ there → machine ≡ other
      → with_found (all_found here ++ machine_found machine) (instance_typing now span (resource_named now resource) (typed_exprs_of here) (machine_of machine))
      ≡ with_found (all_found there ++ machine_found other) (instance_typing end span (resource_named end resource) (typed_exprs_of there) (machine_of other))
  create_by span resource here there machine other same on =
      ap (with_found (all_found here ++ machine_found machine)) (instance_same span (resource_named now resource) (typed_exprs_of here) (machine_of machine))
      ∙ (ap (λ uses. with_found (all_found here ++ machine_found machine) (instance_typing end span (decl_of (meaning_at uses (spot_of (deciding resource).span))) (typed_exprs_of here) (machine_of machine))) alike.uses
      ∙ (ap (λ (arguments : List Typing). with_found (all_found arguments ++ machine_found machine) (instance_typing end span (resource_named end resource) (typed_exprs_of arguments) (machine_of machine))) same
      ∙ ap (λ (one : Option Typing). with_found (all_found there ++ machine_found one) (instance_typing end span (resource_named end resource) (typed_exprs_of there) (machine_of one))) on))

  create_good : (y : CreateNode good) → SameNames (from_create needing (bare_create good y)) → from_create inferring (bare_create good y) now ≡ from_create inferring (bare_create good y) end
  create_good (Create-F.Resource span resource arguments None) same =
      create_by span resource (typings arguments now) (typings arguments end) None None (all_same arguments (names_left (concat_spans (map names_in (trees_of arguments))) [] same)) refl
  create_good (Create-F.Resource span resource arguments (Some machine)) same =
      let names = concat_spans (map names_in (trees_of arguments)) in
      create_by span resource (typings arguments now) (typings arguments end) (Some (infer_expr machine.0 now)) (Some (infer_expr machine.0 end))
      (all_same arguments (names_left names (names_in machine.0) same)) (ap Some (machine.1 (names_right names (names_in machine.0) same)))
  create_good (Create-F.Machine span) same = ap (λ (here : Here). record { found = guard_found here span; typed_expr = value_at span (computed ty.Vm Unknown) }) alike.here

  abbrev called_of : Span → Typing → List Typing → Called
  called_of span callee arguments = record { span = span; callee = callee; arguments = arguments }

  invocation_good : (y : InvocationNode good) → SameNames (from_invocation needing (bare_invocation good y))
      → (from_invocation inferring (bare_invocation good y) now ≡ from_invocation inferring (bare_invocation good y) end) × Numbered (from_invocation inferring (bare_invocation good y) now).callee.typed_expr.typed.ty
  invocation_good y same =
      let names = concat_spans (map names_in (trees_of y.arguments)) in (
        ap (λ (callee : Typing). called_of y.span callee (typings y.arguments now)) (y.callee.1 (names_left (names_in y.callee.0) names same))
            ∙ ap (called_of y.span (infer_expr y.callee.0 end)) (all_same y.arguments (names_right (names_in y.callee.0) names same)),
        alike.numbered y.callee.0,
      )

  part_by : (y : PartNode good) (count : Option (Known TreeGood)) → SameNames (from_part needing (bare_part good (record y { count = count })))
      → from_part inferring (bare_part good (record y { count = count })) now ≡ from_part inferring (bare_part good (record y { count = count })) end
  part_by y None same = ap (λ (value : Typing). (None, value)) (y.value.1 same)
  part_by y (Some count) same =
      ap (λ (one : Typing). (Some one, infer_expr y.value.0 now)) (count.1 (names_left (names_in count.0) (names_in y.value.0) same))
      ∙ ap (λ (value : Typing). (Some (infer_expr count.0 end), value)) (y.value.1 (names_right (names_in count.0) (names_in y.value.0) same))

  part_good : (y : PartNode good) → SameNames (from_part needing (bare_part good y)) → from_part inferring (bare_part good y) now ≡ from_part inferring (bare_part good y) end
  part_good y = part_by y y.count

  abbrev field_of : Facts → Span → Name → Typing → Typing
  field_of facts span field owner = with_found owner.found (field_typing facts span owner.typed_expr field owner.typed_expr.named)

  abbrev index_of : Span → Typing → Typing → Option Typing → Typing
  index_of span array first second = with_found (array.found ++ (first.found ++ second_found second)) (indexed span array.typed_expr first.typed_expr (second_typed second))

  index_same : (span : Span) (a b c d : Typing) (e f : Option Typing) → a ≡ b → c ≡ d → e ≡ f → index_of span a c e ≡ index_of span b d f
  index_same span a b c d e f first second third = ap (λ (it : Typing). index_of span it c e) first ∙ (ap (λ (it : Typing). index_of span b it e) second ∙ ap (index_of span b d) third)

  expr_good : (y : ExprNode good) → SameNames (from_expr needing (bare_expr good y)) → from_expr inferring (bare_expr good y) now ≡ from_expr inferring (bare_expr good y) end
  expr_good (Expr-F.Literal span literal) same = refl
  expr_good (Expr-F.Name name) same = name_same name.span name.span (same name.span (inl refl))
  expr_good (Expr-F.BasicType span basic) same = refl
  expr_good (Expr-F.Conversion span conversion value) same =
      ap (λ (one : Typing). with_found one.found (around span one.typed_expr (conversion_outcome conversion one.typed_expr.typed))) (value.1 same)
  expr_good (Expr-F.Group span inner) same = ap (λ (one : Typing). with_found one.found (around span one.typed_expr (Met (grouped one.typed_expr.typed)))) (inner.1 same)
  expr_good (Expr-F.Parts span parts) same =
      ap (λ (all : List (Option Typing × Typing)). settled span (parts_found all) (bracketed_rule (map repeated all))) (parts_same parts same)
  expr_good (Expr-F.Field span owner field) same =
      let here = infer_expr owner.0 now in
      ap (with_found here.found) (field_same span here.typed_expr field here.typed_expr.named (same field.span (in_right field.span (names_in owner.0) (field.span ∷ []) (inl refl))))
      ∙ ap (field_of end span field) (owner.1 (names_left (names_in owner.0) (field.span ∷ []) same))
  expr_good (Expr-F.Index span array first None) same =
      let after = names_right (names_in array.0) (names_in first.0 ++ []) same in
      index_same span (infer_expr array.0 now) (infer_expr array.0 end) (infer_expr first.0 now) (infer_expr first.0 end) None None
      (array.1 (names_left (names_in array.0) (names_in first.0 ++ []) same)) (first.1 (names_left (names_in first.0) [] after)) refl
  expr_good (Expr-F.Index span array first (Some second)) same =
      let after = names_right (names_in array.0) (names_in first.0 ++ names_in second.0) same in
      index_same span (infer_expr array.0 now) (infer_expr array.0 end) (infer_expr first.0 now) (infer_expr first.0 end) (Some (infer_expr second.0 now)) (Some (infer_expr second.0 end))
      (array.1 (names_left (names_in array.0) (names_in first.0 ++ names_in second.0) same)) (first.1 (names_left (names_in first.0) (names_in second.0) after))
      (ap Some (second.1 (names_right (names_in first.0) (names_in second.0) after)))
  expr_good (Expr-F.Call invocation) same =
      let parts = invocation.1 same in
      call_same (infer_invocation invocation.0 now) parts.1 ∙ ap (call_typing end) parts.0
  expr_good (Expr-F.Create create) same = create.1 same
  expr_good (Expr-F.Unary span operator operand) same =
      ap (λ (one : Typing). with_found one.found (around span one.typed_expr (unary_rule (prefix_of operator) one.typed_expr.typed))) (operand.1 same)
  expr_good (Expr-F.Pending span operation) same = pending_same span operation.span (same operation.span (inl refl))
  expr_good (Expr-F.Binary span left operator right) same =
      ap (λ (one : Typing). with_found (one.found ++ (infer_expr right.0 now).found) (between span (operator_of operator) one.typed_expr (infer_expr right.0 now).typed_expr)) (left.1 (names_left (names_in left.0) (names_in right.0) same))
      ∙ ap (λ (one : Typing). with_found ((infer_expr left.0 end).found ++ one.found) (between span (operator_of operator) (infer_expr left.0 end).typed_expr one.typed_expr)) (right.1 (names_right (names_in left.0) (names_in right.0) same))

  -- ---- all trees

  by_parts : ByParts good
  by_parts = record {
    create = λ y. subst (λ t. t) (λ i. SameNames (create_folds needing (bare_create good y) i) → create_folds inferring (bare_create good y) i now ≡ create_folds inferring (bare_create good y) i end) (create_good y);
    expr = λ y. subst (λ t. t) (λ i. SameNames (expr_folds needing (bare_expr good y) i) → expr_folds inferring (bare_expr good y) i now ≡ expr_folds inferring (bare_expr good y) i end) (expr_good y);
    invocation = λ y. subst (λ t. t) (λ i. SameNames (invocation_folds needing (bare_invocation good y) i) → (invocation_folds inferring (bare_invocation good y) i now ≡ invocation_folds inferring (bare_invocation good y) i end) × Numbered (invocation_folds inferring (bare_invocation good y) i now).callee.typed_expr.typed.ty) (invocation_good y);
    part = λ y. subst (λ t. t) (λ i. SameNames (part_folds needing (bare_part good y) i) → part_folds inferring (bare_part good y) i now ≡ part_folds inferring (bare_part good y) i end) (part_good y);
  }

  -- an expression is the same by both
  pub expr_same : (tree : Tree) → SameNames (names_in tree) → infer_expr tree now ≡ infer_expr tree end
  expr_same = each_expr good by_parts
