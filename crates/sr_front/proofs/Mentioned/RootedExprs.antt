-- Where no rule is broken in an expression, what it mentions in the core passes a test that each variable passes which a name in it means:
-- a place stands wherever one is written.
use Rattle.std.proofs.Common.{◌≡◌, ℕ, negsuc, Bool, true, false, List, [], ◌∷◌, ◌++◌, Option, Some, None, IsTrue, map, refl, sym, ap, subst, ◌∙◌}
use Rattle.std.proofs.lemmas.Bool.{and_from, false≢true}
use Rattle.std.specs.List.{list_all}
use Rattle.std.specs.Option.{option_map}
use Rattle.sr_check.specs.ErrorFree.{ErrorFree}
use Rattle.sr_check.proofs.Each.{Each, each-left, each-right}
use Rattle.sr_check.proofs.ErrorFree.{error_free_first, error_free_second, rule_met}
use Rattle.sr_check_expr.specs.declared.facts.Facts.{Facts}
use Rattle.sr_check_expr.specs.declared.info.Info.{Info}
use Rattle.sr_check_expr.specs.declared.info.Info.TheVariants as info
use Rattle.sr_check_expr.specs.declared.typed_expr.Named.{Named}
use Rattle.sr_check_expr.specs.declared.typed_expr.Named.TheVariants as named
use Rattle.sr_check_expr.specs.declared.typed_expr.TypedExpr.{TypedExpr}
use Rattle.sr_check_expr.specs.Arguments.{all_found, all_valued, formals_found, invoked_found, invoked_outcome, returned_by, returned_outcome, takes_as_many, takes_by, arguments_found, is_callable}
use Rattle.sr_check_expr.specs.Calls.{call_typing, called_by, invocation_found, made_found, parts_found as called_found}
use Rattle.sr_check_expr.specs.Creating.{instance_typing, machine_found, machine_valued, made_found as creation_found, resource_named, resource_type}
use Rattle.sr_check_expr.specs.Exprs.{Inferrer, PartInferrer, field_typing, infer_create, infer_expr, infer_invocation, infer_part, part_found, parts_found, prefix_of}
use Rattle.sr_check_expr.specs.Infos.{info_at}
use Rattle.sr_check_expr.specs.LiteralTypes.{literal_typed}
use Rattle.sr_check_expr.specs.Meanings.{constant_at, known as known_value, meant_by, params_in, params_of, type_of, typed_expr}
use Rattle.sr_check_expr.specs.Naming.{declared_typing, meaning_typing, name_typing}
use Rattle.sr_check_expr.specs.PredefinedCalls.{function_found}
use Rattle.sr_check_expr.specs.Typings.{Typing, broken_unless, is_met, is_value_name, typed_exprs_of, value_found}
use Rattle.sr_core.specs.declared.component.Operation.{Operation}
use Rattle.sr_core.specs.declared.expression.Expr.{Expr}
use Rattle.sr_core.specs.declared.expression.Expr.TheVariants as core
use Rattle.sr_core.specs.declared.expression.Function.TheVariants as function
use Rattle.sr_core.specs.declared.expression.Leaf.TheVariants as leaf
use Rattle.sr_core.specs.declared.expression.Part.{Part}
use Rattle.sr_core.specs.declared.expression.Step.TheVariants as step
use Rattle.sr_names.specs.declared.finding.Rule.TheVariants.{BadType, BadUse}
use Rattle.sr_names.specs.declared.meaning.Decl.{Decl}
use Rattle.sr_names.specs.declared.meaning.Meaning.{Meaning}
use Rattle.sr_names.specs.declared.meaning.Meaning.TheVariants.{Predefined as MeansPredefined, Declared}
use Rattle.sr_names.specs.declared.predefined.Predefined.TheVariants.{Eof}
use Rattle.sr_names.specs.declared.spot.Spot.{Spot}
use Rattle.sr_names.specs.Spots.{spot_of}
use Rattle.sr_names.specs.Uses.{meaning_at}
use Rattle.sr_order.specs.Names.{create_names, expr_names, invocation_names, part_names, qualified_names}
use Rattle.sr_order.specs.Spans.{joined}
use Rattle.sr_tables.specs.declared.sites.Mention.{Mention}
use Rattle.sr_tables.specs.declared.sites.Mention.TheVariants as mention
use Rattle.sr_tables.specs.Parts.{deciding}
use Rattle.sr_tree.specs.declared.expr.Create.{Create}
use Rattle.sr_tree.specs.declared.expr.Create.TheOpen.{Create-F, Expr-F}
use Rattle.sr_tree.specs.declared.expr.Expr.{Expr as Tree}
use Rattle.sr_tree.specs.declared.expr.Invocation.{Invocation}
use Rattle.sr_tree.specs.declared.expr.Part.{Part as PartTree}
use Rattle.sr_tree.specs.declared.name.Name.{Name}
use Rattle.sr_tree.specs.declared.name.QualifiedName.{QualifiedName}
use Rattle.sr_types.specs.declared.signature.Signature.{Signature}
use Rattle.sr_types.specs.declared.ty.Ty.{Ty, out-Ty}
use Rattle.sr_types.specs.declared.ty.Ty.TheOpen.{Ty-F}
use Rattle.sr_types.specs.Signatures.{layer_signature, signature_at}
use Rattle.sr_types.specs.Types.{layer_is_untyped}
use Rattle.sr_value.specs.declared.place.Span.{Span}
use Rattle.sr_value.specs.declared.value.Value.{Value}
use Rattle.sr_value.specs.declared.value.Value.TheVariants.{Int as int_value}
use Rattle.sr_lower_expr.specs.declared.scene.Lowered.{Lowered}
use Rattle.sr_lower_expr.specs.declared.scene.Scene.{Scene}
use Rattle.sr_lower_expr.specs.Expressions.{LoweredTree, LoweredInvocation, call_core, call_of, call_returns, core_expr, core_value, lowered_of, field_core, field_number, instance_core, layer_member, meaning_core, name_core, named_core, sent_arguments, spec_operation, told, trees_of, values}
use Rattle.sr_lower_expr.specs.Operators.{conversion_function}
use Rattle.sr_lower_expr.specs.Places.{operation_at, operation_expr, operation_number, root_of, value_of, whose_by}
use Rattle.sr_lower_expr.proofs.Trees.{of_create, of_invocation, of_part, told_is}
use Rattle.sr_tree.proofs.ExprFolds.{ByParts, Claim, CreateNode, ExprNode, InvocationNode, Known, PartNode, bare_create, bare_expr, bare_invocation, bare_part, create_folds, each_create, each_expr, expr_folds, from_create, from_expr, from_invocation, from_part, invocation_folds, part_folds}
use Rattle.sr_order.proofs.NameFolds.{expr_naming}
use Rattle.sr_lower_expr.proofs.LowerFold.{lowering}
use Rattle.sr_front.proofs.Typed.TypingFolds.{inferring}
use Rattle.sr_front.proofs.Known.ExprsStay.{expr_stays}
use Rattle.sr_front.proofs.Mentioned.MentionRules.{apply_rule, argument_passes, array_rule, at2_rule, at_rule, call_rule, expr_passes, field_rule, leaf_rule, member_rule, one_rule, part_passes, repeated_rule, unary_rule}
use Rattle.sr_front.proofs.Constants.Placeless.{placeless_info}
use Rattle.sr_front.proofs.Mentioned.RootedParts.{AllFine, Fine, Had, Others, all_fine, applied, arguments_pass, binary_passes, constant_passes, function_passes, instance_passes, lowered_passes, means_value, naming_passes, nothing_passes, part_of_passes, place_at_passes, value_of_passes, values_pass}
use Rattle.sr_front.proofs.Typed.TypedPlaces.{AtPlace, tree_placed}

one_same : (one : Info) → means_value (Some (placeless_info one)) ≡ means_value (Some one)
one_same (info.Value typed) = refl
one_same _ = refl

found_same : (found : Option Info) → means_value (option_map placeless_info found) ≡ means_value found
found_same None = refl
found_same (Some one) = one_same one

returned_met : (met : Bool) (returned : Option Ty) → is_met (returned_outcome met returned) ≡ true → met ≡ true
returned_met met None h = absurd (false≢true h)
returned_met true (Some ty) h = refl
returned_met false (Some ty) h = absurd (false≢true h)

module _ (scene : Scene) (test : Mention → Bool) (others : Others scene test) where
  abbrev Passes : Lowered → Type 0
  Passes made = IsTrue (lowered_passes scene test made)

  abbrev ExprPasses : Expr → Type 0
  ExprPasses expr = IsTrue (expr_passes test expr)

  abbrev HadName : Span → Type 0
  HadName = Had scene test

  abbrev pub AllHad : List Span → Type 0
  AllHad = Each (Had scene test)

  pub operation_expr_passes : (spot : Spot) → ExprPasses (operation_expr scene spot)
  operation_expr_passes spot =
      naming_passes scene test spot (λ operation number. core.Leaf (leaf.Operation (whose_by scene operation.scope operation.component) number))
      (λ operation is. leaf_rule test (leaf.Operation (whose_by scene operation.scope operation.component) (operation_number scene spot)) (and_from _ _ (others.operations operation.scope operation.component) refl))

  named_passes : (spot : Spot) (written : Option Value) (operation : Option Operation) → (written ≡ None → operation ≡ None → IsTrue (test (mention.Variable (root_of scene spot)))) → Passes (named_core scene spot written operation)
  named_passes spot (Some written) operation variable = leaf_rule test (leaf.Constant written) refl
  named_passes spot None (Some operation) variable = operation_expr_passes spot
  named_passes spot None None variable = place_at_passes scene test (root_of scene spot) (variable refl refl)

  layer_passes : {A : Type 0} (owner : Lowered) (name : List ℕ) (layer : Ty-F A) → Passes owner → Passes (layer_member scene owner name layer)
  layer_passes owner name (Ty-F.Rec spot) ok = part_of_passes scene test owner (step.Field (field_number scene.facts spot name)) ok (field_rule test (field_number scene.facts spot name))
  layer_passes owner name (Ty-F.Resource spot) ok =
      naming_passes scene test (spec_operation scene.facts spot name) (λ operation number. core.Member (value_of owner) number)
      (λ operation is. member_rule test (value_of owner) (operation_number scene (spec_operation scene.facts spot name)) (value_of_passes scene test owner ok))
  layer_passes owner name _ ok = nothing_passes scene test

  module _ (known : Facts) (at : AtPlace scene known) where
    -- ---- names

    value_there : (spot : Spot) (one : Info) → info_at known.infos spot ≡ Some one → means_value (Some one) ≡ true → means_value (info_at scene.facts.infos spot) ≡ true
    value_there spot one is means = sym (found_same (info_at scene.facts.infos spot)) ∙ ap means_value (at.grows.infos spot one is) ∙ one_same one ∙ means

    abbrev AsValue : Typing → Type 0
    AsValue typing = IsTrue (is_value_name typing.typed_expr.named)

    declared_passes : (span used : Span) (decl : Decl) (found : Option Info) → meaning_at scene.facts.uses (spot_of used) ≡ Some (Declared decl) → info_at known.infos decl.spot ≡ found → HadName used
        → ErrorFree (declared_typing span decl found).found → AsValue (declared_typing span decl found) → Passes (named_core scene decl.spot (constant_at scene.facts decl.spot) (operation_at scene decl.spot))
    declared_passes span used decl None means is had whole value = absurd whole
    declared_passes span used decl (Some (info.Value typed)) means is had whole value =
        named_passes decl.spot (constant_at scene.facts decl.spot) (operation_at scene decl.spot) (had decl means (value_there decl.spot (info.Value typed) is refl))
    declared_passes span used decl (Some (info.Operation ty component is_local)) means is had whole value =
        named_passes decl.spot (constant_at scene.facts decl.spot) (operation_at scene decl.spot) (had decl means (value_there decl.spot (info.Operation ty component is_local) is refl))
    declared_passes span used decl (Some (info.«Type» ty)) means is had whole value = absurd (false≢true value)
    declared_passes span used decl (Some (info.Enumeration number literals)) means is had whole value = absurd (false≢true value)
    declared_passes span used decl (Some (info.Record fields)) means is had whole value = absurd (false≢true value)
    declared_passes span used decl (Some (info.OpType ty)) means is had whole value = absurd (false≢true value)
    declared_passes span used decl (Some (info.Component ty)) means is had whole value = absurd (false≢true value)

    meaning_passes : (span used : Span) (meaning : Option Meaning) → meaning_at scene.facts.uses (spot_of used) ≡ meaning → HadName used
        → ErrorFree (meaning_typing known.infos span meaning).found → AsValue (meaning_typing known.infos span meaning) → Passes (meaning_core scene meaning)
    meaning_passes span used (Some (Declared decl)) means had whole value = declared_passes span used decl (info_at known.infos decl.spot) means refl had whole value
    meaning_passes span used (Some (MeansPredefined Eof)) means had whole value = leaf_rule test (leaf.Constant (int_value (negsuc 0))) refl
    meaning_passes span used _ means had whole value = nothing_passes scene test

    name_passes : (span used : Span) → HadName used → ErrorFree (name_typing known span used).found → AsValue (name_typing known span used) → Passes (name_core scene used)
    name_passes span used had =
        subst (λ uses. ErrorFree (meaning_typing known.infos span (meaning_at uses (spot_of used))).found → AsValue (meaning_typing known.infos span (meaning_at uses (spot_of used))) → Passes (name_core scene used)) (sym at.grows.uses)
        (meaning_passes span used (meaning_at scene.facts.uses (spot_of used)) refl had)

    field_passes : (span : Span) (owner : TypedExpr) (told : LoweredTree) (field : Name) (what : Named) → HadName field.span → (IsTrue (is_value_name owner.named) → Passes told.1)
        → ErrorFree (field_typing known span owner field what).found → AsValue (field_typing known span owner field what) → Passes (field_core scene told field what)
    field_passes span owner told field (named.Component decl) had ok whole value = name_passes span field.span had whole value
    field_passes span owner told field _ had ok whole value =
        layer_passes told.1 field.text (out-Ty (type_of scene.facts told.0)) (ok (rule_met (is_value_name owner.named) BadType owner.span (error_free_first (value_found owner) _ whole)))

    -- ---- invocations

    -- what formals take here they take in the end
    layer_taken : (layer : Ty-F Ty) (typed : List TypedExpr) → takes_by (layer_signature known.signatures layer) (layer_is_untyped layer) typed ≡ true → ErrorFree (formals_found (layer_signature known.signatures layer) typed)
        → ErrorFree (arguments_found (params_in (layer_signature scene.facts.signatures layer)) typed)
    layer_taken (Ty-F.Op number) typed takes found = by (signature_at known.signatures number) refl takes found
      where
        by : (one : Option Signature) → signature_at known.signatures number ≡ one → takes_by one false typed ≡ true → ErrorFree (formals_found one typed) → ErrorFree (arguments_found (params_in (signature_at scene.facts.signatures number)) typed)
        by None is takes found = absurd (false≢true takes)
        by (Some signature) is takes found = subst (λ one. ErrorFree (arguments_found (params_in one) typed)) (sym (at.grows.signatures number signature is)) found
    layer_taken _ typed takes found = tt

    taken : (ty : Ty) (typed : List TypedExpr) → takes_as_many known.signatures ty typed ≡ true → ErrorFree (invoked_found known.signatures ty typed) → ErrorFree (arguments_found (params_of scene.facts ty) typed)
    taken ty typed = layer_taken (out-Ty ty) typed

    -- an invocation in which no rule is broken, of what takes as many arguments
    pub record Invoked (sending : LoweredInvocation) : Type 0 where
      pub target : ExprPasses (value_of sending.callee.1)
      pub arguments : IsTrue (list_all (argument_passes test) (sent_arguments scene.facts sending))

    pub invoked : (span : Span) (callee : TypedExpr) (typed : List TypedExpr) (sending : LoweredInvocation) → (IsTrue (is_value_name callee.named) → Passes sending.callee.1) → AllFine scene test typed (lowered_of sending.arguments)
        → callee.typed.ty ≡ type_of scene.facts sending.callee.0 → ErrorFree (invocation_found known span callee typed) → takes_as_many known.signatures callee.typed.ty typed ≡ true → Invoked sending
    invoked span callee typed sending ok fine same whole takes =
        let after = error_free_second (value_found callee) _ whole in
        let valued = error_free_first (all_valued typed) _ after in
        let found = error_free_first (invoked_found known.signatures callee.typed.ty typed) _ (error_free_second (all_valued typed) _ after) in
        let params = subst (λ ty. ErrorFree (arguments_found (params_of scene.facts ty) typed)) same (taken callee.typed.ty typed takes found) in
        record {
          target = value_of_passes scene test sending.callee.1 (ok (rule_met (is_value_name callee.named) BadType callee.span (error_free_first (value_found callee) _ whole)));
          arguments = arguments_pass scene test (params_of scene.facts (type_of scene.facts sending.callee.0)) typed (lowered_of sending.arguments) fine valued params;
        }

    pub call_passes : (span : Span) (callee : TypedExpr) (typed : List TypedExpr) (sending : LoweredInvocation) (what : Named) → (IsTrue (is_value_name callee.named) → Passes sending.callee.1)
        → AllFine scene test typed (lowered_of sending.arguments) → callee.typed.ty ≡ type_of scene.facts sending.callee.0 → ErrorFree (called_by known span callee typed what).found → ExprPasses (call_core scene sending what)
    call_passes span callee typed sending (named.Predefined name) ok fine same whole =
        function_passes scene test others.machine known span name (trees_of sending.arguments) typed (lowered_of sending.arguments) fine (error_free_first (function_found known span name typed) _ whole)
    call_passes span callee typed sending (named.«Type» ty) ok fine same whole =
        let found = error_free_first (all_valued typed ++ made_found known ty typed) _ whole in
        applied scene test function.Record (lowered_of sending.arguments) (all_fine scene test typed (lowered_of sending.arguments) fine (error_free_first (all_valued typed) _ found))
    call_passes span callee typed sending _ ok fine same whole =
        let parts = invocation_found known span callee typed ++ broken_unless (is_callable known.signatures callee.typed.ty) BadUse span in
        let met = rule_met (is_met (invoked_outcome known.signatures callee.typed.ty typed)) BadType span (error_free_second parts _ whole) in
        let takes = returned_met (takes_as_many known.signatures callee.typed.ty typed) (returned_by known.signatures callee.typed.ty) met in
        let one = invoked span callee typed sending ok fine same (error_free_first (invocation_found known span callee typed) _ (error_free_first parts _ whole)) takes in
        call_rule test (value_of sending.callee.1) (sent_arguments scene.facts sending) (call_returns scene sending) one.target one.arguments

    -- ---- instances

    made_passes : (span : Span) (resource : QualifiedName) (typed : List TypedExpr) (on : Option TypedExpr) (all : List Lowered) (machine : Expr) → AllFine scene test typed all → (ErrorFree (machine_valued on) → ExprPasses machine)
        → ErrorFree (instance_typing known span (resource_named known resource) typed on).found → ExprPasses (instance_core scene (meant_by scene.facts (deciding resource)) (values all) machine)
    made_passes span resource typed on all machine fine made whole =
        let formals = resource_type known.infos (resource_named known resource) in
        let found = error_free_first (creation_found known span formals typed on) _ whole in
        let after = error_free_second (all_valued typed) _ found in
        instance_passes scene test (meant_by scene.facts (deciding resource)) (values all) machine
        (values_pass scene test all (all_fine scene test typed all fine (error_free_first (all_valued typed) _ found)))
        (made (error_free_first (machine_valued on) _ after))

    -- ---- each tree, when its parts are so

    -- as a value
    abbrev Valued : Typing → Lowered → Type 0
    Valued typing made = ErrorFree typing.found → AsValue typing → Passes made

    abbrev CreateGood : Create → Type 0
    CreateGood tree = AllHad (create_names tree) → ErrorFree (infer_create tree known).found → ExprPasses (of_create scene tree).1

    abbrev TreeGood : Tree → Type 0
    TreeGood tree = AllHad (expr_names tree) → Valued (infer_expr tree known) (core_expr scene tree)

    abbrev InvocationGood : Invocation → Type 0
    InvocationGood tree = AllHad (invocation_names tree) → ErrorFree (call_typing known (infer_invocation tree known)).found → ExprPasses (call_of scene (of_invocation scene tree))

    abbrev PartGood : PartTree → Type 0
    PartGood tree = AllHad (part_names tree) → ErrorFree (part_found (infer_part tree known)) → IsTrue (part_passes test (of_part scene tree).1)

    abbrev good : Claim
    good = record { create = CreateGood; expr = TreeGood; invocation = InvocationGood; part = PartGood }

    tree_fine : (tree : Known TreeGood) → AllHad (expr_names tree.0) → ErrorFree (infer_expr tree.0 known).found → Fine scene test (infer_expr tree.0 known).typed_expr (core_expr scene tree.0)
    tree_fine tree had whole = record { passes = tree.1 had whole; placed = tree_placed scene known at tree.0 whole }

    all_good : (trees : List (Known TreeGood)) → AllHad (joined (map expr_names (map (λ (tree : Known TreeGood). tree.0) trees))) → ErrorFree (all_found (map (λ (infer : Inferrer). infer known) (map infer_expr (map (λ (tree : Known TreeGood). tree.0) trees))))
        → AllFine scene test (typed_exprs_of (map (λ (infer : Inferrer). infer known) (map infer_expr (map (λ (tree : Known TreeGood). tree.0) trees)))) (map (λ (one : LoweredTree). one.1) (map (told scene) (map (λ (tree : Known TreeGood). tree.0) trees)))
    all_good [] had whole = tt
    all_good (tree ∷ trees) had whole = (
      tree_fine tree (each-left HadName (expr_names tree.0) _ had) (error_free_first (infer_expr tree.0 known).found _ whole),
      all_good trees (each-right HadName (expr_names tree.0) _ had) (error_free_second (infer_expr tree.0 known).found _ whole),
    )

    parts_good : (parts : List (Known PartGood)) → AllHad (joined (map part_names (map (λ (part : Known PartGood). part.0) parts))) → ErrorFree (parts_found (map (λ (infer : PartInferrer). infer known) (map infer_part (map (λ (part : Known PartGood). part.0) parts))))
        → IsTrue (list_all (part_passes test) (map (λ (part : PartTree × Part). part.1) (map (of_part scene) (map (λ (part : Known PartGood). part.0) parts))))
    parts_good [] had whole = refl
    parts_good (part ∷ parts) had whole =
        and_from _ _ (part.1 (each-left HadName (part_names part.0) _ had) (error_free_first (part_found (infer_part part.0 known)) _ whole))
        (parts_good parts (each-right HadName (part_names part.0) _ had) (error_free_second (part_found (infer_part part.0 known)) _ whole))

    -- what stands as a value
    value_good : (tree : Known TreeGood) → AllHad (expr_names tree.0) → ErrorFree (infer_expr tree.0 known).found → ErrorFree (value_found (infer_expr tree.0 known).typed_expr) → ExprPasses (core_value scene tree.0)
    value_good tree had whole value =
        let typed = (infer_expr tree.0 known).typed_expr in
        value_of_passes scene test (core_expr scene tree.0) (tree.1 had whole (rule_met (is_value_name typed.named) BadType typed.span value))

    create_good : (y : CreateNode good) → AllHad (from_create expr_naming (bare_create good y)) → ErrorFree (from_create inferring (bare_create good y) known).found → ExprPasses (from_create (lowering scene) (bare_create good y)).1
    create_good (Create-F.Resource span resource arguments None) had whole =
        let typings = map (λ (infer : Inferrer). infer known) (map infer_expr (map (λ (tree : Known TreeGood). tree.0) arguments)) in
        let after = each-right HadName (qualified_names resource) _ had in
        let parts = error_free_first (all_found typings ++ machine_found None) _ whole in
        made_passes span resource (typed_exprs_of typings) None (map (λ (one : LoweredTree). one.1) (map (told scene) (map (λ (tree : Known TreeGood). tree.0) arguments))) (core.Leaf leaf.MyMachine)
        (all_good arguments (each-left HadName (joined (map expr_names (map (λ (tree : Known TreeGood). tree.0) arguments))) _ after) (error_free_first (all_found typings) _ parts))
        (λ found. leaf_rule test leaf.MyMachine (and_from _ _ others.machine refl)) (error_free_second (all_found typings ++ machine_found None) _ whole)
    create_good (Create-F.Resource span resource arguments (Some machine)) had whole =
        let typings = map (λ (infer : Inferrer). infer known) (map infer_expr (map (λ (tree : Known TreeGood). tree.0) arguments)) in
        let on = infer_expr machine.0 known in
        let passed = joined (map expr_names (map (λ (tree : Known TreeGood). tree.0) arguments)) in
        let after = each-right HadName (qualified_names resource) _ had in
        let parts = error_free_first (all_found typings ++ machine_found (Some on)) _ whole in
        made_passes span resource (typed_exprs_of typings) (Some on.typed_expr) (map (λ (one : LoweredTree). one.1) (map (told scene) (map (λ (tree : Known TreeGood). tree.0) arguments))) (core_value scene machine.0)
        (all_good arguments (each-left HadName passed _ after) (error_free_first (all_found typings) _ parts))
        (λ found. value_good machine (each-right HadName passed _ after) (error_free_second (all_found typings) _ parts) (error_free_first (value_found on.typed_expr) _ found))
        (error_free_second (all_found typings ++ machine_found (Some on)) _ whole)
    create_good (Create-F.Machine span) had whole = leaf_rule test leaf.MakeMachine refl

    expr_good : (y : ExprNode good) → AllHad (from_expr expr_naming (bare_expr good y)) → Valued (from_expr inferring (bare_expr good y) known) (from_expr (lowering scene) (bare_expr good y)).1
    expr_good (Expr-F.Literal span literal) had whole value = constant_passes scene test (known_value (literal_typed literal).value)
    expr_good (Expr-F.Name name) had whole value = name_passes name.span name.span had.0 whole value
    expr_good (Expr-F.BasicType span basic) had whole value = nothing_passes scene test
    expr_good (Expr-F.Conversion span conversion inner) had whole value =
        let here = infer_expr inner.0 known in
        let found = error_free_first (value_found here.typed_expr) _ (error_free_second here.found _ whole) in
        apply_rule test (conversion_function conversion) (core_value scene inner.0 ∷ []) (and_from _ _ (value_good inner had (error_free_first here.found _ whole) found) refl)
    expr_good (Expr-F.Group span inner) had whole value =
        let here = infer_expr inner.0 known in
        value_good inner had (error_free_first here.found _ whole) (error_free_first (value_found here.typed_expr) _ (error_free_second here.found _ whole))
    expr_good (Expr-F.Parts span parts) had whole value =
        array_rule test _ (parts_good parts had (error_free_first (parts_found (map (λ (infer : PartInferrer). infer known) (map infer_part (map (λ (part : Known PartGood). part.0) parts)))) _ whole))
    expr_good (Expr-F.Field span owner field) had whole value =
        let here = (infer_expr owner.0 known).typed_expr in
        let found = error_free_first (infer_expr owner.0 known).found _ whole in
        let same = expr_stays known scene.facts at.grows owner.0 found in
        subst (λ (one : LoweredTree). Passes (field_core scene one field (typed_expr scene.facts one.0).named)) (sym (told_is scene owner.0))
        (subst (λ (what : Named). Passes (field_core scene (owner.0, core_expr scene owner.0) field what)) (ap (λ (one : TypedExpr). one.named) same)
        (field_passes span here (owner.0, core_expr scene owner.0) field here.named (each-right HadName (expr_names owner.0) (field.span ∷ []) had).0 (owner.1 (each-left HadName (expr_names owner.0) _ had) found)
        (error_free_second (infer_expr owner.0 known).found _ whole) value))
    expr_good (Expr-F.Index span array first None) had whole value =
        let here = infer_expr array.0 known in
        let index = infer_expr first.0 known in
        let parts = here.found ++ (index.found ++ []) in
        let found = error_free_first parts _ whole in
        let values = error_free_first (value_found here.typed_expr ++ (value_found index.typed_expr ++ [])) _ (error_free_second parts _ whole) in
        let after = each-right HadName (expr_names array.0) _ had in
        part_of_passes scene test (core_expr scene array.0) (step.At (core_value scene first.0))
        (array.1 (each-left HadName (expr_names array.0) _ had) (error_free_first here.found _ found)
        (rule_met (is_value_name here.typed_expr.named) BadType here.typed_expr.span (error_free_first (value_found here.typed_expr) _ values)))
        (at_rule test (core_value scene first.0)
        (value_good first (each-left HadName (expr_names first.0) _ after) (error_free_first index.found _ (error_free_second here.found _ found))
        (error_free_first (value_found index.typed_expr) _ (error_free_second (value_found here.typed_expr) _ values))))
    expr_good (Expr-F.Index span array first (Some second)) had whole value =
        let here = infer_expr array.0 known in
        let index = infer_expr first.0 known in
        let more = infer_expr second.0 known in
        let parts = here.found ++ (index.found ++ more.found) in
        let found = error_free_first parts _ whole in
        let rest = error_free_second here.found _ found in
        let values = error_free_first (value_found here.typed_expr ++ (value_found index.typed_expr ++ value_found more.typed_expr)) _ (error_free_second parts _ whole) in
        let last = error_free_second (value_found here.typed_expr) _ values in
        let after = each-right HadName (expr_names array.0) _ had in
        part_of_passes scene test (core_expr scene array.0) (step.At2 (core_value scene first.0) (core_value scene second.0))
        (array.1 (each-left HadName (expr_names array.0) _ had) (error_free_first here.found _ found)
        (rule_met (is_value_name here.typed_expr.named) BadType here.typed_expr.span (error_free_first (value_found here.typed_expr) _ values)))
        (at2_rule test (core_value scene first.0) (core_value scene second.0)
        (value_good first (each-left HadName (expr_names first.0) _ after) (error_free_first index.found _ rest) (error_free_first (value_found index.typed_expr) _ last))
        (value_good second (each-right HadName (expr_names first.0) _ after) (error_free_second index.found _ rest) (error_free_second (value_found index.typed_expr) _ last)))
    expr_good (Expr-F.Call invocation) had whole value = invocation.1 had whole
    expr_good (Expr-F.Create create) had whole value = create.1 had whole
    expr_good (Expr-F.Unary span operator operand) had whole value =
        let here = infer_expr operand.0 known in
        unary_rule test (prefix_of operator) (core_value scene operand.0)
        (value_good operand had (error_free_first here.found _ whole) (error_free_first (value_found here.typed_expr) _ (error_free_second here.found _ whole)))
    expr_good (Expr-F.Pending span operation) had whole value =
        naming_passes scene test (meant_by scene.facts operation) (λ found number. core.Leaf (leaf.Count number))
        (λ found is. leaf_rule test (leaf.Count (operation_number scene (meant_by scene.facts operation))) (and_from _ _ (others.counts (meant_by scene.facts operation) found is) refl))
    expr_good (Expr-F.Binary span left operator right) had whole value =
        let a = infer_expr left.0 known in
        let b = infer_expr right.0 known in
        let found = error_free_first (a.found ++ b.found) _ whole in
        let values = error_free_first (value_found a.typed_expr ++ value_found b.typed_expr) _ (error_free_second (a.found ++ b.found) _ whole) in
        binary_passes scene test operator (core_value scene left.0) (core_value scene right.0)
        (value_good left (each-left HadName (expr_names left.0) _ had) (error_free_first a.found _ found) (error_free_first (value_found a.typed_expr) _ values))
        (value_good right (each-right HadName (expr_names left.0) _ had) (error_free_second a.found _ found) (error_free_second (value_found a.typed_expr) _ values))

    invocation_good : (y : InvocationNode good) → AllHad (from_invocation expr_naming (bare_invocation good y)) → ErrorFree (call_typing known (from_invocation inferring (bare_invocation good y) known)).found
        → ExprPasses (call_of scene (from_invocation (lowering scene) (bare_invocation good y)))
    invocation_good y had whole =
        let called = from_invocation inferring (bare_invocation good y) known in
        let sending = from_invocation (lowering scene) (bare_invocation good y) in
        let callee = called.callee.typed_expr in
        let first = error_free_first (called_found called) _ whole in
        let found = error_free_first called.callee.found _ first in
        let same = expr_stays known scene.facts at.grows y.callee.0 found in
        let named : callee.named ≡ (typed_expr scene.facts y.callee.0).named = ap (λ (one : TypedExpr). one.named) same in
        let typed : callee.typed.ty ≡ type_of scene.facts y.callee.0 = ap (λ (one : TypedExpr). one.typed.ty) same in
        let tree : sending.callee.0 ≡ y.callee.0 = ap (λ (one : LoweredTree). one.0) (told_is scene y.callee.0) in
        subst (λ (what : Named). ExprPasses (call_core scene sending what)) (named ∙ ap (λ one. (typed_expr scene.facts one).named) (sym tree))
        (call_passes called.span callee (typed_exprs_of called.arguments) sending callee.named
        (y.callee.1 (each-left HadName (expr_names y.callee.0) _ had) found)
        (all_good y.arguments (each-right HadName (expr_names y.callee.0) _ had) (error_free_second called.callee.found _ first))
        (typed ∙ ap (type_of scene.facts) (sym tree)) (error_free_second (called_found called) _ whole))

    parts_of_good : (span : Span) (count : Option (Known TreeGood)) (value : Known TreeGood) → AllHad (from_part expr_naming (bare_part good (record { span = span; count = count; value = value })))
        → ErrorFree (part_found (from_part inferring (bare_part good (record { span = span; count = count; value = value })) known))
        → IsTrue (part_passes test (from_part (lowering scene) (bare_part good (record { span = span; count = count; value = value }))).1)
    parts_of_good span None value had whole =
        let here = infer_expr value.0 known in
        one_rule test (core_value scene value.0) (value_good value had (error_free_first here.found _ whole) (error_free_second here.found _ whole))
    parts_of_good span (Some count) value had whole =
        let a = infer_expr count.0 known in
        let b = infer_expr value.0 known in
        let found = error_free_first (a.found ++ b.found) _ whole in
        let values = error_free_second (a.found ++ b.found) _ whole in
        repeated_rule test (core_value scene count.0) (core_value scene value.0)
        (value_good count (each-left HadName (expr_names count.0) _ had) (error_free_first a.found _ found) (error_free_first (value_found a.typed_expr) _ values))
        (value_good value (each-right HadName (expr_names count.0) _ had) (error_free_second a.found _ found) (error_free_second (value_found a.typed_expr) _ values))

    part_good : (y : PartNode good) → AllHad (from_part expr_naming (bare_part good y)) → ErrorFree (part_found (from_part inferring (bare_part good y) known)) → IsTrue (part_passes test (from_part (lowering scene) (bare_part good y)).1)
    part_good y = parts_of_good y.span y.count y.value

    -- ---- all trees

    by_parts : ByParts good
    by_parts = record {
      create = λ y. subst (λ t. t)
          (λ i. AllHad (create_folds expr_naming (bare_create good y) i) → ErrorFree (create_folds inferring (bare_create good y) i known).found → ExprPasses (create_folds (lowering scene) (bare_create good y) i).1) (create_good y);
      expr = λ y. subst (λ t. t) (λ i. AllHad (expr_folds expr_naming (bare_expr good y) i) → Valued (expr_folds inferring (bare_expr good y) i known) (expr_folds (lowering scene) (bare_expr good y) i).1) (expr_good y);
      invocation = λ y. subst (λ t. t)
          (λ i. AllHad (invocation_folds expr_naming (bare_invocation good y) i) → ErrorFree (call_typing known (invocation_folds inferring (bare_invocation good y) i known)).found
          → ExprPasses (call_of scene (invocation_folds (lowering scene) (bare_invocation good y) i))) (invocation_good y);
      part = λ y. subst (λ t. t)
          (λ i. AllHad (part_folds expr_naming (bare_part good y) i) → ErrorFree (part_found (part_folds inferring (bare_part good y) i known)) → IsTrue (part_passes test (part_folds (lowering scene) (bare_part good y) i).1)) (part_good y);
    }

    pub create_passes : (tree : Create) → CreateGood tree
    create_passes = each_create good by_parts

    pub expr_fine : (tree : Tree) → AllHad (expr_names tree) → ErrorFree (infer_expr tree known).found → Fine scene test (infer_expr tree known).typed_expr (core_expr scene tree)
    expr_fine tree had whole = record { passes = each_expr good by_parts tree had whole; placed = tree_placed scene known at tree whole }
