-- Where no rule is broken in an expression, what is made in its core passes.
use Rattle.std.proofs.Common.{◌≡◌, ℕ, negsuc, Bool, true, false, List, [], ◌∷◌, ◌++◌, Option, Some, None, Result, Ok, Err, IsTrue, map, if◌then◌else◌, refl, sym, ap, subst, ◌∙◌, is_some, length, suc}
use Rattle.std.proofs.lemmas.Bool.{and_from, and_parts, false≢true}
use Rattle.std.proofs.lemmas.List.{length-map}
use Rattle.std.specs.List.{list_all}
use Rattle.sr_check_expr.specs.declared.facts.Facts.{Facts}
use Rattle.sr_check_expr.specs.declared.typed_expr.TypedExpr.{TypedExpr}
use Rattle.sr_check_expr.specs.declared.typed_expr.Named.{Named}
use Rattle.sr_check_expr.specs.declared.typed_expr.Named.TheVariants as named
use Rattle.sr_check_expr.specs.declared.info.Info.{Info}
use Rattle.sr_check_expr.specs.declared.info.Info.TheVariants as info
use Rattle.sr_check_expr.specs.Arguments.{all_found, takes_as_many}
use Rattle.sr_check_expr.specs.Calls.{call_typing, parts_found as called_found}
use Rattle.sr_check_expr.specs.Creating.{instance_typing, machine_found, machine_of, made_found, resource_named, resource_type, instance_type, made_of, resource_if}
use Rattle.sr_check_expr.specs.Exprs.{Inferrer, PartInferrer, infer_create, infer_expr, infer_invocation, infer_part, part_found, parts_found, prefix_of}
use Rattle.sr_check_expr.specs.Infos.{info_at}
use Rattle.sr_check_expr.specs.Typings.{Typing, typed_exprs_of, is_met}
use Rattle.sr_check_expr.specs.LiteralTypes.{literal_typed}
use Rattle.sr_check_expr.specs.Naming.{deciding as named_deciding, decl_of}
use Rattle.sr_check_expr.specs.PredefinedCalls.{is_resource}
use Rattle.sr_core.specs.declared.component.Operation.{Operation}
use Rattle.sr_core.specs.declared.expression.Expr.{Expr}
use Rattle.sr_core.specs.declared.expression.Expr.TheVariants as core
use Rattle.sr_core.specs.declared.expression.Function.{Function}
use Rattle.sr_core.specs.declared.expression.Function.TheVariants as function
use Rattle.sr_core.specs.declared.expression.Leaf.TheVariants as leaf
use Rattle.sr_core.specs.declared.expression.Part.{Part}
use Rattle.sr_core.specs.declared.expression.Step.TheVariants as step
use Rattle.sr_names.specs.declared.finding.Rule.TheVariants.{BadType}
use Rattle.sr_names.specs.declared.meaning.Decl.{Decl}
use Rattle.sr_names.specs.declared.meaning.Meaning.{Meaning}
use Rattle.sr_names.specs.declared.meaning.Meaning.TheVariants.{Predefined as MeansPredefined, Declared}
use Rattle.sr_names.specs.declared.predefined.Predefined.{Predefined}
use Rattle.sr_names.specs.declared.predefined.Predefined.TheVariants.{Read, Eof, Abs, Min, Max, Low, High, Lb, Ub, Length, Pred, Succ, MyResource, MyVm}
use Rattle.sr_names.specs.declared.spot.Spot.{Spot}
use Rattle.sr_names.specs.Spots.{spot_of, same_spot}
use Rattle.sr_names.specs.Uses.{meaning_at}
use Rattle.sr_tree.specs.declared.expr.BinaryOperator.{BinaryOperator}
use Rattle.sr_tree.specs.declared.expr.BinaryOperator.TheVariants as binary
use Rattle.sr_tree.specs.declared.expr.Create.{Create}
use Rattle.sr_tree.specs.declared.expr.Create.TheOpen.{Create-F, Expr-F}
use Rattle.sr_tree.specs.declared.expr.Expr.{Expr as Tree}
use Rattle.sr_tree.specs.declared.expr.Invocation.{Invocation}
use Rattle.sr_tree.specs.declared.expr.Part.{Part as PartTree}
use Rattle.sr_tree.specs.declared.name.Name.{Name}
use Rattle.sr_tree.specs.declared.name.QualifiedName.{QualifiedName}
use Rattle.sr_types.specs.declared.typed.Typed.{Typed}
use Rattle.sr_types.specs.Outcomes.{met_if}
use Rattle.sr_types.specs.declared.ty.Ty.{Ty, out-Ty}
use Rattle.sr_types.specs.declared.ty.Ty.TheOpen.{Ty-F}
use Rattle.sr_value.specs.declared.fault.Fault.{Fault}
use Rattle.sr_value.specs.declared.place.Span.{Span}
use Rattle.sr_value.specs.declared.value.Value.{Value}
use Rattle.sr_value.specs.declared.value.Value.TheVariants as value
use Rattle.sr_check_expr.specs.Meanings.{typed_expr, known as known_value, constant_at, type_of, meant_by, params_of}
use Rattle.sr_lower_expr.specs.Operators.{binary_core, conversion_function}
use Rattle.sr_lower_expr.specs.Shapes.{shape_of_type}
use Rattle.sr_lower_expr.specs.declared.scene.Lowered.{Lowered}
use Rattle.sr_lower_expr.specs.declared.scene.Scene.{Scene}
use Rattle.sr_lower_expr.specs.Expressions.{LoweredTree, LoweredInvocation, call_core, call_of, constant_or_nothing, core_expr, core_value, lowered_of, end_or_nothing, end_value, ends_core, field_core, field_number, function_core, is_second, layer_member, literals_in, meaning_core, name_core, named_core, named_types, spec_operation, told, trees_of, values, without_number, argument_core, arguments_by, call_returns, core_place, instance_core, readable_of, reading_core, sent_arguments}
use Rattle.sr_lower_expr.specs.Places.{nothing, operation_at, place_of, root_of, value_of, whose_by}
use Rattle.sr_lower_expr.proofs.Each.{one_taken, turned_passes}
use Rattle.sr_lower_expr.proofs.Trees.{of_create, of_invocation, of_part, told_is}
use Rattle.sr_check.specs.ErrorFree.{ErrorFree}
use Rattle.sr_check.proofs.ErrorFree.{rule_met, error_free_first, error_free_second}
use Rattle.std.specs.Prelude.{position, unwrap_or, zip}
use Rattle.std.specs.Option.{option_map}
use Rattle.sr_core.specs.declared.expression.Readable.{Readable}
use Rattle.sr_tables.specs.Parts.{deciding}
use Rattle.sr_types.specs.declared.signature.Mode.{Mode}
use Rattle.sr_types.specs.declared.signature.Mode.TheVariants as mode
use Rattle.sr_types.specs.declared.signature.Param.{Param}
use Rattle.sr_front.specs.Invocations.{InvocationTest, argument_invokes, expr_invokes, expr_seen, place_invokes, target_passes}
use Rattle.sr_tree.proofs.ExprFolds.{ByParts, Claim, CreateNode, ExprNode, InvocationNode, Known, PartNode, bare_create, bare_expr, bare_invocation, bare_part, create_folds, each_create, each_expr, expr_folds, from_create, from_expr, from_invocation, from_part, invocation_folds, part_folds}
use Rattle.sr_lower_expr.proofs.LowerFold.{lowering}
use Rattle.sr_front.proofs.Typed.TypingFolds.{inferring}
use Rattle.sr_front.proofs.Invoked.InvokesMet.{Allowed, call_passes, invoked_target}
use Rattle.sr_front.proofs.Invoked.InvokesTargets.{Reads}
use Rattle.sr_front.proofs.Invoked.InvokesTrees.{tree_fits}
use Rattle.sr_front.proofs.Invoked.InvokesRules.{and_rule, apply_rule, array_rule, at2_rule, at_rule, binary_rule, call_rule, create_rule, field_rule, leaf_rule, lowered_invokes, member_rule, naming_invokes, nothing_invokes, one_rule, or_rule, part_invokes, part_of_invokes, place_at_invokes, place_of_invokes, read_rule, reading_invokes, reading_rule, repeated_rule, res_rule, unary_rule, val_rule, value_of_invokes, var_rule}

module _ (test : InvocationTest) (scene : Scene) (allowed : Allowed test scene) where
  -- ---- what makes nothing

  constant_invokes : (written : Option Value) → IsTrue (expr_invokes test (constant_or_nothing written))
  constant_invokes None = nothing_invokes test
  constant_invokes (Some written) = leaf_rule test (leaf.Constant written)

  named_invokes : (spot : Spot) (written : Option Value) (operation : Option Operation) → IsTrue (lowered_invokes test (named_core scene spot written operation))
  named_invokes spot (Some written) operation = leaf_rule test (leaf.Constant written)
  named_invokes spot None (Some operation) =
      naming_invokes test scene spot (λ operation number. core.Leaf (leaf.Operation (whose_by scene operation.scope operation.component) number)) (λ operation number. leaf_rule test _)
  named_invokes spot None None = place_at_invokes test (root_of scene spot)

  meaning_invokes : (meaning : Option Meaning) → IsTrue (lowered_invokes test (meaning_core scene meaning))
  meaning_invokes (Some (Declared decl)) = named_invokes decl.spot (constant_at scene.facts decl.spot) (operation_at scene decl.spot)
  meaning_invokes (Some (MeansPredefined Eof)) = leaf_rule test (leaf.Constant (value.Int (negsuc 0)))
  meaning_invokes _ = nothing_invokes test

  name_invokes : (span : Span) → IsTrue (lowered_invokes test (name_core scene span))
  name_invokes span = meaning_invokes (meaning_at scene.facts.uses (spot_of span))

  layer_invokes : {A : Type 0} (owner : Lowered) (name : List ℕ) (layer : Ty-F A) → IsTrue (lowered_invokes test owner) → IsTrue (lowered_invokes test (layer_member scene owner name layer))
  layer_invokes owner name (Ty-F.Rec spot) passes = part_of_invokes test owner (step.Field (field_number scene.facts spot name)) passes (field_rule test (field_number scene.facts spot name))
  layer_invokes owner name (Ty-F.Resource spot) passes =
      naming_invokes test scene (spec_operation scene.facts spot name) (λ operation number. core.Member (value_of owner) number)
      (λ operation number. member_rule test (value_of owner) number (value_of_invokes test owner passes))
  layer_invokes owner name _ passes = nothing_invokes test

  field_invokes : (owner : LoweredTree) (field : Name) (what : Named) → IsTrue (lowered_invokes test owner.1) → IsTrue (lowered_invokes test (field_core scene owner field what))
  field_invokes owner field (named.Component decl) passes = name_invokes field.span
  field_invokes owner field _ passes = layer_invokes owner.1 field.text (out-Ty (type_of scene.facts owner.0)) passes

  -- ---- calls

  abbrev AllInvoke : List Lowered → Type 0
  AllInvoke all = IsTrue (list_all (lowered_invokes test) all)

  values_invoke : (all : List Lowered) → AllInvoke all → IsTrue (list_all (expr_invokes test) (values all))
  values_invoke = turned_passes (expr_invokes test) (lowered_invokes test) value_of (value_of_invokes test)

  applied : (called : Function) (all : List Lowered) → AllInvoke all → IsTrue (expr_invokes test (core.Apply called (values all)))
  applied called all passes = apply_rule test called (values all) (values_invoke all passes)

  ended : (end : Result Value Fault) → IsTrue (expr_invokes test (end_or_nothing end))
  ended (Ok end) = leaf_rule test (leaf.Constant end)
  ended (Err fault) = nothing_invokes test

  ends_invoke : (is_high : Bool) (types : List Ty) → IsTrue (expr_invokes test (ends_core scene is_high types))
  ends_invoke is_high [] = nothing_invokes test
  ends_invoke is_high (ty ∷ types) = ended (end_value is_high (shape_of_type scene.tables.shapes ty))

  without_invoke : (trees : List Tree) (all : List Lowered) → AllInvoke all → AllInvoke (without_number trees all)
  without_invoke (array ∷ number ∷ []) all passes = one_taken (lowered_invokes test) all passes
  without_invoke trees all passes = passes

  bound_invokes : (one two : Function) (trees : List Tree) (all : List Lowered) → AllInvoke all
      → IsTrue (expr_invokes test (core.Apply (if is_second scene.facts trees then two else one) (values (without_number trees all))))
  bound_invokes one two trees all passes = applied (if is_second scene.facts trees then two else one) (without_number trees all) (without_invoke trees all passes)

  binary_invokes : (operator : BinaryOperator) (left right : Expr) → IsTrue (expr_invokes test left) → IsTrue (expr_invokes test right) → IsTrue (expr_invokes test (binary_core operator left right))
  binary_invokes binary.And left right first second = and_rule test left right first second
  binary_invokes binary.Or left right first second = or_rule test left right first second
  binary_invokes operator left right first second = binary_rule test _ left right first second

  readings_invoke : (kinds : List Readable) (all : List Lowered) → AllInvoke all → IsTrue (list_all (reading_invokes test) (map reading_core (zip kinds all)))
  readings_invoke [] all passes = refl
  readings_invoke (kind ∷ kinds) [] passes = refl
  readings_invoke (kind ∷ kinds) (one ∷ all) passes =
      let parts = and_parts (lowered_invokes test one) (list_all (lowered_invokes test) all) passes in
      and_from _ _ (reading_rule test kind (place_of one) (place_of_invokes test one parts.0)) (readings_invoke kinds all parts.1)

  function_invokes : (name : Predefined) (trees : List Tree) (all : List Lowered) → AllInvoke all → IsTrue (expr_invokes test (function_core scene name trees all))
  function_invokes Abs trees all passes = applied function.Abs all passes
  function_invokes Min trees all passes = applied function.Min all passes
  function_invokes Max trees all passes = applied function.Max all passes
  function_invokes Low trees all passes = ends_invoke false (named_types scene.facts trees)
  function_invokes High trees all passes = ends_invoke true (named_types scene.facts trees)
  function_invokes Lb trees all passes = bound_invokes function.LowBound function.LowBound2 trees all passes
  function_invokes Ub trees all passes = bound_invokes function.HighBound function.HighBound2 trees all passes
  function_invokes Length trees all passes = applied function.Length all passes
  function_invokes Pred trees all passes = applied function.Pred all passes
  function_invokes Succ trees all passes = applied (function.Succ (literals_in scene.facts trees)) all passes
  function_invokes MyResource trees all passes = leaf_rule test leaf.MyResource
  function_invokes MyVm trees all passes = leaf_rule test leaf.MyMachine
  function_invokes Read trees all passes = read_rule test _ (readings_invoke (map (λ tree. readable_of (type_of scene.facts tree)) trees) all passes)
  function_invokes _ trees all passes = nothing_invokes test

  argument_invokes_by : (mode : Mode) (one : Lowered) → IsTrue (lowered_invokes test one) → IsTrue (argument_invokes test (argument_core mode one))
  argument_invokes_by mode.Val one passes = val_rule test (value_of one) (value_of_invokes test one passes)
  argument_invokes_by mode.Var one passes = var_rule test (place_of one) (place_of_invokes test one passes)
  argument_invokes_by mode.Res one passes = res_rule test (place_of one) (place_of_invokes test one passes)

  pub arguments_invoke : (params : List Param) (all : List Lowered) → AllInvoke all → IsTrue (list_all (argument_invokes test) (arguments_by params all))
  arguments_invoke [] all passes = refl
  arguments_invoke (param ∷ params) [] passes = refl
  arguments_invoke (param ∷ params) (one ∷ all) passes =
      let parts = and_parts (lowered_invokes test one) (list_all (lowered_invokes test) all) passes in
      and_from _ _ (argument_invokes_by param.mode one parts.0) (arguments_invoke params all parts.1)

  -- what an invocation is in the core, where its parts and its target pass
  pub call_invokes : (sending : LoweredInvocation) (what : Named) → IsTrue (lowered_invokes test sending.callee.1) → AllInvoke (lowered_of sending.arguments)
      → IsTrue (target_passes test.calls (expr_seen test (value_of sending.callee.1)) (length (sent_arguments scene.facts sending))) → IsTrue (expr_invokes test (call_core scene sending what))
  call_invokes sending (named.Predefined name) callee passes target = function_invokes name (trees_of sending.arguments) (lowered_of sending.arguments) passes
  call_invokes sending (named.«Type» ty) callee passes target = applied function.Record (lowered_of sending.arguments) passes
  call_invokes sending _ callee passes target =
      call_rule test (value_of sending.callee.1) (sent_arguments scene.facts sending) (call_returns scene sending) target
      (arguments_invoke (params_of scene.facts (type_of scene.facts sending.callee.0)) (lowered_of sending.arguments) passes)

  -- ---- instances

  abbrev instance_by : List Expr → Expr → Option ℕ → Expr
  instance_by args machine None = nothing
  instance_by args machine (Some component) = core.Create component args machine

  instance_invokes : (spot : Spot) (args : List Expr) (machine : Expr) → ((number : ℕ) → position (same_spot spot) scene.tables.components ≡ Some number → IsTrue (test.makes number (length args)))
      → IsTrue (list_all (expr_invokes test) args) → IsTrue (expr_invokes test machine) → IsTrue (expr_invokes test (instance_core scene spot args machine))
  instance_invokes spot args machine passes all on = by (position (same_spot spot) scene.tables.components) refl
    where
      by : (found : Option ℕ) → position (same_spot spot) scene.tables.components ≡ found → IsTrue (expr_invokes test (instance_by args machine found))
      by None is = nothing_invokes test
      by (Some number) is = create_rule test number args machine (passes number is) all on

  module _ (known : Facts) (reads : Reads test scene known) where
    uses : known.uses ≡ scene.facts.uses
    uses = sym reads.stay.uses

    -- what is made where no rule is broken is a resource, with an argument for each of its formals
    record Made (typings : List TypedExpr) (decl : Option Decl) : Type 0 where
      one : Decl
      same : decl ≡ Some one
      is : is_resource one.sort ≡ true
      ty : Ty
      info : info_at known.infos one.spot ≡ Some (info.Component ty)
      takes : takes_as_many known.signatures ty typings ≡ true

    met_takes : (takes : Bool) (typed : Typed) → IsTrue (is_met (met_if takes typed)) → takes ≡ true
    met_takes true typed h = refl
    met_takes false typed h = absurd (false≢true h)

    resource_is : (typings : List TypedExpr) (instance : Ty) (decl : Option Decl) → IsTrue (is_met (made_of known typings instance (resource_type known.infos decl))) → Made typings decl
    resource_is typings instance None h = absurd (false≢true h)
    resource_is typings instance (Some d) h = by (is_resource d.sort) refl (info_at known.infos d.spot) refl h
      where
        by : (b : Bool) → is_resource d.sort ≡ b → (found : Option Info) → info_at known.infos d.spot ≡ found → IsTrue (is_met (made_of known typings instance (resource_if b found))) → Made typings (Some d)
        by false is found at h = absurd (false≢true h)
        by true is None at h = absurd (false≢true h)
        by true is (Some (info.Component ty)) at h = record { one = d; same = refl; is = is; ty = ty; info = at; takes = met_takes (takes_as_many known.signatures ty typings) _ h }
        by true is (Some (info.Value typed)) at h = absurd (false≢true h)
        by true is (Some (info.«Type» ty)) at h = absurd (false≢true h)
        by true is (Some (info.Enumeration number literals)) at h = absurd (false≢true h)
        by true is (Some (info.Record fields)) at h = absurd (false≢true h)
        by true is (Some (info.OpType ty)) at h = absurd (false≢true h)
        by true is (Some (info.Operation ty component is_local)) at h = absurd (false≢true h)

    deciding_same : (qualified : QualifiedName) → named_deciding qualified ≡ deciding qualified
    deciding_same qualified = by qualified.second
      where
        by : (second : Option Name) → named_deciding (record qualified { second = second }) ≡ deciding (record qualified { second = second })
        by None = refl
        by (Some name) = refl

    declared_is : (meaning : Option Meaning) (d : Decl) → decl_of meaning ≡ Some d → meaning ≡ Some (Declared d)
    declared_is None d e = absurd (false≢true (ap is_some e))
    declared_is (Some (MeansPredefined name)) d e = absurd (false≢true (ap is_some e))
    declared_is (Some (Declared decl)) d e = let same : decl ≡ d = cc in ap (λ one. Some (Declared one)) same

    made_invokes : (span : Span) (resource : QualifiedName) (typings : List Typing) (on : Option Typing) (args : List Expr) (machine : Expr) → length args ≡ length (typed_exprs_of typings)
        → ErrorFree (instance_typing known span (resource_named known resource) (typed_exprs_of typings) (machine_of on)).found
        → IsTrue (list_all (expr_invokes test) args) → IsTrue (expr_invokes test machine) → IsTrue (expr_invokes test (instance_core scene (meant_by scene.facts (deciding resource)) args machine))
    made_invokes span resource typings on args machine count whole all passes =
        let decl = resource_named known resource in
        let found = made_found known span (resource_type known.infos decl) (typed_exprs_of typings) (machine_of on) in
        let is = resource_is (typed_exprs_of typings) (instance_type decl) decl
        (rule_met (is_met (made_of known (typed_exprs_of typings) (instance_type decl) (resource_type known.infos decl))) BadType span (error_free_second found _ whole)) in
        let name : resource_named known resource ≡ decl_of (meaning_at scene.facts.uses (spot_of (deciding resource).span)) =
        λ i. decl_of (meaning_at (uses i) (spot_of (deciding_same resource i).span)) in
        let means = declared_is (meaning_at scene.facts.uses (spot_of (deciding resource).span)) is.one (sym name ∙ is.same) in
        let there : meant_by scene.facts (deciding resource) ≡ is.one.spot = ap (λ meaning. unwrap_or (option_map (λ (d : Decl). d.spot) (decl_of meaning)) (spot_of (deciding resource).span)) means in
        instance_invokes (meant_by scene.facts (deciding resource)) args machine
        (λ number at.
        subst (λ (n : ℕ). IsTrue (test.makes number n)) (sym count)
        (reads.makes (spot_of (deciding resource).span) is.one is.ty number (typed_exprs_of typings) means is.is (ap (λ spot. position (same_spot spot) scene.tables.components) (sym there) ∙ at) is.info is.takes))
        all passes

    -- ---- each tree, when its parts are so

    abbrev CreateGood : Create → Type 0
    CreateGood tree = ErrorFree (infer_create tree known).found → IsTrue (expr_invokes test (of_create scene tree).1)

    abbrev TreeGood : Tree → Type 0
    TreeGood tree = ErrorFree (infer_expr tree known).found → IsTrue (lowered_invokes test (core_expr scene tree))

    abbrev InvocationGood : Invocation → Type 0
    InvocationGood tree = ErrorFree (call_typing known (infer_invocation tree known)).found → IsTrue (expr_invokes test (call_of scene (of_invocation scene tree)))

    abbrev PartGood : PartTree → Type 0
    PartGood tree = ErrorFree (part_found (infer_part tree known)) → IsTrue (part_invokes test (of_part scene tree).1)

    abbrev good : Claim
    good = record { create = CreateGood; expr = TreeGood; invocation = InvocationGood; part = PartGood }

    all_good : (trees : List (Known TreeGood)) → ErrorFree (all_found (map (λ (infer : Inferrer). infer known) (map infer_expr (map (λ (tree : Known TreeGood). tree.0) trees))))
        → AllInvoke (map (λ (one : LoweredTree). one.1) (map (told scene) (map (λ (tree : Known TreeGood). tree.0) trees)))
    all_good [] whole = refl
    all_good (tree ∷ trees) whole =
        and_from _ _ (tree.1 (error_free_first (infer_expr tree.0 known).found _ whole)) (all_good trees (error_free_second (infer_expr tree.0 known).found _ whole))

    parts_good : (parts : List (Known PartGood)) → ErrorFree (parts_found (map (λ (infer : PartInferrer). infer known) (map infer_part (map (λ (part : Known PartGood). part.0) parts))))
        → IsTrue (list_all (part_invokes test) (map (λ (part : PartTree × Part). part.1) (map (of_part scene) (map (λ (part : Known PartGood). part.0) parts))))
    parts_good [] whole = refl
    parts_good (part ∷ parts) whole =
        and_from _ _ (part.1 (error_free_first (part_found (infer_part part.0 known)) _ whole)) (parts_good parts (error_free_second (part_found (infer_part part.0 known)) _ whole))

    value_good : (tree : Known TreeGood) → ErrorFree (infer_expr tree.0 known).found → IsTrue (expr_invokes test (core_value scene tree.0))
    value_good tree whole = value_of_invokes test (core_expr scene tree.0) (tree.1 whole)

    typed_lengths : (trees : List (Known TreeGood)) → length (map (λ (one : LoweredTree). one.1) (map (told scene) (map (λ (tree : Known TreeGood). tree.0) trees)))
        ≡ length (typed_exprs_of (map (λ (infer : Inferrer). infer known) (map infer_expr (map (λ (tree : Known TreeGood). tree.0) trees))))
    typed_lengths [] = refl
    typed_lengths (tree ∷ trees) = ap suc (typed_lengths trees)

    values_lengths : (trees : List (Known TreeGood)) → length (values (map (λ (one : LoweredTree). one.1) (map (told scene) (map (λ (tree : Known TreeGood). tree.0) trees))))
        ≡ length (typed_exprs_of (map (λ (infer : Inferrer). infer known) (map infer_expr (map (λ (tree : Known TreeGood). tree.0) trees))))
    values_lengths trees = length-map (map (λ (one : LoweredTree). one.1) (map (told scene) (map (λ (tree : Known TreeGood). tree.0) trees))) value_of ∙ typed_lengths trees

    create_good : (y : CreateNode good) → ErrorFree (from_create inferring (bare_create good y) known).found → IsTrue (expr_invokes test (from_create (lowering scene) (bare_create good y)).1)
    create_good (Create-F.Resource span resource arguments None) whole =
        let typings = map (λ (infer : Inferrer). infer known) (map infer_expr (map (λ (tree : Known TreeGood). tree.0) arguments)) in
        let parts = error_free_first (all_found typings ++ machine_found None) _ whole in
        made_invokes span resource typings None (values (map (λ (one : LoweredTree). one.1) (map (told scene) (map (λ (tree : Known TreeGood). tree.0) arguments)))) (core.Leaf leaf.MyMachine) (values_lengths arguments)
        (error_free_second (all_found typings ++ machine_found None) _ whole)
        (values_invoke _ (all_good arguments (error_free_first (all_found typings) _ parts))) (leaf_rule test leaf.MyMachine)
    create_good (Create-F.Resource span resource arguments (Some machine)) whole =
        let typings = map (λ (infer : Inferrer). infer known) (map infer_expr (map (λ (tree : Known TreeGood). tree.0) arguments)) in
        let parts = error_free_first (all_found typings ++ machine_found (Some (infer_expr machine.0 known))) _ whole in
        made_invokes span resource typings (Some (infer_expr machine.0 known)) (values (map (λ (one : LoweredTree). one.1) (map (told scene) (map (λ (tree : Known TreeGood). tree.0) arguments)))) (core_value scene machine.0) (values_lengths arguments)
        (error_free_second (all_found typings ++ machine_found (Some (infer_expr machine.0 known))) _ whole)
        (values_invoke _ (all_good arguments (error_free_first (all_found typings) _ parts))) (value_good machine (error_free_second (all_found typings) _ parts))
    create_good (Create-F.Machine span) whole = leaf_rule test leaf.MakeMachine

    expr_good : (y : ExprNode good) → ErrorFree (from_expr inferring (bare_expr good y) known).found → IsTrue (lowered_invokes test (from_expr (lowering scene) (bare_expr good y)).1)
    expr_good (Expr-F.Literal span literal) whole = constant_invokes (known_value (literal_typed literal).value)
    expr_good (Expr-F.Name name) whole = name_invokes name.span
    expr_good (Expr-F.BasicType span basic) whole = nothing_invokes test
    expr_good (Expr-F.Conversion span conversion value) whole =
        apply_rule test (conversion_function conversion) (core_value scene value.0 ∷ []) (and_from _ _ (value_good value (error_free_first (infer_expr value.0 known).found _ whole)) refl)
    expr_good (Expr-F.Group span inner) whole = value_good inner (error_free_first (infer_expr inner.0 known).found _ whole)
    expr_good (Expr-F.Parts span parts) whole =
        array_rule test _ (parts_good parts (error_free_first (parts_found (map (λ (infer : PartInferrer). infer known) (map infer_part (map (λ (part : Known PartGood). part.0) parts)))) _ whole))
    expr_good (Expr-F.Field span owner field) whole =
        field_invokes (told scene owner.0) field (typed_expr scene.facts (told scene owner.0).0).named (owner.1 (error_free_first (infer_expr owner.0 known).found _ whole))
    expr_good (Expr-F.Index span array first None) whole =
        let found = error_free_first ((infer_expr array.0 known).found ++ ((infer_expr first.0 known).found ++ [])) _ whole in
        let after = error_free_second (infer_expr array.0 known).found _ found in
        part_of_invokes test (core_expr scene array.0) (step.At (core_value scene first.0)) (array.1 (error_free_first (infer_expr array.0 known).found _ found))
        (at_rule test (core_value scene first.0) (value_good first (error_free_first (infer_expr first.0 known).found _ after)))
    expr_good (Expr-F.Index span array first (Some second)) whole =
        let found = error_free_first ((infer_expr array.0 known).found ++ ((infer_expr first.0 known).found ++ (infer_expr second.0 known).found)) _ whole in
        let after = error_free_second (infer_expr array.0 known).found _ found in
        part_of_invokes test (core_expr scene array.0) (step.At2 (core_value scene first.0) (core_value scene second.0)) (array.1 (error_free_first (infer_expr array.0 known).found _ found))
        (at2_rule test (core_value scene first.0) (core_value scene second.0)
        (value_good first (error_free_first (infer_expr first.0 known).found _ after)) (value_good second (error_free_second (infer_expr first.0 known).found _ after)))
    expr_good (Expr-F.Call invocation) whole = invocation.1 whole
    expr_good (Expr-F.Create create) whole = create.1 whole
    expr_good (Expr-F.Unary span operator operand) whole =
        unary_rule test (prefix_of operator) (core_value scene operand.0) (value_good operand (error_free_first (infer_expr operand.0 known).found _ whole))
    expr_good (Expr-F.Pending span operation) whole =
        naming_invokes test scene (meant_by scene.facts operation) (λ operation number. core.Leaf (leaf.Count number)) (λ operation number. leaf_rule test (leaf.Count number))
    expr_good (Expr-F.Binary span left operator right) whole =
        let found = error_free_first ((infer_expr left.0 known).found ++ (infer_expr right.0 known).found) _ whole in
        binary_invokes operator (core_value scene left.0) (core_value scene right.0)
        (value_good left (error_free_first (infer_expr left.0 known).found _ found)) (value_good right (error_free_second (infer_expr left.0 known).found _ found))

    invocation_good : (y : InvocationNode good) → ErrorFree (call_typing known (from_invocation inferring (bare_invocation good y) known)).found → IsTrue (expr_invokes test (call_of scene (from_invocation (lowering scene) (bare_invocation good y))))
    invocation_good y whole =
        let called = from_invocation inferring (bare_invocation good y) known in
        let sending = from_invocation (lowering scene) (bare_invocation good y) in
        let arguments = typed_exprs_of called.arguments in
        let typed = called.callee.typed_expr in
        let final = type_of scene.facts y.callee.0 in
        let first = error_free_first (called_found called) _ whole in
        let found = error_free_first called.callee.found _ first in
        let callee = y.callee.1 found in
        let passes = call_passes test scene allowed known reads called.span typed final arguments (error_free_second (called_found called) _ whole) in
        let target = invoked_target test scene allowed known reads test.calls (core_value scene y.callee.0) typed final (lowered_of sending.arguments) (value_of_invokes test (core_expr scene y.callee.0) callee)
        (tree_fits test scene allowed.ends known reads y.callee.0 found) (λ number one. ((passes number one).0, (passes number one).1 ∙ sym (typed_lengths y.arguments))) in
        call_invokes sending (typed_expr scene.facts sending.callee.0).named callee (all_good y.arguments (error_free_second called.callee.found _ first))
        (subst (λ (tree : Tree). IsTrue (target_passes test.calls (expr_seen test (core_value scene y.callee.0)) (length (arguments_by (params_of scene.facts (type_of scene.facts tree)) (lowered_of sending.arguments)))))
        (sym (ap (λ (one : LoweredTree). one.0) (told_is scene y.callee.0))) target)

    parts_of_good : (span : Span) (count : Option (Known TreeGood)) (value : Known TreeGood)
        → ErrorFree (part_found (from_part inferring (bare_part good (record { span = span; count = count; value = value })) known))
        → IsTrue (part_invokes test (from_part (lowering scene) (bare_part good (record { span = span; count = count; value = value }))).1)
    parts_of_good span None value whole = one_rule test (core_value scene value.0) (value_good value (error_free_first (infer_expr value.0 known).found _ whole))
    parts_of_good span (Some count) value whole =
        let found = error_free_first ((infer_expr count.0 known).found ++ (infer_expr value.0 known).found) _ whole in
        repeated_rule test (core_value scene count.0) (core_value scene value.0)
        (value_good count (error_free_first (infer_expr count.0 known).found _ found)) (value_good value (error_free_second (infer_expr count.0 known).found _ found))

    part_good : (y : PartNode good) → ErrorFree (part_found (from_part inferring (bare_part good y) known)) → IsTrue (part_invokes test (from_part (lowering scene) (bare_part good y)).1)
    part_good y = parts_of_good y.span y.count y.value

    -- ---- all trees

    by_parts : ByParts good
    by_parts = record {
      create = λ y. subst (λ t. t) (λ i. ErrorFree (create_folds inferring (bare_create good y) i known).found → IsTrue (expr_invokes test (create_folds (lowering scene) (bare_create good y) i).1)) (create_good y);
      expr = λ y. subst (λ t. t) (λ i. ErrorFree (expr_folds inferring (bare_expr good y) i known).found → IsTrue (lowered_invokes test (expr_folds (lowering scene) (bare_expr good y) i).1)) (expr_good y);
      invocation = λ y. subst (λ t. t)
          (λ i. ErrorFree (call_typing known (invocation_folds inferring (bare_invocation good y) i known)).found → IsTrue (expr_invokes test (call_of scene (invocation_folds (lowering scene) (bare_invocation good y) i)))) (invocation_good y);
      part = λ y. subst (λ t. t) (λ i. ErrorFree (part_found (part_folds inferring (bare_part good y) i known)) → IsTrue (part_invokes test (part_folds (lowering scene) (bare_part good y) i).1)) (part_good y);
    }

    pub tree_invokes : (tree : Tree) → TreeGood tree
    tree_invokes = each_expr good by_parts

    pub create_invokes : (tree : Create) → CreateGood tree
    create_invokes = each_create good by_parts

    pub expr_value_invokes : (tree : Tree) → ErrorFree (infer_expr tree known).found → IsTrue (expr_invokes test (core_value scene tree))
    expr_value_invokes tree whole = value_of_invokes test (core_expr scene tree) (tree_invokes tree whole)

    pub expr_place_invokes : (tree : Tree) → ErrorFree (infer_expr tree known).found → IsTrue (place_invokes test (core_place scene tree))
    expr_place_invokes tree whole = place_of_invokes test (core_expr scene tree) (tree_invokes tree whole)
