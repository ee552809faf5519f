-- What is mentioned by what an expression is in the core passes a test that the scene passes, and all that the names in the
-- expression are in the core.
use Rattle.std.proofs.Common.{◌≡◌, ℕ, negsuc, Bool, true, false, List, [], ◌∷◌, Option, Some, None, Result, Ok, Err, IsTrue, map, position, if◌then◌else◌, zip, refl, subst}
use Rattle.std.proofs.lemmas.Bool.{and_from}
use Rattle.std.specs.List.{list_all}
use Rattle.sr_check_expr.specs.declared.typed_expr.Named.{Named}
use Rattle.sr_check_expr.specs.declared.typed_expr.Named.TheVariants as named
use Rattle.sr_check_expr.specs.Exprs.{prefix_of}
use Rattle.sr_check_expr.specs.LiteralTypes.{literal_typed}
use Rattle.sr_core.specs.declared.component.Operation.{Operation}
use Rattle.sr_core.specs.declared.expression.Expr.{Expr}
use Rattle.sr_core.specs.declared.expression.Expr.TheVariants as core
use Rattle.sr_core.specs.declared.expression.Function.{Function}
use Rattle.sr_core.specs.declared.expression.Function.TheVariants as function
use Rattle.sr_core.specs.declared.expression.Leaf.TheVariants as leaf
use Rattle.sr_core.specs.declared.expression.Part.{Part}
use Rattle.sr_core.specs.declared.expression.Readable.{Readable}
use Rattle.sr_core.specs.declared.expression.Step.TheVariants as step
use Rattle.sr_core.specs.declared.expression.Step.{Step}
use Rattle.sr_core.specs.declared.owner.Root.{Root}
use Rattle.sr_core.specs.declared.statement.Scope.{Scope}
use Rattle.sr_tables.specs.declared.sites.Mention.{Mention}
use Rattle.sr_tables.specs.declared.sites.Mention.TheVariants as mention
use Rattle.sr_names.specs.declared.meaning.Meaning.{Meaning}
use Rattle.sr_names.specs.declared.meaning.Meaning.TheVariants.{Predefined as MeansPredefined, Declared}
use Rattle.sr_names.specs.declared.predefined.Predefined.{Predefined}
use Rattle.sr_names.specs.declared.predefined.Predefined.TheVariants.{Read, Eof, Abs, Min, Max, Low, High, Lb, Ub, Length, Pred, Succ, MyResource, MyVm}
use Rattle.sr_names.specs.declared.spot.Spot.{Spot}
use Rattle.sr_names.specs.Spots.{same_spot, spot_of}
use Rattle.sr_names.specs.declared.meaning.Decl.{Decl}
use Rattle.sr_order.specs.Names.{create_names, create_names_step, expr_names, expr_names_step, invocation_names, invocation_names_step, part_names, part_names_step, qualified_names}
use Rattle.sr_order.specs.Spans.{joined}
use Rattle.sr_check.proofs.Each.{Each, each-left, each-right}
use Rattle.sr_names.specs.Uses.{meaning_at}
use Rattle.sr_tree.specs.declared.expr.BinaryOperator.{BinaryOperator}
use Rattle.sr_tree.specs.declared.expr.BinaryOperator.TheVariants as binary
use Rattle.sr_tree.specs.declared.expr.Create.{Create}
use Rattle.sr_tree.specs.declared.expr.Create.TheFolds.{fold_out-Invocation}
use Rattle.sr_tree.specs.declared.expr.Create.TheOpen.{Create-F, Expr-F}
use Rattle.sr_tree.specs.declared.expr.Expr.{Expr as Tree}
use Rattle.sr_tree.specs.declared.expr.Invocation.{Invocation, out-Invocation}
use Rattle.sr_tree.specs.declared.expr.Part.{Part as PartTree}
use Rattle.sr_tree.specs.declared.name.Name.{Name}
use Rattle.sr_types.specs.declared.signature.Mode.{Mode}
use Rattle.sr_types.specs.declared.signature.Mode.TheVariants.{Val, Var, Res}
use Rattle.sr_types.specs.declared.signature.Param.{Param}
use Rattle.sr_types.specs.declared.ty.Ty.{Ty, out-Ty}
use Rattle.sr_types.specs.declared.ty.Ty.TheOpen.{Ty-F}
use Rattle.sr_value.specs.declared.fault.Fault.{Fault}
use Rattle.sr_value.specs.declared.place.Span.{Span}
use Rattle.sr_value.specs.declared.value.Value.{Value}
use Rattle.sr_value.specs.declared.value.Value.TheVariants as value
use Rattle.sr_check_expr.specs.Meanings.{typed_expr, known, constant_at, type_of, params_of, meant_by}
use Rattle.sr_lower_expr.specs.Operators.{binary_core, conversion_function}
use Rattle.sr_lower_expr.specs.Shapes.{shape_of_type}
use Rattle.sr_tables.specs.Parts.{deciding}
use Rattle.sr_lower_expr.specs.declared.scene.Lowered.{Lowered}
use Rattle.sr_lower_expr.specs.declared.scene.Scene.{Scene}
use Rattle.sr_lower_expr.specs.Expressions.{LoweredTree, LoweredInvocation, argument_core, arguments_by, call_core, call_of, call_returns, constant_or_nothing, core_create, core_expr, core_place, core_sending, core_value, lowered_of, end_or_nothing, end_value, ends_core, field_core, field_number, function_core, instance_core, is_second, layer_member, literals_in, meaning_core, name_core, named_core, named_types, reading_core, readable_of, readings_core, sent_arguments, spec_operation, told, trees_of, values, with_core, without_number}
use Rattle.sr_lower_expr.specs.Places.{naming, nothing, nowhere, operation_at, operation_expr, operation_number, own_place, own_root, part_of, place_at, place_of, root_of, value_of, whose_by}
use Rattle.sr_lower_expr.proofs.Each.{one_taken, turned_passes, zip_passes}
use Rattle.sr_tree.proofs.ExprFolds.{ByParts, Claim, CreateNode, ExprNode, InvocationNode, Known, PartNode, bare_create, bare_expr, bare_invocation, bare_part, create_folds, each_create, each_expr, expr_folds, from_create, from_expr, from_invocation, from_part, invocation_folds, part_folds}
use Rattle.sr_order.proofs.NameFolds.{expr_naming}
use Rattle.sr_lower_expr.proofs.LowerFold.{lowering}
use Rattle.sr_front.proofs.Mentioned.MentionRules.{and_rule, apply_rule, argument_passes, array_rule, at2_rule, at_rule, binary_rule, call_rule, create_rule, expr_passes, field_rule, further_rule, leaf_rule, load_rule, member_rule, of_rule, one_rule, or_rule, part_passes, place_passes, place_rule, read_rule, reading_passes, reading_rule, repeated_rule, res_rule, step_passes, unary_rule, val_rule, var_rule}
use Rattle.sr_lower_expr.specs.declared.scene.Lowered.TheVariants as lowered
use Rattle.sr_lower_expr.proofs.Trees.{of_create, of_invocation, of_part}
use Rattle.sr_lower_expr.proofs.PlaceNumbers.{operation_found}

-- What a scene names passes a test of what is mentioned.
pub record Means (scene : Scene) (test : Mention → Bool) : Type 0 where
  pub own : (spot : Spot) → IsTrue (test (mention.Variable (own_root scene spot)))
  pub nowhere : IsTrue (test (mention.Variable nowhere))
  pub operations : (scope : Scope) (component : ℕ) → IsTrue (test (mention.Operation (whose_by scene scope component)))
  pub machine : IsTrue (test mention.Machine)
  pub counts : (spot : Spot) (operation : Operation) → operation_at scene spot ≡ Some operation → IsTrue (test (mention.Count (operation_number scene spot)))

module _ (scene : Scene) (test : Mention → Bool) (means : Means scene test) where
  abbrev pub lowered_passes : Lowered → Bool
  lowered_passes (lowered.Place place) = place_passes test place
  lowered_passes (lowered.Value value) = expr_passes test value

  -- ---- expressions that are places

  pub nothing_passes : IsTrue (expr_passes test nothing)
  nothing_passes = leaf_rule test (leaf.Constant (value.Bool false)) refl

  place_at_passes : (one : Root) → IsTrue (test (mention.Variable one)) → IsTrue (place_passes test (place_at one))
  place_at_passes one ok = place_rule test one [] ok refl

  pub value_of_passes : (one : Lowered) → IsTrue (lowered_passes one) → IsTrue (expr_passes test (value_of one))
  value_of_passes (lowered.Place place) ok = load_rule test place ok
  value_of_passes (lowered.Value value) ok = ok

  place_of_passes : (one : Lowered) → IsTrue (lowered_passes one) → IsTrue (place_passes test (place_of one))
  place_of_passes (lowered.Place place) ok = ok
  place_of_passes (lowered.Value value) ok = place_at_passes nowhere means.nowhere

  part_of_passes : (one : Lowered) (step : Step) → IsTrue (lowered_passes one) → IsTrue (step_passes test step) → IsTrue (lowered_passes (part_of one step))
  part_of_passes (lowered.Place place) step ok ok_step = further_rule test place step ok ok_step
  part_of_passes (lowered.Value value) step ok ok_step = of_rule test value step ok ok_step

  pub own_place_passes : (spot : Spot) → IsTrue (place_passes test (own_place scene spot))
  own_place_passes spot = place_at_passes (own_root scene spot) (means.own spot)

  naming_passes : (spot : Spot) (made : Operation → ℕ → Expr) → ((operation : Operation) → operation_at scene spot ≡ Some operation → IsTrue (expr_passes test (made operation (operation_number scene spot))))
      → IsTrue (expr_passes test (naming scene spot made))
  naming_passes spot made ok = by (operation_at scene spot) refl
    where
      by : (found : Option Operation) → operation_at scene spot ≡ found → IsTrue (expr_passes test (operation_found scene spot made found))
      by None is = nothing_passes
      by (Some operation) is = ok operation is

  pub operation_expr_passes : (spot : Spot) → IsTrue (expr_passes test (operation_expr scene spot))
  operation_expr_passes spot =
      naming_passes spot (λ operation number. core.Leaf (leaf.Operation (whose_by scene operation.scope operation.component) number))
      (λ operation is. leaf_rule test (leaf.Operation (whose_by scene operation.scope operation.component) (operation_number scene spot)) (and_from _ _ (means.operations operation.scope operation.component) refl))

  abbrev Good : Lowered → Type 0
  Good one = IsTrue (lowered_passes one)

  abbrev AllGood : List Lowered → Type 0
  AllGood all = IsTrue (list_all lowered_passes all)

  -- ---- constants and names

  constant_passes : (written : Option Value) → IsTrue (expr_passes test (constant_or_nothing written))
  constant_passes None = nothing_passes
  constant_passes (Some written) = leaf_rule test (leaf.Constant written) refl

  -- a variable, where it is one, passes
  abbrev VariablePasses : Spot → Option Value → Option Operation → Type 0
  VariablePasses spot written operation = written ≡ None → operation ≡ None → IsTrue (test (mention.Variable (root_of scene spot)))

  named_passes : (spot : Spot) (written : Option Value) (operation : Option Operation) → VariablePasses spot written operation → Good (named_core scene spot written operation)
  named_passes spot (Some written) operation variable = leaf_rule test (leaf.Constant written) refl
  named_passes spot None (Some operation) variable = operation_expr_passes spot
  named_passes spot None None variable = place_at_passes (root_of scene spot) (variable refl refl)

  meaning_passes : (meaning : Option Meaning) → ((decl : Decl) → meaning ≡ Some (Declared decl) → VariablePasses decl.spot (constant_at scene.facts decl.spot) (operation_at scene decl.spot)) → Good (meaning_core scene meaning)
  meaning_passes (Some (Declared decl)) variable = named_passes decl.spot (constant_at scene.facts decl.spot) (operation_at scene decl.spot) (variable decl refl)
  meaning_passes (Some (MeansPredefined Eof)) variable = leaf_rule test (leaf.Constant (value.Int (negsuc 0))) refl
  meaning_passes _ variable = nothing_passes

  -- what a name is in the core passes
  abbrev pub NamePasses : Span → Type 0
  NamePasses span = Good (name_core scene span)

  abbrev pub NamesPass : List Span → Type 0
  NamesPass = Each NamePasses

  pub name_passes : (span : Span)
      → ((decl : Decl) → meaning_at scene.facts.uses (spot_of span) ≡ Some (Declared decl) → VariablePasses decl.spot (constant_at scene.facts decl.spot) (operation_at scene decl.spot)) → NamePasses span
  name_passes span = meaning_passes (meaning_at scene.facts.uses (spot_of span))

  -- where each variable passes each name does
  pub all_names_pass : ((spot : Spot) → IsTrue (test (mention.Variable (root_of scene spot)))) → (spans : List Span) → NamesPass spans
  all_names_pass variables [] = tt
  all_names_pass variables (span ∷ spans) = (name_passes span (λ decl means constant operation. variables decl.spot), all_names_pass variables spans)

  -- ---- parts of values

  layer_passes : {A : Type 0} (owner : Lowered) (name : List ℕ) (layer : Ty-F A) → Good owner → Good (layer_member scene owner name layer)
  layer_passes owner name (Ty-F.Rec spot) ok = part_of_passes owner (step.Field (field_number scene.facts spot name)) ok (field_rule test (field_number scene.facts spot name))
  layer_passes owner name (Ty-F.Resource spot) ok =
      naming_passes (spec_operation scene.facts spot name) (λ operation number. core.Member (value_of owner) number)
      (λ operation is. member_rule test (value_of owner) (operation_number scene (spec_operation scene.facts spot name)) (value_of_passes owner ok))
  layer_passes owner name _ ok = nothing_passes

  field_passes : (owner : LoweredTree) (field : Name) (what : Named) → NamePasses field.span → Good owner.1 → Good (field_core scene owner field what)
  field_passes owner field (named.Component decl) name ok = name
  field_passes owner field _ name ok = layer_passes owner.1 field.text (out-Ty (type_of scene.facts owner.0)) ok

  -- ---- predefined functions

  values_passes : (all : List Lowered) → AllGood all → IsTrue (list_all (expr_passes test) (values all))
  values_passes = turned_passes (expr_passes test) lowered_passes value_of (value_of_passes)

  applied : (called : Function) (all : List Lowered) → AllGood all → IsTrue (expr_passes test (core.Apply called (values all)))
  applied called all ok = apply_rule test called (values all) (values_passes all ok)

  ended : (end : Result Value Fault) → IsTrue (expr_passes test (end_or_nothing end))
  ended (Ok end) = leaf_rule test (leaf.Constant end) refl
  ended (Err fault) = nothing_passes

  ends_passes : (is_high : Bool) (types : List Ty) → IsTrue (expr_passes test (ends_core scene is_high types))
  ends_passes is_high [] = nothing_passes
  ends_passes is_high (ty ∷ types) = ended (end_value is_high (shape_of_type scene.tables.shapes ty))

  without_passes : (trees : List Tree) (all : List Lowered) → AllGood all → AllGood (without_number trees all)
  without_passes (array ∷ number ∷ []) all ok = one_taken lowered_passes all ok
  without_passes trees all ok = ok

  bound_passes : (one two : Function) (trees : List Tree) (all : List Lowered) → AllGood all
      → IsTrue (expr_passes test (core.Apply (if is_second scene.facts trees then two else one) (values (without_number trees all))))
  bound_passes one two trees all ok = applied (if is_second scene.facts trees then two else one) (without_number trees all) (without_passes trees all ok)

  readings_passes : (trees : List Tree) (all : List Lowered) → AllGood all → IsTrue (list_all (reading_passes test) (readings_core scene.facts trees all))
  readings_passes trees all ok =
      turned_passes (reading_passes test) (λ (pair : Readable × Lowered). lowered_passes pair.1) reading_core
      (λ pair good. reading_rule test pair.0 (place_of pair.1) (place_of_passes pair.1 good))
      (zip (map (λ tree. readable_of (type_of scene.facts tree)) trees) all)
      (zip_passes lowered_passes (map (λ tree. readable_of (type_of scene.facts tree)) trees) all ok)

  function_passes : (name : Predefined) (trees : List Tree) (all : List Lowered) → AllGood all → IsTrue (expr_passes test (function_core scene name trees all))
  function_passes Abs trees all ok = applied function.Abs all ok
  function_passes Min trees all ok = applied function.Min all ok
  function_passes Max trees all ok = applied function.Max all ok
  function_passes Low trees all ok = ends_passes false (named_types scene.facts trees)
  function_passes High trees all ok = ends_passes true (named_types scene.facts trees)
  function_passes Lb trees all ok = bound_passes function.LowBound function.LowBound2 trees all ok
  function_passes Ub trees all ok = bound_passes function.HighBound function.HighBound2 trees all ok
  function_passes Length trees all ok = applied function.Length all ok
  function_passes Pred trees all ok = applied function.Pred all ok
  function_passes Succ trees all ok = applied (function.Succ (literals_in scene.facts trees)) all ok
  function_passes MyResource trees all ok = leaf_rule test leaf.MyResource refl
  function_passes MyVm trees all ok = leaf_rule test leaf.MyMachine (and_from _ _ means.machine refl)
  function_passes Read trees all ok = read_rule test (readings_core scene.facts trees all) (readings_passes trees all ok)
  function_passes _ trees all ok = nothing_passes

  -- ---- invocations

  argument_made : (mode : Mode) (one : Lowered) → Good one → IsTrue (argument_passes test (argument_core mode one))
  argument_made Val one ok = val_rule test (value_of one) (value_of_passes one ok)
  argument_made Var one ok = var_rule test (place_of one) (place_of_passes one ok)
  argument_made Res one ok = res_rule test (place_of one) (place_of_passes one ok)

  arguments_passes : (params : List Param) (all : List Lowered) → AllGood all → IsTrue (list_all (argument_passes test) (arguments_by params all))
  arguments_passes params all ok =
      turned_passes (argument_passes test) (λ (pair : Param × Lowered). lowered_passes pair.1) (λ pair. argument_core pair.0.mode pair.1)
      (λ pair good. argument_made pair.0.mode pair.1 good)
      (zip params all) (zip_passes lowered_passes params all ok)

  -- the parts of an invocation
  abbrev pub SendingGood : LoweredInvocation → Type 0
  SendingGood sending = IsTrue (lowered_passes sending.callee.1) × IsTrue (list_all lowered_passes (lowered_of sending.arguments))

  pub sent_passes : (sending : LoweredInvocation) → SendingGood sending → IsTrue (list_all (argument_passes test) (sent_arguments scene.facts sending))
  sent_passes sending ok = arguments_passes (params_of scene.facts (type_of scene.facts sending.callee.0)) (lowered_of sending.arguments) ok.1

  called_passes : (sending : LoweredInvocation) (what : Named) → SendingGood sending → IsTrue (expr_passes test (call_core scene sending what))
  called_passes sending (named.Predefined name) ok = function_passes name (trees_of sending.arguments) (lowered_of sending.arguments) ok.1
  called_passes sending (named.«Type» ty) ok = applied function.Record (lowered_of sending.arguments) ok.1
  called_passes sending _ ok =
      call_rule test (value_of sending.callee.1) (sent_arguments scene.facts sending) (call_returns scene sending)
      (value_of_passes sending.callee.1 ok.0) (sent_passes sending ok)

  pub call_passes : (sending : LoweredInvocation) → SendingGood sending → IsTrue (expr_passes test (call_of scene sending))
  call_passes sending ok = called_passes sending (typed_expr scene.facts sending.callee.0).named ok

  -- ---- create

  abbrev instance_found : List Expr → Expr → Option ℕ → Expr
  instance_found args machine None = nothing
  instance_found args machine (Some component) = core.Create component args machine

  instance_passes : (spot : Spot) (args : List Expr) (machine : Expr)
      → IsTrue (list_all (expr_passes test) args) → IsTrue (expr_passes test machine) → IsTrue (expr_passes test (instance_core scene spot args machine))
  instance_passes spot args machine ok_args ok_machine = by (position (same_spot spot) scene.tables.components) refl
    where
      by : (found : Option ℕ) → position (same_spot spot) scene.tables.components ≡ found → IsTrue (expr_passes test (instance_found args machine found))
      by None is = nothing_passes
      by (Some component) is = create_rule test component args machine ok_args ok_machine

  -- ---- operators

  binary_passes : (operator : BinaryOperator) (left right : Expr) → IsTrue (expr_passes test left) → IsTrue (expr_passes test right) → IsTrue (expr_passes test (binary_core operator left right))
  binary_passes binary.And left right ok_left ok_right = and_rule test left right ok_left ok_right
  binary_passes binary.Or left right ok_left ok_right = or_rule test left right ok_left ok_right
  binary_passes operator left right ok_left ok_right = binary_rule test _ left right ok_left ok_right

  -- ---- each tree, when its parts are so

  abbrev TreeGood : Tree → Type 0
  TreeGood tree = NamesPass (expr_names tree) → Good (told scene tree).1

  abbrev PartGood : PartTree → Type 0
  PartGood tree = NamesPass (part_names tree) → IsTrue (part_passes test (of_part scene tree).1)

  abbrev good : Claim
  good = record {
    create = λ tree. NamesPass (create_names tree) → IsTrue (expr_passes test (of_create scene tree).1);
    expr = TreeGood;
    invocation = λ tree. NamesPass (invocation_names tree) → SendingGood (of_invocation scene tree);
    part = PartGood;
  }

  all_good : (trees : List (Known TreeGood)) → NamesPass (joined (map expr_names (map (λ (tree : Known TreeGood). tree.0) trees))) → AllGood (map (λ (one : LoweredTree). one.1) (map (told scene) (map (λ (tree : Known TreeGood). tree.0) trees)))
  all_good [] names = refl
  all_good (tree ∷ trees) names = and_from _ _ (tree.1 (each-left NamePasses (expr_names tree.0) _ names)) (all_good trees (each-right NamePasses (expr_names tree.0) _ names))

  parts_good : (parts : List (Known PartGood)) → NamesPass (joined (map part_names (map (λ (part : Known PartGood). part.0) parts)))
      → IsTrue (list_all (part_passes test) (map (λ (part : PartTree × Part). part.1) (map (of_part scene) (map (λ (part : Known PartGood). part.0) parts))))
  parts_good [] names = refl
  parts_good (part ∷ parts) names = and_from _ _ (part.1 (each-left NamePasses (part_names part.0) _ names)) (parts_good parts (each-right NamePasses (part_names part.0) _ names))

  value_good : (tree : Known TreeGood) → NamesPass (expr_names tree.0) → IsTrue (expr_passes test (core_value scene tree.0))
  value_good tree names = value_of_passes (core_expr scene tree.0) (tree.1 names)

  create_good : (y : CreateNode good) → NamesPass (from_create expr_naming (bare_create good y)) → IsTrue (expr_passes test (from_create (lowering scene) (bare_create good y)).1)
  create_good (Create-F.Resource span resource arguments None) names =
      let after = each-right NamePasses (qualified_names resource) _ names in
      instance_passes (meant_by scene.facts (deciding resource)) _ _ (values_passes _ (all_good arguments (each-left NamePasses (joined (map expr_names (map (λ (tree : Known TreeGood). tree.0) arguments))) _ after)))
      (leaf_rule test leaf.MyMachine (and_from _ _ means.machine refl))
  create_good (Create-F.Resource span resource arguments (Some machine)) names =
      let after = each-right NamePasses (qualified_names resource) _ names in
      let passed = joined (map expr_names (map (λ (tree : Known TreeGood). tree.0) arguments)) in
      instance_passes (meant_by scene.facts (deciding resource)) _ _ (values_passes _ (all_good arguments (each-left NamePasses passed _ after)))
      (value_good machine (each-right NamePasses passed _ after))
  create_good (Create-F.Machine span) names = leaf_rule test leaf.MakeMachine refl

  expr_good : (y : ExprNode good) → NamesPass (from_expr expr_naming (bare_expr good y)) → Good (from_expr (lowering scene) (bare_expr good y)).1
  expr_good (Expr-F.Literal span literal) names = constant_passes (known (literal_typed literal).value)
  expr_good (Expr-F.Name name) names = names.0
  expr_good (Expr-F.BasicType span basic) names = nothing_passes
  expr_good (Expr-F.Conversion span conversion value) names = apply_rule test (conversion_function conversion) (core_value scene value.0 ∷ []) (and_from _ _ (value_good value names) refl)
  expr_good (Expr-F.Group span inner) names = value_good inner names
  expr_good (Expr-F.Parts span parts) names = array_rule test _ (parts_good parts names)
  expr_good (Expr-F.Field span owner field) names =
      field_passes (told scene owner.0) field (typed_expr scene.facts (told scene owner.0).0).named (each-right NamePasses (expr_names owner.0) (field.span ∷ []) names).0
      (owner.1 (each-left NamePasses (expr_names owner.0) _ names))
  expr_good (Expr-F.Index span array first None) names =
      let after = each-right NamePasses (expr_names array.0) _ names in
      part_of_passes (core_expr scene array.0) (step.At (core_value scene first.0)) (array.1 (each-left NamePasses (expr_names array.0) _ names))
      (at_rule test (core_value scene first.0) (value_good first (each-left NamePasses (expr_names first.0) _ after)))
  expr_good (Expr-F.Index span array first (Some second)) names =
      let after = each-right NamePasses (expr_names array.0) _ names in
      part_of_passes (core_expr scene array.0) (step.At2 (core_value scene first.0) (core_value scene second.0)) (array.1 (each-left NamePasses (expr_names array.0) _ names))
      (at2_rule test (core_value scene first.0) (core_value scene second.0) (value_good first (each-left NamePasses (expr_names first.0) _ after)) (value_good second (each-right NamePasses (expr_names first.0) _ after)))
  expr_good (Expr-F.Call invocation) names = call_passes (of_invocation scene invocation.0) (invocation.1 names)
  expr_good (Expr-F.Create create) names = create.1 names
  expr_good (Expr-F.Unary span operator operand) names = unary_rule test (prefix_of operator) (core_value scene operand.0) (value_good operand names)
  expr_good (Expr-F.Pending span operation) names =
      naming_passes (meant_by scene.facts operation) (λ found number. core.Leaf (leaf.Count number))
      (λ found is. leaf_rule test (leaf.Count (operation_number scene (meant_by scene.facts operation))) (and_from _ _ (means.counts (meant_by scene.facts operation) found is) refl))
  expr_good (Expr-F.Binary span left operator right) names =
      binary_passes operator (core_value scene left.0) (core_value scene right.0)
      (value_good left (each-left NamePasses (expr_names left.0) _ names)) (value_good right (each-right NamePasses (expr_names left.0) _ names))

  invocation_good : (y : InvocationNode good) → NamesPass (from_invocation expr_naming (bare_invocation good y)) → SendingGood (from_invocation (lowering scene) (bare_invocation good y))
  invocation_good y names = (y.callee.1 (each-left NamePasses (expr_names y.callee.0) _ names), all_good y.arguments (each-right NamePasses (expr_names y.callee.0) _ names))

  parts_of_good : (span : Span) (count : Option (Known TreeGood)) (value : Known TreeGood) → NamesPass (from_part expr_naming (bare_part good (record { span = span; count = count; value = value })))
      → IsTrue (part_passes test (from_part (lowering scene) (bare_part good (record { span = span; count = count; value = value }))).1)
  parts_of_good span None value names = one_rule test (core_value scene value.0) (value_good value names)
  parts_of_good span (Some count) value names =
      repeated_rule test (core_value scene count.0) (core_value scene value.0)
      (value_good count (each-left NamePasses (expr_names count.0) _ names)) (value_good value (each-right NamePasses (expr_names count.0) _ names))

  part_good : (y : PartNode good) → NamesPass (from_part expr_naming (bare_part good y)) → IsTrue (part_passes test (from_part (lowering scene) (bare_part good y)).1)
  part_good y = parts_of_good y.span y.count y.value

  -- ---- all trees

  by_parts : ByParts good
  by_parts = record {
    create = λ y. subst (λ t. t) (λ i. NamesPass (create_folds expr_naming (bare_create good y) i) → IsTrue (expr_passes test (create_folds (lowering scene) (bare_create good y) i).1)) (create_good y);
    expr = λ y. subst (λ t. t) (λ i. NamesPass (expr_folds expr_naming (bare_expr good y) i) → Good (expr_folds (lowering scene) (bare_expr good y) i).1) (expr_good y);
    invocation = λ y. subst (λ t. t) (λ i. NamesPass (invocation_folds expr_naming (bare_invocation good y) i) → SendingGood (invocation_folds (lowering scene) (bare_invocation good y) i)) (invocation_good y);
    part = λ y. subst (λ t. t) (λ i. NamesPass (part_folds expr_naming (bare_part good y) i) → IsTrue (part_passes test (part_folds (lowering scene) (bare_part good y) i).1)) (part_good y);
  }

  pub tree_passes : (tree : Tree) → NamesPass (expr_names tree) → IsTrue (lowered_passes (core_expr scene tree))
  tree_passes = each_expr good by_parts

  pub create_passes : (tree : Create) → NamesPass (create_names tree) → IsTrue (expr_passes test (core_create scene tree))
  create_passes = each_create good by_parts

  pub core_value_passes : (tree : Tree) → NamesPass (expr_names tree) → IsTrue (expr_passes test (core_value scene tree))
  core_value_passes tree names = value_of_passes (core_expr scene tree) (tree_passes tree names)

  pub core_place_passes : (tree : Tree) → NamesPass (expr_names tree) → IsTrue (place_passes test (core_place scene tree))
  core_place_passes tree names = place_of_passes (core_expr scene tree) (tree_passes tree names)

  -- ---- the parts of invocations

  trees_passes : (trees : List Tree) → NamesPass (joined (map expr_names trees)) → AllGood (map (λ (one : LoweredTree). one.1) (map (with_core scene) trees))
  trees_passes [] names = refl
  trees_passes (tree ∷ trees) names = and_from _ _ (tree_passes tree (each-left NamePasses (expr_names tree) _ names)) (trees_passes trees (each-right NamePasses (expr_names tree) _ names))

  pub sending_passes : (tree : Invocation) → NamesPass (invocation_names tree) → SendingGood (core_sending scene tree)
  sending_passes tree all =
      let names = subst NamesPass (fold_out-Invocation (List Span) (List Span) (List Span) (List Span) create_names_step expr_names_step invocation_names_step part_names_step tree) all in
      let callee = (out-Invocation tree).callee in
      (tree_passes callee (each-left NamePasses (expr_names callee) _ names), trees_passes (out-Invocation tree).arguments (each-right NamePasses (expr_names callee) _ names))

  pub all_told_passes : (sending : LoweredInvocation) → SendingGood sending → IsTrue (list_all (expr_passes test) (values (lowered_of sending.arguments)))
  all_told_passes sending ok = values_passes (lowered_of sending.arguments) ok.1
