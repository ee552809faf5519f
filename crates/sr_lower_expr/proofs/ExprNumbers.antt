-- Each number in what an expression is in the core names something.
use Rattle.std.proofs.Common.{◌≡◌, ℕ, negsuc, Bool, true, false, List, [], ◌∷◌, Option, Some, None, Result, Ok, Err, IsTrue, length, map, position, if◌then◌else◌, zip, refl, subst, arith}
use Rattle.std.proofs.lemmas.Bool.{and_from, lt-ltb}
use Rattle.std.specs.List.{list_all}
use Rattle.sr_check_expr.specs.declared.typed_expr.Named.{Named}
use Rattle.sr_check_expr.specs.declared.typed_expr.Named.TheVariants as named
use Rattle.sr_check_expr.specs.Exprs.{prefix_of}
use Rattle.sr_check_expr.specs.LiteralTypes.{literal_typed}
use Rattle.sr_core.specs.declared.component.Operation.{Operation}
use Rattle.sr_core.specs.declared.expression.Expr.{Expr}
use Rattle.sr_core.specs.declared.expression.Expr.TheVariants as core
use Rattle.sr_core.specs.declared.expression.Function.{Function}
use Rattle.sr_core.specs.declared.expression.Function.TheVariants as function
use Rattle.sr_core.specs.declared.expression.Leaf.TheVariants as leaf
use Rattle.sr_core.specs.declared.expression.Part.{Part}
use Rattle.sr_core.specs.declared.expression.Readable.{Readable}
use Rattle.sr_core.specs.declared.expression.Step.TheVariants as step
use Rattle.sr_core.specs.Numbers.{Where, argument_ok, expr_ok, place_ok}
use Rattle.sr_names.specs.declared.meaning.Meaning.{Meaning}
use Rattle.sr_names.specs.declared.meaning.Meaning.TheVariants.{Predefined as MeansPredefined, Declared}
use Rattle.sr_names.specs.declared.predefined.Predefined.{Predefined}
use Rattle.sr_names.specs.declared.predefined.Predefined.TheVariants.{Read, Eof, Abs, Min, Max, Low, High, Lb, Ub, Length, Pred, Succ, MyResource, MyVm}
use Rattle.sr_names.specs.declared.spot.Spot.{Spot}
use Rattle.sr_names.specs.Spots.{same_spot, spot_of}
use Rattle.sr_names.specs.Uses.{meaning_at}
use Rattle.sr_tree.specs.declared.expr.BinaryOperator.{BinaryOperator}
use Rattle.sr_tree.specs.declared.expr.BinaryOperator.TheVariants as binary
use Rattle.sr_tree.specs.declared.expr.Create.{Create}
use Rattle.sr_tree.specs.declared.expr.Create.TheOpen.{Create-F, Expr-F}
use Rattle.sr_tree.specs.declared.expr.Expr.{Expr as Tree}
use Rattle.sr_tree.specs.declared.expr.Invocation.{Invocation, out-Invocation}
use Rattle.sr_tree.specs.declared.expr.Part.{Part as PartTree}
use Rattle.sr_tree.specs.declared.name.Name.{Name}
use Rattle.sr_types.specs.declared.signature.Mode.{Mode}
use Rattle.sr_types.specs.declared.signature.Mode.TheVariants.{Val, Var, Res}
use Rattle.sr_types.specs.declared.signature.Param.{Param}
use Rattle.sr_types.specs.declared.ty.Ty.{Ty, out-Ty}
use Rattle.sr_types.specs.declared.ty.Ty.TheOpen.{Ty-F}
use Rattle.sr_value.specs.declared.fault.Fault.{Fault}
use Rattle.sr_value.specs.declared.place.Span.{Span}
use Rattle.sr_value.specs.declared.value.Value.{Value}
use Rattle.sr_value.specs.declared.value.Value.TheVariants as value
use Rattle.sr_check_expr.specs.Meanings.{typed_expr, known, constant_at, type_of, params_of, meant_by}
use Rattle.sr_lower_expr.specs.Operators.{binary_core, conversion_function}
use Rattle.sr_lower_expr.specs.Shapes.{shape_of_type}
use Rattle.sr_tables.specs.Parts.{deciding}
use Rattle.sr_lower_expr.specs.declared.scene.Lowered.{Lowered}
use Rattle.sr_lower_expr.specs.declared.scene.Scene.{Scene}
use Rattle.sr_lower_expr.specs.Expressions.{LoweredTree, LoweredInvocation, argument_core, arguments_by, call_core, call_of, call_returns, constant_or_nothing, core_create, core_expr, core_place, core_sending, core_value, lowered_of, end_or_nothing, end_value, ends_core, field_core, field_number, function_core, instance_core, is_second, layer_member, literals_in, meaning_core, name_core, named_core, named_types, reading_core, readable_of, readings_core, sent_arguments, spec_operation, told, trees_of, values, with_core, without_number}
use Rattle.sr_lower_expr.specs.Places.{nothing, operation_at, place_of, root_of, value_of}
use Rattle.sr_tree.proofs.ExprFolds.{ByParts, Claim, CreateNode, ExprNode, InvocationNode, Known, PartNode, bare_create, bare_expr, bare_invocation, bare_part, create_folds, each_create, each_expr, expr_folds, from_create, from_expr, from_invocation, from_part, invocation_folds, part_folds}
use Rattle.sr_lower_expr.proofs.LowerFold.{lowering}
use Rattle.sr_lower_expr.proofs.Each.{one_taken, turned_passes, zip_passes}
use Rattle.sr_lower_expr.proofs.ExprRules.{and_rule, apply_rule, array_rule, at2_rule, at_rule, binary_rule, call_rule, create_rule, field_rule, leaf_rule, member_rule, one_rule, or_rule, part_ok, read_rule, reading_ok, reading_rule, repeated_rule, res_rule, unary_rule, val_rule, var_rule}
use Rattle.sr_lower_expr.proofs.PlaceNumbers.{Fits, lowered_ok, naming_ok, nothing_ok, operation_expr_ok, part_of_ok, place_at_ok, place_of_ok, root_of_ok, value_of_ok}
use Rattle.sr_lower_expr.proofs.Trees.{of_create, of_invocation, of_part}
use Rattle.sr_lower_expr.proofs.Within.{position_within}

module _ (scene : Scene) (at : Where) (fits : Fits scene at) where
  abbrev Good : Lowered → Type 0
  Good one = IsTrue (lowered_ok one at)

  abbrev AllGood : List Lowered → Type 0
  AllGood all = IsTrue (list_all (λ one. lowered_ok one at) all)

  -- ---- constants and names

  constant_ok : (written : Option Value) → IsTrue (expr_ok (constant_or_nothing written) at)
  constant_ok None = nothing_ok at
  constant_ok (Some written) = leaf_rule at (leaf.Constant written) refl

  named_ok : (spot : Spot) (written : Option Value) (operation : Option Operation) → Good (named_core scene spot written operation)
  named_ok spot (Some written) operation = leaf_rule at (leaf.Constant written) refl
  named_ok spot None (Some operation) = operation_expr_ok scene at fits spot
  named_ok spot None None = place_at_ok at (root_of scene spot) (root_of_ok scene at fits spot)

  meaning_ok : (meaning : Option Meaning) → Good (meaning_core scene meaning)
  meaning_ok (Some (Declared decl)) = named_ok decl.spot (constant_at scene.facts decl.spot) (operation_at scene decl.spot)
  meaning_ok (Some (MeansPredefined Eof)) = leaf_rule at (leaf.Constant (value.Int (negsuc 0))) refl
  meaning_ok _ = nothing_ok at

  name_ok : (span : Span) → Good (name_core scene span)
  name_ok span = meaning_ok (meaning_at scene.facts.uses (spot_of span))

  -- ---- parts of values

  layer_ok : {A : Type 0} (owner : Lowered) (name : List ℕ) (layer : Ty-F A) → Good owner → Good (layer_member scene owner name layer)
  layer_ok owner name (Ty-F.Rec spot) ok = part_of_ok at owner (step.Field (field_number scene.facts spot name)) ok (field_rule at (field_number scene.facts spot name))
  layer_ok owner name (Ty-F.Resource spot) ok =
      naming_ok scene at fits (spec_operation scene.facts spot name) (λ operation number. core.Member (value_of owner) number)
      (λ operation number below. member_rule at (value_of owner) number (value_of_ok at owner ok) below)
  layer_ok owner name _ ok = nothing_ok at

  field_ok : (owner : LoweredTree) (field : Name) (what : Named) → Good owner.1 → Good (field_core scene owner field what)
  field_ok owner field (named.Component decl) ok = name_ok field.span
  field_ok owner field _ ok = layer_ok owner.1 field.text (out-Ty (type_of scene.facts owner.0)) ok

  -- ---- predefined functions

  values_ok : (all : List Lowered) → AllGood all → IsTrue (list_all (λ expr. expr_ok expr at) (values all))
  values_ok = turned_passes (λ expr. expr_ok expr at) (λ one. lowered_ok one at) value_of (value_of_ok at)

  applied : (called : Function) (all : List Lowered) → AllGood all → IsTrue (expr_ok (core.Apply called (values all)) at)
  applied called all ok = apply_rule at called (values all) (values_ok all ok)

  ended : (end : Result Value Fault) → IsTrue (expr_ok (end_or_nothing end) at)
  ended (Ok end) = leaf_rule at (leaf.Constant end) refl
  ended (Err fault) = nothing_ok at

  ends_ok : (is_high : Bool) (types : List Ty) → IsTrue (expr_ok (ends_core scene is_high types) at)
  ends_ok is_high [] = nothing_ok at
  ends_ok is_high (ty ∷ types) = ended (end_value is_high (shape_of_type scene.tables.shapes ty))

  without_ok : (trees : List Tree) (all : List Lowered) → AllGood all → AllGood (without_number trees all)
  without_ok (array ∷ number ∷ []) all ok = one_taken (λ one. lowered_ok one at) all ok
  without_ok trees all ok = ok

  bound_ok : (one two : Function) (trees : List Tree) (all : List Lowered) → AllGood all
      → IsTrue (expr_ok (core.Apply (if is_second scene.facts trees then two else one) (values (without_number trees all))) at)
  bound_ok one two trees all ok = applied (if is_second scene.facts trees then two else one) (without_number trees all) (without_ok trees all ok)

  readings_ok : (trees : List Tree) (all : List Lowered) → AllGood all → IsTrue (list_all (λ reading. reading_ok reading at) (readings_core scene.facts trees all))
  readings_ok trees all ok =
      turned_passes (λ reading. reading_ok reading at) (λ (pair : Readable × Lowered). lowered_ok pair.1 at) reading_core
      (λ pair good. reading_rule at pair.0 (place_of pair.1) (place_of_ok at pair.1 good))
      (zip (map (λ tree. readable_of (type_of scene.facts tree)) trees) all)
      (zip_passes (λ one. lowered_ok one at) (map (λ tree. readable_of (type_of scene.facts tree)) trees) all ok)

  function_ok : (name : Predefined) (trees : List Tree) (all : List Lowered) → AllGood all → IsTrue (expr_ok (function_core scene name trees all) at)
  function_ok Abs trees all ok = applied function.Abs all ok
  function_ok Min trees all ok = applied function.Min all ok
  function_ok Max trees all ok = applied function.Max all ok
  function_ok Low trees all ok = ends_ok false (named_types scene.facts trees)
  function_ok High trees all ok = ends_ok true (named_types scene.facts trees)
  function_ok Lb trees all ok = bound_ok function.LowBound function.LowBound2 trees all ok
  function_ok Ub trees all ok = bound_ok function.HighBound function.HighBound2 trees all ok
  function_ok Length trees all ok = applied function.Length all ok
  function_ok Pred trees all ok = applied function.Pred all ok
  function_ok Succ trees all ok = applied (function.Succ (literals_in scene.facts trees)) all ok
  function_ok MyResource trees all ok = leaf_rule at leaf.MyResource refl
  function_ok MyVm trees all ok = leaf_rule at leaf.MyMachine refl
  function_ok Read trees all ok = read_rule at (readings_core scene.facts trees all) (readings_ok trees all ok)
  function_ok _ trees all ok = nothing_ok at

  -- ---- invocations

  argument_made : (mode : Mode) (one : Lowered) → Good one → IsTrue (argument_ok (argument_core mode one) at)
  argument_made Val one ok = val_rule at (value_of one) (value_of_ok at one ok)
  argument_made Var one ok = var_rule at (place_of one) (place_of_ok at one ok)
  argument_made Res one ok = res_rule at (place_of one) (place_of_ok at one ok)

  arguments_ok : (params : List Param) (all : List Lowered) → AllGood all → IsTrue (list_all (λ arg. argument_ok arg at) (arguments_by params all))
  arguments_ok params all ok =
      turned_passes (λ arg. argument_ok arg at) (λ (pair : Param × Lowered). lowered_ok pair.1 at) (λ pair. argument_core pair.0.mode pair.1)
      (λ pair good. argument_made pair.0.mode pair.1 good)
      (zip params all) (zip_passes (λ one. lowered_ok one at) params all ok)

  -- the parts of an invocation
  abbrev pub SendingGood : LoweredInvocation → Type 0
  SendingGood sending = IsTrue (lowered_ok sending.callee.1 at) × IsTrue (list_all (λ one. lowered_ok one at) (lowered_of sending.arguments))

  pub sent_ok : (sending : LoweredInvocation) → SendingGood sending → IsTrue (list_all (λ arg. argument_ok arg at) (sent_arguments scene.facts sending))
  sent_ok sending ok = arguments_ok (params_of scene.facts (type_of scene.facts sending.callee.0)) (lowered_of sending.arguments) ok.1

  called_ok : (sending : LoweredInvocation) (what : Named) → SendingGood sending → IsTrue (expr_ok (call_core scene sending what) at)
  called_ok sending (named.Predefined name) ok = function_ok name (trees_of sending.arguments) (lowered_of sending.arguments) ok.1
  called_ok sending (named.«Type» ty) ok = applied function.Record (lowered_of sending.arguments) ok.1
  called_ok sending _ ok =
      call_rule at (value_of sending.callee.1) (sent_arguments scene.facts sending) (call_returns scene sending)
      (value_of_ok at sending.callee.1 ok.0) (sent_ok sending ok)

  pub call_ok : (sending : LoweredInvocation) → SendingGood sending → IsTrue (expr_ok (call_of scene sending) at)
  call_ok sending ok = called_ok sending (typed_expr scene.facts sending.callee.0).named ok

  -- ---- create

  abbrev instance_found : List Expr → Expr → Option ℕ → Expr
  instance_found args machine None = nothing
  instance_found args machine (Some component) = core.Create component args machine

  instance_ok : (spot : Spot) (args : List Expr) (machine : Expr)
      → IsTrue (list_all (λ arg. expr_ok arg at) args) → IsTrue (expr_ok machine at) → IsTrue (expr_ok (instance_core scene spot args machine) at)
  instance_ok spot args machine ok_args ok_machine = by (position (same_spot spot) scene.tables.components) refl
    where
      by : (found : Option ℕ) → position (same_spot spot) scene.tables.components ≡ found → IsTrue (expr_ok (instance_found args machine found) at)
      by None is = nothing_ok at
      by (Some component) is =
          let within = position_within (same_spot spot) scene.tables.components spot component is in
          create_rule at component args machine (omega (arith, within, fits.components)) ok_args ok_machine

  -- ---- operators

  binary_ok : (operator : BinaryOperator) (left right : Expr) → IsTrue (expr_ok left at) → IsTrue (expr_ok right at) → IsTrue (expr_ok (binary_core operator left right) at)
  binary_ok binary.And left right ok_left ok_right = and_rule at left right ok_left ok_right
  binary_ok binary.Or left right ok_left ok_right = or_rule at left right ok_left ok_right
  binary_ok operator left right ok_left ok_right = binary_rule at _ left right ok_left ok_right

  -- ---- each tree, when its parts are so

  abbrev CreateGood : Create × Expr → Type 0
  CreateGood created = IsTrue (expr_ok created.1 at)

  abbrev TreeGood : LoweredTree → Type 0
  TreeGood tree = Good tree.1

  abbrev PartGood : PartTree × Part → Type 0
  PartGood part = IsTrue (part_ok part.1 at)

  abbrev numbered : Claim
  numbered = record {
    create = λ tree. CreateGood (of_create scene tree);
    expr = λ tree. TreeGood (told scene tree);
    invocation = λ tree. SendingGood (of_invocation scene tree);
    part = λ tree. PartGood (of_part scene tree);
  }

  abbrev T : Type 0
  T = Known numbered.expr

  abbrev P : Type 0
  P = Known numbered.part

  all_good : (trees : List T) → AllGood (map (λ (one : LoweredTree). one.1) (map (told scene) (map (λ (tree : T). tree.0) trees)))
  all_good [] = refl
  all_good (tree ∷ trees) = and_from _ _ tree.1 (all_good trees)

  parts_good : (parts : List P) → IsTrue (list_all (λ part. part_ok part at) (map (λ (part : PartTree × Part). part.1) (map (of_part scene) (map (λ (part : P). part.0) parts))))
  parts_good [] = refl
  parts_good (part ∷ parts) = and_from _ _ part.1 (parts_good parts)

  create_good : (y : CreateNode numbered) → CreateGood (from_create (lowering scene) (bare_create numbered y))
  create_good (Create-F.Resource span resource arguments None) =
      instance_ok (meant_by scene.facts (deciding resource)) _ _ (values_ok _ (all_good arguments)) (leaf_rule at leaf.MyMachine refl)
  create_good (Create-F.Resource span resource arguments (Some machine)) =
      instance_ok (meant_by scene.facts (deciding resource)) _ _ (values_ok _ (all_good arguments)) (value_of_ok at (core_expr scene machine.0) machine.1)
  create_good (Create-F.Machine span) = leaf_rule at leaf.MakeMachine refl

  expr_good : (y : ExprNode numbered) → TreeGood (from_expr (lowering scene) (bare_expr numbered y))
  expr_good (Expr-F.Literal span literal) = constant_ok (known (literal_typed literal).value)
  expr_good (Expr-F.Name name) = name_ok name.span
  expr_good (Expr-F.BasicType span basic) = nothing_ok at
  expr_good (Expr-F.Conversion span conversion value) =
      apply_rule at (conversion_function conversion) (core_value scene value.0 ∷ []) (and_from _ _ (value_of_ok at (core_expr scene value.0) value.1) refl)
  expr_good (Expr-F.Group span inner) = value_of_ok at (core_expr scene inner.0) inner.1
  expr_good (Expr-F.Parts span parts) = array_rule at _ (parts_good parts)
  expr_good (Expr-F.Field span owner field) = field_ok (told scene owner.0) field (typed_expr scene.facts (told scene owner.0).0).named owner.1
  expr_good (Expr-F.Index span array first None) =
      part_of_ok at (core_expr scene array.0) (step.At (core_value scene first.0)) array.1
      (at_rule at (core_value scene first.0) (value_of_ok at (core_expr scene first.0) first.1))
  expr_good (Expr-F.Index span array first (Some second)) =
      part_of_ok at (core_expr scene array.0) (step.At2 (core_value scene first.0) (core_value scene second.0)) array.1
      (at2_rule at (core_value scene first.0) (core_value scene second.0)
      (value_of_ok at (core_expr scene first.0) first.1) (value_of_ok at (core_expr scene second.0) second.1))
  expr_good (Expr-F.Call invocation) = call_ok (of_invocation scene invocation.0) invocation.1
  expr_good (Expr-F.Create create) = create.1
  expr_good (Expr-F.Unary span operator operand) =
      unary_rule at (prefix_of operator) (core_value scene operand.0) (value_of_ok at (core_expr scene operand.0) operand.1)
  expr_good (Expr-F.Pending span operation) =
      naming_ok scene at fits (meant_by scene.facts operation) (λ operation number. core.Leaf (leaf.Count number))
      (λ operation number below. leaf_rule at (leaf.Count number) (lt-ltb number (length at.core.operations) below))
  expr_good (Expr-F.Binary span left operator right) =
      binary_ok operator (core_value scene left.0) (core_value scene right.0)
      (value_of_ok at (core_expr scene left.0) left.1) (value_of_ok at (core_expr scene right.0) right.1)

  invocation_good : (y : InvocationNode numbered) → SendingGood (from_invocation (lowering scene) (bare_invocation numbered y))
  invocation_good y = (y.callee.1, all_good y.arguments)

  part_good : (y : PartNode numbered) → PartGood (from_part (lowering scene) (bare_part numbered y))
  part_good y = by y.count
    where
      by : (count : Option T) → PartGood (from_part (lowering scene) (bare_part numbered (record y { count = count })))
      by None = one_rule at (core_value scene y.value.0) (value_of_ok at (core_expr scene y.value.0) y.value.1)
      by (Some count) =
          repeated_rule at (core_value scene count.0) (core_value scene y.value.0)
          (value_of_ok at (core_expr scene count.0) count.1) (value_of_ok at (core_expr scene y.value.0) y.value.1)

  -- ---- all trees

  by_parts : ByParts numbered
  by_parts = record {
    create = λ y. subst CreateGood (create_folds (lowering scene) (bare_create numbered y)) (create_good y);
    expr = λ y. subst TreeGood (expr_folds (lowering scene) (bare_expr numbered y)) (expr_good y);
    invocation = λ y. subst SendingGood (invocation_folds (lowering scene) (bare_invocation numbered y)) (invocation_good y);
    part = λ y. subst PartGood (part_folds (lowering scene) (bare_part numbered y)) (part_good y);
  }

  pub tree_ok : (tree : Tree) → IsTrue (lowered_ok (core_expr scene tree) at)
  tree_ok = each_expr numbered by_parts

  pub create_ok : (tree : Create) → IsTrue (expr_ok (core_create scene tree) at)
  create_ok = each_create numbered by_parts

  pub core_value_ok : (tree : Tree) → IsTrue (expr_ok (core_value scene tree) at)
  core_value_ok tree = value_of_ok at (core_expr scene tree) (tree_ok tree)

  pub core_place_ok : (tree : Tree) → IsTrue (place_ok (core_place scene tree) at)
  core_place_ok tree = place_of_ok at (core_expr scene tree) (tree_ok tree)

  -- ---- the parts of invocations

  trees_ok : (trees : List Tree) → AllGood (map (λ (one : LoweredTree). one.1) (map (with_core scene) trees))
  trees_ok [] = refl
  trees_ok (tree ∷ trees) = and_from _ _ (tree_ok tree) (trees_ok trees)

  pub sending_ok : (tree : Invocation) → SendingGood (core_sending scene tree)
  sending_ok tree = (tree_ok (out-Invocation tree).callee, trees_ok (out-Invocation tree).arguments)

  pub all_told_ok : (sending : LoweredInvocation) → SendingGood sending → IsTrue (list_all (λ expr. expr_ok expr at) (values (lowered_of sending.arguments)))
  all_told_ok sending ok = values_ok (lowered_of sending.arguments) ok.1
