-- What is mentioned by constructs of the core passes a test that what the scene names passes, where their parts pass and each place is one.
use Rattle.std.proofs.Common.{◌≡◌, ℕ, Bool, true, false, List, [], ◌∷◌, Option, Some, None, Result, Ok, Err, IsTrue, map, position, if◌then◌else◌, zip, refl}
use Rattle.std.proofs.lemmas.Bool.{and_from, and_parts}
use Rattle.std.specs.List.{list_all}
use Rattle.sr_check.specs.ErrorFree.{ErrorFree}
use Rattle.sr_check.proofs.ErrorFree.{error_free_first, error_free_second, rule_met}
use Rattle.sr_check_expr.specs.declared.facts.Facts.{Facts}
use Rattle.sr_check_expr.specs.declared.info.Info.{Info}
use Rattle.sr_check_expr.specs.declared.info.Info.TheVariants as info
use Rattle.sr_check_expr.specs.declared.typed_expr.TypedExpr.{TypedExpr}
use Rattle.sr_check_expr.specs.Arguments.{all_valued, arguments_found}
use Rattle.sr_check_expr.specs.Infos.{info_at}
use Rattle.sr_check_expr.specs.Meanings.{constant_at, type_of}
use Rattle.sr_check_expr.specs.PredefinedCalls.{function_found, guard_found, places_found}
use Rattle.sr_check_expr.specs.Uses.{read_rule as readable_rule}
use Rattle.sr_check_expr.specs.Typings.{broken_unless, is_value_name, value_found}
use Rattle.sr_core.specs.declared.component.Operation.{Operation}
use Rattle.sr_core.specs.declared.expression.Expr.{Expr}
use Rattle.sr_core.specs.declared.expression.Expr.TheVariants as core
use Rattle.sr_core.specs.declared.expression.Function.{Function}
use Rattle.sr_core.specs.declared.expression.Function.TheVariants as function
use Rattle.sr_core.specs.declared.expression.Leaf.TheVariants as leaf
use Rattle.sr_core.specs.declared.expression.Readable.{Readable}
use Rattle.sr_core.specs.declared.expression.Step.{Step}
use Rattle.sr_core.specs.declared.owner.Root.{Root}
use Rattle.sr_core.specs.declared.statement.Scope.{Scope}
use Rattle.sr_names.specs.declared.finding.Rule.TheVariants.{BadType}
use Rattle.sr_names.specs.declared.meaning.Decl.{Decl}
use Rattle.sr_names.specs.declared.meaning.Meaning.TheVariants.{Declared}
use Rattle.sr_names.specs.declared.predefined.Predefined.{Predefined}
use Rattle.sr_names.specs.declared.predefined.Predefined.TheVariants.{Read, Abs, Min, Max, Low, High, Lb, Ub, Length, Pred, Succ, MyResource, MyVm}
use Rattle.sr_names.specs.declared.spot.Spot.{Spot}
use Rattle.sr_names.specs.Spots.{same_spot, spot_of}
use Rattle.sr_names.specs.Uses.{meaning_at}
use Rattle.sr_tables.specs.declared.sites.Mention.{Mention}
use Rattle.sr_tables.specs.declared.sites.Mention.TheVariants as mention
use Rattle.sr_tree.specs.declared.expr.BinaryOperator.{BinaryOperator}
use Rattle.sr_tree.specs.declared.expr.BinaryOperator.TheVariants as binary
use Rattle.sr_tree.specs.declared.expr.Expr.{Expr as Tree}
use Rattle.sr_types.specs.declared.signature.Mode.{Mode}
use Rattle.sr_types.specs.declared.signature.Mode.TheVariants as mode
use Rattle.sr_types.specs.declared.signature.Param.{Param}
use Rattle.sr_types.specs.declared.ty.Ty.{Ty}
use Rattle.sr_types.specs.Storing.{argument_rule}
use Rattle.sr_value.specs.declared.fault.Fault.{Fault}
use Rattle.sr_value.specs.declared.place.Span.{Span}
use Rattle.sr_value.specs.declared.value.Value.{Value}
use Rattle.sr_value.specs.declared.value.Value.TheVariants as value
use Rattle.sr_lower_expr.specs.declared.scene.Lowered.{Lowered}
use Rattle.sr_lower_expr.specs.declared.scene.Lowered.TheVariants as lowered
use Rattle.sr_lower_expr.specs.declared.scene.Scene.{Scene}
use Rattle.sr_lower_expr.specs.Expressions.{argument_core, arguments_by, constant_or_nothing, end_or_nothing, end_value, ends_core, function_core, instance_core, is_second, literals_in, named_types, reading_core, readable_of, values, without_number}
use Rattle.sr_lower_expr.specs.Operators.{binary_core}
use Rattle.sr_lower_expr.specs.Places.{naming, nothing, operation_at, operation_number, part_of, place_at, place_of, root_of, value_of, whose_by}
use Rattle.sr_lower_expr.specs.Shapes.{shape_of_type}
use Rattle.sr_lower_expr.proofs.Each.{one_taken, turned_passes}
use Rattle.sr_front.proofs.Mentioned.MentionRules.{and_rule, apply_rule, argument_passes, binary_rule, create_rule, expr_passes, further_rule, leaf_rule, load_rule, of_rule, or_rule, place_passes, place_rule, read_rule, reading_passes, reading_rule, res_rule, step_passes, val_rule, var_rule}
use Rattle.sr_front.proofs.Typed.TypedPlaces.{IsPlace, Placed}
use Rattle.sr_lower_expr.proofs.PlaceNumbers.{operation_found}

-- What a scene names, other than variables, passes a test of what is mentioned.
pub record Others (scene : Scene) (test : Mention → Bool) : Type 0 where
  pub operations : (scope : Scope) (component : ℕ) → IsTrue (test (mention.Operation (whose_by scene scope component)))
  pub machine : IsTrue (test mention.Machine)
  pub counts : (spot : Spot) (operation : Operation) → operation_at scene spot ≡ Some operation → IsTrue (test (mention.Count (operation_number scene spot)))

-- what may stand where a value is wanted
abbrev pub means_value : Option Info → Bool
means_value (Some (info.Value typed)) = true
means_value (Some (info.Operation ty component is_local)) = true
means_value _ = false

-- a variable that the name at a spot means passes
abbrev pub HadAt : Scene → (Mention → Bool) → Spot → Type 0
HadAt scene test spot =
    (decl : Decl) → meaning_at scene.facts.uses spot ≡ Some (Declared decl) → means_value (info_at scene.facts.infos decl.spot) ≡ true → constant_at scene.facts decl.spot ≡ None → operation_at scene decl.spot ≡ None
    → IsTrue (test (mention.Variable (root_of scene decl.spot)))

abbrev pub Had : Scene → (Mention → Bool) → Span → Type 0
Had scene test span = HadAt scene test (spot_of span)

module _ (scene : Scene) (test : Mention → Bool) where
  abbrev pub lowered_passes : Lowered → Bool
  lowered_passes (lowered.Place place) = place_passes test place
  lowered_passes (lowered.Value value) = expr_passes test value

  -- where it stands as a value it passes, and where it is a place it is one in the core
  pub record Fine (typed : TypedExpr) (made : Lowered) : Type 0 where
    pub passes : IsTrue (is_value_name typed.named) → IsTrue (lowered_passes made)
    pub placed : Placed typed made

  -- so are all of them, one by one
  abbrev pub AllFine : List TypedExpr → List Lowered → Type 0
  AllFine [] [] = Unit {0}
  AllFine (typed ∷ more) (made ∷ others) = Fine typed made × AllFine more others
  AllFine _ _ = ⊥

  -- ---- places and values

  pub nothing_passes : IsTrue (expr_passes test nothing)
  nothing_passes = leaf_rule test (leaf.Constant (value.Bool false)) refl

  pub place_at_passes : (one : Root) → IsTrue (test (mention.Variable one)) → IsTrue (place_passes test (place_at one))
  place_at_passes one ok = place_rule test one [] ok refl

  pub value_of_passes : (one : Lowered) → IsTrue (lowered_passes one) → IsTrue (expr_passes test (value_of one))
  value_of_passes (lowered.Place place) ok = load_rule test place ok
  value_of_passes (lowered.Value value) ok = ok

  pub place_of_passes : (one : Lowered) → IsPlace one → IsTrue (lowered_passes one) → IsTrue (place_passes test (place_of one))
  place_of_passes (lowered.Place place) is ok = ok
  place_of_passes (lowered.Value value) is ok = absurd is

  pub part_of_passes : (one : Lowered) (step : Step) → IsTrue (lowered_passes one) → IsTrue (step_passes test step) → IsTrue (lowered_passes (part_of one step))
  part_of_passes (lowered.Place place) step ok ok_step = further_rule test place step ok ok_step
  part_of_passes (lowered.Value value) step ok ok_step = of_rule test value step ok ok_step

  value_met : (typed : TypedExpr) → ErrorFree (value_found typed) → IsTrue (is_value_name typed.named)
  value_met typed whole = rule_met (is_value_name typed.named) BadType typed.span whole

  pub fine_value : (typed : TypedExpr) (made : Lowered) → Fine typed made → ErrorFree (value_found typed) → IsTrue (lowered_passes made)
  fine_value typed made fine whole = fine.passes (value_met typed whole)

  pub fine_place : (typed : TypedExpr) (made : Lowered) → Fine typed made → ErrorFree (value_found typed) → IsTrue typed.typed.is_place → IsTrue (place_passes test (place_of made))
  fine_place typed made fine whole place = place_of_passes made (fine.placed place (value_met typed whole)) (fine_value typed made fine whole)

  -- ---- constants

  pub constant_passes : (written : Option Value) → IsTrue (expr_passes test (constant_or_nothing written))
  constant_passes None = nothing_passes
  constant_passes (Some written) = leaf_rule test (leaf.Constant written) refl

  -- ---- lists of arguments

  abbrev pub AllPass : List Lowered → Type 0
  AllPass all = IsTrue (list_all lowered_passes all)

  pub all_fine : (typed : List TypedExpr) (all : List Lowered) → AllFine typed all → ErrorFree (all_valued typed) → AllPass all
  all_fine [] [] fine whole = refl
  all_fine [] (made ∷ all) fine whole = absurd fine
  all_fine (one ∷ typed) [] fine whole = refl
  all_fine (one ∷ typed) (made ∷ all) fine whole =
      and_from _ _ (fine_value one made fine.0 (error_free_first (value_found one) _ whole)) (all_fine typed all fine.1 (error_free_second (value_found one) _ whole))

  pub values_pass : (all : List Lowered) → AllPass all → IsTrue (list_all (expr_passes test) (values all))
  values_pass = turned_passes (expr_passes test) lowered_passes value_of value_of_passes

  pub applied : (called : Function) (all : List Lowered) → AllPass all → IsTrue (expr_passes test (core.Apply called (values all)))
  applied called all ok = apply_rule test called (values all) (values_pass all ok)

  -- ---- predefined functions

  ended : (end : Result Value Fault) → IsTrue (expr_passes test (end_or_nothing end))
  ended (Ok end) = leaf_rule test (leaf.Constant end) refl
  ended (Err fault) = nothing_passes

  ends_pass : (is_high : Bool) (types : List Ty) → IsTrue (expr_passes test (ends_core scene is_high types))
  ends_pass is_high [] = nothing_passes
  ends_pass is_high (ty ∷ types) = ended (end_value is_high (shape_of_type scene.tables.shapes ty))

  without_passes : (trees : List Tree) (all : List Lowered) → AllPass all → AllPass (without_number trees all)
  without_passes (array ∷ number ∷ []) all ok = one_taken lowered_passes all ok
  without_passes trees all ok = ok

  bound_passes : (one two : Function) (trees : List Tree) (all : List Lowered) → AllPass all
      → IsTrue (expr_passes test (core.Apply (if is_second scene.facts trees then two else one) (values (without_number trees all))))
  bound_passes one two trees all ok = applied (if is_second scene.facts trees then two else one) (without_number trees all) (without_passes trees all ok)

  readings_pass : (kinds : List Readable) (typed : List TypedExpr) (all : List Lowered) → AllFine typed all → ErrorFree (all_valued typed) → ErrorFree (places_found typed)
      → IsTrue (list_all (reading_passes test) (map reading_core (zip kinds all)))
  readings_pass [] typed all fine whole places = refl
  readings_pass (kind ∷ kinds) [] [] fine whole places = refl
  readings_pass (kind ∷ kinds) [] (made ∷ all) fine whole places = absurd fine
  readings_pass (kind ∷ kinds) (one ∷ typed) [] fine whole places = absurd fine
  readings_pass (kind ∷ kinds) (one ∷ typed) (made ∷ all) fine whole places =
      let met = rule_met (readable_rule one.typed) BadType one.span (error_free_first (broken_unless (readable_rule one.typed) BadType one.span) _ places) in
      and_from _ _
      (reading_rule test kind (place_of made) (fine_place one made fine.0 (error_free_first (value_found one) _ whole) (and_parts one.typed.is_place _ met).0))
      (readings_pass kinds typed all fine.1 (error_free_second (value_found one) _ whole) (error_free_second (broken_unless (readable_rule one.typed) BadType one.span) _ places))

  pub function_passes : IsTrue (test mention.Machine) → (known : Facts) (span : Span) (name : Predefined) (trees : List Tree) (typed : List TypedExpr) (all : List Lowered) → AllFine typed all → ErrorFree (function_found known span name typed)
      → IsTrue (expr_passes test (function_core scene name trees all))
  function_passes machine known span Abs trees typed all fine whole = applied function.Abs all (all_fine typed all fine whole)
  function_passes machine known span Min trees typed all fine whole = applied function.Min all (all_fine typed all fine whole)
  function_passes machine known span Max trees typed all fine whole = applied function.Max all (all_fine typed all fine whole)
  function_passes machine known span Low trees typed all fine whole = ends_pass false (named_types scene.facts trees)
  function_passes machine known span High trees typed all fine whole = ends_pass true (named_types scene.facts trees)
  function_passes machine known span Lb trees typed all fine whole = bound_passes function.LowBound function.LowBound2 trees all (all_fine typed all fine whole)
  function_passes machine known span Ub trees typed all fine whole = bound_passes function.HighBound function.HighBound2 trees all (all_fine typed all fine whole)
  function_passes machine known span Length trees typed all fine whole = applied function.Length all (all_fine typed all fine whole)
  function_passes machine known span Pred trees typed all fine whole = applied function.Pred all (all_fine typed all fine whole)
  function_passes machine known span Succ trees typed all fine whole = applied (function.Succ (literals_in scene.facts trees)) all (all_fine typed all fine whole)
  function_passes machine known span MyResource trees typed all fine whole = leaf_rule test leaf.MyResource refl
  function_passes machine known span MyVm trees typed all fine whole = leaf_rule test leaf.MyMachine (and_from _ _ machine refl)
  function_passes machine known span Read trees typed all fine whole =
      let after = error_free_second (all_valued typed) _ whole in
      read_rule test _
      (readings_pass (map (λ tree. readable_of (type_of scene.facts tree)) trees) typed all fine (error_free_first (all_valued typed) _ whole) (error_free_first (places_found typed) (guard_found known.here span) after))
  function_passes machine known span _ trees typed all fine whole = nothing_passes

  -- ---- arguments of operations

  argument_passes_by : (mode : Mode) (ty : Ty) (typed : TypedExpr) (made : Lowered) → Fine typed made → ErrorFree (value_found typed) → IsTrue (argument_rule mode ty typed.typed) → IsTrue (argument_passes test (argument_core mode made))
  argument_passes_by mode.Val ty typed made fine whole met = val_rule test (value_of made) (value_of_passes made (fine_value typed made fine whole))
  argument_passes_by mode.Var ty typed made fine whole met = var_rule test (place_of made) (fine_place typed made fine whole (and_parts typed.typed.is_place _ met).0)
  argument_passes_by mode.Res ty typed made fine whole met = res_rule test (place_of made) (fine_place typed made fine whole (and_parts typed.typed.is_place _ met).0)

  pub arguments_pass : (params : List Param) (typed : List TypedExpr) (all : List Lowered) → AllFine typed all → ErrorFree (all_valued typed) → ErrorFree (arguments_found params typed) → IsTrue (list_all (argument_passes test) (arguments_by params all))
  arguments_pass [] typed all fine whole found = refl
  arguments_pass (param ∷ params) [] [] fine whole found = refl
  arguments_pass (param ∷ params) [] (made ∷ all) fine whole found = absurd fine
  arguments_pass (param ∷ params) (one ∷ typed) [] fine whole found = absurd fine
  arguments_pass (param ∷ params) (one ∷ typed) (made ∷ all) fine whole found =
      let rule = broken_unless (argument_rule param.mode param.ty one.typed) BadType one.span in
      and_from _ _
      (argument_passes_by param.mode param.ty one made fine.0 (error_free_first (value_found one) _ whole) (rule_met (argument_rule param.mode param.ty one.typed) BadType one.span (error_free_first rule _ found)))
      (arguments_pass params typed all fine.1 (error_free_second (value_found one) _ whole) (error_free_second rule _ found))

  -- ---- operators

  pub binary_passes : (operator : BinaryOperator) (left right : Expr) → IsTrue (expr_passes test left) → IsTrue (expr_passes test right) → IsTrue (expr_passes test (binary_core operator left right))
  binary_passes binary.And left right ok_left ok_right = and_rule test left right ok_left ok_right
  binary_passes binary.Or left right ok_left ok_right = or_rule test left right ok_left ok_right
  binary_passes operator left right ok_left ok_right = binary_rule test _ left right ok_left ok_right

  -- ---- instances

  abbrev instance_found : List Expr → Expr → Option ℕ → Expr
  instance_found args machine None = nothing
  instance_found args machine (Some component) = core.Create component args machine

  pub instance_passes : (spot : Spot) (args : List Expr) (machine : Expr)
      → IsTrue (list_all (expr_passes test) args) → IsTrue (expr_passes test machine) → IsTrue (expr_passes test (instance_core scene spot args machine))
  instance_passes spot args machine ok_args ok_machine = by (position (same_spot spot) scene.tables.components) refl
    where
      by : (found : Option ℕ) → position (same_spot spot) scene.tables.components ≡ found → IsTrue (expr_passes test (instance_found args machine found))
      by None is = nothing_passes
      by (Some component) is = create_rule test component args machine ok_args ok_machine

  -- ---- operations

  pub naming_passes : (spot : Spot) (made : Operation → ℕ → Expr) → ((operation : Operation) → operation_at scene spot ≡ Some operation → IsTrue (expr_passes test (made operation (operation_number scene spot))))
      → IsTrue (expr_passes test (naming scene spot made))
  naming_passes spot made ok = by (operation_at scene spot) refl
    where
      by : (found : Option Operation) → operation_at scene spot ≡ found → IsTrue (expr_passes test (operation_found scene spot made found))
      by None is = nothing_passes
      by (Some operation) is = ok operation is
