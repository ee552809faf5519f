-- Where no rule is broken in a guard, nothing in it is invoked, read or created in the core.
use Rattle.std.proofs.Common.{◌≡◌, ℕ, negsuc, Bool, true, false, List, [], ◌∷◌, ◌++◌, Option, Some, None, Result, Ok, Err, IsTrue, not, map, if◌then◌else◌, refl, sym, ap, subst, true≢false}
use Rattle.std.proofs.lemmas.Bool.{and_from}
use Rattle.std.specs.List.{list_all}
use Rattle.sr_check_expr.specs.declared.facts.Facts.{Facts}
use Rattle.sr_check_expr.specs.declared.info.Info.{Info}
use Rattle.sr_check_expr.specs.declared.info.Info.TheVariants as info
use Rattle.sr_check_expr.specs.declared.typed_expr.TypedExpr.{TypedExpr}
use Rattle.sr_check_expr.specs.declared.typed_expr.Named.{Named}
use Rattle.sr_check_expr.specs.declared.typed_expr.Named.TheVariants as named
use Rattle.sr_check_expr.specs.Arguments.{all_found, all_valued, invoked_found, is_callable}
use Rattle.sr_check_expr.specs.Calls.{Called, call_typing, called_by, invocation_found, parts_found as called_found}
use Rattle.sr_check_expr.specs.Creating.{formals_found, instance_typing, machine_found, machine_of, machine_valued, made_found, resource_named, resource_type}
use Rattle.sr_check_expr.specs.Exprs.{Inferrer, PartInferrer, field_typing, infer_create, infer_expr, infer_invocation, infer_part, part_found, parts_found, prefix_of}
use Rattle.sr_check_expr.specs.Infos.{info_at}
use Rattle.sr_check_expr.specs.Typings.{Typing, broken_unless, typed_exprs_of, value_found}
use Rattle.sr_check_expr.specs.LiteralTypes.{literal_named, literal_typed}
use Rattle.sr_check_expr.specs.Naming.{declared_typing, meaning_typing, name_typing, predefined_at}
use Rattle.sr_check_expr.specs.PredefinedCalls.{function_typing, function_found, guard_found, places_found}
use Rattle.sr_core.specs.declared.component.Operation.{Operation}
use Rattle.sr_core.specs.declared.expression.Expr.{Expr}
use Rattle.sr_core.specs.declared.expression.Expr.TheVariants as core
use Rattle.sr_core.specs.declared.expression.Function.{Function}
use Rattle.sr_core.specs.declared.expression.Function.TheVariants as function
use Rattle.sr_core.specs.declared.expression.Leaf.TheVariants as leaf
use Rattle.sr_core.specs.declared.expression.Part.{Part}
use Rattle.sr_core.specs.declared.expression.Step.TheVariants as step
use Rattle.sr_core.specs.EffectFree.{is_effect_free}
use Rattle.sr_names.specs.declared.finding.Rule.TheVariants.{Guard, BadUse}
use Rattle.sr_names.specs.declared.meaning.Decl.{Decl}
use Rattle.sr_names.specs.declared.meaning.Meaning.{Meaning}
use Rattle.sr_names.specs.declared.meaning.Meaning.TheVariants.{Predefined as MeansPredefined, Declared}
use Rattle.sr_names.specs.declared.predefined.Predefined.{Predefined}
use Rattle.sr_names.specs.declared.predefined.Predefined.TheVariants.{Read, Eof, Abs, Min, Max, Low, High, Lb, Ub, Length, Pred, Succ, MyResource, MyVm}
use Rattle.sr_names.specs.declared.spot.Spot.{Spot}
use Rattle.sr_names.specs.Spots.{spot_of}
use Rattle.sr_names.specs.Uses.{meaning_at}
use Rattle.sr_tree.specs.declared.expr.BinaryOperator.{BinaryOperator}
use Rattle.sr_tree.specs.declared.expr.BinaryOperator.TheVariants as binary
use Rattle.sr_tree.specs.declared.expr.Create.{Create}
use Rattle.sr_tree.specs.declared.expr.Create.TheOpen.{Create-F, Expr-F}
use Rattle.sr_tree.specs.declared.expr.Expr.{Expr as Tree}
use Rattle.sr_tree.specs.declared.expr.Invocation.{Invocation}
use Rattle.sr_tree.specs.declared.expr.Part.{Part as PartTree}
use Rattle.sr_tree.specs.declared.name.Name.{Name}
use Rattle.sr_tree.specs.declared.name.QualifiedName.{QualifiedName}
use Rattle.sr_types.specs.declared.ty.Ty.{Ty, out-Ty}
use Rattle.sr_types.specs.declared.ty.Ty.TheOpen.{Ty-F}
use Rattle.sr_value.specs.declared.fault.Fault.{Fault}
use Rattle.sr_value.specs.declared.place.Span.{Span}
use Rattle.sr_value.specs.declared.value.Value.{Value}
use Rattle.sr_value.specs.declared.value.Value.TheVariants as value
use Rattle.sr_check_expr.specs.Meanings.{typed_expr, known as known_value, constant_at, type_of, meant_by}
use Rattle.sr_lower_expr.specs.Operators.{binary_core, conversion_function}
use Rattle.sr_lower_expr.specs.Shapes.{shape_of_type}
use Rattle.sr_lower_expr.specs.declared.scene.Lowered.{Lowered}
use Rattle.sr_lower_expr.specs.declared.scene.Scene.{Scene}
use Rattle.sr_lower_expr.specs.Expressions.{LoweredTree, LoweredInvocation, call_core, call_of, constant_or_nothing, core_expr, core_value, lowered_of, end_or_nothing, end_value, ends_core, field_core, field_number, function_core, is_second, layer_member, literals_in, meaning_core, name_core, named_core, named_types, spec_operation, told, trees_of, values, without_number}
use Rattle.sr_lower_expr.specs.Places.{operation_at, root_of, value_of, whose_by}
use Rattle.sr_lower_expr.proofs.Each.{one_taken, turned_passes}
use Rattle.sr_lower_expr.proofs.Trees.{of_create, of_invocation, of_part, told_is}
use Rattle.sr_tree.proofs.ExprFolds.{ByParts, Claim, CreateNode, ExprNode, InvocationNode, Known, PartNode, bare_create, bare_expr, bare_invocation, bare_part, create_folds, each_expr, expr_folds, from_create, from_expr, from_invocation, from_part, invocation_folds, part_folds}
use Rattle.sr_lower_expr.proofs.LowerFold.{lowering}
use Rattle.sr_front.proofs.Typed.TypingFolds.{inferring}
use Rattle.sr_front.proofs.EffectFree.EffectFreeRules.{and_rule, apply_rule, array_rule, at2_rule, at_rule, binary_rule, lowered_is_effect_free, field_rule, leaf_rule, member_rule, naming_effect_free, nothing_effect_free, one_rule, or_rule, part_is_effect_free, part_of_effect_free, place_at_effect_free, repeated_rule, unary_rule, value_of_effect_free}
use Rattle.sr_check.specs.ErrorFree.{ErrorFree}
use Rattle.sr_check.proofs.ErrorFree.{rule_met, error_free_first, error_free_second}

-- ---- what stays known

-- what a name is, where it is no value and no operation, it still is
abbrev pub StaysInfo : Option Info → Option Info → Type 0
StaysInfo (Some (info.«Type» ty)) later = later ≡ Some (info.«Type» ty)
StaysInfo (Some (info.Enumeration number literals)) later = later ≡ Some (info.Enumeration number literals)
StaysInfo (Some (info.Record fields)) later = later ≡ Some (info.Record fields)
StaysInfo (Some (info.Component ty)) later = later ≡ Some (info.Component ty)
StaysInfo _ later = Unit {0}

-- names mean the same, and types and components stay what they are
pub record Stay (known later : Facts) : Type 0 where
  pub uses : known.uses ≡ later.uses
  pub infos : (spot : Spot) → StaysInfo (info_at known.infos spot) (info_at later.infos spot)

-- what an expression names, where it is a type, a component or a predefined name, it still names
abbrev pub StaysNamed : Named → Named → Type 0
StaysNamed (named.«Type» ty) later = later ≡ named.«Type» ty
StaysNamed (named.Component decl) later = later ≡ named.Component decl
StaysNamed (named.Predefined name) later = later ≡ named.Predefined name
StaysNamed _ later = Unit {0}

pub stays_itself : (what : Named) → StaysNamed what what
stays_itself (named.«Type» ty) = refl
stays_itself (named.Component decl) = refl
stays_itself (named.Predefined name) = refl
stays_itself _ = tt

module _ (known : Facts) (later : Facts) (stay : Stay known later) where
  declared_stays : (span span2 : Span) (decl : Decl) (first second : Option Info) → StaysInfo first second
      → StaysNamed (declared_typing span decl first).typed_expr.named (declared_typing span2 decl second).typed_expr.named
  declared_stays span span2 decl (Some (info.«Type» ty)) second is = ap (λ one. (declared_typing span2 decl one).typed_expr.named) is
  declared_stays span span2 decl (Some (info.Enumeration number literals)) second is = ap (λ one. (declared_typing span2 decl one).typed_expr.named) is
  declared_stays span span2 decl (Some (info.Record fields)) second is = ap (λ one. (declared_typing span2 decl one).typed_expr.named) is
  declared_stays span span2 decl (Some (info.Component ty)) second is = ap (λ one. (declared_typing span2 decl one).typed_expr.named) is
  declared_stays span span2 decl _ second is = tt

  predefined_stays : (span span2 : Span) (name : Predefined) → StaysNamed (predefined_at span name).named (predefined_at span2 name).named
  predefined_stays span span2 Eof = tt
  predefined_stays span span2 _ = refl

  meaning_stays : (span span2 : Span) (meaning : Option Meaning)
      → StaysNamed (meaning_typing known.infos span meaning).typed_expr.named (meaning_typing later.infos span2 meaning).typed_expr.named
  meaning_stays span span2 None = tt
  meaning_stays span span2 (Some (MeansPredefined name)) = predefined_stays span span2 name
  meaning_stays span span2 (Some (Declared decl)) = declared_stays span span2 decl (info_at known.infos decl.spot) (info_at later.infos decl.spot) (stay.infos decl.spot)

  pub name_stays : (span span2 used : Span) → StaysNamed (name_typing known span used).typed_expr.named (name_typing later span2 used).typed_expr.named
  name_stays span span2 used =
      subst (λ uses. StaysNamed (name_typing known span used).typed_expr.named (meaning_typing later.infos span2 (meaning_at uses (spot_of used))).typed_expr.named) stay.uses
      (meaning_stays span span2 (meaning_at known.uses (spot_of used)))

  pub field_stays : (span : Span) (owner other : TypedExpr) (field : Name) (before after : Named) → StaysNamed before after
      → StaysNamed (field_typing known span owner field before).typed_expr.named (field_typing later span other field after).typed_expr.named
  field_stays span owner other field (named.Component decl) after is =
      subst (λ one. StaysNamed (name_typing known span field.span).typed_expr.named (field_typing later span other field one).typed_expr.named) (sym is) (name_stays span span field.span)
  field_stays span owner other field _ after is = tt

-- ---- what is always side-effect-free

module _ (scene : Scene) where
  constant_effect_free : (written : Option Value) → IsTrue (is_effect_free (constant_or_nothing written))
  constant_effect_free None = nothing_effect_free
  constant_effect_free (Some written) = leaf_rule (leaf.Constant written) refl

  named_effect_free : (spot : Spot) (written : Option Value) (operation : Option Operation) → IsTrue (lowered_is_effect_free (named_core scene spot written operation))
  named_effect_free spot (Some written) operation = leaf_rule (leaf.Constant written) refl
  named_effect_free spot None (Some operation) = naming_effect_free scene spot (λ operation number. core.Leaf (leaf.Operation (whose_by scene operation.scope operation.component) number)) (λ operation number. leaf_rule _ refl)
  named_effect_free spot None None = place_at_effect_free (root_of scene spot)

  meaning_effect_free : (meaning : Option Meaning) → IsTrue (lowered_is_effect_free (meaning_core scene meaning))
  meaning_effect_free (Some (Declared decl)) = named_effect_free decl.spot (constant_at scene.facts decl.spot) (operation_at scene decl.spot)
  meaning_effect_free (Some (MeansPredefined Eof)) = leaf_rule (leaf.Constant (value.Int (negsuc 0))) refl
  meaning_effect_free _ = nothing_effect_free

  name_effect_free : (span : Span) → IsTrue (lowered_is_effect_free (name_core scene span))
  name_effect_free span = meaning_effect_free (meaning_at scene.facts.uses (spot_of span))

  layer_effect_free : {A : Type 0} (owner : Lowered) (name : List ℕ) (layer : Ty-F A) → IsTrue (lowered_is_effect_free owner) → IsTrue (lowered_is_effect_free (layer_member scene owner name layer))
  layer_effect_free owner name (Ty-F.Rec spot) effect_free = part_of_effect_free owner (step.Field (field_number scene.facts spot name)) effect_free (field_rule (field_number scene.facts spot name))
  layer_effect_free owner name (Ty-F.Resource spot) effect_free =
      naming_effect_free scene (spec_operation scene.facts spot name) (λ operation number. core.Member (value_of owner) number)
      (λ operation number. member_rule (value_of owner) number (value_of_effect_free owner effect_free))
  layer_effect_free owner name _ effect_free = nothing_effect_free

  field_effect_free : (owner : LoweredTree) (field : Name) (what : Named) → IsTrue (lowered_is_effect_free owner.1) → IsTrue (lowered_is_effect_free (field_core scene owner field what))
  field_effect_free owner field (named.Component decl) effect_free = name_effect_free field.span
  field_effect_free owner field _ effect_free = layer_effect_free owner.1 field.text (out-Ty (type_of scene.facts owner.0)) effect_free

  -- each is side-effect-free
  abbrev AllEffectFree : List Lowered → Type 0
  AllEffectFree all = IsTrue (list_all lowered_is_effect_free all)

  values_effect_free : (all : List Lowered) → AllEffectFree all → IsTrue (list_all is_effect_free (values all))
  values_effect_free = turned_passes is_effect_free lowered_is_effect_free value_of value_of_effect_free

  applied : (called : Function) (all : List Lowered) → AllEffectFree all → IsTrue (is_effect_free (core.Apply called (values all)))
  applied called all effect_free = apply_rule called (values all) (values_effect_free all effect_free)

  ended : (end : Result Value Fault) → IsTrue (is_effect_free (end_or_nothing end))
  ended (Ok end) = leaf_rule (leaf.Constant end) refl
  ended (Err fault) = nothing_effect_free

  ends_effect_free : (is_high : Bool) (types : List Ty) → IsTrue (is_effect_free (ends_core scene is_high types))
  ends_effect_free is_high [] = nothing_effect_free
  ends_effect_free is_high (ty ∷ types) = ended (end_value is_high (shape_of_type scene.tables.shapes ty))

  without_effect_free : (trees : List Tree) (all : List Lowered) → AllEffectFree all → AllEffectFree (without_number trees all)
  without_effect_free (array ∷ number ∷ []) all effect_free = one_taken lowered_is_effect_free all effect_free
  without_effect_free trees all effect_free = effect_free

  bound_effect_free : (one two : Function) (trees : List Tree) (all : List Lowered) → AllEffectFree all
      → IsTrue (is_effect_free (core.Apply (if is_second scene.facts trees then two else one) (values (without_number trees all))))
  bound_effect_free one two trees all effect_free = applied (if is_second scene.facts trees then two else one) (without_number trees all) (without_effect_free trees all effect_free)

  binary_effect_free : (operator : BinaryOperator) (left right : Expr) → IsTrue (is_effect_free left) → IsTrue (is_effect_free right) → IsTrue (is_effect_free (binary_core operator left right))
  binary_effect_free binary.And left right first second = and_rule left right first second
  binary_effect_free binary.Or left right first second = or_rule left right first second
  binary_effect_free operator left right first second = binary_rule _ left right first second

-- ---- guards

module _ (scene : Scene) (known : Facts) (guard : known.here.in_guard ≡ true) (stay : Stay known scene.facts) where
  -- what may not stand in a guard is refused
  guarded : (span : Span) → ErrorFree (guard_found known.here span) → ⊥
  guarded span whole = true≢false (sym (rule_met false Guard span (subst (λ in_guard. ErrorFree (broken_unless (not in_guard) Guard span)) guard whole)))

  function_effect_free : (span : Span) (name : Predefined) (typings : List TypedExpr) (trees : List Tree) (all : List Lowered)
      → ErrorFree (function_typing known span name typings).found → AllEffectFree scene all → IsTrue (is_effect_free (function_core scene name trees all))
  function_effect_free span Abs typings trees all whole effect_free = applied scene function.Abs all effect_free
  function_effect_free span Min typings trees all whole effect_free = applied scene function.Min all effect_free
  function_effect_free span Max typings trees all whole effect_free = applied scene function.Max all effect_free
  function_effect_free span Low typings trees all whole effect_free = ends_effect_free scene false (named_types scene.facts trees)
  function_effect_free span High typings trees all whole effect_free = ends_effect_free scene true (named_types scene.facts trees)
  function_effect_free span Lb typings trees all whole effect_free = bound_effect_free scene function.LowBound function.LowBound2 trees all effect_free
  function_effect_free span Ub typings trees all whole effect_free = bound_effect_free scene function.HighBound function.HighBound2 trees all effect_free
  function_effect_free span Length typings trees all whole effect_free = applied scene function.Length all effect_free
  function_effect_free span Pred typings trees all whole effect_free = applied scene function.Pred all effect_free
  function_effect_free span Succ typings trees all whole effect_free = applied scene (function.Succ (literals_in scene.facts trees)) all effect_free
  function_effect_free span MyResource typings trees all whole effect_free = leaf_rule leaf.MyResource refl
  function_effect_free span MyVm typings trees all whole effect_free = leaf_rule leaf.MyMachine refl
  function_effect_free span Read typings trees all whole effect_free =
      absurd (guarded span (error_free_second (places_found typings) _ (error_free_second (all_valued typings) _ (error_free_first (function_found known span Read typings) _ whole))))
  function_effect_free span _ typings trees all whole effect_free = nothing_effect_free

  -- a call names a predefined function or a type, and still does
  called_effect_free : (span : Span) (callee : TypedExpr) (typings : List TypedExpr) (sending : LoweredInvocation) (before after : Named) → StaysNamed before after
      → ErrorFree (called_by known span callee typings before).found → AllEffectFree scene (lowered_of sending.arguments) → IsTrue (is_effect_free (call_core scene sending after))
  called_effect_free span callee typings sending (named.Predefined name) after is whole effect_free =
      subst (λ one. IsTrue (is_effect_free (call_core scene sending one))) (sym is)
      (function_effect_free span name typings (trees_of sending.arguments) (lowered_of sending.arguments) whole effect_free)
  called_effect_free span callee typings sending (named.«Type» ty) after is whole effect_free =
      subst (λ one. IsTrue (is_effect_free (call_core scene sending one))) (sym is) (applied scene function.Record (lowered_of sending.arguments) effect_free)
  called_effect_free span callee typings sending _ after is whole effect_free =
      absurd (guarded span
      (error_free_second (invoked_found known.signatures callee.typed.ty typings) _
      (error_free_second (all_valued typings) _
      (error_free_second (value_found callee) _
      (error_free_first (invocation_found known span callee typings) _
      (error_free_first (invocation_found known span callee typings ++ broken_unless (is_callable known.signatures callee.typed.ty) BadUse span) _ whole))))))

  -- nothing is created in a guard
  made_nowhere : {A : Type 0} (span : Span) (resource : QualifiedName) (typings : List Typing) (on : Option Typing)
      → ErrorFree (instance_typing known span (resource_named known resource) (typed_exprs_of typings) (machine_of on)).found → A
  made_nowhere span resource typings on whole =
      let resource_decl = resource_named known resource in
      absurd (guarded span
      (error_free_second (formals_found known (typed_exprs_of typings) (resource_type known.infos resource_decl)) _
      (error_free_second (machine_valued (machine_of on)) _
      (error_free_second (all_valued (typed_exprs_of typings)) _
      (error_free_first (made_found known span (resource_type known.infos resource_decl) (typed_exprs_of typings) (machine_of on)) _ whole)))))

  -- a call names nothing
  call_stays : (called : Called) (later : Named) → StaysNamed (call_typing known called).typed_expr.named later
  call_stays called later = by called.callee.typed_expr.named
    where
      by : (callee : Named) → StaysNamed (called_by known called.span called.callee.typed_expr (typed_exprs_of called.arguments) callee).typed_expr.named later
      by (named.Predefined name) = tt
      by (named.«Type» ty) = tt
      by _ = tt

  -- ---- each tree, when its parts are so

  -- what an expression names stays, and where no rule is broken it is side-effect-free
  abbrev Good : Typing → Named → Bool → Type 0
  Good typing later effect_free = StaysNamed typing.typed_expr.named later × (ErrorFree typing.found → IsTrue effect_free)

  abbrev CreateGood : Create → Type 0
  CreateGood tree = Good (infer_create tree known) (infer_create tree scene.facts).typed_expr.named (is_effect_free (of_create scene tree).1)

  abbrev TreeGood : Tree → Type 0
  TreeGood tree = Good (infer_expr tree known) (typed_expr scene.facts tree).named (lowered_is_effect_free (core_expr scene tree))

  abbrev InvocationGood : Invocation → Type 0
  InvocationGood tree = ErrorFree (call_typing known (infer_invocation tree known)).found → IsTrue (is_effect_free (call_of scene (of_invocation scene tree)))

  abbrev PartGood : PartTree → Type 0
  PartGood tree = ErrorFree (part_found (infer_part tree known)) → IsTrue (part_is_effect_free (of_part scene tree).1)

  abbrev good : Claim
  good = record { create = CreateGood; expr = TreeGood; invocation = InvocationGood; part = PartGood }

  all_good : (trees : List (Known TreeGood)) → ErrorFree (all_found (map (λ (infer : Inferrer). infer known) (map infer_expr (map (λ (tree : Known TreeGood). tree.0) trees))))
      → AllEffectFree scene (map (λ (one : LoweredTree). one.1) (map (told scene) (map (λ (tree : Known TreeGood). tree.0) trees)))
  all_good [] whole = refl
  all_good (tree ∷ trees) whole =
      and_from _ _ (tree.1.1 (error_free_first (infer_expr tree.0 known).found _ whole)) (all_good trees (error_free_second (infer_expr tree.0 known).found _ whole))

  parts_good : (parts : List (Known PartGood)) → ErrorFree (parts_found (map (λ (infer : PartInferrer). infer known) (map infer_part (map (λ (part : Known PartGood). part.0) parts))))
      → IsTrue (list_all part_is_effect_free (map (λ (part : PartTree × Part). part.1) (map (of_part scene) (map (λ (part : Known PartGood). part.0) parts))))
  parts_good [] whole = refl
  parts_good (part ∷ parts) whole =
      and_from _ _ (part.1 (error_free_first (part_found (infer_part part.0 known)) _ whole)) (parts_good parts (error_free_second (part_found (infer_part part.0 known)) _ whole))

  create_good : (y : CreateNode good)
      → Good (from_create inferring (bare_create good y) known) (from_create inferring (bare_create good y) scene.facts).typed_expr.named (is_effect_free (from_create (lowering scene) (bare_create good y)).1)
  create_good (Create-F.Resource span resource arguments None) = (
    tt,
    λ whole.
        let typings = map (λ (infer : Inferrer). infer known) (map infer_expr (map (λ (tree : Known TreeGood). tree.0) arguments)) in
        made_nowhere span resource typings None (error_free_second (all_found typings ++ machine_found None) _ whole),
  )
  create_good (Create-F.Resource span resource arguments (Some machine)) = (
    tt,
    λ whole.
        let typings = map (λ (infer : Inferrer). infer known) (map infer_expr (map (λ (tree : Known TreeGood). tree.0) arguments)) in
        made_nowhere span resource typings (Some (infer_expr machine.0 known)) (error_free_second (all_found typings ++ machine_found (Some (infer_expr machine.0 known))) _ whole),
  )
  create_good (Create-F.Machine span) = (tt, λ whole. absurd (guarded span whole))

  expr_good : (y : ExprNode good)
      → Good (from_expr inferring (bare_expr good y) known) (from_expr inferring (bare_expr good y) scene.facts).typed_expr.named (lowered_is_effect_free (from_expr (lowering scene) (bare_expr good y)).1)
  expr_good (Expr-F.Literal span literal) = (stays_itself (literal_named literal), λ whole. constant_effect_free scene (known_value (literal_typed literal).value))
  expr_good (Expr-F.Name name) = (name_stays known scene.facts stay name.span name.span name.span, λ whole. name_effect_free scene name.span)
  expr_good (Expr-F.BasicType span basic) = (refl, λ whole. nothing_effect_free)
  expr_good (Expr-F.Conversion span conversion value) = (
    tt,
    λ whole.
        apply_rule (conversion_function conversion) (core_value scene value.0 ∷ [])
        (and_from _ _ (value_of_effect_free (core_expr scene value.0) (value.1.1 (error_free_first (infer_expr value.0 known).found _ whole))) refl),
  )
  expr_good (Expr-F.Group span inner) = (tt, λ whole. value_of_effect_free (core_expr scene inner.0) (inner.1.1 (error_free_first (infer_expr inner.0 known).found _ whole)))
  expr_good (Expr-F.Parts span parts) = (tt, λ whole. array_rule _ (parts_good parts (error_free_first (parts_found (map (λ (infer : PartInferrer). infer known) (map infer_part (map (λ (part : Known PartGood). part.0) parts)))) _ whole)))
  expr_good (Expr-F.Field span owner field) =
      let before = (infer_expr owner.0 known).typed_expr in
      let after = (infer_expr owner.0 scene.facts).typed_expr in (
        field_stays known scene.facts stay span before after field before.named after.named owner.1.0,
        λ whole.
            field_effect_free scene (told scene owner.0) field (typed_expr scene.facts (told scene owner.0).0).named (owner.1.1 (error_free_first (infer_expr owner.0 known).found _ whole)),
      )
  expr_good (Expr-F.Index span array first None) = (
    tt,
    λ whole.
        let found = error_free_first ((infer_expr array.0 known).found ++ ((infer_expr first.0 known).found ++ [])) _ whole in
        let after = error_free_second (infer_expr array.0 known).found _ found in
        part_of_effect_free (core_expr scene array.0) (step.At (core_value scene first.0)) (array.1.1 (error_free_first (infer_expr array.0 known).found _ found))
        (at_rule (core_value scene first.0) (value_of_effect_free (core_expr scene first.0) (first.1.1 (error_free_first (infer_expr first.0 known).found _ after)))),
  )
  expr_good (Expr-F.Index span array first (Some second)) = (
    tt,
    λ whole.
        let found = error_free_first ((infer_expr array.0 known).found ++ ((infer_expr first.0 known).found ++ (infer_expr second.0 known).found)) _ whole in
        let after = error_free_second (infer_expr array.0 known).found _ found in
        part_of_effect_free (core_expr scene array.0) (step.At2 (core_value scene first.0) (core_value scene second.0)) (array.1.1 (error_free_first (infer_expr array.0 known).found _ found))
        (at2_rule (core_value scene first.0) (core_value scene second.0)
        (value_of_effect_free (core_expr scene first.0) (first.1.1 (error_free_first (infer_expr first.0 known).found _ after)))
        (value_of_effect_free (core_expr scene second.0) (second.1.1 (error_free_second (infer_expr first.0 known).found _ after)))),
  )
  expr_good (Expr-F.Call invocation) = (call_stays (infer_invocation invocation.0 known) (call_typing scene.facts (infer_invocation invocation.0 scene.facts)).typed_expr.named, invocation.1)
  expr_good (Expr-F.Create create) = create.1
  expr_good (Expr-F.Unary span operator operand) = (
    tt,
    λ whole.
        unary_rule (prefix_of operator) (core_value scene operand.0) (value_of_effect_free (core_expr scene operand.0) (operand.1.1 (error_free_first (infer_expr operand.0 known).found _ whole))),
  )
  expr_good (Expr-F.Pending span operation) = (
    tt,
    λ whole.
        naming_effect_free scene (meant_by scene.facts operation) (λ operation number. core.Leaf (leaf.Count number)) (λ operation number. leaf_rule (leaf.Count number) refl),
  )
  expr_good (Expr-F.Binary span left operator right) = (
    tt,
    λ whole.
        let found = error_free_first ((infer_expr left.0 known).found ++ (infer_expr right.0 known).found) _ whole in
        binary_effect_free scene operator (core_value scene left.0) (core_value scene right.0)
        (value_of_effect_free (core_expr scene left.0) (left.1.1 (error_free_first (infer_expr left.0 known).found _ found)))
        (value_of_effect_free (core_expr scene right.0) (right.1.1 (error_free_second (infer_expr left.0 known).found _ found))),
  )

  invocation_good : (y : InvocationNode good)
      → ErrorFree (call_typing known (from_invocation inferring (bare_invocation good y) known)).found → IsTrue (is_effect_free (call_of scene (from_invocation (lowering scene) (bare_invocation good y))))
  invocation_good y whole =
      let called = from_invocation inferring (bare_invocation good y) known in
      let sending = from_invocation (lowering scene) (bare_invocation good y) in
      let first = error_free_first (called_found called) _ whole in
      called_effect_free called.span called.callee.typed_expr (typed_exprs_of called.arguments) sending called.callee.typed_expr.named (typed_expr scene.facts sending.callee.0).named
      (subst (λ (one : LoweredTree). StaysNamed called.callee.typed_expr.named (typed_expr scene.facts one.0).named) (sym (told_is scene y.callee.0)) y.callee.1.0)
      (error_free_second (called_found called) _ whole)
      (all_good y.arguments (error_free_second called.callee.found _ first))

  part_by : (y : PartNode good) (count : Option (Known TreeGood)) → ErrorFree (part_found (from_part inferring (bare_part good (record y { count = count })) known))
      → IsTrue (part_is_effect_free (from_part (lowering scene) (bare_part good (record y { count = count }))).1)
  part_by y None whole =
      one_rule (core_value scene y.value.0) (value_of_effect_free (core_expr scene y.value.0) (y.value.1.1 (error_free_first (infer_expr y.value.0 known).found _ whole)))
  part_by y (Some count) whole =
      let found = error_free_first ((infer_expr count.0 known).found ++ (infer_expr y.value.0 known).found) _ whole in
      repeated_rule (core_value scene count.0) (core_value scene y.value.0)
      (value_of_effect_free (core_expr scene count.0) (count.1.1 (error_free_first (infer_expr count.0 known).found _ found)))
      (value_of_effect_free (core_expr scene y.value.0) (y.value.1.1 (error_free_second (infer_expr count.0 known).found _ found)))

  part_good : (y : PartNode good) → ErrorFree (part_found (from_part inferring (bare_part good y) known)) → IsTrue (part_is_effect_free (from_part (lowering scene) (bare_part good y)).1)
  part_good y = part_by y y.count

  -- ---- all trees

  by_parts : ByParts good
  by_parts = record {
    create = λ y. subst (λ t. t) (λ i. Good (create_folds inferring (bare_create good y) i known) (create_folds inferring (bare_create good y) i scene.facts).typed_expr.named (is_effect_free (create_folds (lowering scene) (bare_create good y) i).1)) (create_good y);
    expr = λ y. subst (λ t. t) (λ i. Good (expr_folds inferring (bare_expr good y) i known) (expr_folds inferring (bare_expr good y) i scene.facts).typed_expr.named (lowered_is_effect_free (expr_folds (lowering scene) (bare_expr good y) i).1)) (expr_good y);
    invocation = λ y. subst (λ t. t) (λ i. ErrorFree (call_typing known (invocation_folds inferring (bare_invocation good y) i known)).found → IsTrue (is_effect_free (call_of scene (invocation_folds (lowering scene) (bare_invocation good y) i)))) (invocation_good y);
    part = λ y. subst (λ t. t) (λ i. ErrorFree (part_found (part_folds inferring (bare_part good y) i known)) → IsTrue (part_is_effect_free (part_folds (lowering scene) (bare_part good y) i).1)) (part_good y);
  }

  tree_good : (tree : Tree) → TreeGood tree
  tree_good = each_expr good by_parts

  -- where no rule is broken in a guard it is side-effect-free
  pub expr_is_effect_free : (tree : Tree) → ErrorFree (infer_expr tree known).found → IsTrue (is_effect_free (core_value scene tree))
  expr_is_effect_free tree whole = value_of_effect_free (core_expr scene tree) ((tree_good tree).1 whole)
