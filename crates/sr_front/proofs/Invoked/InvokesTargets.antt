-- What is invoked by the name of an operation, or through a capability of a resource, is known by a type whose signature
-- fits what the table says of it, at the place of the invocation and in the end.
use Rattle.std.proofs.Common.{◌≡◌, ℕ, Bool, true, List, Option, Some, None, refl, sym, ap, subst, ◌∙◌, slice_get, IsTrue, length, position, unwrap_or}
use Rattle.std.specs.Option.{option_and_then, option_map}
use Rattle.std.proofs.lemmas.Bool.{false≢true}
use Rattle.sr_check_expr.specs.declared.facts.Facts.{Facts}
use Rattle.sr_check_expr.specs.declared.info.Info.{Info}
use Rattle.sr_check_expr.specs.declared.info.Info.TheVariants as info
use Rattle.sr_check_expr.specs.declared.typed_expr.TypedExpr.{TypedExpr}
use Rattle.sr_check_expr.specs.declared.typed_expr.Named.{Named}
use Rattle.sr_check_expr.specs.declared.typed_expr.Named.TheVariants as named
use Rattle.sr_check_expr.specs.Arguments.{takes_as_many}
use Rattle.sr_check_expr.specs.Exprs.{field_typing, grouped}
use Rattle.sr_check_expr.specs.PredefinedCalls.{is_resource}
use Rattle.sr_check_expr.specs.Infos.{info_at, name_spot}
use Rattle.sr_check_expr.specs.Meanings.{constant_at, type_of, typed_expr}
use Rattle.sr_check_expr.specs.Naming.{capability_part, declared_typing, field_outcome, layer_field, meaning_typing, name_typing, operation_type}
use Rattle.sr_check_expr.specs.Typings.{is_met, settled_typed, value_at, value_found}
use Rattle.sr_check.specs.ErrorFree.{ErrorFree}
use Rattle.sr_check.proofs.ErrorFree.{error_free_second, rule_met}
use Rattle.sr_check.specs.Invoking.{is_operation_name}
use Rattle.sr_core.specs.declared.component.Operation.{Operation}
use Rattle.sr_core.specs.declared.expression.Expr.{Expr}
use Rattle.sr_core.specs.declared.expression.Expr.TheVariants as core
use Rattle.sr_core.specs.declared.expression.Leaf.TheVariants as leaf
use Rattle.sr_lower_expr.specs.declared.scene.Scene.{Scene}
use Rattle.sr_core.specs.declared.expression.Step.TheVariants as step
use Rattle.sr_lower_expr.specs.declared.scene.Lowered.{Lowered}
use Rattle.sr_lower_expr.specs.Expressions.{LoweredTree, field_core, field_number, layer_member, meaning_core, member_core, name_core, named_core, spec_operation}
use Rattle.sr_lower_expr.specs.Places.{nothing, operation_at, operation_expr, operation_number, place_at, root_of, value_of, whose_by}
use Rattle.sr_names.specs.Components.{member_named}
use Rattle.sr_names.specs.declared.finding.Rule.TheVariants.{BadType}
use Rattle.sr_names.specs.declared.meaning.Decl.{Decl}
use Rattle.sr_names.specs.declared.meaning.Meaning.{Meaning}
use Rattle.sr_names.specs.declared.meaning.Meaning.TheVariants.{Predefined as MeansPredefined, Declared}
use Rattle.sr_names.specs.declared.predefined.Predefined.TheVariants.{Eof}
use Rattle.sr_names.specs.declared.spot.Spot.{Spot}
use Rattle.sr_names.specs.Spots.{same_spot, spot_of}
use Rattle.sr_names.specs.Uses.{meaning_at}
use Rattle.sr_tables.specs.Tables.{found_at, things_in}
use Rattle.sr_tree.specs.declared.name.Name.{Name}
use Rattle.sr_types.specs.declared.signature.Signature.{Signature}
use Rattle.sr_types.specs.declared.ty.Ty.{Ty, out-Ty}
use Rattle.sr_types.specs.declared.ty.Ty.TheOpen.{Ty-F}
use Rattle.sr_types.specs.declared.typed.Typed.{Typed}
use Rattle.sr_value.specs.declared.place.Span.{Span}
use Rattle.sr_value.specs.declared.value.Value.{Value}
use Rattle.sr_front.specs.Invocations.{InvocationTest, expr_seen}
use Rattle.sr_front.proofs.EffectFree.EffectFreeExprs.{Stay}
use Rattle.sr_front.proofs.Headed.Headed.{HasHead}
use Rattle.sr_front.proofs.Invoked.InvokesNames.{Nameless, leaf_names, load_nameless, member_names, nothing_nameless, part_nameless}
use Rattle.sr_front.proofs.Known.TypesStay.{Grows}

-- what an operation of the table is in the end
pub record AtEnd (scene : Scene) (spot : Spot) (operation : Operation) : Type 0 where
  pub numbered : slice_get (things_in scene.tables.operations) (operation_number scene spot) ≡ Some operation
  pub ty : Ty
  pub component : Spot
  pub is_local : Bool
  pub known : info_at scene.facts.infos spot ≡ Some (info.Operation ty component is_local)
  pub head : HasHead scene.facts.signatures operation ty

abbrev pub AllAtEnd : Scene → Type 0
AllAtEnd scene = (spot : Spot) (operation : Operation) → found_at scene.tables.operations spot ≡ Some operation → AtEnd scene spot operation

-- an operation with this head
abbrev pub IsHead : List Signature → Operation → Info → Type 0
IsHead signatures operation (info.Operation ty component is_local) = HasHead signatures operation ty
IsHead signatures operation (info.Value typed) = ⊥
IsHead signatures operation (info.«Type» ty) = ⊥
IsHead signatures operation (info.Enumeration number literals) = ⊥
IsHead signatures operation (info.Record fields) = ⊥
IsHead signatures operation (info.OpType ty) = ⊥
IsHead signatures operation (info.Component ty) = ⊥

-- what is known at a place: what isn't a value or an operation in the end is what it is in the end, what is known is known
-- in the end, what is made of a resource with an argument for each formal passes, and where an operation of the table stands nothing else is known
pub record Reads (test : InvocationTest) (scene : Scene) (known : Facts) : Type 0 where
  pub stay : Stay scene.facts known
  pub grows : Grows known scene.facts
  pub makes : (used : Spot) (decl : Decl) (ty : Ty) (number : ℕ) (arguments : List TypedExpr) → meaning_at scene.facts.uses used ≡ Some (Declared decl) → is_resource decl.sort ≡ true
      → position (same_spot decl.spot) scene.tables.components ≡ Some number → info_at known.infos decl.spot ≡ Some (info.Component ty) → takes_as_many known.signatures ty arguments ≡ true
      → IsTrue (test.makes number (length arguments))
  pub heads : (spot : Spot) (operation : Operation) (found : Info) → found_at scene.tables.operations spot ≡ Some operation → info_at known.infos spot ≡ Some found → IsHead known.signatures operation found

module _ (test : InvocationTest) (scene : Scene) (ends : AllAtEnd scene) (known : Facts) (reads : Reads test scene known) where
  -- an expression that names the operation with this number
  pub record IsTarget (typed : TypedExpr) (end : Ty) (number : ℕ) : Type 0 where
    pub operation : Operation
    pub numbered : slice_get (things_in scene.tables.operations) number ≡ Some operation
    pub is_name : is_operation_name typed.named ≡ true
    pub head : HasHead known.signatures operation typed.typed.ty
    pub final : HasHead scene.facts.signatures operation end

  abbrev pub Fits : TypedExpr → Ty → Option ℕ → Type 0
  Fits typed final None = Unit {0}
  Fits typed final (Some number) = IsTarget typed final number

  abbrev pub operation_of : Expr → Option ℕ
  operation_of expr = (expr_seen test expr).operation

  pub nameless_fits : (typed : TypedExpr) (final : Ty) (expr : Expr) → Nameless test expr → Fits typed final (operation_of expr)
  nameless_fits typed final expr none = subst (Fits typed final) (sym none) tt

  -- ---- names

  target_known : (span : Span) (decl : Decl) (final : Ty) (operation : Operation) (number : ℕ) (found : Option Info) → found_at scene.tables.operations decl.spot ≡ Some operation
      → info_at known.infos decl.spot ≡ found → ErrorFree (declared_typing span decl found).found → slice_get (things_in scene.tables.operations) number ≡ Some operation
      → HasHead scene.facts.signatures operation final → IsTarget (declared_typing span decl found).typed_expr final number
  target_known span decl final operation number None at is whole numbered end = absurd whole
  target_known span decl final operation number (Some (info.Operation ty component is_local)) at is whole numbered end = record {
    operation = operation;
    numbered = numbered;
    is_name = refl;
    head = reads.heads decl.spot operation (info.Operation ty component is_local) at is;
    final = end;
  }
  target_known span decl final operation number (Some (info.Value typed)) at is whole numbered end = absurd (reads.heads decl.spot operation (info.Value typed) at is)
  target_known span decl final operation number (Some (info.«Type» ty)) at is whole numbered end = absurd (reads.heads decl.spot operation (info.«Type» ty) at is)
  target_known span decl final operation number (Some (info.Enumeration count literals)) at is whole numbered end = absurd (reads.heads decl.spot operation (info.Enumeration count literals) at is)
  target_known span decl final operation number (Some (info.Record fields)) at is whole numbered end = absurd (reads.heads decl.spot operation (info.Record fields) at is)
  target_known span decl final operation number (Some (info.OpType ty)) at is whole numbered end = absurd (reads.heads decl.spot operation (info.OpType ty) at is)
  target_known span decl final operation number (Some (info.Component ty)) at is whole numbered end = absurd (reads.heads decl.spot operation (info.Component ty) at is)

  abbrev operation_found : Spot → Option Operation → Expr
  operation_found spot None = nothing
  operation_found spot (Some operation) = core.Leaf (leaf.Operation (whose_by scene operation.scope operation.component) (operation_number scene spot))

  named_is : (spot : Spot) (operation : Operation) → operation_at scene spot ≡ Some operation
      → operation_of (operation_expr scene spot) ≡ Some (operation_number scene spot)
  named_is spot operation at =
      ap (λ (found : Option Operation). operation_of (operation_found spot found)) at
      ∙ leaf_names test (leaf.Operation (whose_by scene operation.scope operation.component) (operation_number scene spot))

  declared_fits : (span span2 : Span) (decl : Decl) (written : Option Value) (found : Option Operation) → operation_at scene decl.spot ≡ found → ErrorFree (declared_typing span decl (info_at known.infos decl.spot)).found
      → Fits (declared_typing span decl (info_at known.infos decl.spot)).typed_expr (declared_typing span2 decl (info_at scene.facts.infos decl.spot)).typed_expr.typed.ty (operation_of (value_of (named_core scene decl.spot written found)))
  declared_fits span span2 decl (Some written) found at whole = nameless_fits _ _ _ (leaf_names test (leaf.Constant written))
  declared_fits span span2 decl None None at whole = nameless_fits _ _ _ (load_nameless test (place_at (root_of scene decl.spot)))
  declared_fits span span2 decl None (Some operation) at whole =
      let end = ends decl.spot operation at in
      subst (Fits (declared_typing span decl (info_at known.infos decl.spot)).typed_expr (declared_typing span2 decl (info_at scene.facts.infos decl.spot)).typed_expr.typed.ty) (sym (named_is decl.spot operation at))
      (target_known span decl _ operation (operation_number scene decl.spot) (info_at known.infos decl.spot) at refl whole end.numbered
      (subst (λ info. HasHead scene.facts.signatures operation (declared_typing span2 decl info).typed_expr.typed.ty) (sym end.known) end.head))

  meaning_fits : (span span2 : Span) (meaning : Option Meaning) → ErrorFree (meaning_typing known.infos span meaning).found
      → Fits (meaning_typing known.infos span meaning).typed_expr (meaning_typing scene.facts.infos span2 meaning).typed_expr.typed.ty (operation_of (value_of (meaning_core scene meaning)))
  meaning_fits span span2 None whole = nameless_fits _ _ _ (nothing_nameless test)
  meaning_fits span span2 (Some (MeansPredefined Eof)) whole = nameless_fits _ _ _ (leaf_names test (leaf.Constant _))
  meaning_fits span span2 (Some (MeansPredefined _)) whole = nameless_fits _ _ _ (nothing_nameless test)
  meaning_fits span span2 (Some (Declared decl)) whole = declared_fits span span2 decl (constant_at scene.facts decl.spot) (operation_at scene decl.spot) refl whole

  pub name_fits : (span span2 used : Span) → ErrorFree (name_typing known span used).found
      → Fits (name_typing known span used).typed_expr (name_typing scene.facts span2 used).typed_expr.typed.ty (operation_of (value_of (name_core scene used)))
  name_fits span span2 used =
      subst (λ uses. ErrorFree (meaning_typing known.infos span (meaning_at uses (spot_of used))).found
      → Fits (meaning_typing known.infos span (meaning_at uses (spot_of used))).typed_expr (name_typing scene.facts span2 used).typed_expr.typed.ty (operation_of (value_of (name_core scene used)))) reads.stay.uses
      (meaning_fits span span2 (meaning_at scene.facts.uses (spot_of used)))

  -- ---- operations through capabilities

  abbrev member_type : Facts → Option Decl → Option Ty
  member_type facts member = option_and_then (λ decl. option_and_then operation_type (info_at facts.infos decl.spot)) member

  abbrev member_found : Lowered → Spot → Option Operation → Expr
  member_found owner spot None = nothing
  member_found owner spot (Some operation) = core.Member (value_of owner) (operation_number scene spot)

  member_is : (owner : Lowered) (spot : Spot) (operation : Operation) → operation_at scene spot ≡ Some operation → operation_of (member_core scene owner spot) ≡ Some (operation_number scene spot)
  member_is owner spot operation at = ap (λ (found : Option Operation). operation_of (member_found owner spot found)) at ∙ member_names test (value_of owner) (operation_number scene spot)

  member_target : (span : Span) (spot : Spot) (final : Ty) (operation : Operation) (number : ℕ) (found : Option Info) → found_at scene.tables.operations spot ≡ Some operation → info_at known.infos spot ≡ found
      → IsTrue (is_met (capability_part (option_and_then operation_type found))) → slice_get (things_in scene.tables.operations) number ≡ Some operation → HasHead scene.facts.signatures operation final
      → IsTarget (value_at span (settled_typed (capability_part (option_and_then operation_type found)))) final number
  member_target span spot final operation number (Some (info.Operation ty component is_local)) at is met numbered end = record {
    operation = operation;
    numbered = numbered;
    is_name = refl;
    head = reads.heads spot operation (info.Operation ty component is_local) at is;
    final = end;
  }
  member_target span spot final operation number _ at is met numbered end = absurd (false≢true met)

  spot_fits : (span : Span) (owner : Lowered) (spot : Spot) (found : Option Operation) → operation_at scene spot ≡ found → IsTrue (is_met (capability_part (option_and_then operation_type (info_at known.infos spot))))
      → Fits (value_at span (settled_typed (capability_part (option_and_then operation_type (info_at known.infos spot))))) (settled_typed (capability_part (option_and_then operation_type (info_at scene.facts.infos spot)))).ty
      (operation_of (member_core scene owner spot))
  spot_fits span owner spot None at met = nameless_fits _ _ _ (ap (λ (found : Option Operation). operation_of (member_found owner spot found)) at ∙ nothing_nameless test)
  spot_fits span owner spot (Some operation) at met =
      let end = ends spot operation at in
      subst
      (Fits (value_at span (settled_typed (capability_part (option_and_then operation_type (info_at known.infos spot))))) (settled_typed (capability_part (option_and_then operation_type (info_at scene.facts.infos spot)))).ty)
      (sym (member_is owner spot operation at))
      (member_target span spot _ operation (operation_number scene spot) (info_at known.infos spot) at refl met end.numbered
      (subst (λ info. HasHead scene.facts.signatures operation (settled_typed (capability_part (option_and_then operation_type info))).ty) (sym end.known) end.head))

  member_fits : (span : Span) (owner : Lowered) (resource : Spot) (member : Option Decl) → IsTrue (is_met (capability_part (member_type known member)))
      → Fits (value_at span (settled_typed (capability_part (member_type known member)))) (settled_typed (capability_part (member_type scene.facts member))).ty
      (operation_of (member_core scene owner (unwrap_or (option_map (λ (decl : Decl). decl.spot) member) resource)))
  member_fits span owner resource None met = absurd (false≢true met)
  member_fits span owner resource (Some decl) met = spot_fits span owner decl.spot (operation_at scene decl.spot) refl met

  -- ---- names after a component or a value, and groups

  layer_fits : (span : Span) (owner other : Typed) (told : Lowered) (name : List ℕ) (layer : Ty-F Ty) → IsTrue (is_met (layer_field known owner name layer))
      → Fits (value_at span (settled_typed (layer_field known owner name layer))) (settled_typed (layer_field scene.facts other name layer)).ty (operation_of (value_of (layer_member scene told name layer)))
  layer_fits span owner other told name (Ty-F.Rec spot) met = nameless_fits _ _ _ (part_nameless test told (step.Field (field_number scene.facts spot name)))
  layer_fits span owner other told name (Ty-F.Resource spot) met =
      subst (λ specs. IsTrue (is_met (capability_part (member_type known (member_named specs (name_spot spot) name))))
      → Fits (value_at span (settled_typed (capability_part (member_type known (member_named specs (name_spot spot) name)))))
      (settled_typed (capability_part (member_type scene.facts (member_named scene.facts.specs (name_spot spot) name)))).ty (operation_of (member_core scene told (spec_operation scene.facts spot name)))) (sym reads.grows.specs)
      (member_fits span told (name_spot spot) (member_named scene.facts.specs (name_spot spot) name)) met
  layer_fits span owner other told name _ met = nameless_fits _ _ _ (nothing_nameless test)

  -- the owner has the same type in the end
  pub field_fits : (span : Span) (owner : TypedExpr) (told : LoweredTree) (field : Name) (what : Named) → owner.typed.ty ≡ type_of scene.facts told.0 → ErrorFree (field_typing known span owner field what).found
      → Fits (field_typing known span owner field what).typed_expr (field_typing scene.facts span (typed_expr scene.facts told.0) field what).typed_expr.typed.ty (operation_of (value_of (field_core scene told field what)))
  field_fits span owner told field (named.Component decl) same whole = name_fits span span field.span whole
  field_fits span owner told field _ same whole =
      subst (λ ty. IsTrue (is_met (layer_field known owner.typed field.text (out-Ty ty)))
      → Fits (value_at span (settled_typed (layer_field known owner.typed field.text (out-Ty ty)))) (settled_typed (layer_field scene.facts (typed_expr scene.facts told.0).typed field.text (out-Ty (type_of scene.facts told.0)))).ty
      (operation_of (value_of (layer_member scene told.1 field.text (out-Ty (type_of scene.facts told.0)))))) (sym same)
      (layer_fits span owner.typed (typed_expr scene.facts told.0).typed told.1 field.text (out-Ty (type_of scene.facts told.0)))
      (rule_met (is_met (field_outcome known owner.typed field.text)) BadType span (error_free_second (value_found owner) _ whole))

  pub group_fits : (span : Span) (typed : TypedExpr) (final : Ty) (number : Option ℕ) → Fits typed final number → Fits (value_at span (grouped typed.typed)) final number
  group_fits span typed final None fits = tt
  group_fits span typed final (Some number) fits = record { operation = fits.operation; numbered = fits.numbered; is_name = refl; head = fits.head; final = fits.final }
