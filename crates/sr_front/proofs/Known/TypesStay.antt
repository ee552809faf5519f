-- What a name, a part, a call and a creation are where they stand they are in the end, where no rule is broken: all that is
-- known there is known in the end.
use Rattle.std.proofs.Common.{◌≡◌, Bool, true, false, List, [], ◌∷◌, ◌++◌, Option, Some, None, IsTrue, refl, sym, ap, subst, ◌∙◌}
use Rattle.std.specs.Prelude.{ℕ}
use Rattle.std.specs.Option.{option_and_then, option_map}
use Rattle.std.proofs.lemmas.Bool.{false≢true}
use Rattle.sr_value.specs.declared.place.Span.{Span}
use Rattle.sr_names.specs.declared.finding.Finding.{Finding}
use Rattle.sr_names.specs.declared.finding.Rule.TheVariants.{BadType, BadUse}
use Rattle.sr_names.specs.declared.meaning.Decl.{Decl}
use Rattle.sr_names.specs.declared.meaning.Meaning.{Meaning}
use Rattle.sr_names.specs.declared.meaning.Meaning.TheVariants.{Declared, Predefined as MeansPredefined}
use Rattle.sr_names.specs.declared.predefined.Predefined.{Predefined}
use Rattle.sr_names.specs.declared.predefined.Predefined.TheVariants as predefined
use Rattle.sr_names.specs.declared.spot.Spot.{Spot}
use Rattle.sr_names.specs.Components.{member_named}
use Rattle.sr_names.specs.Spots.{spot_of}
use Rattle.sr_names.specs.Uses.{meaning_at}
use Rattle.sr_types.specs.declared.signature.Signature.{Signature}
use Rattle.sr_types.specs.declared.ty.Ty.{Ty, out-Ty}
use Rattle.sr_types.specs.declared.ty.Ty.TheOpen.{Ty-F}
use Rattle.sr_types.specs.declared.ty.Ty.TheVariants as ty
use Rattle.sr_types.specs.declared.typed.Outcome.{Outcome}
use Rattle.sr_types.specs.declared.typed.Outcome.TheVariants.{Met}
use Rattle.sr_types.specs.declared.typed.Typed.{Typed}
use Rattle.sr_types.specs.Outcomes.{computed, met_if}
use Rattle.sr_types.specs.declared.typed.Static.TheVariants.{Unknown}
use Rattle.sr_types.specs.Signatures.{KeepsNumbers, layer_signature, signature_at}
use Rattle.sr_types.specs.Types.{layer_is_untyped}
use Rattle.sr_types.specs.Predefined.{high_rule, low_rule}
use Rattle.sr_check_expr.specs.declared.facts.Facts.{Facts}
use Rattle.sr_check_expr.specs.declared.info.Info.{Info}
use Rattle.sr_check_expr.specs.declared.info.Info.TheVariants as info
use Rattle.sr_check_expr.specs.declared.typed_expr.Named.{Named}
use Rattle.sr_check_expr.specs.declared.typed_expr.Named.TheVariants as named
use Rattle.sr_check_expr.specs.declared.typed_expr.TypedExpr.{TypedExpr}
use Rattle.sr_check_expr.specs.Arguments.{all_valued, as_many, is_callable, invoked_outcome, returned_in, returned_outcome, takes_by}
use Rattle.sr_check_expr.specs.Calls.{called_by, invocation_found, made_found, layer_record, made_outcome, record_if}
use Rattle.sr_check_expr.specs.Creating.{component_type, instance_type, instance_typing, made_found as creation_found, made_of, resource_if, resource_type}
use Rattle.sr_check_expr.specs.Exprs.{operation_component, pending_found, pending_outcome, pending_typing}
use Rattle.sr_check_expr.specs.Infos.{info_at, name_spot, type_spot}
use Rattle.sr_check_expr.specs.Naming.{capability_part, decl_info, decl_of, declared_typing, field_outcome, field_part, field_named, fields_of, info_typing, layer_field, meaning_typing, name_typing, operation_type}
use Rattle.sr_check_expr.specs.PredefinedCalls.{by_one, function_found, function_outcome, info_shape, is_resource, layer_shape, one_outcome, only, unless_untyped}
use Rattle.sr_check_expr.specs.Typings.{Typing, broken_unless, is_met, settled, settled_typed, value_at}
use Rattle.sr_check.specs.ErrorFree.{ErrorFree}
use Rattle.sr_check.proofs.ErrorFree.{error_free_second, rule_met}
use Rattle.sr_front.proofs.Known.InfosStay.{Stays}
use Rattle.sr_front.proofs.Constants.Placeless.{placeless, placeless_info}

-- in the same component, all that is known now is known in the end, and of types the same is known
pub record Grows (now end : Facts) : Type 0 where
  pub uses : now.uses ≡ end.uses
  pub specs : now.specs ≡ end.specs
  pub component : now.here.component.spot ≡ end.here.component.spot
  pub infos : Stays now end
  pub records : (spot : Spot) → fields_of (info_at now.infos spot) ≡ fields_of (info_at end.infos spot)
  pub shapes : (spot : Spot) → info_shape (info_at now.infos spot) ≡ info_shape (info_at end.infos spot)
  pub signatures : KeepsNumbers now.signatures end.signatures

-- where no rule is broken here, it is the same in the end, but for whether it is a place
abbrev pub Alike : Typing → Typing → Type 0
Alike here end = ErrorFree here.found → placeless here.typed_expr ≡ placeless end.typed_expr

-- a rule that is met here gives the same in the end
abbrev pub SameMet : Outcome → Outcome → Type 0
SameMet here end = IsTrue (is_met here) → here ≡ end

pub settled_alike : (span : Span) (found more : List Finding) (here end : Outcome) → SameMet here end → Alike (settled span found here) (settled span more end)
settled_alike span found more here end same whole =
    ap (λ outcome. placeless (value_at span (settled_typed outcome))) (same (rule_met (is_met here) BadType span (error_free_second found _ whole)))

module _ (now end : Facts) (grows : Grows now end) where
  unmapped : {A : Type 0} (told : Option Info → A) → ((one : Info) → told (Some one) ≡ told (Some (placeless_info one))) → (found : Option Info) → told (option_map placeless_info found) ≡ told found
  unmapped told same None = refl
  unmapped told same (Some one) = sym (same one)

  -- what is told of what is known, is the same in the end
  known_alike : {A : Type 0} (told : Option Info → A) → ((one : Info) → told (Some one) ≡ told (Some (placeless_info one))) → (Fine : Option Info → Type 0) (spot : Spot) → (Fine None → ⊥) → Fine (info_at now.infos spot)
      → told (info_at now.infos spot) ≡ told (info_at end.infos spot)
  known_alike told same Fine spot never = by (info_at now.infos spot) refl
    where
      by : (found : Option Info) → info_at now.infos spot ≡ found → Fine (info_at now.infos spot) → told (info_at now.infos spot) ≡ told (info_at end.infos spot)
      by None is fine = absurd (never (subst Fine is fine))
      by (Some one) is fine = ap told is ∙ same one ∙ ap told (sym (grows.infos spot one is)) ∙ unmapped told same (info_at end.infos spot)

  -- ---- names

  info_alike : (span : Span) (decl : Decl) (one : Info) → placeless (info_typing span decl one) ≡ placeless (info_typing span decl (placeless_info one))
  info_alike span decl (info.Value typed) = refl
  info_alike span decl _ = refl

  meaning_alike : (span : Span) (meaning : Option Meaning) → Alike (meaning_typing now.infos span meaning) (meaning_typing end.infos span meaning)
  meaning_alike span None whole = refl
  meaning_alike span (Some (MeansPredefined name)) whole = refl
  meaning_alike span (Some (Declared decl)) whole =
      known_alike (λ found. placeless (declared_typing span decl found).typed_expr) (info_alike span decl) (λ found. ErrorFree (declared_typing span decl found).found) decl.spot (λ fine. fine) whole

  pub name_alike : (span used : Span) → Alike (name_typing now span used) (name_typing end span used)
  name_alike span used whole =
      meaning_alike span (meaning_at now.uses (spot_of used)) whole ∙ ap (λ uses. placeless (meaning_typing end.infos span (meaning_at uses (spot_of used))).typed_expr) grows.uses

  -- ---- fields, and operations of resources

  abbrev operation_of : Facts → Option Decl → Option Ty
  operation_of facts member = option_and_then (λ decl. option_and_then operation_type (info_at facts.infos decl.spot)) member

  operation_alike : (one : Info) → operation_type one ≡ operation_type (placeless_info one)
  operation_alike (info.Value typed) = refl
  operation_alike _ = refl

  member_alike : (member : Option Decl) → SameMet (capability_part (operation_of now member)) (capability_part (operation_of end member))
  member_alike None met = refl
  member_alike (Some decl) met =
      known_alike (λ found. capability_part (option_and_then operation_type found)) (λ one. ap capability_part (operation_alike one)) (λ found. IsTrue (is_met (capability_part (option_and_then operation_type found)))) decl.spot
      (λ met. false≢true met) met

  layer_alike : {A : Type 0} (owner : Typed) (name : List ℕ) (layer : Ty-F A) → SameMet (layer_field now owner name layer) (layer_field end owner name layer)
  layer_alike owner name (Ty-F.Rec spot) met = ap (λ fields. field_part owner (field_named fields name)) (grows.records (name_spot spot))
  layer_alike owner name (Ty-F.Resource spot) met =
      member_alike (member_named now.specs (name_spot spot) name) met
      ∙ ap (λ specs. capability_part (operation_of end (member_named specs (name_spot spot) name))) grows.specs
  layer_alike owner name Ty-F.Untyped met = refl
  layer_alike owner name _ met = refl

  pub field_alike : (owner : Typed) (name : List ℕ) → SameMet (field_outcome now owner name) (field_outcome end owner name)
  field_alike owner name = layer_alike owner name (out-Ty owner.ty)

  -- ---- invocations that are counted

  component_alike : (one : Info) → operation_component (Some one) ≡ operation_component (Some (placeless_info one))
  component_alike (info.Value typed) = refl
  component_alike _ = refl

  counted_alike : (decl : Option Decl) → SameMet (pending_outcome (operation_component (decl_info now.infos decl))) (pending_outcome (operation_component (decl_info end.infos decl)))
  counted_alike None met = refl
  counted_alike (Some decl) met = known_alike (λ found. pending_outcome (operation_component found)) (λ one. ap pending_outcome (component_alike one)) (λ found. IsTrue (is_met (pending_outcome (operation_component found)))) decl.spot (λ met. false≢true met) met

  pub pending_alike : (span used : Span) → Alike (pending_typing now span used) (pending_typing end span used)
  pending_alike span used =
      settled_alike span (pending_found now.here span (operation_component (decl_info now.infos (decl_of (meaning_at now.uses (spot_of used)))))) (pending_found end.here span (operation_component (decl_info end.infos (decl_of (meaning_at end.uses (spot_of used))))))
      (pending_outcome (operation_component (decl_info now.infos (decl_of (meaning_at now.uses (spot_of used))))))
      (pending_outcome (operation_component (decl_info end.infos (decl_of (meaning_at end.uses (spot_of used))))))
      (λ met. counted_alike (decl_of (meaning_at now.uses (spot_of used))) met ∙ ap (λ uses. pending_outcome (operation_component (decl_info end.infos (decl_of (meaning_at uses (spot_of used)))))) grows.uses)

  -- ---- predefined functions

  shape_alike : {A : Type 0} (layer : Ty-F A) → layer_shape now.infos layer ≡ layer_shape end.infos layer
  shape_alike (Ty-F.Enum spot) = grows.shapes (name_spot spot)
  shape_alike _ = refl

  end_alike : (name : Predefined) (argument : TypedExpr) (is : Named) → argument.named ≡ is → one_outcome now.infos name argument ≡ one_outcome end.infos name argument
  end_alike predefined.Low argument (named.«Type» ty) is = rw is (ap (λ shape. unless_untyped ty (low_rule ty shape)) (shape_alike (out-Ty ty)))
  end_alike predefined.High argument (named.«Type» ty) is = rw is (ap (λ shape. unless_untyped ty (high_rule ty shape)) (shape_alike (out-Ty ty)))
  end_alike predefined.Low argument _ is = rw is refl
  end_alike predefined.High argument _ is = rw is refl
  end_alike name argument _ is = refl

  one_alike : (name : Predefined) (argument : Option TypedExpr) → by_one now.infos name argument ≡ by_one end.infos name argument
  one_alike name None = refl
  one_alike name (Some argument) = end_alike name argument argument.named refl

  function_alike : (name : Predefined) (arguments : List TypedExpr) → function_outcome now name arguments ≡ function_outcome end name arguments
  function_alike predefined.Read arguments = refl
  function_alike predefined.Min arguments = refl
  function_alike predefined.Max arguments = refl
  function_alike predefined.Lb arguments = refl
  function_alike predefined.Ub arguments = refl
  function_alike predefined.MyResource [] = ap (λ spot. Met (computed (ty.Resource (type_spot spot)) Unknown)) grows.component
  function_alike predefined.MyResource (argument ∷ arguments) = refl
  function_alike predefined.MyVm [] = refl
  function_alike predefined.MyVm (argument ∷ arguments) = refl
  function_alike name arguments = one_alike name (only arguments)

  -- ---- operations

  abbrev invoked_by : Bool → List TypedExpr → Option Signature → Outcome
  invoked_by untyped arguments signature = returned_outcome (takes_by signature untyped arguments) (returned_in signature untyped)

  signed_alike : (layer : Ty-F Ty) (arguments : List TypedExpr)
      → SameMet (invoked_by (layer_is_untyped layer) arguments (layer_signature now.signatures layer)) (invoked_by (layer_is_untyped layer) arguments (layer_signature end.signatures layer))
  signed_alike (Ty-F.Op number) arguments met = by (signature_at now.signatures number) refl met
    where
      by : (found : Option Signature) → signature_at now.signatures number ≡ found → SameMet (invoked_by false arguments (signature_at now.signatures number)) (invoked_by false arguments (signature_at end.signatures number))
      by None is met = absurd (false≢true (subst (λ found. IsTrue (is_met (invoked_by false arguments found))) is met))
      by (Some one) is met = ap (invoked_by false arguments) (is ∙ sym (grows.signatures number one is))
  signed_alike _ arguments met = refl

  pub invoked_alike : (callee : Ty) (arguments : List TypedExpr) → SameMet (invoked_outcome now.signatures callee arguments) (invoked_outcome end.signatures callee arguments)
  invoked_alike callee arguments = signed_alike (out-Ty callee) arguments

  -- ---- records

  layer_made_alike : {A : Type 0} (arguments : List TypedExpr) (layer : Ty-F A) → layer_record now arguments layer ≡ layer_record end arguments layer
  layer_made_alike arguments (Ty-F.Rec spot) = ap (λ fields. record_if (as_many fields arguments) (ty.Rec spot)) (grows.records (name_spot spot))
  layer_made_alike arguments Ty-F.Untyped = refl
  layer_made_alike arguments _ = refl

  -- ---- calls

  pub called_alike : (span : Span) (callee : TypedExpr) (arguments : List TypedExpr) (is : Named) → Alike (called_by now span callee arguments is) (called_by end span callee arguments is)
  called_alike span callee arguments (named.Predefined name) = settled_alike span (function_found now span name arguments) (function_found end span name arguments) (function_outcome now name arguments) (function_outcome end name arguments) (λ met. function_alike name arguments)
  called_alike span callee arguments (named.«Type» ty) = settled_alike span (all_valued arguments ++ made_found now ty arguments) (all_valued arguments ++ made_found end ty arguments) (made_outcome now ty arguments) (made_outcome end ty arguments) (λ met. layer_made_alike arguments (out-Ty ty))
  called_alike span callee arguments _ = settled_alike span (invocation_found now span callee arguments ++ broken_unless (is_callable now.signatures callee.typed.ty) BadUse span)
      (invocation_found end span callee arguments ++ broken_unless (is_callable end.signatures callee.typed.ty) BadUse span) (invoked_outcome now.signatures callee.typed.ty arguments) (invoked_outcome end.signatures callee.typed.ty arguments) (invoked_alike callee.typed.ty arguments)

  -- ---- creations

  layer_taken : (layer : Ty-F Ty) (instance : Ty) (arguments : List TypedExpr)
      → SameMet (met_if (takes_by (layer_signature now.signatures layer) (layer_is_untyped layer) arguments) (computed instance Unknown)) (met_if (takes_by (layer_signature end.signatures layer) (layer_is_untyped layer) arguments) (computed instance Unknown))
  layer_taken (Ty-F.Op number) instance arguments met = by (signature_at now.signatures number) refl met
    where
      by : (found : Option Signature) → signature_at now.signatures number ≡ found
          → SameMet (met_if (takes_by (signature_at now.signatures number) false arguments) (computed instance Unknown)) (met_if (takes_by (signature_at end.signatures number) false arguments) (computed instance Unknown))
      by None is met = absurd (false≢true (subst (λ (found : Option Signature). IsTrue (is_met (met_if (takes_by found false arguments) (computed instance Unknown)))) is met))
      by (Some one) is met = ap (λ (found : Option Signature). met_if (takes_by found false arguments) (computed instance Unknown)) (is ∙ sym (grows.signatures number one is))
  layer_taken _ instance arguments met = refl

  formals_alike : (instance : Ty) (arguments : List TypedExpr) (formals : Option Ty) → SameMet (made_of now arguments instance formals) (made_of end arguments instance formals)
  formals_alike instance arguments None met = refl
  formals_alike instance arguments (Some formals) met = layer_taken (out-Ty formals) instance arguments met

  formals_same : (one : Info) → component_type (Some one) ≡ component_type (Some (placeless_info one))
  formals_same (info.Value typed) = refl
  formals_same _ = refl

  -- the type of what is made is known here
  made_known : (instance : Ty) (arguments : List TypedExpr) (resource : Option Decl) → IsTrue (is_met (made_of now arguments instance (resource_type now.infos resource))) → resource_type now.infos resource ≡ resource_type end.infos resource
  made_known instance arguments None met = refl
  made_known instance arguments (Some decl) met = by (is_resource decl.sort) met
    where
      by : (is : Bool) → IsTrue (is_met (made_of now arguments instance (resource_if is (info_at now.infos decl.spot)))) → resource_if is (info_at now.infos decl.spot) ≡ resource_if is (info_at end.infos decl.spot)
      by false met = refl
      by true met = known_alike component_type formals_same (λ found. IsTrue (is_met (made_of now arguments instance (component_type found)))) decl.spot (λ met. false≢true met) met

  pub made_alike : (span : Span) (resource : Option Decl) (arguments : List TypedExpr) (machine : Option TypedExpr) → Alike (instance_typing now span resource arguments machine) (instance_typing end span resource arguments machine)
  made_alike span resource arguments machine =
      settled_alike span (creation_found now span (resource_type now.infos resource) arguments machine) (creation_found end span (resource_type end.infos resource) arguments machine)
      (made_of now arguments (instance_type resource) (resource_type now.infos resource)) (made_of end arguments (instance_type resource) (resource_type end.infos resource))
      (λ met. formals_alike (instance_type resource) arguments (resource_type now.infos resource) met ∙ ap (made_of end arguments (instance_type resource)) (made_known (instance_type resource) arguments resource met))
