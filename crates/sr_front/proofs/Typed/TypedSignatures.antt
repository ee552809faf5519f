-- The signatures in the table stay typed where a written type is entered, whether rules are broken in it or not: none of which a
-- part was refused is entered.
use Rattle.std.proofs.Common.{◌≡◌, ℕ, true, false, List, [], ◌∷◌, Option, Some, None, IsTrue, refl, sym, subst}
use Rattle.std.proofs.lemmas.Bool.{false≢true, or_parts}
use Rattle.sr_names.specs.declared.meaning.Decl.{Decl}
use Rattle.sr_tree.specs.declared.types.Signature.{Signature as SignatureTree}
use Rattle.sr_types.specs.declared.ty.Ty.{Ty, out-Ty}
use Rattle.sr_types.specs.declared.ty.Ty.TheOpen.{Ty-F}
use Rattle.sr_types.specs.Signatures.{number_of}
use Rattle.sr_types.specs.Types.{is_no_type, layer_is_untyped}
use Rattle.sr_check_expr.specs.declared.facts.Facts.{Facts}
use Rattle.sr_check_expr.specs.Naming.{decl_info}
use Rattle.sr_check_decl.specs.declared.kind.NamedParam.{NamedParam}
use Rattle.sr_check_decl.specs.declared.kind.Signed.{Signed}
use Rattle.sr_check_decl.specs.Entering.{entered, signature_entered}
use Rattle.sr_check_decl.specs.TypeTrees.{are_refused, capability_by, is_refused, is_refused_return, numbered_type, type_by, whole_signature}
use Rattle.sr_front.proofs.Typed.PassingParts.{AllParamsPass, ParamsPass, ReturnedPasses, capable_passes, item_lifted, maybe_lifted, named_passes, whole_passes}
use Rattle.sr_front.proofs.Typed.PassingReads.{EntersBy, signature_entered_so}
use Rattle.sr_front.proofs.Typed.PassingTypes.{MaybePasses, Passes, TypeTest, layer_passes, op_passes, untyped_passes}
use Rattle.sr_front.proofs.Typed.Typed.{MaybeTyped, layer_typed, typed_test}
use Rattle.sr_front.proofs.Typed.TypedTypes.{InfosTyped, MaybeParam, ParamsTyped, SignaturesTyped, SignedTyped, capability_of_part, decl_found_typed, entered_typed, type_of_part, type_part}

-- what was refused passes beside what has a type
abbrev any_test : TypeTest
any_test = record { refused = true; operation = λ number. true }

typed_passes : (type : Option Ty) → MaybeTyped type → MaybePasses any_test type
typed_passes = maybe_lifted typed_test any_test (λ number h. h) (λ h. refl)

number_passes : (number : Option ℕ) → Passes any_test (numbered_type number)
number_passes None = untyped_passes any_test refl
number_passes (Some number) = op_passes any_test number refl

-- ---- a signature of which no part was refused

kept_layer : (layer : Ty-F Ty) → IsTrue (layer_passes any_test layer) → layer_is_untyped layer ≡ false → IsTrue (layer_typed layer)
kept_layer (Ty-F.Vector item) h kept = item_lifted any_test typed_test (λ number met. met) (out-Ty item) h
kept_layer (Ty-F.Matrix item) h kept = item_lifted any_test typed_test (λ number met. met) (out-Ty item) h
kept_layer Ty-F.Untyped h kept = absurd (false≢true (sym kept))
kept_layer _ h kept = refl

params_kept : (params : List NamedParam) → ParamsPass any_test params → are_refused params ≡ false → ParamsTyped params
params_kept [] fine kept = tt
params_kept (param ∷ params) fine kept = let both = or_parts (is_no_type param.ty) (are_refused params) kept in (kept_layer (out-Ty param.ty) fine.0 both.0, params_kept params fine.1 both.1)

return_kept : (returned : Option NamedParam) → ReturnedPasses any_test returned → is_refused_return returned ≡ false → MaybeParam returned
return_kept None fine kept = tt
return_kept (Some param) fine kept = kept_layer (out-Ty param.ty) fine kept

-- types and signatures that are known have types
pub record Known (facts : Facts) : Type 0 where
  pub infos : InfosTyped facts
  pub signatures : SignaturesTyped facts

signed_known : (facts : Facts) (signed : Signed) → is_refused signed ≡ false → AllParamsPass any_test signed → Known facts → Known (entered (whole_signature signed) facts)
signed_known facts signed kept fine known =
    let both = or_parts (are_refused signed.params) (is_refused_return signed.returned) kept in
    let typed : SignedTyped signed = record { params = params_kept signed.params fine.params both.0; returned = return_kept signed.returned fine.returned both.1 } in
    record { infos = known.infos; signatures = entered_typed facts (whole_signature signed) (whole_passes typed_test signed typed) known.signatures }

named_typed : (facts : Facts) → Known facts → (decl : Option Decl) → MaybePasses any_test (type_by decl (decl_info facts.infos decl))
named_typed facts known decl =
    let found = decl_info facts.infos decl in
    typed_passes (type_by decl found) (subst MaybeTyped (sym (type_of_part decl found)) (named_passes typed_test decl (type_part found) (decl_found_typed facts known.infos decl)))

capable_typed : (facts : Facts) → Known facts → (decl : Option Decl) → MaybePasses any_test (capability_by decl (decl_info facts.infos decl))
capable_typed facts known decl =
    let found = decl_info facts.infos decl in
    typed_passes (capability_by decl found) (subst MaybeTyped (sym (capability_of_part decl found)) (capable_passes typed_test decl (type_part found) (decl_found_typed facts known.infos decl)))

by_types : EntersBy (λ table. any_test) Known
by_types = record {
  refused = λ table. refl;
  lifts = λ table one type h. h;
  number = λ table signature. number_passes (number_of table signature);
  named = named_typed;
  capable = capable_typed;
  entered = signed_known;
}

-- for a signature
pub signature_known : (tree : SignatureTree) (facts : Facts) → Known facts → Known (signature_entered tree facts)
signature_known = signature_entered_so by_types
