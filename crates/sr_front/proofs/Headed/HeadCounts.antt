-- The signature of a declared type says of its operations what the table says of their head: how many formals, whether
-- something is returned, and the forms.
use Rattle.std.proofs.Common.{◌≡◌, ℕ, Bool, true, false, List, Option, Some, None, is_some, length, refl, sym, ap, ◌∙◌, true≢false, eqb-true, if◌then◌else◌}
use Rattle.std.proofs.lemmas.Bool.{and_parts}
use Rattle.std.proofs.lemmas.Option.{none-some, same_Some}
use Rattle.std.specs.List.{position}
use Rattle.std.specs.Option.{option_eq}
use Rattle.std.specs.Cmp.Lexicographic.{pointwise, as_long}
use Rattle.sr_types.specs.declared.signature.Forms.{Forms}
use Rattle.sr_types.specs.declared.signature.Forms.TheVariants as forms
use Rattle.sr_types.specs.declared.signature.Signature.{Signature}
use Rattle.sr_types.specs.declared.ty.Ty.{Ty, out-Ty, out-roll-Ty, map-Ty, fold_out-Ty}
use Rattle.sr_types.specs.declared.ty.Ty.TheOpen.{Ty-F}
use Rattle.sr_types.specs.declared.ty.Ty.TheVariants as ty
use Rattle.sr_types.specs.Equality.{equal_signatures, layer_same, same_forms, same_param, same_type}
use Rattle.sr_types.specs.Signatures.{layer_signature, number_of, signature_of}
use Rattle.sr_types.proofs.Places.{position-passes}
use Rattle.sr_check_expr.specs.Arguments.{may_call, may_send}
use Rattle.sr_check_expr.specs.declared.facts.Facts.{Facts}
use Rattle.sr_check_decl.specs.TypeTrees.{is_refused, numbered_type, operation_type, signature_type, whole_signature}
use Rattle.sr_check_decl.specs.declared.kind.Signed.{Signed}
use Rattle.sr_tables.specs.declared.tables.Head.{Head}

-- what a signature and a head say of operations
pub record FitsTable (head : Head) (signature : Signature) : Type 0 where
  pub params : length signature.params ≡ length head.parameters
  pub returns : is_some signature.returns ≡ is_some head.returns
  pub call : may_call signature.forms ≡ head.can_call
  pub send : may_send signature.forms ≡ head.can_send

-- a type has a signature that fits a head
pub record HasTable (signatures : List Signature) (head : Head) (ty : Ty) : Type 0 where
  pub signature : Signature
  pub at : signature_of signatures ty ≡ Some signature
  pub fits : FitsTable head signature

-- ---- tests

-- ---- equal types

layers_signed : (signatures : List Signature) (signature : Signature) (a b : Ty-F Ty) → layer_same (map-Ty Ty (Ty → Bool) same_type a) b ≡ true → layer_signature signatures a ≡ Some signature
    → layer_signature signatures b ≡ Some signature
layers_signed signatures signature (Ty-F.Op number) (Ty-F.Op other) same at = ap (λ n. layer_signature {A = Ty} signatures (Ty-F.Op n)) (sym (eqb-true number other same)) ∙ at
layers_signed signatures signature (Ty-F.Op number) _ same at = absurd (true≢false (sym same))
layers_signed signatures signature _ b same at = absurd (none-some signature at)

-- equal types have the same signature
pub same_signed : (signatures : List Signature) (signature : Signature) (a b : Ty) → same_type a b ≡ true → signature_of signatures a ≡ Some signature → signature_of signatures b ≡ Some signature
same_signed signatures signature a b same at =
    layers_signed signatures signature (out-Ty a) (out-Ty b)
    (sym (ap (λ test. test b) (fold_out-Ty (Ty → Bool) (λ layer other. layer_same layer (out-Ty other)) a)) ∙ same) at

-- ---- equal signatures

as_some : {A : Type 0} (test : A → A → Bool) (a b : Option A) → option_eq test a b ≡ true → is_some a ≡ is_some b
as_some test None None e = refl
as_some test (Some a) (Some b) e = refl
as_some test None (Some b) e = absurd (true≢false (sym e))
as_some test (Some a) None e = absurd (true≢false (sym e))

forms_equal : (a b : Forms) → same_forms a b ≡ true → a ≡ b
forms_equal forms.Both forms.Both e = refl
forms_equal forms.Call forms.Call e = refl
forms_equal forms.Send forms.Send e = refl
forms_equal _ _ e = absurd (true≢false (sym e))

-- equal signatures fit the same heads
pub fits_equal : (head : Head) (a b : Signature) → equal_signatures a b ≡ true → FitsTable head a → FitsTable head b
fits_equal head a b same fits =
    let outer = and_parts (same_forms a.forms b.forms) _ same in
    let inner = and_parts (pointwise same_param a.params b.params) _ outer.1 in
    let forms : a.forms ≡ b.forms = forms_equal a.forms b.forms outer.0 in
    record {
      params = sym (as_long same_param a.params b.params inner.0) ∙ fits.params;
      returns = sym (as_some same_type a.returns b.returns inner.1) ∙ fits.returns;
      call = ap may_call (sym forms) ∙ fits.call;
      send = ap may_send (sym forms) ∙ fits.send;
    }

-- ---- the type of a signature

out-untyped : out-Ty ty.Untyped ≡ Ty-F.Untyped
out-untyped = ap out-Ty (sym ty.rolls-Untyped) ∙ out-roll-Ty Ty-F.Untyped

pub out-op : (number : ℕ) → out-Ty (ty.Op number) ≡ Ty-F.Op number
out-op number = ap out-Ty (sym (ty.rolls-Op number)) ∙ out-roll-Ty (Ty-F.Op number)

pub untyped_unsigned : (signatures : List Signature) (signature : Signature) → signature_of signatures ty.Untyped ≡ Some signature → ⊥
untyped_unsigned signatures signature at = none-some signature (sym (ap (layer_signature signatures) out-untyped) ∙ at)

numbered_equal : (signatures : List Signature) (made signature : Signature) (number : Option ℕ) → position (equal_signatures made) signatures ≡ number
    → signature_of signatures (numbered_type number) ≡ Some signature → equal_signatures made signature ≡ true
numbered_equal signatures made signature None e at = absurd (untyped_unsigned signatures signature at)
numbered_equal signatures made signature (Some number) e at =
    let passes = position-passes (equal_signatures made) signatures number e in
    let same : passes.0 ≡ signature = same_Some passes.0 signature (sym passes.1 ∙ sym (ap (layer_signature signatures) (out-op number)) ∙ at) in
    ap (equal_signatures made) (sym same) ∙ passes.2

-- the signature of the type that a signature makes equals it
pub made_equal : (facts : Facts) (made signature : Signature) → signature_of facts.signatures (operation_type facts made) ≡ Some signature → equal_signatures made signature ≡ true
made_equal facts made signature at = numbered_equal facts.signatures made signature (number_of facts.signatures made) refl at

-- and that of one that is written equals the whole
pub signed_equal : (facts : Facts) (signed : Signed) (signature : Signature) → signature_of facts.signatures (signature_type facts signed) ≡ Some signature
    → equal_signatures (whole_signature signed) signature ≡ true
signed_equal facts signed signature at = by (is_refused signed) at
  where
    by : (refused : Bool) → signature_of facts.signatures (if refused then ty.Untyped else operation_type facts (whole_signature signed)) ≡ Some signature
        → equal_signatures (whole_signature signed) signature ≡ true
    by true e = absurd (untyped_unsigned facts.signatures signature e)
    by false e = made_equal facts (whole_signature signed) signature e
