-- A head that is read where its operation is declared and in the end makes the same type, and this type has a signature: then
-- nothing is found in it.
use Rattle.std.proofs.Common.{◌≡◌, ◌&&◌, ℕ, Bool, true, false, [], Some, is_some, refl, sym, ap, subst, ◌∙◌}
use Rattle.sr_names.specs.declared.finding.Rule.TheVariants.{BadType}
use Rattle.sr_names.specs.Spots.{spot_of}
use Rattle.sr_tree.specs.declared.name.Name.{Name}
use Rattle.sr_tree.specs.declared.types.Signature.{Signature as SignatureTree}
use Rattle.sr_types.specs.declared.signature.Signature.{Signature}
use Rattle.sr_types.specs.declared.ty.Ty.{Ty}
use Rattle.sr_types.specs.declared.ty.Ty.TheVariants as ty
use Rattle.sr_types.specs.Decided.{type_decides}
use Rattle.sr_types.specs.Equality.{same_type}
use Rattle.sr_types.specs.Signatures.{layer_signature, number_of, signature_of}
use Rattle.sr_types.proofs.Numbers.{number-found}
use Rattle.sr_check.specs.ErrorFree.{ErrorFree}
use Rattle.sr_check.proofs.Each.{Each}
use Rattle.sr_check_expr.specs.declared.facts.Facts.{Facts}
use Rattle.sr_check_expr.specs.Infos.{info_at}
use Rattle.sr_check_expr.specs.Typings.{broken_unless}
use Rattle.sr_check_decl.specs.declared.kind.Signed.{Signed}
use Rattle.sr_check_decl.specs.Declaring.{written_type}
use Rattle.sr_check_decl.specs.Entering.{signature_entered, signature_read_in}
use Rattle.sr_front.proofs.Headed.Heads.{declared_type, head_found, is_known_as, is_of}
use Rattle.sr_check_decl.specs.TypeTrees.{is_refused, numbered_type, operation_type, signature_read, signature_type, whole_signature}
use Rattle.sr_front.proofs.Headed.HeadCounts.{out-op}
use Rattle.sr_front.proofs.Typed.TypedTypes.{Agrees, Counts, InfosTyped, Later, SignatureRead, signature_agrees, signature_typed, signature_uses, signed_is, signed_kept}

-- a type of operations that has a signature
pub record HasNumber (facts : Facts) (type : Ty) : Type 0 where
  pub number : ℕ
  pub signature : Signature
  pub is : type ≡ ty.Op number
  pub at : number_of facts.signatures signature ≡ Some number

pub signature_there : (facts : Facts) (type : Ty) (has : HasNumber facts type) → signature_of facts.signatures type ≡ Some has.signature
signature_there facts type has =
    ap (signature_of facts.signatures) has.is ∙ ap (layer_signature facts.signatures) (out-op has.number) ∙ number-found facts.signatures has.signature (Some has.number) (sym has.at)

-- where the type is the one that is known nothing is found
pub head_none : (facts : Facts) (name : Name) (made known : Ty) → HasNumber facts made → known ≡ made → declared_type (info_at facts.infos (spot_of name.span)) ≡ Some known → head_found facts name made ≡ []
head_none facts name made known has same is = ap (λ (met : Bool). broken_unless met BadType name.span) met
  where
    met : is_known_as facts name made ≡ true
    met =
        ap (λ found. is_some found && is_of made (declared_type (info_at facts.infos (spot_of name.span)))) (signature_there facts made has)
        ∙ ap (is_of made) is ∙ ap (same_type made) same ∙ (type_decides made made).1 refl

pub head_free : (facts : Facts) (name : Name) (made known : Ty) → HasNumber facts made → known ≡ made → declared_type (info_at facts.infos (spot_of name.span)) ≡ Some known → ErrorFree (head_found facts name made)
head_free facts name made known has same is = subst ErrorFree (sym (head_none facts name made known has same is)) tt

-- ---- a head that is written

-- it is entered at `now`, made where it is declared, checked at `end`, and looked at in the end
pub record WrittenMade (tree : SignatureTree) (made last : Facts) : Type 0 where
  pub has : HasNumber last (written_type tree last)
  pub same : written_type tree made ≡ written_type tree last

pub written_made : (tree : SignatureTree) (now made end last : Facts) → InfosTyped now → Later (signature_entered tree now) made → Each (Agrees now end) (signature_uses tree) → Counts (signature_entered tree now) end
    → ErrorFree (signature_read tree end).found → Each (Agrees now last) (signature_uses tree) → Counts (signature_entered tree now) last → WrittenMade tree made last
written_made tree now made end last typed later agree counts whole agree_last counts_last = record {
  has = record { number = number.0; signature = whole_signature signed; is = last_is; at = counts_last (whole_signature signed) number.0 number.1 };
  same = made_is ∙ sym last_is;
}
  where
    signed : Signed
    signed = (signature_read_in tree now).read

    read : SignatureRead now (signature_read_in tree now) (signature_read tree end).signed (signature_read tree end).found
    read = signature_agrees tree now end typed agree counts

    kept : is_refused signed ≡ false
    kept = signed_kept signed (read.typed whole)

    number : (n : ℕ) × (number_of (signature_entered tree now).signatures (whole_signature signed) ≡ Some n)
    number = read.numbered kept

    last_is : written_type tree last ≡ ty.Op number.0
    last_is = ap (signature_type last) (signature_agrees tree now last typed agree_last counts_last).same ∙ signed_is last signed number.0 kept (counts_last (whole_signature signed) number.0 number.1)

    made_is : written_type tree made ≡ ty.Op number.0
    made_is = ap (signature_type made) (signature_typed tree now made typed later).same ∙ signed_is made signed number.0 kept (later.numbers (whole_signature signed) number.0 number.1)

-- ---- a head that isn't written

pub operation_made : (signature : Signature) (now made last : Facts) (number : ℕ) → number_of now.signatures signature ≡ Some number → Counts now made → Counts now last
    → HasNumber last (operation_type last signature) × (operation_type made signature ≡ operation_type last signature)
operation_made signature now made last number at counts counts_last =
    let last_at = counts_last signature number at in (
      record { number = number; signature = signature; is = ap numbered_type last_at; at = last_at },
      ap numbered_type (counts signature number at ∙ sym last_at),
    )
