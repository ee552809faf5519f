-- What has numbers in a table of signatures has them when the table has grown.
use Rattle.std.proofs.Common.{◌≡◌, ℕ, zero, suc, Bool, true, false, List, [], ◌∷◌, ◌++◌, Option, Some, None, IsTrue, is_some, refl, sym, ap, if◌then◌else◌, slice_get}
use Rattle.std.specs.List.{list_any}
use Rattle.std.proofs.lemmas.Bool.{false≢true}
use Rattle.sr_names.specs.declared.meaning.Decl.{Decl}
use Rattle.sr_names.specs.declared.spot.Spot.{Spot}
use Rattle.sr_types.specs.declared.signature.Param.{Param}
use Rattle.sr_types.specs.declared.signature.Signature.{Signature}
use Rattle.sr_types.specs.declared.ty.Ty.{Ty}
use Rattle.sr_types.specs.Equality.{equal_signatures}
use Rattle.sr_types.specs.Signatures.{number_of, signature_at, with_signature}
use Rattle.sr_types.proofs.Numbers.{number-found}
use Rattle.sr_check_expr.specs.declared.facts.Facts.{Facts}
use Rattle.sr_check_expr.specs.declared.info.FieldInfo.{FieldInfo}
use Rattle.sr_check_expr.specs.declared.info.Info.{Info}
use Rattle.sr_check_expr.specs.declared.info.Info.TheVariants as info
use Rattle.sr_check_expr.specs.Infos.{info_at}
use Rattle.sr_check_decl.specs.Declaring.{standing}
use Rattle.sr_check_decl.specs.Entering.{entered}
use Rattle.sr_check_decl.specs.TypeTrees.{numbered_type}
use Rattle.sr_check_decl.specs.Variables.{declare}
use Rattle.sr_check.proofs.Each.{each-weaker}
use Rattle.sr_front.proofs.Typed.NumberedTypes.{AllNumbered, FoundNumbered, InfoNumbered, IsNumbered, SignatureFound, SignatureNumbered, numbered_test, untyped_numbered}
use Rattle.sr_front.proofs.Typed.PassingParts.{maybe_lifted, type_lifted as lifted}
use Rattle.sr_front.proofs.Typed.PassingTypes.{op_passes}
use Rattle.sr_front.proofs.Lists.Put.{put_holds}

-- each number of the one is one of the other
abbrev pub Grown : List Signature → List Signature → Type 0
Grown old new = (number : ℕ) → IsTrue (is_some (signature_at old number)) → IsTrue (is_some (signature_at new number))

pub grown_itself : (table : List Signature) → Grown table table
grown_itself table number h = h

pushed_grown : (table : List Signature) (one : Signature) → Grown table (table ++ one ∷ [])
pushed_grown [] one number h = absurd (false≢true h)
pushed_grown (signature ∷ table) one zero h = refl
pushed_grown (signature ∷ table) one (suc number) h = pushed_grown table one number h

-- with one signature more
pub grown_with : (table : List Signature) (one : Signature) → Grown table (with_signature table one)
grown_with table one = by (list_any (equal_signatures one) table)
  where
    by : (there : Bool) → Grown table (if there then table else table ++ one ∷ [])
    by true = grown_itself table
    by false = pushed_grown table one

module _ (old new : List Signature) (grown : Grown old new) where
  pub type_lifted : (type : Ty) → IsNumbered old type → IsNumbered new type
  type_lifted = lifted (numbered_test old) (numbered_test new) grown (λ h. refl)

  info_lifted : (one : Info) → InfoNumbered old one → InfoNumbered new one
  info_lifted (info.Value typed) h = (type_lifted typed.ty h.0, tt)
  info_lifted (info.«Type» type) h = type_lifted type h
  info_lifted (info.Enumeration number literals) h = tt
  info_lifted (info.Record fields) h = each-weaker (λ (field : FieldInfo). IsNumbered old field.ty) (λ (field : FieldInfo). IsNumbered new field.ty) (λ field. type_lifted field.ty) fields h
  info_lifted (info.OpType type) h = type_lifted type h
  info_lifted (info.Operation type component is_local) h = type_lifted type h
  info_lifted (info.Component type) h = type_lifted type h

  found_lifted : (found : Option Info) → FoundNumbered old found → FoundNumbered new found
  found_lifted None h = tt
  found_lifted (Some one) h = info_lifted one h

  signature_lifted : (signature : Signature) → SignatureNumbered old signature → SignatureNumbered new signature
  signature_lifted signature h = record {
    params = each-weaker (λ (param : Param). IsNumbered old param.ty) (λ (param : Param). IsNumbered new param.ty) (λ param. type_lifted param.ty) signature.params h.params;
    returns = maybe_lifted (numbered_test old) (numbered_test new) grown (λ h. refl) signature.returns h.returns;
  }

  signed_lifted : (found : Option Signature) → SignatureFound old found → SignatureFound new found
  signed_lifted None h = tt
  signed_lifted (Some signature) h = signature_lifted signature h

pushed_numbered : (table signatures : List Signature) (one : Signature) → SignatureNumbered table one → ((number : ℕ) → SignatureFound table (slice_get signatures number)) → (number : ℕ) → SignatureFound table (slice_get (signatures ++ one ∷ []) number)
pushed_numbered table [] one numbered h zero = numbered
pushed_numbered table [] one numbered h (suc number) = tt
pushed_numbered table (signature ∷ signatures) one numbered h zero = h 0
pushed_numbered table (signature ∷ signatures) one numbered h (suc number) = pushed_numbered table signatures one numbered (λ k. h (suc k)) number

-- where one more signature has a number
pub entered_numbered : (facts : Facts) (one : Signature) → SignatureNumbered facts.signatures one → AllNumbered facts → AllNumbered (entered one facts)
entered_numbered facts one numbered all = record {
  infos = λ spot. found_lifted facts.signatures table (grown_with facts.signatures one) (info_at facts.infos spot) (all.infos spot);
  signatures = by (list_any (equal_signatures one) facts.signatures);
}
  where
    table : List Signature
    table = with_signature facts.signatures one

    pushed : List Signature
    pushed = facts.signatures ++ one ∷ []

    by : (there : Bool) → (number : ℕ) → SignatureFound (if there then facts.signatures else pushed) (signature_at (if there then facts.signatures else pushed) number)
    by true number = all.signatures number
    by false number =
        let grown = pushed_grown facts.signatures one in
        pushed_numbered pushed facts.signatures one (signature_lifted facts.signatures pushed grown one numbered)
        (λ k. signed_lifted facts.signatures pushed grown (signature_at facts.signatures k) (all.signatures k)) number

-- where something is declared whose type has numbers
pub declared_numbered : (facts : Facts) (spot : Spot) (one : Info) → InfoNumbered facts.signatures one → AllNumbered facts → AllNumbered (declare facts spot one)
declared_numbered facts spot one numbered all = record {
  infos = λ other. put_holds facts spot one (λ at. FoundNumbered facts.signatures) numbered other (λ apart. all.infos other);
  signatures = all.signatures;
}

pub standing_numbered : (facts : Facts) (component : Decl) → AllNumbered facts → AllNumbered (standing facts component)
standing_numbered facts component all = record { infos = all.infos; signatures = all.signatures }

-- the number of a signature
pub found_numbered : (table : List Signature) (signature : Signature) → IsNumbered table (numbered_type (number_of table signature))
found_numbered table signature = by (number_of table signature) refl
  where
    at : (number : ℕ) → Some number ≡ number_of table signature → IsTrue (is_some (signature_at table number))
    at number is = ap is_some (number-found table signature (Some number) is)

    by : (found : Option ℕ) → number_of table signature ≡ found → IsNumbered table (numbered_type found)
    by None is = untyped_numbered table
    by (Some number) is = op_passes (numbered_test table) number (at number (sym is))
