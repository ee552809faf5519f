-- What has a type: all but what was refused, and arrays of such.
use Rattle.std.proofs.Common.{◌≡◌, Bool, true, false, List, Option, refl, sym}
use Rattle.sr_types.specs.declared.signature.Signature.{Signature}
use Rattle.sr_types.specs.declared.ty.Ty.{Ty}
use Rattle.sr_types.specs.declared.ty.Ty.TheOpen.{Ty-F}
use Rattle.sr_types.specs.declared.typed.Typed.{Typed}
use Rattle.sr_types.specs.Types.{is_no_type}
use Rattle.sr_check_expr.specs.declared.facts.Facts.{Facts}
use Rattle.sr_check_expr.specs.declared.info.FieldInfo.{FieldInfo}
use Rattle.sr_check_expr.specs.declared.info.Info.{Info}
use Rattle.sr_front.proofs.Typed.PassingTypes.{AllPass, FieldsPass, FoundPasses, InfoPasses, MaybePasses, Passes, SignaturePasses, SignedPasses, TypeTest, ValuePasses, layer_passes, refused_passes}

-- the type of what was refused isn't one
abbrev pub typed_test : TypeTest
typed_test = record { refused = false; operation = λ number. true }

abbrev pub layer_typed : Ty-F Ty → Bool
layer_typed = layer_passes typed_test

-- a type: not that of what was refused, nor an array of such
abbrev pub IsTyped : Ty → Type 0
IsTyped = Passes typed_test

-- what has a type isn't what was refused
pub not_untyped : (type : Ty) → IsTyped type → is_no_type type ≡ false
not_untyped type h = by (is_no_type type) (refused_passes typed_test type h)
  where
    by : (untyped : Bool) → (untyped ≡ true → false ≡ true) → untyped ≡ false
    by true is = sym (is refl)
    by false is = refl

abbrev pub MaybeTyped : Option Ty → Type 0
MaybeTyped = MaybePasses typed_test

-- ---- what is known

abbrev pub FieldsTyped : List FieldInfo → Type 0
FieldsTyped = FieldsPass typed_test

-- what is a place isn't known before the run
abbrev pub ValueTyped : Typed → Type 0
ValueTyped = ValuePasses typed_test

-- what makes an instance may be known before its formals are
abbrev pub InfoTyped : Info → Type 0
InfoTyped = InfoPasses typed_test

abbrev pub FoundTyped : Option Info → Type 0
FoundTyped = FoundPasses typed_test

abbrev pub SignatureTyped : Signature → Type 0
SignatureTyped = SignaturePasses typed_test

abbrev pub FoundSigned : Option Signature → Type 0
FoundSigned = SignedPasses typed_test

-- nothing that is known was refused
abbrev pub AllTyped : Facts → Type 0
AllTyped = AllPass typed_test
