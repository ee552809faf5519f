-- Types of operations that have a signature in a table: whether rules are broken or not.
use Rattle.std.proofs.Common.{Bool, true, List, Option, is_some, refl}
use Rattle.sr_tree.specs.declared.expr.Expr.{Expr as Tree}
use Rattle.sr_types.specs.declared.signature.Signature.{Signature}
use Rattle.sr_types.specs.declared.ty.Ty.{Ty}
use Rattle.sr_types.specs.declared.ty.Ty.TheOpen.{Ty-F}
use Rattle.sr_types.specs.declared.ty.Ty.TheVariants as ty
use Rattle.sr_types.specs.Signatures.{signature_at}
use Rattle.sr_check_expr.specs.declared.facts.Facts.{Facts}
use Rattle.sr_check_expr.specs.declared.info.FieldInfo.{FieldInfo}
use Rattle.sr_check_expr.specs.declared.info.Info.{Info}
use Rattle.sr_check_expr.specs.Exprs.{infer_expr}
use Rattle.sr_front.proofs.Typed.PassingExprs.{expr_passes}
use Rattle.sr_front.proofs.Typed.PassingTypes.{AllPass, FieldsPass, FoundPasses, InfoPasses, MaybePasses, Passes, SignaturePasses, SignedPasses, TypeTest, layer_passes, untyped_passes}

-- what was refused has no operations
abbrev pub numbered_test : List Signature → TypeTest
numbered_test table = record { refused = true; operation = λ number. is_some (signature_at table number) }

module _ (table : List Signature) where
  abbrev pub layer_numbered : Ty-F Ty → Bool
  layer_numbered = layer_passes (numbered_test table)

  -- the operations of a type have a signature in the table
  abbrev pub IsNumbered : Ty → Type 0
  IsNumbered = Passes (numbered_test table)

  pub untyped_numbered : IsNumbered ty.Untyped
  untyped_numbered = untyped_passes (numbered_test table) refl

  abbrev pub MaybeNumbered : Option Ty → Type 0
  MaybeNumbered = MaybePasses (numbered_test table)

  -- ---- what is known

  abbrev pub FieldsNumbered : List FieldInfo → Type 0
  FieldsNumbered = FieldsPass (numbered_test table)

  abbrev pub InfoNumbered : Info → Type 0
  InfoNumbered = InfoPasses (numbered_test table)

  abbrev pub FoundNumbered : Option Info → Type 0
  FoundNumbered = FoundPasses (numbered_test table)

  abbrev pub SignatureNumbered : Signature → Type 0
  SignatureNumbered = SignaturePasses (numbered_test table)

  abbrev pub SignatureFound : Option Signature → Type 0
  SignatureFound = SignedPasses (numbered_test table)

-- all operations of types that are known have a signature
abbrev pub AllNumbered : Facts → Type 0
AllNumbered facts = AllPass (numbered_test facts.signatures) facts

-- so have those of the type of an expression
pub expr_numbered : (facts : Facts) → AllNumbered facts → (tree : Tree) → IsNumbered facts.signatures (infer_expr tree facts).typed_expr.typed.ty
expr_numbered facts all tree = (expr_passes (numbered_test facts.signatures) facts all tree tt).0 refl
