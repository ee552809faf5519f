-- The signatures of a program: each stands once, and the type of an operation keeps its number.
use Rattle.std.specs.Prelude.{◌≡◌, ℕ, List, Option, Some, None, position, slice_get}
use Rattle.indexmap.specs.IndexSet.{insert_key}
use Rattle.sr_types.specs.declared.signature.Signature.{Signature}
use Rattle.sr_types.specs.declared.ty.Ty.{Ty, out-Ty}
use Rattle.sr_types.specs.declared.ty.Ty.TheOpen.{Ty-F}
use Rattle.sr_types.specs.Equality.{equal_signatures}

-- the number of a signature is its place, counted from 0
abbrev pub number_of : List Signature → Signature → Option ℕ
number_of signatures signature = position (equal_signatures signature) signatures

-- the signature with a number
abbrev pub signature_at : List Signature → ℕ → Option Signature
signature_at signatures number = slice_get signatures number

abbrev pub layer_signature : {A : Type 0} → List Signature → Ty-F A → Option Signature
layer_signature signatures (Ty-F.Op number) = signature_at signatures number
layer_signature signatures _ = None

-- the signature of the operations that a type is of
abbrev pub signature_of : List Signature → Ty → Option Signature
signature_of signatures ty = layer_signature signatures (out-Ty ty)

-- the signatures with one more, which goes after the others unless it is there already
abbrev pub with_signature : List Signature → Signature → List Signature
with_signature signatures signature = insert_key equal_signatures signatures signature

-- a signature has one number: two numbers of one signature are the same number
abbrev pub HasOneNumber : List Signature → Type 0
HasOneNumber signatures = (a b : ℕ) (signature : Signature) → signature_at signatures a ≡ Some signature → signature_at signatures b ≡ Some signature → a ≡ b

-- what has a number keeps it
abbrev pub KeepsNumbers : List Signature → List Signature → Type 0
KeepsNumbers old new = (number : ℕ) (signature : Signature) → signature_at old number ≡ Some signature → signature_at new number ≡ Some signature
