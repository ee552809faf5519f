-- A type that is written, and in which no rule is broken, is a type where all that is known has one, once its signatures
-- have numbers.
use Rattle.std.proofs.Common.{◌≡◌, ℕ, zero, suc, ◌+◌, Bool, true, false, ◌||◌, List, [], ◌∷◌, ◌++◌, map, Option, Some, None, is_some, refl, sym, ap, subst, ◌∙◌, if◌then◌else◌, slice_get}
use Rattle.std.specs.List.{list_any, position_from}
use Rattle.std.proofs.lemmas.Bool.{false≢true}
use Rattle.std.proofs.lemmas.Iterator.Adapters.{position_from-zero}
use Rattle.sr_value.specs.declared.place.Span.{Span}
use Rattle.sr_names.specs.declared.finding.Finding.{Finding}
use Rattle.sr_names.specs.declared.finding.Rule.TheVariants.{BadType}
use Rattle.sr_names.specs.declared.meaning.Decl.{Decl}
use Rattle.sr_names.specs.declared.spot.Spot.{Spot}
use Rattle.sr_names.specs.Spots.{spot_of}
use Rattle.sr_names.specs.Uses.{meaning_at}
use Rattle.sr_tree.specs.declared.name.QualifiedName.{QualifiedName}
use Rattle.sr_tree.specs.declared.types.Decl.{Decl as DeclTree}
use Rattle.sr_tree.specs.declared.types.DimsTree.{DimsTree}
use Rattle.sr_tree.specs.declared.types.Formal.{Formal}
use Rattle.sr_tree.specs.declared.types.Returned.{Returned}
use Rattle.sr_tree.specs.declared.types.Signature.{Signature as SignatureTree}
use Rattle.sr_tree.specs.declared.types.TypeTree.{TypeTree}
use Rattle.sr_tree.specs.declared.types.TypeTree.TheFolds.{fold-TypeTree, fold-Formal, fold-Returned, fold-Signature, map-TypeTree, map-Formal, map-Returned, map-Signature}
use Rattle.sr_tree.specs.declared.types.TypeTree.TheOpen.{TypeTree-F, Formal-F, Returned-F, Signature-F}
use Rattle.sr_types.specs.declared.signature.Forms.{Forms}
use Rattle.sr_types.specs.declared.signature.Mode.{Mode}
use Rattle.sr_types.specs.declared.signature.Mode.TheVariants.{Res}
use Rattle.sr_types.specs.declared.signature.Signature.{Signature}
use Rattle.sr_types.specs.declared.ty.Ty.{Ty}
use Rattle.sr_types.specs.declared.ty.Ty.TheVariants as ty
use Rattle.sr_types.specs.Equality.{equal_signatures}
use Rattle.sr_types.specs.Signatures.{number_of, signature_at, with_signature}
use Rattle.sr_types.specs.Decided.{signature_itself}
use Rattle.sr_check_expr.specs.declared.facts.Facts.{Facts}
use Rattle.sr_check_expr.specs.declared.info.Info.{Info}
use Rattle.sr_check_expr.specs.declared.info.Info.TheVariants as info
use Rattle.sr_check_expr.specs.Infos.{info_at}
use Rattle.sr_check_expr.specs.Naming.{decl_info, decl_of, deciding}
use Rattle.sr_check_decl.specs.declared.kind.BoundPolicy.{BoundPolicy}
use Rattle.sr_check_decl.specs.declared.kind.Kind.{Kind}
use Rattle.sr_check_decl.specs.declared.kind.NamedParam.{NamedParam}
use Rattle.sr_check_decl.specs.declared.kind.Signed.{Signed}
use Rattle.sr_check_decl.specs.Bounds.{item_type_rule}
use Rattle.sr_check_decl.specs.Entering.{Entered, EntersFormals, EntersReturned, EntersSignature, EntersType, entered, formal_read_in, formals_entered, in_turn, after_returned, read_in, returned_read_in, signature_entered, signature_read_in, signed_entered, type_entered, type_read_in}
use Rattle.sr_check_decl.specs.TypeTrees.{Kinds, ReadsFormals, ReadsReturned, ReadsSignature, all_params, are_refused, array_found, array_type, capability_by, capability_kinding, decl_found, decl_type, decls_found, dims_found, fixed_bounds, formal_bounds, formal_read, formal_step, formals_at, formals_found, formals_of, forms_of, is_refused, is_refused_return, kinding, mode_of, named_decl, named_kinding, numbered_type, operation_type, param_of, returned_read, returned_step, signature_read, signature_step, signature_type, type_by, type_kinding, type_step, whole_signature}
use Rattle.sr_check.specs.ErrorFree.{ErrorFree}
use Rattle.sr_check.proofs.Each.{Each, each-append, each-left, each-right}
use Rattle.sr_check.proofs.Entered.{entering, keeps_formals, keeps_signature, keeps_signed, keeps_type}
use Rattle.sr_check.proofs.ErrorFree.{error_free_first, error_free_second, rule_met}
use Rattle.sr_front.proofs.Lists.Options.{some_of}
use Rattle.sr_front.proofs.Typed.Typed.{FoundSigned, FoundTyped, IsTyped, MaybeTyped, SignatureTyped, not_untyped, typed_test}
use Rattle.sr_front.proofs.Typed.PassingParts.{AllParamsPass, ParamsPass, ReturnedPasses, array_passes, capable_passes, named_passes, whole_passes}
use Rattle.sr_front.proofs.Typed.PassingTypes.{bool_passes, char_passes, enum_passes, int_passes, op_passes, record_passes, str_passes, vm_passes}
use Rattle.sr_tree.proofs.TypeFolds.{FormalFits, FormalNode, KnownFormal, KnownReturned, Layers, Related, ReturnedFits, ReturnedNode, SignatureFits, SignatureNode, TypeFits, TypeFold, TypeNode, formal_related, signature_related, type_related}

-- ---- numbers of signatures

from_longer : {X : Type 0} (test : X → Bool) (xs ys : List X) (i n : ℕ) → position_from test i xs ≡ Some n → position_from test i (xs ++ ys) ≡ Some n
from_longer test [] ys i n e = cc
from_longer test (x ∷ xs) ys i n e = by (test x) e (from_longer test xs ys (i + 1) n)
  where
    by : (passes : Bool) → (if passes then Some i else position_from test (i + 1) xs) ≡ Some n → (position_from test (i + 1) xs ≡ Some n → position_from test (i + 1) (xs ++ ys) ≡ Some n)
        → (if passes then Some i else position_from test (i + 1) (xs ++ ys)) ≡ Some n
    by true e more = e
    by false e more = more e

from_any : {X : Type 0} (test : X → Bool) (xs : List X) (i : ℕ) → list_any test xs ≡ true → is_some (position_from test i xs) ≡ true
from_any test [] i any = absurd (false≢true any)
from_any test (x ∷ xs) i any = by (test x) any (from_any test xs (i + 1))
  where
    by : (passes : Bool) → (passes || list_any test xs) ≡ true → (list_any test xs ≡ true → is_some (position_from test (i + 1) xs) ≡ true) → is_some (if passes then Some i else position_from test (i + 1) xs) ≡ true
    by true any more = refl
    by false any more = more any

from_last : {X : Type 0} (test : X → Bool) (xs : List X) (x : X) (i : ℕ) → test x ≡ true → is_some (position_from test i (xs ++ x ∷ [])) ≡ true
from_last test [] x i passes = ap (λ (met : Bool). is_some (if met then Some i else None)) passes
from_last test (y ∷ xs) x i passes = by (test y) (from_last test xs x (i + 1) passes)
  where
    by : (met : Bool) → is_some (position_from test (i + 1) (xs ++ x ∷ [])) ≡ true → is_some (if met then Some i else position_from test (i + 1) (xs ++ x ∷ [])) ≡ true
    by true more = refl
    by false more = more

-- what has a number keeps it where one more is entered
number_longer : (signatures : List Signature) (one other : Signature) (n : ℕ) → number_of signatures other ≡ Some n → number_of (with_signature signatures one) other ≡ Some n
number_longer signatures one other n at = by (list_any (equal_signatures one) signatures)
  where
    by : (there : Bool) → number_of (if there then signatures else signatures ++ one ∷ []) other ≡ Some n
    by true = at
    by false =
        position_from-zero (equal_signatures other) (signatures ++ one ∷ [])
        ∙ from_longer (equal_signatures other) signatures (one ∷ []) 0 n (sym (position_from-zero (equal_signatures other) signatures) ∙ at)

-- what is entered has a number
pub entered_number : (signatures : List Signature) (one : Signature) → (n : ℕ) × (number_of (with_signature signatures one) one ≡ Some n)
entered_number signatures one = some_of (number_of (with_signature signatures one) one) (by (list_any (equal_signatures one) signatures) refl)
  where
    by : (there : Bool) → list_any (equal_signatures one) signatures ≡ there → is_some (number_of (if there then signatures else signatures ++ one ∷ []) one) ≡ true
    by true is = ap is_some (position_from-zero (equal_signatures one) signatures) ∙ from_any (equal_signatures one) signatures 0 is
    by false is = ap is_some (position_from-zero (equal_signatures one) (signatures ++ one ∷ [])) ∙ from_last (equal_signatures one) signatures one 0 (signature_itself one)

-- ---- the names that a written type uses as types

abbrev pub all_uses : List (List QualifiedName) → List QualifiedName
all_uses [] = []
all_uses (uses ∷ more) = uses ++ all_uses more

abbrev pub maybe_uses : Option (List QualifiedName) → List QualifiedName
maybe_uses None = []
maybe_uses (Some uses) = uses

abbrev pub type_uses_step : TypeTree-F (List QualifiedName) (List QualifiedName) (List QualifiedName) (List QualifiedName) → List QualifiedName
type_uses_step (TypeTree-F.Rec span fields) = all_uses fields
type_uses_step (TypeTree-F.CapOf span name) = name ∷ []
type_uses_step (TypeTree-F.CapOperation span signature) = signature
type_uses_step (TypeTree-F.Array span dims item) = item
type_uses_step (TypeTree-F.Named span name) = name ∷ []
type_uses_step _ = []

abbrev pub formal_uses_step : Formal-F (List QualifiedName) (List QualifiedName) (List QualifiedName) (List QualifiedName) → List QualifiedName
formal_uses_step formal = formal.ty

abbrev pub returned_uses_step : Returned-F (List QualifiedName) (List QualifiedName) (List QualifiedName) (List QualifiedName) → List QualifiedName
returned_uses_step returned = returned.ty

abbrev pub signature_uses_step : Signature-F (List QualifiedName) (List QualifiedName) (List QualifiedName) (List QualifiedName) → List QualifiedName
signature_uses_step signature = all_uses signature.formals ++ maybe_uses signature.returned

abbrev pub type_uses : TypeTree → List QualifiedName
type_uses = fold-TypeTree (List QualifiedName) (List QualifiedName) (List QualifiedName) (List QualifiedName) type_uses_step formal_uses_step returned_uses_step signature_uses_step

abbrev pub formal_uses : Formal → List QualifiedName
formal_uses = fold-Formal (List QualifiedName) (List QualifiedName) (List QualifiedName) (List QualifiedName) type_uses_step formal_uses_step returned_uses_step signature_uses_step

abbrev pub returned_uses : Returned → List QualifiedName
returned_uses = fold-Returned (List QualifiedName) (List QualifiedName) (List QualifiedName) (List QualifiedName) type_uses_step formal_uses_step returned_uses_step signature_uses_step

abbrev pub signature_uses : SignatureTree → List QualifiedName
signature_uses = fold-Signature (List QualifiedName) (List QualifiedName) (List QualifiedName) (List QualifiedName) type_uses_step formal_uses_step returned_uses_step signature_uses_step

-- what a written type asks of what is known: values and operations are nothing to it
abbrev pub type_part : Option Info → Option Info
type_part None = None
type_part (Some (info.Value typed)) = None
type_part (Some (info.Operation type component is_local)) = None
type_part (Some (info.«Type» type)) = Some (info.«Type» type)
type_part (Some (info.Enumeration number literals)) = Some (info.Enumeration number literals)
type_part (Some (info.Record fields)) = Some (info.Record fields)
type_part (Some (info.OpType type)) = Some (info.OpType type)
type_part (Some (info.Component type)) = Some (info.Component ty.Untyped)

abbrev pub InfosTyped : Facts → Type 0
InfosTyped facts = (spot : Spot) → FoundTyped (type_part (info_at facts.infos spot))

part_typed : (found : Option Info) → FoundTyped found → FoundTyped (type_part found)
part_typed None h = tt
part_typed (Some (info.Value typed)) h = tt
part_typed (Some (info.Operation type component is_local)) h = tt
part_typed (Some (info.«Type» type)) h = h
part_typed (Some (info.Enumeration number literals)) h = h
part_typed (Some (info.Record fields)) h = h
part_typed (Some (info.OpType type)) h = h
part_typed (Some (info.Component type)) h = h

-- of all that is known the types have types
pub types_typed : (facts : Facts) → ((spot : Spot) → FoundTyped (info_at facts.infos spot)) → InfosTyped facts
types_typed facts all spot = part_typed (info_at facts.infos spot) (all spot)

-- a name is the same type, and the same type of capabilities
abbrev pub Agrees : Facts → Facts → QualifiedName → Type 0
Agrees facts later name =
    (type_by (named_decl later name) (decl_info later.infos (named_decl later name)) ≡ type_by (named_decl facts name) (decl_info facts.infos (named_decl facts name)))
    × (capability_by (named_decl later name) (decl_info later.infos (named_decl later name)) ≡ capability_by (named_decl facts name) (decl_info facts.infos (named_decl facts name)))

-- what has a number keeps it
abbrev pub Counts : Facts → Facts → Type 0
Counts before after = (signature : Signature) (n : ℕ) → number_of before.signatures signature ≡ Some n → number_of after.signatures signature ≡ Some n

pub counts_itself : (facts : Facts) → Counts facts facts
counts_itself facts signature n at = at

pub counts_through : (first second third : Facts) → Counts first second → Counts second third → Counts first third
counts_through first second third a b signature n at = b signature n (a signature n at)

pub entered_counts : (before facts : Facts) (signature : Signature) → Counts before facts → Counts before (entered signature facts)
entered_counts before facts signature h other n at = number_longer facts.signatures signature other n (h other n at)

-- ---- what is known when more signatures have numbers

pub record Later (before after : Facts) : Type 0 where
  pub uses : after.uses ≡ before.uses
  pub types : (spot : Spot) → type_part (info_at after.infos spot) ≡ type_part (info_at before.infos spot)
  pub numbers : (signature : Signature) (n : ℕ) → number_of before.signatures signature ≡ Some n → number_of after.signatures signature ≡ Some n

pub later_itself : (facts : Facts) → Later facts facts
later_itself facts = record { uses = refl; types = λ spot. refl; numbers = λ signature n at. at }

pub later_through : (first second third : Facts) → Later first second → Later second third → Later first third
later_through first second third a b = record {
  uses = b.uses ∙ a.uses;
  types = λ spot. b.types spot ∙ a.types spot;
  numbers = λ signature n at. b.numbers signature n (a.numbers signature n at);
}

pub entered_later : (before facts : Facts) (signature : Signature) → Later before facts → Later before (entered signature facts)
entered_later before facts signature h = record {
  uses = h.uses;
  types = h.types;
  numbers = λ other n at. number_longer facts.signatures signature other n (h.numbers other n at);
}

abbrev pub SignaturesTyped : Facts → Type 0
SignaturesTyped facts = (number : ℕ) → FoundSigned (signature_at facts.signatures number)

-- entering signatures leaves what is known
pub infos_stay : (facts : Facts) (signature : Signature) → InfosTyped facts → InfosTyped (entered signature facts)
infos_stay facts signature h = h

pushed_typed : (signatures : List Signature) (one : Signature) → SignatureTyped one → ((n : ℕ) → FoundSigned (slice_get signatures n)) → (n : ℕ) → FoundSigned (slice_get (signatures ++ one ∷ []) n)
pushed_typed [] one typed h zero = typed
pushed_typed [] one typed h (suc n) = tt
pushed_typed (signature ∷ signatures) one typed h zero = h 0
pushed_typed (signature ∷ signatures) one typed h (suc n) = pushed_typed signatures one typed (λ k. h (suc k)) n

-- one more signature that has types
pub entered_typed : (facts : Facts) (one : Signature) → SignatureTyped one → SignaturesTyped facts → SignaturesTyped (entered one facts)
entered_typed facts one typed h number = by (list_any (equal_signatures one) facts.signatures)
  where
    by : (there : Bool) → FoundSigned (signature_at (if there then facts.signatures else facts.signatures ++ one ∷ []) number)
    by true = h number
    by false = pushed_typed facts.signatures one typed h number

-- ---- arrays

arrays_typed : (policy : BoundPolicy) (facts : Facts) (dims : DimsTree) (item : Kind) → IsTyped item.ty → ErrorFree (array_found policy facts dims item) → IsTyped (array_type dims item.ty)
arrays_typed policy facts dims item typed whole =
    array_passes typed_test dims item.ty typed (λ broken. sym broken ∙ rule_met (item_type_rule item.ty) BadType item.span (error_free_second (dims_found policy facts dims) _ whole))

-- a name that is declared with a type has a type
pub decl_typed : (policy : BoundPolicy) (facts : Facts) (dims : Option DimsTree) (item : Kind) → IsTyped item.ty → ErrorFree (decl_found policy facts item dims) → IsTyped (decl_type dims item.ty)
decl_typed policy facts None item typed whole = typed
decl_typed policy facts (Some dims) item typed whole = arrays_typed policy facts dims item typed whole

-- ---- formals

abbrev pub ParamsTyped : List NamedParam → Type 0
ParamsTyped = ParamsPass typed_test

decls_typed : (policy : BoundPolicy) (facts : Facts) (mode : Mode) (item : Kind) (decls : List DeclTree) → IsTyped item.ty → ErrorFree (decls_found policy facts item decls) → ParamsTyped (formals_of mode item.ty decls)
decls_typed policy facts mode item [] typed whole = tt
decls_typed policy facts mode item (decl ∷ decls) typed whole = (
  decl_typed policy facts decl.dims item typed (error_free_first (decl_found policy facts item decl.dims) _ whole),
  decls_typed policy facts mode item decls typed (error_free_second (decl_found policy facts item decl.dims) _ whole),
)

abbrev pub MaybeParam : Option NamedParam → Type 0
MaybeParam = ReturnedPasses typed_test

none_refused : (params : List NamedParam) → ParamsTyped params → are_refused params ≡ false
none_refused [] each = refl
none_refused (param ∷ params) each = λ i. not_untyped param.ty each.0 i || none_refused params each.1 i

return_kept : (returned : Option NamedParam) → MaybeParam returned → is_refused_return returned ≡ false
return_kept None h = refl
return_kept (Some param) h = not_untyped param.ty h

abbrev pub SignedTyped : Signed → Type 0
SignedTyped = AllParamsPass typed_test

pub signed_kept : (signed : Signed) → SignedTyped signed → is_refused signed ≡ false
signed_kept signed typed = λ i. none_refused signed.params typed.params i || return_kept signed.returned typed.returned i

pub signed_is : (facts : Facts) (signed : Signed) (n : ℕ) → is_refused signed ≡ false → number_of facts.signatures (whole_signature signed) ≡ Some n → signature_type facts signed ≡ ty.Op n
signed_is facts signed n kept at = ap (λ (met : Bool). if met then ty.Untyped else operation_type facts (whole_signature signed)) kept ∙ ap numbered_type at

-- ---- names

kinding_typed : (span : Span) (named : Option Ty) → MaybeTyped named → ErrorFree (kinding span named).found → IsTyped (kinding span named).kind.ty
kinding_typed span None h whole = absurd whole
kinding_typed span (Some type) h whole = h

pub decl_found_typed : (facts : Facts) → InfosTyped facts → (decl : Option Decl) → FoundTyped (type_part (decl_info facts.infos decl))
decl_found_typed facts infos None = tt
decl_found_typed facts infos (Some decl) = infos decl.spot

-- ---- what is read is what was entered, and has a type

pub record TypeRead (facts : Facts) (after : Entered Ty) (read : Ty) (found : List Finding) : Type 0 where
  pub same : read ≡ after.read
  pub typed : ErrorFree found → IsTyped after.read
  pub signatures : ErrorFree found → SignaturesTyped facts → SignaturesTyped after.facts

pub record FormalsRead (facts : Facts) (after : Entered (List NamedParam)) (read : List NamedParam) (found : List Finding) : Type 0 where
  pub same : read ≡ after.read
  pub typed : ErrorFree found → ParamsTyped after.read
  pub signatures : ErrorFree found → SignaturesTyped facts → SignaturesTyped after.facts

record ReturnedRead (facts : Facts) (after : Entered NamedParam) (read : NamedParam) (found : List Finding) : Type 0 where
  same : read ≡ after.read
  typed : ErrorFree found → IsTyped after.read.ty
  signatures : ErrorFree found → SignaturesTyped facts → SignaturesTyped after.facts

record MaybeRead (facts : Facts) (after : Entered (Option NamedParam)) (read : Option NamedParam) (found : List Finding) : Type 0 where
  same : read ≡ after.read
  typed : ErrorFree found → MaybeParam after.read
  signatures : ErrorFree found → SignaturesTyped facts → SignaturesTyped after.facts

pub record SignatureRead (facts : Facts) (after : Entered Signed) (read : Signed) (found : List Finding) : Type 0 where
  pub same : read ≡ after.read
  pub typed : ErrorFree found → SignedTyped after.read
  pub numbered : is_refused after.read ≡ false → (n : ℕ) × (number_of after.facts.signatures (whole_signature after.read) ≡ Some n)
  pub signatures : ErrorFree found → SignaturesTyped facts → SignaturesTyped after.facts

abbrev TypeAt : List QualifiedName → EntersType → Kinds → Type 0
TypeAt names enters kinds = (facts later : Facts) (policy : BoundPolicy) → InfosTyped facts → Each (Agrees facts later) names → Counts (enters facts).facts later → TypeRead facts (enters facts) (kinds later policy).kind.ty (kinds later policy).found

abbrev FormalAt : List QualifiedName → EntersFormals → ReadsFormals → Type 0
FormalAt names enters reads =
    (facts later : Facts) (is_field : Bool) → InfosTyped facts → Each (Agrees facts later) names → Counts (enters facts).facts later → FormalsRead facts (enters facts) (reads later is_field).params (reads later is_field).found

record ReturnedAt (names : List QualifiedName) (enters : EntersReturned) (reads : ReadsReturned) : Type 0 where
  later : (facts : Facts) → Counts facts (enters facts).facts
  read : (facts later : Facts) → InfosTyped facts → Each (Agrees facts later) names → Counts (enters facts).facts later → ReturnedRead facts (enters facts) (reads later).param (reads later).found

abbrev SignatureAt : List QualifiedName → EntersSignature → ReadsSignature → Type 0
SignatureAt names enters reads = (facts later : Facts) → InfosTyped facts → Each (Agrees facts later) names → Counts (enters facts).facts later → SignatureRead facts (enters facts) (reads later).signed (reads later).found

abbrev pub uses_fold : TypeFold
uses_fold = record {
  OfType = List QualifiedName;
  OfFormal = List QualifiedName;
  OfReturned = List QualifiedName;
  OfSignature = List QualifiedName;
  type_step = type_uses_step;
  formal_step = formal_uses_step;
  returned_step = returned_uses_step;
  signature_step = signature_uses_step;
}

abbrev pub kinds_fold : TypeFold
kinds_fold = record {
  OfType = Kinds;
  OfFormal = ReadsFormals;
  OfReturned = ReadsReturned;
  OfSignature = ReadsSignature;
  type_step = type_step;
  formal_step = formal_step;
  returned_step = returned_step;
  signature_step = signature_step;
}

abbrev related : Related
related = record { first = uses_fold; second = entering; third = kinds_fold; Types = TypeAt; Formals = FormalAt; Returns = ReturnedAt; Signatures = SignatureAt }

abbrev pub enters_type : TypeTree-F TypeTree Formal Returned SignatureTree → TypeTree-F EntersType EntersFormals EntersReturned EntersSignature
enters_type = map-TypeTree TypeTree Formal Returned SignatureTree EntersType EntersFormals EntersReturned EntersSignature type_read_in formal_read_in returned_read_in signature_read_in

abbrev pub enters_formal : Formal-F TypeTree Formal Returned SignatureTree → Formal-F EntersType EntersFormals EntersReturned EntersSignature
enters_formal = map-Formal TypeTree Formal Returned SignatureTree EntersType EntersFormals EntersReturned EntersSignature type_read_in formal_read_in returned_read_in signature_read_in

abbrev pub enters_returned : Returned-F TypeTree Formal Returned SignatureTree → Returned-F EntersType EntersFormals EntersReturned EntersSignature
enters_returned = map-Returned TypeTree Formal Returned SignatureTree EntersType EntersFormals EntersReturned EntersSignature type_read_in formal_read_in returned_read_in signature_read_in

abbrev pub enters_signature : Signature-F TypeTree Formal Returned SignatureTree → Signature-F EntersType EntersFormals EntersReturned EntersSignature
enters_signature = map-Signature TypeTree Formal Returned SignatureTree EntersType EntersFormals EntersReturned EntersSignature type_read_in formal_read_in returned_read_in signature_read_in

abbrev pub reads_type : TypeTree-F TypeTree Formal Returned SignatureTree → TypeTree-F Kinds ReadsFormals ReadsReturned ReadsSignature
reads_type = map-TypeTree TypeTree Formal Returned SignatureTree Kinds ReadsFormals ReadsReturned ReadsSignature type_kinding formal_read returned_read signature_read

abbrev pub reads_formal : Formal-F TypeTree Formal Returned SignatureTree → Formal-F Kinds ReadsFormals ReadsReturned ReadsSignature
reads_formal = map-Formal TypeTree Formal Returned SignatureTree Kinds ReadsFormals ReadsReturned ReadsSignature type_kinding formal_read returned_read signature_read

abbrev pub reads_returned : Returned-F TypeTree Formal Returned SignatureTree → Returned-F Kinds ReadsFormals ReadsReturned ReadsSignature
reads_returned = map-Returned TypeTree Formal Returned SignatureTree Kinds ReadsFormals ReadsReturned ReadsSignature type_kinding formal_read returned_read signature_read

abbrev pub reads_signature : Signature-F TypeTree Formal Returned SignatureTree → Signature-F Kinds ReadsFormals ReadsReturned ReadsSignature
reads_signature = map-Signature TypeTree Formal Returned SignatureTree Kinds ReadsFormals ReadsReturned ReadsSignature type_kinding formal_read returned_read signature_read

-- ---- each tree, when its parts are so

pub type_of_part : (decl : Option Decl) (found : Option Info) → type_by decl found ≡ type_by decl (type_part found)
type_of_part None found = refl
type_of_part (Some decl) None = refl
type_of_part (Some decl) (Some (info.Value typed)) = refl
type_of_part (Some decl) (Some (info.Operation type component is_local)) = refl
type_of_part (Some decl) (Some (info.«Type» type)) = refl
type_of_part (Some decl) (Some (info.Enumeration number literals)) = refl
type_of_part (Some decl) (Some (info.Record fields)) = refl
type_of_part (Some decl) (Some (info.OpType type)) = refl
type_of_part (Some decl) (Some (info.Component type)) = refl

pub capability_of_part : (decl : Option Decl) (found : Option Info) → capability_by decl found ≡ capability_by decl (type_part found)
capability_of_part None found = refl
capability_of_part (Some decl) None = refl
capability_of_part (Some decl) (Some (info.Value typed)) = refl
capability_of_part (Some decl) (Some (info.Operation type component is_local)) = refl
capability_of_part (Some decl) (Some (info.«Type» type)) = refl
capability_of_part (Some decl) (Some (info.Enumeration number literals)) = refl
capability_of_part (Some decl) (Some (info.Record fields)) = refl
capability_of_part (Some decl) (Some (info.OpType type)) = refl
capability_of_part (Some decl) (Some (info.Component type)) = refl

-- a name is the same type
pub same_by : (told : Option Decl → Option Info → Option Ty) → ((decl : Option Decl) (found : Option Info) → told decl found ≡ told decl (type_part found)) → (facts later : Facts) → Later facts later
    → (name : QualifiedName) → told (named_decl later name) (decl_info later.infos (named_decl later name)) ≡ told (named_decl facts name) (decl_info facts.infos (named_decl facts name))
same_by told part facts later more name =
    ap (λ uses. told (decl_of (meaning_at uses (spot_of (deciding name).span))) (decl_info later.infos (decl_of (meaning_at uses (spot_of (deciding name).span))))) more.uses ∙ by (named_decl facts name)
  where
    by : (decl : Option Decl) → told decl (decl_info later.infos decl) ≡ told decl (decl_info facts.infos decl)
    by None = refl
    by (Some decl) = part (Some decl) (info_at later.infos decl.spot) ∙ ap (told (Some decl)) (more.types decl.spot) ∙ sym (part (Some decl) (info_at facts.infos decl.spot))

pub agrees_later : (names : List QualifiedName) (facts later : Facts) → Later facts later → Each (Agrees facts later) names
agrees_later [] facts later more = tt
agrees_later (name ∷ names) facts later more = ((same_by type_by type_of_part facts later more name, same_by capability_by capability_of_part facts later more name), agrees_later names facts later more)

named_read : (span : Span) (name : QualifiedName) (facts later : Facts) → InfosTyped facts → Agrees facts later name → TypeRead facts (read_in facts (named_kinding facts span name).kind.ty) (named_kinding later span name).kind.ty (named_kinding later span name).found
named_read span name facts later infos agree =
    let decl = named_decl facts name in
    record {
      same = ap (λ named. (kinding span named).kind.ty) agree.0;
      typed = λ whole. kinding_typed span (type_by decl (decl_info facts.infos decl)) (subst MaybeTyped (sym (type_of_part decl (decl_info facts.infos decl))) (named_passes typed_test decl (type_part (decl_info facts.infos decl)) (decl_found_typed facts infos decl))) (subst (λ named. ErrorFree (kinding span named).found) agree.0 whole);
      signatures = λ whole h. h;
    }

capable_read : (span : Span) (name : QualifiedName) (facts later : Facts) → InfosTyped facts → Agrees facts later name → TypeRead facts (read_in facts (capability_kinding facts span name).kind.ty) (capability_kinding later span name).kind.ty (capability_kinding later span name).found
capable_read span name facts later infos agree =
    let decl = named_decl facts name in
    record {
      same = ap (λ named. (kinding span named).kind.ty) agree.1;
      typed = λ whole. kinding_typed span (capability_by decl (decl_info facts.infos decl)) (subst MaybeTyped (sym (capability_of_part decl (decl_info facts.infos decl))) (capable_passes typed_test decl (type_part (decl_info facts.infos decl)) (decl_found_typed facts infos decl))) (subst (λ named. ErrorFree (kinding span named).found) agree.1 whole);
      signatures = λ whole h. h;
    }

formal_node : (y : FormalNode related) → FormalFits related y
formal_node y facts later is_field infos agree more =
    let bounds = formal_bounds is_field (mode_of y.mode) in
    let kinds = type_kinding y.ty.0 later bounds in
    let read = y.ty.1 facts later bounds infos agree more in
    record {
      same = ap (λ type. formals_of (mode_of y.mode) type y.decls) read.same;
      typed = λ whole. subst (λ type. ParamsTyped (formals_of (mode_of y.mode) type y.decls)) read.same
          (decls_typed bounds later (mode_of y.mode) kinds.kind y.decls (subst IsTyped (sym read.same) (read.typed (error_free_first kinds.found _ whole))) (error_free_second kinds.found _ whole));
      signatures = λ whole. read.signatures (error_free_first kinds.found _ whole);
    }

row_node : (formals : List (KnownFormal related)) (facts later : Facts) (is_field : Bool) → InfosTyped facts → Each (Agrees facts later) (all_uses (map formal_uses (map (λ (f : KnownFormal related). f.0) formals))) → Counts (in_turn (map formal_read_in (map (λ (f : KnownFormal related). f.0) formals)) facts).facts later
    → FormalsRead facts (in_turn (map formal_read_in (map (λ (f : KnownFormal related). f.0) formals)) facts) (all_params (formals_at (map formal_read (map (λ (f : KnownFormal related). f.0) formals)) later is_field)) (formals_found (formals_at (map formal_read (map (λ (f : KnownFormal related). f.0) formals)) later is_field))
row_node [] facts later is_field infos agree more = record { same = refl; typed = λ whole. tt; signatures = λ whole h. h }
row_node (formal ∷ formals) facts later is_field infos agree more =
    let trees = map (λ (f : KnownFormal related). f.0) formals in
    let first = (formal_read_in formal.0 facts).facts in
    let names = all_uses (map formal_uses trees) in
    let rest : Counts first (formals_entered trees first) = keeps_formals (Counts first) (entered_counts first) trees first (counts_itself first) in
    let found = (formal_read formal.0 later is_field).found in
    let one = formal.1 facts later is_field infos (each-left (Agrees facts later) (formal_uses formal.0) names agree) (counts_through first (formals_entered trees first) later rest more) in
    let others = row_node formals first later is_field (keeps_formals InfosTyped infos_stay (formal.0 ∷ []) facts infos)
    (keeps_formals (λ now. Each (Agrees now later) names) (λ now signature h. h) (formal.0 ∷ []) facts (each-right (Agrees facts later) (formal_uses formal.0) names agree)) more in
    record {
      same = λ i. one.same i ++ others.same i;
      typed = λ whole. each-append (λ (param : NamedParam). IsTyped param.ty) (formal_read_in formal.0 facts).read _ (one.typed (error_free_first found _ whole)) (others.typed (error_free_second found _ whole));
      signatures = λ whole h. others.signatures (error_free_second found _ whole) (one.signatures (error_free_first found _ whole) h);
    }

returned_node : (y : ReturnedNode related) → ReturnedFits related y
returned_node y = record {
  later = λ facts. keeps_type (Counts facts) (entered_counts facts) y.ty.0 facts (counts_itself facts);
  read = λ facts later infos agree more.
      let kinds = type_kinding y.ty.0 later fixed_bounds in
      let read = y.ty.1 facts later fixed_bounds infos agree more in
      record {
        same = ap (λ type. param_of Res type y.decl) read.same;
        typed = λ whole. subst (λ type. IsTyped (decl_type y.decl.dims type)) read.same
            (decl_typed fixed_bounds later y.decl.dims kinds.kind (subst IsTyped (sym read.same) (read.typed (error_free_first kinds.found _ whole))) (error_free_second kinds.found _ whole));
        signatures = λ whole. read.signatures (error_free_first kinds.found _ whole);
      };
}

-- a signature, by what was read of its formals and of what it returns
signature_with : (forms : Forms) (facts later : Facts) (params : Entered (List NamedParam)) (read_params : List NamedParam) (returned : Entered (Option NamedParam)) (read_returned : Option NamedParam) (first_found second_found : List Finding)
    → FormalsRead facts params read_params first_found → MaybeRead params.facts returned read_returned second_found
    → SignatureRead facts (after_returned forms params.read returned) (record { params = read_params; returned = read_returned; forms = forms }) (first_found ++ second_found)
signature_with forms facts later params read_params returned read_returned first_found second_found first second =
    let signed : Signed = record { params = params.read; returned = returned.read; forms = forms } in
    let all = entered (whole_signature signed) returned.facts in
    let same : is_refused signed ≡ false → signed_entered signed returned.facts ≡ all = λ kept. ap (λ (met : Bool). if met then returned.facts else all) kept in
    let typed : ErrorFree (first_found ++ second_found) → SignedTyped signed = λ whole. record { params = first.typed (error_free_first first_found second_found whole); returned = second.typed (error_free_second first_found second_found whole) } in
    let numbered = entered_number returned.facts.signatures (whole_signature signed) in
    record {
      same = λ i. record { params = first.same i; returned = second.same i; forms = forms };
      typed = typed;
      numbered = λ kept. (numbered.0, ap (λ (one : Facts). number_of one.signatures (whole_signature signed)) (same kept) ∙ numbered.1);
      signatures = λ whole h. subst SignaturesTyped (sym (same (signed_kept signed (typed whole))))
          (entered_typed returned.facts (whole_signature signed) (whole_passes typed_test signed (typed whole)) (second.signatures (error_free_second first_found second_found whole) (first.signatures (error_free_first first_found second_found whole) h)));
    }

signature_by : (y : SignatureNode related) (returned : Option (KnownReturned related)) → SignatureFits related (record y { returned = returned })
signature_by y None facts later infos agree more =
    let trees = map (λ (f : KnownFormal related). f.0) y.formals in
    let params = in_turn (map formal_read_in trees) facts in
    let signed : Signed = record { params = params.read; returned = None; forms = forms_of y.kinds } in
    let after : Counts params.facts later =
    counts_through params.facts (signed_entered signed params.facts) later (keeps_signed (Counts params.facts) (entered_counts params.facts) signed params.facts (counts_itself params.facts)) more in
    signature_with (forms_of y.kinds) facts later params (all_params (formals_at (map formal_read trees) later false)) (read_in params.facts None) None (formals_found (formals_at (map formal_read trees) later false)) []
    (row_node y.formals facts later false infos (each-left (Agrees facts later) (all_uses (map formal_uses trees)) [] agree) after)
    (record { same = refl; typed = λ whole. tt; signatures = λ whole h. h })
signature_by y (Some returned) facts later infos agree more =
    let trees = map (λ (f : KnownFormal related). f.0) y.formals in
    let names = all_uses (map formal_uses trees) in
    let back_names = returned_uses returned.0 in
    let params = in_turn (map formal_read_in trees) facts in
    let back = returned_read_in returned.0 params.facts in
    let signed : Signed = record { params = params.read; returned = Some back.read; forms = forms_of y.kinds } in
    let after : Counts back.facts later =
    counts_through back.facts (signed_entered signed back.facts) later (keeps_signed (Counts back.facts) (entered_counts back.facts) signed back.facts (counts_itself back.facts)) more in
    let found = formals_found (formals_at (map formal_read trees) later false) in
    let read = returned.1.read params.facts later (keeps_formals InfosTyped infos_stay trees facts infos)
    (keeps_formals (λ now. Each (Agrees now later) back_names) (λ now signature h. h) trees facts (each-right (Agrees facts later) names back_names agree)) after in
    signature_with (forms_of y.kinds) facts later params (all_params (formals_at (map formal_read trees) later false)) (read_in back.facts (Some back.read)) (Some (returned_read returned.0 later).param) found (returned_read returned.0 later).found
    (row_node y.formals facts later false infos (each-left (Agrees facts later) names back_names agree) (counts_through params.facts back.facts later (returned.1.later params.facts) after))
    (record { same = ap Some read.same; typed = read.typed; signatures = read.signatures })

-- the type of a signature is the same later
pub same_signed : (later here : Facts) (signed : Signed) → (is_refused signed ≡ false → (n : ℕ) × (number_of here.signatures (whole_signature signed) ≡ Some n)) → Counts here later → signature_type later signed ≡ signature_type here signed
same_signed later here signed numbered more = by (is_refused signed) refl
  where
    by : (refused : Bool) → is_refused signed ≡ refused → signature_type later signed ≡ signature_type here signed
    by true is =
        ap (λ (met : Bool). if met then ty.Untyped else operation_type later (whole_signature signed)) is
        ∙ sym (ap (λ (met : Bool). if met then ty.Untyped else operation_type here (whole_signature signed)) is)
    by false is =
        let number = numbered is in
        signed_is later signed number.0 is (more (whole_signature signed) number.0 number.1) ∙ sym (signed_is here signed number.0 is number.1)

type_node : (y : TypeNode related) → TypeFits related y
type_node (TypeTree-F.Int span) facts later policy infos agree more = record { same = refl; typed = λ whole. int_passes typed_test; signatures = λ whole h. h }
type_node (TypeTree-F.Bool span) facts later policy infos agree more = record { same = refl; typed = λ whole. bool_passes typed_test; signatures = λ whole h. h }
type_node (TypeTree-F.Char span) facts later policy infos agree more = record { same = refl; typed = λ whole. char_passes typed_test; signatures = λ whole h. h }
type_node (TypeTree-F.Str span length) facts later policy infos agree more = record { same = refl; typed = λ whole. str_passes typed_test; signatures = λ whole h. h }
type_node (TypeTree-F.Enum span literals) facts later policy infos agree more = record { same = refl; typed = λ whole. enum_passes typed_test _; signatures = λ whole h. h }
type_node (TypeTree-F.Rec span fields) facts later policy infos agree more =
    record { same = refl; typed = λ whole. record_passes typed_test _; signatures = (row_node fields facts later true infos agree more).signatures }
type_node (TypeTree-F.CapOf span name) facts later policy infos agree more = capable_read span name facts later infos agree.0
type_node (TypeTree-F.CapMachine span) facts later policy infos agree more = record { same = refl; typed = λ whole. vm_passes typed_test; signatures = λ whole h. h }
type_node (TypeTree-F.CapOperation span signature) facts later policy infos agree more =
    let read = signature.1 facts later infos agree more in
    let after = signature_read_in signature.0 facts in
    record {
      same = ap (signature_type later) read.same ∙ same_signed later after.facts after.read read.numbered more;
      typed = λ whole.
          let kept = signed_kept after.read (read.typed whole) in
          let number = read.numbered kept in
          subst IsTyped (sym (signed_is after.facts after.read number.0 kept number.1)) (op_passes typed_test number.0 refl);
      signatures = read.signatures;
    }
type_node (TypeTree-F.Array span dims item) facts later policy infos agree more =
    let kinds = type_kinding item.0 later policy in
    let read = item.1 facts later policy infos agree more in
    record {
      same = ap (array_type dims) read.same;
      typed = λ whole. subst (λ type. IsTyped (array_type dims type)) read.same
          (arrays_typed policy later dims kinds.kind (subst IsTyped (sym read.same) (read.typed (error_free_first kinds.found _ whole))) (error_free_second kinds.found _ whole));
      signatures = λ whole. read.signatures (error_free_first kinds.found _ whole);
    }
type_node (TypeTree-F.Named span name) facts later policy infos agree more = named_read span name facts later infos agree.0

-- ---- all trees

layers : Layers related
layers = record { types = type_node; formals = formal_node; returns = returned_node; signatures = λ y. signature_by y y.returned }

-- a type in which no rule is broken is the type that was entered, and has one, where the names in it mean the same
pub type_agrees : (tree : TypeTree) (facts later : Facts) (policy : BoundPolicy) → InfosTyped facts → Each (Agrees facts later) (type_uses tree) → Counts (type_entered tree facts) later
    → TypeRead facts (type_read_in tree facts) (type_kinding tree later policy).kind.ty (type_kinding tree later policy).found
type_agrees = type_related related layers

-- so is a signature
pub signature_agrees : (tree : SignatureTree) (facts later : Facts) → InfosTyped facts → Each (Agrees facts later) (signature_uses tree) → Counts (signature_entered tree facts) later
    → SignatureRead facts (signature_read_in tree facts) (signature_read tree later).signed (signature_read tree later).found
signature_agrees = signature_related related layers

-- and formals
pub formal_agrees : (tree : Formal) (facts later : Facts) (is_field : Bool) → InfosTyped facts → Each (Agrees facts later) (formal_uses tree) → Counts (formal_read_in tree facts).facts later
    → FormalsRead facts (formal_read_in tree facts) (formal_read tree later is_field).params (formal_read tree later is_field).found
formal_agrees = formal_related related layers

-- where all types are known later that are known here, and no others
pub type_typed : (tree : TypeTree) (facts later : Facts) (policy : BoundPolicy) → InfosTyped facts → Later (type_entered tree facts) later → TypeRead facts (type_read_in tree facts) (type_kinding tree later policy).kind.ty (type_kinding tree later policy).found
type_typed tree facts later policy infos more =
    let here = later_through facts (type_entered tree facts) later (keeps_type (Later facts) (entered_later facts) tree facts (later_itself facts)) more in
    type_agrees tree facts later policy infos (agrees_later (type_uses tree) facts later here) more.numbers

pub signature_typed : (tree : SignatureTree) (facts later : Facts) → InfosTyped facts → Later (signature_entered tree facts) later → SignatureRead facts (signature_read_in tree facts) (signature_read tree later).signed (signature_read tree later).found
signature_typed tree facts later infos more =
    let here = later_through facts (signature_entered tree facts) later (keeps_signature (Later facts) (entered_later facts) tree facts (later_itself facts)) more in
    signature_agrees tree facts later infos (agrees_later (signature_uses tree) facts later here) more.numbers

-- so are formals in a row
pub formals_agree : (formals : List Formal) (facts later : Facts) (is_field : Bool) → InfosTyped facts → Each (Agrees facts later) (all_uses (map formal_uses formals)) → Counts (formals_entered formals facts) later
    → FormalsRead facts (in_turn (map formal_read_in formals) facts) (all_params (formals_at (map formal_read formals) later is_field)) (formals_found (formals_at (map formal_read formals) later is_field))
formals_agree [] facts later is_field infos agree more = record { same = refl; typed = λ whole. tt; signatures = λ whole h. h }
formals_agree (formal ∷ formals) facts later is_field infos agree more =
    let first = (formal_read_in formal facts).facts in
    let names = all_uses (map formal_uses formals) in
    let rest : Counts first (formals_entered formals first) = keeps_formals (Counts first) (entered_counts first) formals first (counts_itself first) in
    let found = (formal_read formal later is_field).found in
    let one = formal_agrees formal facts later is_field infos (each-left (Agrees facts later) (formal_uses formal) names agree) (counts_through first (formals_entered formals first) later rest more) in
    let others = formals_agree formals first later is_field (keeps_formals InfosTyped infos_stay (formal ∷ []) facts infos)
    (keeps_formals (λ now. Each (Agrees now later) names) (λ now signature h. h) (formal ∷ []) facts (each-right (Agrees facts later) (formal_uses formal) names agree)) more in
    record {
      same = λ i. one.same i ++ others.same i;
      typed = λ whole. each-append (λ (param : NamedParam). IsTyped param.ty) (formal_read_in formal facts).read _ (one.typed (error_free_first found _ whole)) (others.typed (error_free_second found _ whole));
      signatures = λ whole h. others.signatures (error_free_second found _ whole) (one.signatures (error_free_first found _ whole) h);
    }

-- with all types that are known here, and no others
pub formals_typed : (formals : List Formal) (facts later : Facts) (is_field : Bool) → InfosTyped facts → Later (formals_entered formals facts) later
    → FormalsRead facts (in_turn (map formal_read_in formals) facts) (all_params (formals_at (map formal_read formals) later is_field)) (formals_found (formals_at (map formal_read formals) later is_field))
formals_typed formals facts later is_field infos more =
    let here = later_through facts (formals_entered formals facts) later (keeps_formals (Later facts) (entered_later facts) formals facts (later_itself facts)) more in
    formals_agree formals facts later is_field infos (agrees_later (all_uses (map formal_uses formals)) facts later here) more.numbers
