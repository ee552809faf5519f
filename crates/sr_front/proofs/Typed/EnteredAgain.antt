-- What is written in a declaration is entered once: where its names mean the same and its signatures have numbers, entering
-- it again changes nothing, and reads the same.
use Rattle.std.proofs.Common.{◌≡◌, ◌||◌, ◌+◌, ℕ, Bool, true, false, List, [], ◌∷◌, ◌++◌, map, Option, Some, None, refl, sym, ap, ◌∙◌, if◌then◌else◌}
use Rattle.std.specs.List.{list_any, position_from}
use Rattle.std.proofs.lemmas.Iterator.Adapters.{position_from-zero}
use Rattle.std.proofs.lemmas.Option.{none-some}
use Rattle.sr_tree.specs.declared.name.QualifiedName.{QualifiedName}
use Rattle.sr_tree.specs.declared.types.Formal.{Formal}
use Rattle.sr_tree.specs.declared.types.TypeTree.{TypeTree}
use Rattle.sr_tree.specs.declared.types.TypeTree.TheOpen.{TypeTree-F}
use Rattle.sr_types.specs.declared.signature.Signature.{Signature}
use Rattle.sr_types.specs.declared.ty.Ty.{Ty}
use Rattle.sr_types.specs.declared.ty.Ty.TheVariants as ty
use Rattle.sr_types.specs.Equality.{equal_signatures}
use Rattle.sr_types.specs.Signatures.{number_of, with_signature}
use Rattle.sr_names.specs.Spots.{spot_of}
use Rattle.sr_check_expr.specs.declared.facts.Facts.{Facts}
use Rattle.sr_check_expr.specs.Infos.{type_spot}
use Rattle.sr_check_decl.specs.declared.kind.NamedParam.{NamedParam}
use Rattle.sr_check_decl.specs.declared.kind.Signed.{Signed}
use Rattle.sr_check_decl.specs.Entering.{Entered, EntersFormals, EntersReturned, EntersSignature, EntersType, after_formals, after_params, after_returned, array_after, entered, formal_read_in, formals_entered, in_turn, operation_after, param_after, params_after, read_in, returned_read_in, signature_read_in, signed_entered, some_after, type_entered, type_read_in}
use Rattle.sr_check_decl.specs.TypeTrees.{forms_of, is_refused, kinding, mode_of, whole_signature}
use Rattle.sr_check.proofs.Each.{Each, each-left, each-right}
use Rattle.sr_check.proofs.Entered.{entering, keeps_formals, keeps_signed, keeps_type}
use Rattle.sr_tree.proofs.TypeFolds.{FormalFits, FormalNode, KnownFormal, KnownReturned, Layers, Related, ReturnedFits, ReturnedNode, SignatureFits, SignatureNode, TypeFits, TypeNode, formal_related, type_related}
use Rattle.sr_front.proofs.Typed.TypedTypes.{Agrees, Counts, all_uses, counts_itself, counts_through, entered_counts, entered_number, formal_uses, returned_uses, same_signed, type_uses, uses_fold}

-- ---- a signature that has a number

any_from : {X : Type 0} (test : X → Bool) (xs : List X) (i n : ℕ) → position_from test i xs ≡ Some n → list_any test xs ≡ true
any_from test [] i n at = absurd (none-some _ at)
any_from test (x ∷ xs) i n at = by (test x) at (any_from test xs (i + 1) n)
  where
    by : (passes : Bool) → (if passes then Some i else position_from test (i + 1) xs) ≡ Some n → (position_from test (i + 1) xs ≡ Some n → list_any test xs ≡ true) → (passes || list_any test xs) ≡ true
    by true at more = refl
    by false at more = more at

with_same : (signatures : List Signature) (one : Signature) (n : ℕ) → number_of signatures one ≡ Some n → with_signature signatures one ≡ signatures
with_same signatures one n at =
    ap (λ (there : Bool). if there then signatures else signatures ++ one ∷ []) (any_from (equal_signatures one) signatures 0 n (sym (position_from-zero (equal_signatures one) signatures) ∙ at))

-- it is entered already
pub entered_same : (facts : Facts) (one : Signature) (n : ℕ) → number_of facts.signatures one ≡ Some n → entered one facts ≡ facts
entered_same facts one n at = ap (λ signatures. record facts { signatures = signatures }) (with_same facts.signatures one n at)

-- a signature in which a part was refused is none
signed_same : (facts : Facts) (signed : Signed) → (is_refused signed ≡ false → (n : ℕ) × (number_of facts.signatures (whole_signature signed) ≡ Some n)) → signed_entered signed facts ≡ facts
signed_same facts signed numbered = by (is_refused signed) refl
  where
    by : (refused : Bool) → is_refused signed ≡ refused → signed_entered signed facts ≡ facts
    by true is = ap (λ (met : Bool). if met then facts else entered (whole_signature signed) facts) is
    by false is =
        let number = numbered is in
        ap (λ (met : Bool). if met then facts else entered (whole_signature signed) facts) is ∙ entered_same facts (whole_signature signed) number.0 number.1

-- ---- what is entered again

-- where these names mean the same later, and all signatures have their numbers
abbrev pub Again : {A : Type 0} → List QualifiedName → (Facts → Entered A) → Type 0
Again names enters = (facts later : Facts) → Each (Agrees facts later) names → Counts (enters facts).facts later → enters later ≡ read_in later (enters facts).read

-- a signature also has a number, unless it was refused
pub record SignedAgain (names : List QualifiedName) (enters : EntersSignature) : Type 0 where
  pub same : Again names enters
  pub numbered : (facts : Facts) → is_refused (enters facts).read ≡ false → (n : ℕ) × (number_of (enters facts).facts.signatures (whole_signature (enters facts).read) ≡ Some n)

abbrev related : Related
related = record {
  first = uses_fold;
  second = entering;
  third = uses_fold;
  Types = λ names (enters : EntersType) others. Again names enters;
  Formals = λ names (enters : EntersFormals) others. Again names enters;
  Returns = λ names (enters : EntersReturned) others. ((facts : Facts) → Counts facts (enters facts).facts) × Again names enters;
  Signatures = λ names (enters : EntersSignature) others. SignedAgain names enters;
}

formal_node : (y : FormalNode related) → FormalFits related y
formal_node y facts later agree more = ap (params_after (mode_of y.mode) y.decls) (y.ty.1 facts later agree more)

-- formals in a row, when each is so
abbrev RowAgain : List Formal → Type 0
RowAgain trees = Again (all_uses (map formal_uses trees)) (in_turn (map formal_read_in trees))

row_both : (formal : Formal) (trees : List Formal) → Again (formal_uses formal) (formal_read_in formal) → RowAgain trees → RowAgain (formal ∷ trees)
row_both formal trees one others facts later agree more =
    let first = (formal_read_in formal facts).facts in
    let names = all_uses (map formal_uses trees) in
    let grows : Counts first (formals_entered trees first) = keeps_formals (Counts first) (entered_counts first) trees first (counts_itself first) in
    let here = one facts later (each-left (Agrees facts later) (formal_uses formal) names agree) (counts_through first (formals_entered trees first) later grows more) in
    let rest = others first later (keeps_formals (λ now. Each (Agrees now later) names) (λ now signature h. h) (formal ∷ []) facts (each-right (Agrees facts later) (formal_uses formal) names agree)) more in
    ap (λ (entered : Entered (List NamedParam)). after_params entered.read (in_turn (map formal_read_in trees) entered.facts)) here ∙ ap (after_params (formal_read_in formal facts).read) rest

row_node : (formals : List (KnownFormal related)) → RowAgain (map (λ (f : KnownFormal related). f.0) formals)
row_node [] facts later agree more = refl
row_node (formal ∷ formals) facts later agree more = row_both formal.0 (map (λ (f : KnownFormal related). f.0) formals) formal.1 (row_node formals) facts later agree more

returned_node : (y : ReturnedNode related) → ReturnedFits related y
returned_node y = (
  λ facts. keeps_type (Counts facts) (entered_counts facts) y.ty.0 facts (counts_itself facts),
  λ facts later agree more. ap (param_after y.decl) (y.ty.1 facts later agree more),
)

-- a signature, by what was read of its formals and of what it returns
signed_number : (facts : Facts) (signed : Signed) → is_refused signed ≡ false → (n : ℕ) × (number_of (signed_entered signed facts).signatures (whole_signature signed) ≡ Some n)
signed_number facts signed kept =
    let number = entered_number facts.signatures (whole_signature signed) in
    (number.0, ap (λ (met : Bool). number_of (if met then facts else entered (whole_signature signed) facts).signatures (whole_signature signed)) kept ∙ number.1)

signed_again : (later facts : Facts) (signed : Signed) → Counts (signed_entered signed facts) later → read_in (signed_entered signed later) signed ≡ read_in later signed
signed_again later facts signed more =
    ap (λ now. read_in now signed)
    (signed_same later signed (λ kept.
    let number = signed_number facts signed kept in
    (number.0, more (whole_signature signed) number.0 number.1)))

signature_by : (y : SignatureNode related) (returned : Option (KnownReturned related)) → SignatureFits related (record y { returned = returned })
signature_by y None = record {
  same = λ facts later agree more.
      let trees = map (λ (f : KnownFormal related). f.0) y.formals in
      let params = in_turn (map formal_read_in trees) facts in
      let signed : Signed = record { params = params.read; returned = None; forms = forms_of y.kinds } in
      let after : Counts params.facts later =
      counts_through params.facts (signed_entered signed params.facts) later (keeps_signed (Counts params.facts) (entered_counts params.facts) signed params.facts (counts_itself params.facts)) more in
      ap (after_formals (forms_of y.kinds) None) (row_node y.formals facts later (each-left (Agrees facts later) (all_uses (map formal_uses trees)) [] agree) after)
      ∙ signed_again later params.facts signed more;
  numbered = λ facts kept.
      let params = in_turn (map formal_read_in (map (λ (f : KnownFormal related). f.0) y.formals)) facts in
      signed_number params.facts (record { params = params.read; returned = None; forms = forms_of y.kinds }) kept;
}
signature_by y (Some returned) = record {
  same = λ facts later agree more.
      let trees = map (λ (f : KnownFormal related). f.0) y.formals in
      let names = all_uses (map formal_uses trees) in
      let back_names = returned_uses returned.0 in
      let params = in_turn (map formal_read_in trees) facts in
      let back = returned_read_in returned.0 params.facts in
      let signed : Signed = record { params = params.read; returned = Some back.read; forms = forms_of y.kinds } in
      let after : Counts back.facts later =
      counts_through back.facts (signed_entered signed back.facts) later (keeps_signed (Counts back.facts) (entered_counts back.facts) signed back.facts (counts_itself back.facts)) more in
      let one = returned.1.1 params.facts later
      (keeps_formals (λ now. Each (Agrees now later) back_names) (λ now signature h. h) trees facts (each-right (Agrees facts later) names back_names agree)) after in
      ap (after_formals (forms_of y.kinds) (Some (returned_read_in returned.0)))
      (row_node y.formals facts later (each-left (Agrees facts later) names back_names agree) (counts_through params.facts back.facts later (returned.1.0 params.facts) after))
      ∙ (ap (λ entered. after_returned (forms_of y.kinds) params.read (some_after entered)) one ∙ signed_again later back.facts signed more);
  numbered = λ facts kept.
      let params = in_turn (map formal_read_in (map (λ (f : KnownFormal related). f.0) y.formals)) facts in
      let back = returned_read_in returned.0 params.facts in
      signed_number back.facts (record { params = params.read; returned = Some back.read; forms = forms_of y.kinds }) kept;
}

type_node : (y : TypeNode related) → TypeFits related y
type_node (TypeTree-F.Int span) facts later agree more = refl
type_node (TypeTree-F.Bool span) facts later agree more = refl
type_node (TypeTree-F.Char span) facts later agree more = refl
type_node (TypeTree-F.Str span length) facts later agree more = refl
type_node (TypeTree-F.Enum span literals) facts later agree more = refl
type_node (TypeTree-F.Rec span fields) facts later agree more =
    ap (λ (entered : Entered (List NamedParam)). read_in entered.facts (ty.Rec (type_spot (spot_of span)))) (row_node fields facts later agree more)
type_node (TypeTree-F.CapOf span name) facts later agree more = ap (λ named. read_in later (kinding span named).kind.ty) agree.0.1
type_node (TypeTree-F.CapMachine span) facts later agree more = refl
type_node (TypeTree-F.CapOperation span signature) facts later agree more =
    let after = signature_read_in signature.0 facts in
    ap operation_after (signature.1.same facts later agree more) ∙ ap (read_in later) (same_signed later after.facts after.read (signature.1.numbered facts) more)
type_node (TypeTree-F.Array span dims item) facts later agree more = ap (array_after dims) (item.1 facts later agree more)
type_node (TypeTree-F.Named span name) facts later agree more = ap (λ named. read_in later (kinding span named).kind.ty) agree.0.0

-- ---- all trees

layers : Layers related
layers = record { types = type_node; formals = formal_node; returns = returned_node; signatures = λ y. signature_by y y.returned }

-- a type that is entered again
pub type_again : (tree : TypeTree) → Again (type_uses tree) (type_read_in tree)
type_again = type_related related layers

-- a formal
pub formal_again : (tree : Formal) → Again (formal_uses tree) (formal_read_in tree)
formal_again = formal_related related layers

-- formals in a row
pub formals_again : (formals : List Formal) → Again (all_uses (map formal_uses formals)) (in_turn (map formal_read_in formals))
formals_again [] facts later agree more = refl
formals_again (formal ∷ formals) facts later agree more = row_both formal formals (formal_again formal) (formals_again formals) facts later agree more

-- ---- so the facts stay

pub type_entered_again : (tree : TypeTree) (facts later : Facts) → Each (Agrees facts later) (type_uses tree) → Counts (type_entered tree facts) later → type_entered tree later ≡ later
type_entered_again tree facts later agree more = ap (λ (entered : Entered Ty). entered.facts) (type_again tree facts later agree more)

pub formals_entered_again : (formals : List Formal) (facts later : Facts) → Each (Agrees facts later) (all_uses (map formal_uses formals)) → Counts (formals_entered formals facts) later → formals_entered formals later ≡ later
formals_entered_again formals facts later agree more = ap (λ (entered : Entered (List NamedParam)). entered.facts) (formals_again formals facts later agree more)
