-- A written type passes a test where the names in it do, whether rules are broken in it or not: also where it is entered, with
-- the signatures in it.
use Rattle.std.proofs.Common.{◌≡◌, Bool, true, false, List, [], ◌∷◌, map, Option, Some, None, IsTrue, refl, sym, subst, if◌then◌else◌}
use Rattle.sr_value.specs.declared.place.Span.{Span}
use Rattle.sr_names.specs.declared.meaning.Decl.{Decl}
use Rattle.sr_names.specs.Spots.{spot_of}
use Rattle.sr_tree.specs.declared.name.QualifiedName.{QualifiedName}
use Rattle.sr_tree.specs.declared.types.Decl.{Decl as DeclTree}
use Rattle.sr_tree.specs.declared.types.DimsTree.{DimsTree}
use Rattle.sr_tree.specs.declared.types.Formal.{Formal, roll-Formal}
use Rattle.sr_tree.specs.declared.types.Returned.{Returned, roll-Returned}
use Rattle.sr_tree.specs.declared.types.Signature.{Signature as SignatureTree, roll-Signature}
use Rattle.sr_tree.specs.declared.types.TypeTree.{TypeTree, roll-TypeTree}
use Rattle.sr_tree.specs.declared.types.TypeTree.TheFolds.{map-TypeTree, map-Formal, map-Returned, map-Signature, fold-roll-TypeTree, fold-roll-Formal, ind-Formal, ind-TypeTree}
use Rattle.sr_tree.specs.declared.types.TypeTree.TheOpen.{TypeTree-F, Formal-F, Returned-F, Signature-F}
use Rattle.sr_types.specs.declared.signature.Forms.{Forms}
use Rattle.sr_types.specs.declared.signature.Mode.{Mode}
use Rattle.sr_types.specs.declared.signature.Signature.{Signature}
use Rattle.sr_types.specs.declared.ty.Ty.{Ty}
use Rattle.sr_types.specs.declared.ty.Ty.TheVariants as ty
use Rattle.sr_types.specs.Signatures.{number_of, with_signature}
use Rattle.sr_check_expr.specs.declared.facts.Facts.{Facts}
use Rattle.sr_check_expr.specs.Infos.{type_spot}
use Rattle.sr_check_expr.specs.Naming.{decl_info}
use Rattle.sr_check_decl.specs.declared.kind.BoundPolicy.{BoundPolicy}
use Rattle.sr_check_decl.specs.declared.kind.NamedParam.{NamedParam}
use Rattle.sr_check_decl.specs.declared.kind.Signed.{Signed}
use Rattle.sr_check_decl.specs.Entering.{Entered, EntersFormals, EntersReturned, EntersSignature, EntersType, after_returned, entered, formal_read_in, formals_entered, in_turn, read_in, returned_read_in, signature_entered, signature_read_in, signed_entered, type_entered, type_read_in}
use Rattle.sr_check_decl.specs.TypeTrees.{Kinds, ReadsFormals, ReadsReturned, ReadsSignature, all_params, capability_by, capability_kinding, decl_type, formal_bounds, formal_read, formal_step, formals_at, formals_of, forms_of, is_refused, kinding, mode_of, named_decl, named_kinding, numbered_type, operation_type, returned_read, returned_step, signature_read, signature_step, signature_type, type_by, type_kinding, type_step, whole_signature}
use Rattle.sr_check.proofs.Each.{each-append, each-weaker}
use Rattle.sr_front.proofs.Typed.PassingParts.{AllParamsPass, ParamsPass, ReturnedPasses, array_passes}
use Rattle.sr_front.proofs.Typed.PassingTypes.{MaybePasses, Passes, TypeTest, bool_passes, char_passes, enum_passes, int_passes, record_passes, str_passes, untyped_passes, vm_passes}
use Rattle.sr_tree.proofs.TypeFolds.{FormalFits, FormalNode, KnownFormal, KnownReturned, Layers, Related, ReturnedFits, ReturnedNode, SignatureFits, SignatureNode, TypeFits, TypeNode, formal_related, signature_related, type_related}
use Rattle.sr_check.proofs.Entered.{entering}

-- What is asked of a test, given by the signatures in the table, and of what is known, for types that are written to pass.
pub record EntersBy (test : List Signature → TypeTest) (Known : Facts → Type 0) : Type 0 where
  pub refused : (table : List Signature) → IsTrue (test table).refused
  pub lifts : (table : List Signature) (one : Signature) (type : Ty) → Passes (test table) type → Passes (test (with_signature table one)) type
  pub number : (table : List Signature) (signature : Signature) → Passes (test table) (numbered_type (number_of table signature))
  pub named : (facts : Facts) → Known facts → (decl : Option Decl) → MaybePasses (test facts.signatures) (type_by decl (decl_info facts.infos decl))
  pub capable : (facts : Facts) → Known facts → (decl : Option Decl) → MaybePasses (test facts.signatures) (capability_by decl (decl_info facts.infos decl))
  pub entered : (facts : Facts) (signed : Signed) → is_refused signed ≡ false → AllParamsPass (test facts.signatures) signed → Known facts → Known (entered (whole_signature signed) facts)

module _ {test : List Signature → TypeTest} {Known : Facts → Type 0} (by : EntersBy test Known) where
  untyped : (table : List Signature) → Passes (test table) ty.Untyped
  untyped table = untyped_passes (test table) (by.refused table)

  pub decl_passes : (table : List Signature) (dims : Option DimsTree) (type : Ty) → Passes (test table) type → Passes (test table) (decl_type dims type)
  decl_passes table None type passes = passes
  decl_passes table (Some dims) type passes = array_passes (test table) dims type passes (λ broken. by.refused table)

  formals_pass : (table : List Signature) (mode : Mode) (type : Ty) (decls : List DeclTree) → Passes (test table) type → ParamsPass (test table) (formals_of mode type decls)
  formals_pass table mode type [] passes = tt
  formals_pass table mode type (decl ∷ decls) passes = (decl_passes table decl.dims type passes, formals_pass table mode type decls passes)

  kinding_passes : (table : List Signature) (span : Span) (named : Option Ty) → MaybePasses (test table) named → Passes (test table) (kinding span named).kind.ty
  kinding_passes table span None passes = untyped table
  kinding_passes table span (Some type) passes = passes

  named_so : (facts : Facts) (span : Span) (name : QualifiedName) → Known facts → Passes (test facts.signatures) (named_kinding facts span name).kind.ty
  named_so facts span name known =
      let decl = named_decl facts name in
      kinding_passes facts.signatures span (type_by decl (decl_info facts.infos decl)) (by.named facts known decl)

  capability_so : (facts : Facts) (span : Span) (name : QualifiedName) → Known facts → Passes (test facts.signatures) (capability_kinding facts span name).kind.ty
  capability_so facts span name known =
      let decl = named_decl facts name in
      kinding_passes facts.signatures span (capability_by decl (decl_info facts.infos decl)) (by.capable facts known decl)

  pub signed_type_so : (facts : Facts) (signed : Signed) → Passes (test facts.signatures) (signature_type facts signed)
  signed_type_so facts signed = either (is_refused signed)
    where
      either : (refused : Bool) → Passes (test facts.signatures) (if refused then ty.Untyped else operation_type facts (whole_signature signed))
      either true = untyped facts.signatures
      either false = by.number facts.signatures (whole_signature signed)

  pub signed_entered_so : (facts : Facts) (signed : Signed) → AllParamsPass (test facts.signatures) signed → Known facts → Known (signed_entered signed facts)
  signed_entered_so facts signed all known = either (is_refused signed) refl
    where
      either : (refused : Bool) → is_refused signed ≡ refused → Known (if refused then facts else entered (whole_signature signed) facts)
      either true is = known
      either false is = by.entered facts signed is all known

  -- all that passes in one table passes in another
  abbrev Lifts : List Signature → List Signature → Type 0
  Lifts old new = (type : Ty) → Passes (test old) type → Passes (test new) type

  pub signed_lifts : (facts : Facts) (signed : Signed) → Lifts facts.signatures (signed_entered signed facts).signatures
  signed_lifts facts signed = either (is_refused signed)
    where
      either : (refused : Bool) → Lifts facts.signatures (if refused then facts else entered (whole_signature signed) facts).signatures
      either true = λ type h. h
      either false = by.lifts facts.signatures (whole_signature signed)

  -- ---- what is entered

  -- what is known stays so, and what is read passes
  record Enters (P : List Signature → Type 0) (before after : Facts) : Type 0 where
    all : Known after
    grown : Lifts before.signatures after.signatures
    read : P after.signatures

  abbrev Keeps : {A : Type 0} → (List Signature → A → Type 0) → (Facts → Entered A) → Type 0
  Keeps P enters = (facts : Facts) → Known facts → Enters (λ table. P table (enters facts).read) facts (enters facts).facts

  abbrev TypePasses : List Signature → Ty → Type 0
  TypePasses table = Passes (test table)

  abbrev ParamPasses : List Signature → NamedParam → Type 0
  ParamPasses table param = Passes (test table) param.ty

  abbrev RowPasses : List Signature → List NamedParam → Type 0
  RowPasses table = ParamsPass (test table)

  abbrev Anything : List Signature → Signed → Type 0
  Anything table signed = Unit {0}

  abbrev related : Related
  related = record {
    first = entering;
    second = entering;
    third = entering;
    Types = λ (enters : EntersType) second third. Keeps TypePasses enters;
    Formals = λ (enters : EntersFormals) second third. Keeps RowPasses enters;
    Returns = λ (enters : EntersReturned) second third. Keeps ParamPasses enters;
    Signatures = λ (enters : EntersSignature) second third. Keeps Anything enters;
  }

  stays : {P : List Signature → Type 0} (facts : Facts) → Known facts → P facts.signatures → Enters P facts facts
  stays facts all read = record { all = all; grown = λ type h. h; read = read }

  formal_node : (y : FormalNode related) → FormalFits related y
  formal_node y facts all =
      let after = type_read_in y.ty.0 facts in
      let read = y.ty.1 facts all in
      record { all = read.all; grown = read.grown; read = formals_pass after.facts.signatures (mode_of y.mode) after.read y.decls read.read }

  row_node : (formals : List (KnownFormal related)) → Keeps RowPasses (in_turn (map formal_read_in (map (λ (f : KnownFormal related). f.0) formals)))
  row_node [] facts all = stays facts all tt
  row_node (formal ∷ formals) facts all =
      let after = formal_read_in formal.0 facts in
      let one = formal.1 facts all in
      let last = (in_turn (map formal_read_in (map (λ (f : KnownFormal related). f.0) formals)) after.facts).facts.signatures in
      let rest = row_node formals after.facts one.all in
      record {
        all = rest.all;
        grown = λ type h. rest.grown type (one.grown type h);
        read = each-append (ParamPasses last) after.read _ (each-weaker (ParamPasses after.facts.signatures) (ParamPasses last) (λ param. rest.grown param.ty) after.read one.read) rest.read;
      }

  returned_node : (y : ReturnedNode related) → ReturnedFits related y
  returned_node y facts all =
      let after = type_read_in y.ty.0 facts in
      let read = y.ty.1 facts all in
      record { all = read.all; grown = read.grown; read = decl_passes after.facts.signatures y.decl.dims after.read read.read }

  after_so : (before : Facts) (forms : Forms) (params : List NamedParam) (returned : Entered (Option NamedParam)) → Lifts before.signatures returned.facts.signatures → RowPasses returned.facts.signatures params
      → ReturnedPasses (test returned.facts.signatures) returned.read → Known returned.facts → Enters (λ table. Unit {0}) before (after_returned forms params returned).facts
  after_so before forms params returned grown fine back all =
      let signed : Signed = record { params = params; returned = returned.read; forms = forms } in
      record {
        all = signed_entered_so returned.facts signed (record { params = fine; returned = back }) all;
        grown = λ type h. signed_lifts returned.facts signed type (grown type h);
        read = tt;
      }

  signature_by : (y : SignatureNode related) (returned : Option (KnownReturned related)) → SignatureFits related (record y { returned = returned })
  signature_by y None facts all =
      let params = in_turn (map formal_read_in (map (λ (f : KnownFormal related). f.0) y.formals)) facts in
      let row = row_node y.formals facts all in
      after_so facts (forms_of y.kinds) params.read (read_in params.facts None) row.grown row.read tt row.all
  signature_by y (Some returned) facts all =
      let params = in_turn (map formal_read_in (map (λ (f : KnownFormal related). f.0) y.formals)) facts in
      let row = row_node y.formals facts all in
      let back = returned_read_in returned.0 params.facts in
      let read = returned.1 params.facts row.all in
      after_so facts (forms_of y.kinds) params.read (read_in back.facts (Some back.read)) (λ type h. read.grown type (row.grown type h))
      (each-weaker (ParamPasses params.facts.signatures) (ParamPasses back.facts.signatures) (λ param. read.grown param.ty) params.read row.read) read.read read.all

  type_node : (y : TypeNode related) → TypeFits related y
  type_node (TypeTree-F.Int span) facts all = stays facts all (int_passes (test facts.signatures))
  type_node (TypeTree-F.Bool span) facts all = stays facts all (bool_passes (test facts.signatures))
  type_node (TypeTree-F.Char span) facts all = stays facts all (char_passes (test facts.signatures))
  type_node (TypeTree-F.Str span length) facts all = stays facts all (str_passes (test facts.signatures))
  type_node (TypeTree-F.Enum span literals) facts all = stays facts all (enum_passes (test facts.signatures) (type_spot (spot_of span)))
  type_node (TypeTree-F.Rec span fields) facts all =
      let row = row_node fields facts all in
      record { all = row.all; grown = row.grown; read = record_passes (test (in_turn (map formal_read_in (map (λ (f : KnownFormal related). f.0) fields)) facts).facts.signatures) (type_spot (spot_of span)) }
  type_node (TypeTree-F.CapOf span name) facts all = stays facts all (capability_so facts span name all)
  type_node (TypeTree-F.CapMachine span) facts all = stays facts all (vm_passes (test facts.signatures))
  type_node (TypeTree-F.CapOperation span signature) facts all =
      let after = signature_read_in signature.0 facts in
      let signed = signature.1 facts all in
      record { all = signed.all; grown = signed.grown; read = signed_type_so after.facts after.read }
  type_node (TypeTree-F.Array span dims item) facts all =
      let after = type_read_in item.0 facts in
      let read = item.1 facts all in
      record { all = read.all; grown = read.grown; read = decl_passes after.facts.signatures (Some dims) after.read read.read }
  type_node (TypeTree-F.Named span name) facts all = stays facts all (named_so facts span name all)

  -- ---- all trees

  layers : Layers related
  layers = record { types = type_node; formals = formal_node; returns = returned_node; signatures = λ y. signature_by y y.returned }

  enters_types : (tree : TypeTree) → Keeps TypePasses (type_read_in tree)
  enters_types = type_related related layers

  enters_formals : (tree : Formal) → Keeps RowPasses (formal_read_in tree)
  enters_formals = formal_related related layers

  enters_signatures : (tree : SignatureTree) → Keeps Anything (signature_read_in tree)
  enters_signatures = signature_related related layers

  -- the signatures in a type, in a signature, and in formals
  pub type_entered_so : (tree : TypeTree) (facts : Facts) → Known facts → Known (type_entered tree facts)
  type_entered_so tree facts all = (enters_types tree facts all).all

  pub signature_entered_so : (tree : SignatureTree) (facts : Facts) → Known facts → Known (signature_entered tree facts)
  signature_entered_so tree facts all = (enters_signatures tree facts all).all

  pub formals_entered_so : (formals : List Formal) (facts : Facts) → Known facts → Known (formals_entered formals facts)
  formals_entered_so [] facts all = all
  formals_entered_so (formal ∷ formals) facts all = formals_entered_so formals (formal_read_in formal facts).facts (enters_formals formal facts all).all

  -- ---- what is read

  module _ (facts : Facts) (all : Known facts) where
    abbrev here : List Signature
    here = facts.signatures

    abbrev TypeReads : Kinds → Type 0
    TypeReads kinds = (policy : BoundPolicy) → TypePasses here (kinds facts policy).kind.ty

    abbrev FormalReads : ReadsFormals → Type 0
    FormalReads reads = (is_field : Bool) → RowPasses here (reads facts is_field).params

    abbrev TypeGood : TypeTree → Type 0
    TypeGood tree = TypeReads (type_kinding tree)

    abbrev FormalGood : Formal → Type 0
    FormalGood tree = FormalReads (formal_read tree)

    abbrev ReturnedGood : Returned → Type 0
    ReturnedGood tree = Unit {0}

    abbrev SignatureGood : SignatureTree → Type 0
    SignatureGood tree = Unit {0}

    abbrev KT : Type 0
    KT = (tree : TypeTree) × TypeGood tree

    abbrev KF : Type 0
    KF = (tree : Formal) × FormalGood tree

    abbrev KR : Type 0
    KR = (tree : Returned) × ReturnedGood tree

    abbrev KS : Type 0
    KS = (tree : SignatureTree) × SignatureGood tree

    abbrev only_type : TypeTree-F KT KF KR KS → TypeTree-F TypeTree Formal Returned SignatureTree
    only_type = map-TypeTree KT KF KR KS TypeTree Formal Returned SignatureTree (λ t. t.0) (λ f. f.0) (λ r. r.0) (λ s. s.0)

    abbrev only_formal : Formal-F KT KF KR KS → Formal-F TypeTree Formal Returned SignatureTree
    only_formal = map-Formal KT KF KR KS TypeTree Formal Returned SignatureTree (λ t. t.0) (λ f. f.0) (λ r. r.0) (λ s. s.0)

    abbrev only_returned : Returned-F KT KF KR KS → Returned-F TypeTree Formal Returned SignatureTree
    only_returned = map-Returned KT KF KR KS TypeTree Formal Returned SignatureTree (λ t. t.0) (λ f. f.0) (λ r. r.0) (λ s. s.0)

    abbrev only_signature : Signature-F KT KF KR KS → Signature-F TypeTree Formal Returned SignatureTree
    only_signature = map-Signature KT KF KR KS TypeTree Formal Returned SignatureTree (λ t. t.0) (λ f. f.0) (λ r. r.0) (λ s. s.0)

    abbrev kinds_of : TypeTree-F TypeTree Formal Returned SignatureTree → TypeTree-F Kinds ReadsFormals ReadsReturned ReadsSignature
    kinds_of = map-TypeTree TypeTree Formal Returned SignatureTree Kinds ReadsFormals ReadsReturned ReadsSignature type_kinding formal_read returned_read signature_read

    abbrev reads_of : Formal-F TypeTree Formal Returned SignatureTree → Formal-F Kinds ReadsFormals ReadsReturned ReadsSignature
    reads_of = map-Formal TypeTree Formal Returned SignatureTree Kinds ReadsFormals ReadsReturned ReadsSignature type_kinding formal_read returned_read signature_read

    kind_node : (y : TypeTree-F KT KF KR KS) → TypeReads (type_step (kinds_of (only_type y)))
    kind_node (TypeTree-F.Int span) policy = int_passes (test here)
    kind_node (TypeTree-F.Bool span) policy = bool_passes (test here)
    kind_node (TypeTree-F.Char span) policy = char_passes (test here)
    kind_node (TypeTree-F.Str span length) policy = str_passes (test here)
    kind_node (TypeTree-F.Enum span literals) policy = enum_passes (test here) (type_spot (spot_of span))
    kind_node (TypeTree-F.Rec span fields) policy = record_passes (test here) (type_spot (spot_of span))
    kind_node (TypeTree-F.CapOf span name) policy = capability_so facts span name all
    kind_node (TypeTree-F.CapMachine span) policy = vm_passes (test here)
    kind_node (TypeTree-F.CapOperation span signature) policy = signed_type_so facts (signature_read signature.0 facts).signed
    kind_node (TypeTree-F.Array span dims item) policy = decl_passes here (Some dims) (type_kinding item.0 facts policy).kind.ty (item.1 policy)
    kind_node (TypeTree-F.Named span name) policy = named_so facts span name all

    read_node : (y : Formal-F KT KF KR KS) → FormalReads (formal_step (reads_of (only_formal y)))
    read_node y is_field =
        let policy = formal_bounds is_field (mode_of y.mode) in
        formals_pass here (mode_of y.mode) (type_kinding y.ty.0 facts policy).kind.ty y.decls (y.ty.1 policy)

    kind_step : (x : TypeTree-F TypeTree Formal Returned SignatureTree) (y : TypeTree-F KT KF KR KS) → only_type y ≡ x → TypeGood (roll-TypeTree x)
    kind_step x y is = subst (λ z. TypeGood (roll-TypeTree z)) is
        (subst TypeReads (sym (fold-roll-TypeTree Kinds ReadsFormals ReadsReturned ReadsSignature type_step formal_step returned_step signature_step (only_type y))) (kind_node y))

    read_step : (x : Formal-F TypeTree Formal Returned SignatureTree) (y : Formal-F KT KF KR KS) → only_formal y ≡ x → FormalGood (roll-Formal x)
    read_step x y is = subst (λ z. FormalGood (roll-Formal z)) is
        (subst FormalReads (sym (fold-roll-Formal Kinds ReadsFormals ReadsReturned ReadsSignature type_step formal_step returned_step signature_step (only_formal y))) (read_node y))

    any_returned : (x : Returned-F TypeTree Formal Returned SignatureTree) (y : Returned-F KT KF KR KS) → only_returned y ≡ x → ReturnedGood (roll-Returned x)
    any_returned x y is = tt

    any_signature : (x : Signature-F TypeTree Formal Returned SignatureTree) (y : Signature-F KT KF KR KS) → only_signature y ≡ x → SignatureGood (roll-Signature x)
    any_signature x y is = tt

    -- a type that is written
    pub kinding_so : (tree : TypeTree) → (policy : BoundPolicy) → TypePasses facts.signatures (type_kinding tree facts policy).kind.ty
    kinding_so tree = ind-TypeTree TypeGood FormalGood ReturnedGood SignatureGood kind_step read_step any_returned any_signature tree

    formal_so : (tree : Formal) → (is_field : Bool) → RowPasses facts.signatures (formal_read tree facts is_field).params
    formal_so tree = ind-Formal TypeGood FormalGood ReturnedGood SignatureGood kind_step read_step any_returned any_signature tree

    -- formals or fields that are written
    pub formals_so : (formals : List Formal) (is_field : Bool) → RowPasses facts.signatures (all_params (formals_at (map formal_read formals) facts is_field))
    formals_so [] is_field = tt
    formals_so (formal ∷ formals) is_field = each-append (ParamPasses here) (formal_read formal facts is_field).params _ (formal_so formal is_field) (formals_so formals is_field)
