-- A written signature of which the whole has a number, and no part was refused: all signatures in it have their numbers, so
-- entering it once more changes nothing. It declares no record: the fields of one aren't among its parts.
use Rattle.std.proofs.Common.{◌≡◌, ℕ, ◌+◌, Bool, true, false, not, ◌||◌, List, [], ◌∷◌, ◌++◌, map, Option, Some, None, refl, sym, ap, subst, ◌∙◌, if◌then◌else◌}
use Rattle.std.specs.List.{list_any, position_from}
use Rattle.std.proofs.lemmas.Bool.{or_parts, true≢false}
use Rattle.std.proofs.lemmas.Iterator.Adapters.{position_from-zero}
use Rattle.std.proofs.lemmas.Option.{none-some}
use Rattle.sr_value.specs.declared.place.Span.{Span}
use Rattle.sr_tree.specs.declared.token.Token.{Token}
use Rattle.sr_tree.specs.declared.types.Decl.{Decl as DeclTree}
use Rattle.sr_tree.specs.declared.types.DimsTree.{DimsTree}
use Rattle.sr_tree.specs.declared.types.Formal.{Formal, roll-Formal}
use Rattle.sr_tree.specs.declared.types.InvocationKind.{InvocationKind}
use Rattle.sr_tree.specs.declared.types.Returned.{Returned, roll-Returned}
use Rattle.sr_tree.specs.declared.types.Signature.{Signature as SignatureTree, roll-Signature}
use Rattle.sr_tree.specs.declared.types.TypePlace.TheVariants.{Elsewhere}
use Rattle.sr_tree.specs.declared.types.TypeTree.{TypeTree, roll-TypeTree}
use Rattle.sr_tree.specs.declared.types.TypeTree.TheFolds.{fold-roll-TypeTree, fold-roll-Formal, fold-roll-Returned, fold-roll-Signature}
use Rattle.sr_tree.specs.declared.types.TypeTree.TheOpen.{TypeTree-F, Formal-F, Returned-F, Signature-F}
use Rattle.sr_tree.specs.declared.types.TypeTree.TheVariants as tree
use Rattle.sr_tree.specs.Types as g
use Rattle.sr_tree.specs.Types.{SpellsDecls, SpellsPlainTypeIn, SpellsTypeIn, SpellsFormalIn, SpellsMoreFormalsIn, SpellsFormalsIn, SpellsSignatureIn, formal_span}
use Rattle.sr_types.specs.declared.signature.Forms.{Forms}
use Rattle.sr_types.specs.declared.signature.Mode.{Mode}
use Rattle.sr_types.specs.declared.signature.Signature.{Signature}
use Rattle.sr_types.specs.declared.ty.Ty.{Ty, out-roll-Ty}
use Rattle.sr_types.specs.declared.ty.Ty.TheOpen.{Ty-F}
use Rattle.sr_types.specs.declared.ty.Ty.TheVariants as ty
use Rattle.sr_types.specs.Equality.{equal_signatures}
use Rattle.sr_types.specs.Signatures.{number_of}
use Rattle.sr_types.specs.Types.{is_no_type, layer_is_untyped}
use Rattle.sr_check_expr.specs.declared.facts.Facts.{Facts}
use Rattle.sr_check_decl.specs.declared.kind.BoundPolicy.{BoundPolicy}
use Rattle.sr_check_decl.specs.declared.kind.NamedParam.{NamedParam}
use Rattle.sr_check_decl.specs.declared.kind.Signed.{Signed}
use Rattle.sr_check_decl.specs.Bounds.{item_type_rule}
use Rattle.sr_check_decl.specs.Entering.{Entered, EntersFormals, EntersReturned, EntersSignature, EntersType, after_formals, after_params, after_returned, array_after, entered, formal_read_in, in_turn, operation_after, param_after, params_after, read_in, returned_read_in, signature_read_in, signed_entered, some_after, type_read_in, type_step as enter_type, formal_step as enter_formal, returned_step as enter_returned, signature_step as enter_signature}
use Rattle.sr_check_decl.specs.TypeTrees.{Kinds, ReadsFormals, ReadsReturned, ReadsSignature, all_params, are_refused, array_by, array_type, decl_type, fixed_bounds, formal_bounds, formal_read, formal_step, formals_at, formals_of, forms_of, is_refused, kinding, mode_of, numbered_type, operation_type, returned_read, returned_step, signature_read, signature_step, signature_type, type_kinding, type_step, whole_signature}
use Rattle.sr_front.proofs.Typed.TypedTypes.{Later, agrees_later, enters_formal, enters_returned, enters_signature, enters_type, reads_formal, reads_returned, reads_signature, reads_type, signed_is}

-- ---- what is no type, and what is refused

no_type_untyped : is_no_type ty.Untyped ≡ true
no_type_untyped = subst (λ type. is_no_type type ≡ true) ty.rolls-Untyped (ap layer_is_untyped (out-roll-Ty Ty-F.Untyped))

array_kept : (dims : DimsTree) (item : Ty) → is_no_type (array_type dims item) ≡ false → is_no_type item ≡ false
array_kept dims item kept = by (is_no_type item) kept
  where
    by : (none : Bool) → is_no_type (if none || not (item_type_rule item) then ty.Untyped else array_by dims.second item) ≡ false → none ≡ false
    by false kept = refl
    by true kept = absurd (true≢false (sym no_type_untyped ∙ kept))

decl_kept : (dims : Option DimsTree) (type : Ty) → is_no_type (decl_type dims type) ≡ false → is_no_type type ≡ false
decl_kept None type kept = kept
decl_kept (Some dims) type kept = array_kept dims type kept

first_kept : (xs ys : List NamedParam) → are_refused (xs ++ ys) ≡ false → are_refused xs ≡ false
first_kept [] ys kept = refl
first_kept (x ∷ xs) ys kept = λ i. (or_parts (is_no_type x.ty) (are_refused (xs ++ ys)) kept).0 i || first_kept xs ys (or_parts (is_no_type x.ty) (are_refused (xs ++ ys)) kept).1 i

second_kept : (xs ys : List NamedParam) → are_refused (xs ++ ys) ≡ false → are_refused ys ≡ false
second_kept [] ys kept = kept
second_kept (x ∷ xs) ys kept = second_kept xs ys (or_parts (is_no_type x.ty) (are_refused (xs ++ ys)) kept).1

-- formals that name something
formals_kept : {decls : List DeclTree} {u : List Token} (mode : Mode) (type : Ty) → SpellsDecls decls u → are_refused (formals_of mode type decls) ≡ false → is_no_type type ≡ false
formals_kept mode type (g.decls {d = d} {ds = ds} here more) kept = decl_kept d.dims type (or_parts (is_no_type (decl_type d.dims type)) (are_refused (formals_of mode type ds)) kept).0

-- ---- what has a number is there

any_from : {X : Type 0} (test : X → Bool) (xs : List X) (i n : ℕ) → position_from test i xs ≡ Some n → list_any test xs ≡ true
any_from test [] i n e = absurd (none-some n e)
any_from test (x ∷ xs) i n e = by (test x) e (any_from test xs (i + 1) n)
  where
    by : (passes : Bool) → (if passes then Some i else position_from test (i + 1) xs) ≡ Some n → (position_from test (i + 1) xs ≡ Some n → list_any test xs ≡ true) → (passes || list_any test xs) ≡ true
    by true e more = refl
    by false e more = more e

-- what has a number is entered already
entered_again : (facts : Facts) (signature : Signature) (n : ℕ) → number_of facts.signatures signature ≡ Some n → entered signature facts ≡ facts
entered_again facts signature n at =
    let there = any_from (equal_signatures signature) facts.signatures 0 n (sym (position_from-zero (equal_signatures signature) facts.signatures) ∙ at) in
    ap (λ (met : Bool). record facts { signatures = if met then facts.signatures else facts.signatures ++ signature ∷ [] }) there

signed_again : (facts : Facts) (signed : Signed) (n : ℕ) → number_of facts.signatures (whole_signature signed) ≡ Some n → signed_entered signed facts ≡ facts
signed_again facts signed n at = by (is_refused signed)
  where
    by : (refused : Bool) → (if refused then facts else entered (whole_signature signed) facts) ≡ facts
    by true = refl
    by false = entered_again facts (whole_signature signed) n at

-- a signature of which no part was refused, and that has a number
pub record Numbered (facts : Facts) (signed : Signed) : Type 0 where
  pub kept : is_refused signed ≡ false
  pub number : ℕ
  pub at : number_of facts.signatures (whole_signature signed) ≡ Some number

-- such is each that has a type
pub numbered_typed : (facts : Facts) (signed : Signed) → is_no_type (signature_type facts signed) ≡ false → Numbered facts signed
numbered_typed facts signed typed = refused (is_refused signed) refl typed
  where
    refused_untyped : is_no_type ty.Untyped ≡ false → ⊥
    refused_untyped e = true≢false (sym no_type_untyped ∙ e)

    numbered : is_refused signed ≡ false → (found : Option ℕ) → number_of facts.signatures (whole_signature signed) ≡ found → is_no_type (numbered_type found) ≡ false → Numbered facts signed
    numbered kept None at e = absurd (refused_untyped e)
    numbered kept (Some n) at e = record { kept = kept; number = n; at = at }

    refused : (is : Bool) → is_refused signed ≡ is → is_no_type (if is then ty.Untyped else operation_type facts (whole_signature signed)) ≡ false → Numbered facts signed
    refused true is e = absurd (refused_untyped e)
    refused false is e = numbered is (number_of facts.signatures (whole_signature signed)) refl e

-- ---- read once more, where all types are known that were known

module _ (known now : Facts) (later : Later known now) where
  abbrev TypeAgain : Kinds → EntersType → Type 0
  TypeAgain kinds enters = (policy : BoundPolicy) → is_no_type (kinds known policy).kind.ty ≡ false → enters now ≡ read_in now (kinds known policy).kind.ty

  abbrev FormalAgain : ReadsFormals → EntersFormals → Type 0
  FormalAgain reads enters = are_refused (reads known false).params ≡ false → enters now ≡ read_in now (reads known false).params

  abbrev ReturnedAgain : ReadsReturned → EntersReturned → Type 0
  ReturnedAgain reads enters = is_no_type (reads known).param.ty ≡ false → enters now ≡ read_in now (reads known).param

  abbrev SignatureAgain : ReadsSignature → EntersSignature → Type 0
  SignatureAgain reads enters = Numbered known (reads known).signed → enters now ≡ read_in now (reads known).signed

  -- ---- each tree is made of its parts

  of_type : {written : TypeTree} (x : TypeTree-F TypeTree Formal Returned SignatureTree) → roll-TypeTree x ≡ written → TypeAgain (type_step (reads_type x)) (enter_type (enters_type x)) → TypeAgain (type_kinding written) (type_read_in written)
  of_type x rolls h = subst (λ written. TypeAgain (type_kinding written) (type_read_in written)) rolls
      (subst (λ (kinds : Kinds). TypeAgain kinds (type_read_in (roll-TypeTree x)))
      (sym (fold-roll-TypeTree Kinds ReadsFormals ReadsReturned ReadsSignature type_step formal_step returned_step signature_step x))
      (subst (λ (enters : EntersType). TypeAgain (type_step (reads_type x)) enters)
      (sym (fold-roll-TypeTree EntersType EntersFormals EntersReturned EntersSignature enter_type enter_formal enter_returned enter_signature x)) h))

  of_formal : (x : Formal-F TypeTree Formal Returned SignatureTree) → FormalAgain (formal_step (reads_formal x)) (enter_formal (enters_formal x)) → FormalAgain (formal_read (roll-Formal x)) (formal_read_in (roll-Formal x))
  of_formal x h =
      subst (λ (reads : ReadsFormals). FormalAgain reads (formal_read_in (roll-Formal x)))
      (sym (fold-roll-Formal Kinds ReadsFormals ReadsReturned ReadsSignature type_step formal_step returned_step signature_step x))
      (subst (λ (enters : EntersFormals). FormalAgain (formal_step (reads_formal x)) enters)
      (sym (fold-roll-Formal EntersType EntersFormals EntersReturned EntersSignature enter_type enter_formal enter_returned enter_signature x)) h)

  of_returned : (x : Returned-F TypeTree Formal Returned SignatureTree) → ReturnedAgain (returned_step (reads_returned x)) (enter_returned (enters_returned x)) → ReturnedAgain (returned_read (roll-Returned x)) (returned_read_in (roll-Returned x))
  of_returned x h =
      subst (λ (reads : ReadsReturned). ReturnedAgain reads (returned_read_in (roll-Returned x)))
      (sym (fold-roll-Returned Kinds ReadsFormals ReadsReturned ReadsSignature type_step formal_step returned_step signature_step x))
      (subst (λ (enters : EntersReturned). ReturnedAgain (returned_step (reads_returned x)) enters)
      (sym (fold-roll-Returned EntersType EntersFormals EntersReturned EntersSignature enter_type enter_formal enter_returned enter_signature x)) h)

  of_signature : (x : Signature-F TypeTree Formal Returned SignatureTree) → SignatureAgain (signature_step (reads_signature x)) (enter_signature (enters_signature x)) → SignatureAgain (signature_read (roll-Signature x)) (signature_read_in (roll-Signature x))
  of_signature x h =
      subst (λ (reads : ReadsSignature). SignatureAgain reads (signature_read_in (roll-Signature x)))
      (sym (fold-roll-Signature Kinds ReadsFormals ReadsReturned ReadsSignature type_step formal_step returned_step signature_step x))
      (subst (λ (enters : EntersSignature). SignatureAgain (signature_step (reads_signature x)) enters)
      (sym (fold-roll-Signature EntersType EntersFormals EntersReturned EntersSignature enter_type enter_formal enter_returned enter_signature x)) h)

  -- ---- parts

  operation_again : (written : SignatureTree) → SignatureAgain (signature_read written) (signature_read_in written) → is_no_type (signature_type known (signature_read written known).signed) ≡ false
      → operation_after (signature_read_in written now) ≡ read_in now (signature_type known (signature_read written known).signed)
  operation_again written again typed =
      let signed = (signature_read written known).signed in
      let is = numbered_typed known signed typed in
      ap operation_after (again is) ∙ ap (read_in now) (signed_is now signed is.number is.kept (later.numbers (whole_signature signed) is.number is.at) ∙ sym (signed_is known signed is.number is.kept is.at))

  -- formals one after the other
  abbrev RowAgain : List Formal → Type 0
  RowAgain formals =
      are_refused (all_params (formals_at (map formal_read formals) known false)) ≡ false → in_turn (map formal_read_in formals) now ≡ read_in now (all_params (formals_at (map formal_read formals) known false))

  row_more : (formal : Formal) (formals : List Formal) → FormalAgain (formal_read formal) (formal_read_in formal) → RowAgain formals → RowAgain (formal ∷ formals)
  row_more formal formals first rest kept =
      let params = (formal_read formal known false).params in
      let others = all_params (formals_at (map formal_read formals) known false) in
      ap (λ (one : Entered (List NamedParam)). after_params one.read (in_turn (map formal_read_in formals) one.facts)) (first (first_kept params others kept))
      ∙ ap (after_params params) (rest (second_kept params others kept))

  -- a signature, by what was entered of its formals and of what it returns
  whole_again : (forms : Forms) (params : List NamedParam) (returned : Option NamedParam) → Numbered known (record { params = params; returned = returned; forms = forms })
      → after_returned forms params (read_in now returned) ≡ read_in now (record { params = params; returned = returned; forms = forms })
  whole_again forms params returned is =
      let signed : Signed = record { params = params; returned = returned; forms = forms } in
      ap (λ (facts : Facts). read_in facts signed) (signed_again now signed is.number (later.numbers (whole_signature signed) is.number is.at))

  signature_without : (span : Span) (formals : List Formal) (kinds : List InvocationKind) → RowAgain formals
      → SignatureAgain (signature_step (reads_signature (record { span = span; formals = formals; returned = None; kinds = kinds }))) (enter_signature (enters_signature (record { span = span; formals = formals; returned = None; kinds = kinds })))
  signature_without span formals kinds row is =
      let params = all_params (formals_at (map formal_read formals) known false) in
      ap (after_formals (forms_of kinds) None) (row (or_parts (are_refused params) false is.kept).0) ∙ whole_again (forms_of kinds) params None is

  signature_with : (span : Span) (formals : List Formal) (returned : Returned) (kinds : List InvocationKind) → RowAgain formals → ReturnedAgain (returned_read returned) (returned_read_in returned)
      → SignatureAgain (signature_step (reads_signature (record { span = span; formals = formals; returned = Some returned; kinds = kinds }))) (enter_signature (enters_signature (record { span = span; formals = formals; returned = Some returned; kinds = kinds })))
  signature_with span formals returned kinds row back is =
      let params = all_params (formals_at (map formal_read formals) known false) in
      let param = (returned_read returned known).param in
      ap (after_formals (forms_of kinds) (Some (returned_read_in returned))) (row (or_parts (are_refused params) (is_no_type param.ty) is.kept).0)
      ∙ ap (λ (one : Entered NamedParam). after_returned (forms_of kinds) params (some_after one)) (back (or_parts (are_refused params) (is_no_type param.ty) is.kept).1)
      ∙ whole_again (forms_of kinds) params (Some param) is

  -- ---- all that is spelled where nothing may be declared

  mutual
    plain_again : {written : TypeTree} {u : List Token} → SpellsPlainTypeIn Elsewhere written u → TypeAgain (type_kinding written) (type_read_in written)
    plain_again (g.int t h) = of_type (TypeTree-F.Int t.span) (tree.rolls-Int t.span) (λ policy typed. refl)
    plain_again (g.bool t h) = of_type (TypeTree-F.Bool t.span) (tree.rolls-Bool t.span) (λ policy typed. refl)
    plain_again (g.char t h) = of_type (TypeTree-F.Char t.span) (tree.rolls-Char t.span) (λ policy typed. refl)
    plain_again (g.string {e = e} t o k h i d j) = of_type (TypeTree-F.Str t.span (Some e)) (tree.rolls-Str t.span (Some e)) (λ policy typed. refl)
    plain_again (g.string_of_any_length t o s k h i j l) = of_type (TypeTree-F.Str t.span None) (tree.rolls-Str t.span None) (λ policy typed. refl)
    plain_again (g.cap_of {q = q} t h d) =
        of_type (TypeTree-F.CapOf t.span q) (tree.rolls-CapOf t.span q) (λ policy typed. ap (λ named. read_in now (kinding t.span named).kind.ty) (agrees_later (q ∷ []) known now later).0.1)
    plain_again (g.cap_machine t v h i) = of_type (TypeTree-F.CapMachine t.span) (tree.rolls-CapMachine t.span) (λ policy typed. refl)
    plain_again (g.cap_operation {s = s} t h d) =
        let again = signature_again d in of_type (TypeTree-F.CapOperation t.span s) (tree.rolls-CapOperation t.span s) (λ policy typed. operation_again s again typed)
    plain_again (g.array {d = d} {item = item} x y) =
        let again = type_again y in
        of_type (TypeTree-F.Array d.span d item) (tree.rolls-Array d.span d item) (λ policy typed. ap (array_after d) (again policy (array_kept d (type_kinding item known policy).kind.ty typed)))
    plain_again (g.named {q = q} d) =
        of_type (TypeTree-F.Named q.span q) (tree.rolls-Named q.span q) (λ policy typed. ap (λ named. read_in now (kinding q.span named).kind.ty) (agrees_later (q ∷ []) known now later).0.0)

    type_again : {written : TypeTree} {u : List Token} → SpellsTypeIn Elsewhere written u → TypeAgain (type_kinding written) (type_read_in written)
    type_again (g.plain d) = plain_again d
    type_again (g.enum t o k may h i d j) = absurd may
    type_again (g.record_of t o k may h i d m j) = absurd may

    formal_again : {formal : Formal} {u : List Token} → SpellsFormalIn Elsewhere formal u → FormalAgain (formal_read formal) (formal_read_in formal)
    formal_again (g.formal {m = m} {ds = ds} {t = t} {u = u} {v = v} c k d h e) =
        let again = type_again e in
        let bounds = formal_bounds false (mode_of m) in
        of_formal (record { span = formal_span (u ++ v); mode = m; decls = ds; ty = t })
        (λ kept. ap (params_after (mode_of m) ds) (again bounds (formals_kept (mode_of m) (type_kinding t known bounds).kind.ty d kept)))

    more_again : {formals : List Formal} {u : List Token} → SpellsMoreFormalsIn Elsewhere formals u → RowAgain formals
    more_again g.no_more_formals kept = refl
    more_again (g.one_more_formal {f = f} {fs = fs} t h d m) kept = row_more f fs (formal_again d) (more_again m) kept

    row_again : {formals : List Formal} {u : List Token} → SpellsFormalsIn Elsewhere formals u → RowAgain formals
    row_again (g.no_formals o k h i) kept = refl
    row_again (g.formals {f = f} {fs = fs} o k h d m i) kept = row_more f fs (formal_again d) (more_again m) kept

    pub signature_again : {written : SignatureTree} {u : List Token} → SpellsSignatureIn Elsewhere written u → SignatureAgain (signature_read written) (signature_read_in written)
    signature_again (g.signature {fs = fs} {ks = ks} {u = u} d g.returns_nothing k b) =
        of_signature (record { span = formal_span u; formals = fs; returned = None; kinds = ks }) (signature_without (formal_span u) fs ks (row_again d))
    signature_again (g.signature {fs = fs} {ks = ks} {u = u} d (g.returned {d = r} {t = t} w c h x i y) k b) =
        let again = type_again y in
        let back : Returned = roll-Returned (record { span = w.span; decl = r; ty = t }) in
        of_signature (record { span = formal_span u; formals = fs; returned = Some back; kinds = ks })
        (signature_with (formal_span u) fs back ks (row_again d)
        (of_returned (record { span = w.span; decl = r; ty = t }) (λ kept. ap (param_after r) (again fixed_bounds (decl_kept r.dims (type_kinding t known fixed_bounds).kind.ty kept)))))
