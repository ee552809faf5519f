-- Tokens that are told again spell the same types.
use Rattle.std.proofs.Common.{◌≡◌, Bool, true, false, List, [], ◌∷◌, ◌++◌, map, refl, ap, sym, subst, ◌∙◌, Option, Some, None}
use Rattle.std.proofs.lemmas.List.{map-append}
use Rattle.sr_value.specs.declared.place.Span.{Span}
use Rattle.sr_tree.specs.declared.token.Token.{Token}
use Rattle.sr_tree.specs.declared.name.Name.{Name}
use Rattle.sr_tree.specs.declared.name.QualifiedName.{QualifiedName}
use Rattle.sr_tree.specs.declared.expr.Expr.{Expr}
use Rattle.sr_tree.specs.declared.types.RangeTree.{RangeTree}
use Rattle.sr_tree.specs.declared.types.RangeTree.TheVariants as range
use Rattle.sr_tree.specs.declared.types.DimsTree.{DimsTree}
use Rattle.sr_tree.specs.declared.types.Decl.{Decl}
use Rattle.sr_tree.specs.declared.types.PassMode.{PassMode}
use Rattle.sr_tree.specs.declared.types.InvocationKind.{InvocationKind}
use Rattle.sr_tree.specs.declared.types.TypePlace.{TypePlace}
use Rattle.sr_tree.specs.declared.types.TypeTree.{TypeTree}
use Rattle.sr_tree.specs.declared.types.TypeTree.TheVariants as ty
use Rattle.sr_tree.specs.declared.types.Formal.{Formal, roll-Formal, out-Formal}
use Rattle.sr_tree.specs.declared.types.Returned.{Returned, roll-Returned, out-Returned}
use Rattle.sr_tree.specs.declared.types.Signature.{Signature, roll-Signature, out-Signature}
use Rattle.sr_tree.specs.declared.types.TypeTree.TheOpen.{TypeTree-F}
use Rattle.sr_tree.specs.declared.types.TypeTree.{fold-roll-TypeTree}
use Rattle.sr_expr_reader.specs.TypeReaders.{ends_open, has_no_kinds, type_ends_open}
use Rattle.sr_expr_reader.proofs.TypesOpen.{operation-open, array-open, closed-type, spelled-open-type}
use Rattle.sr_tree.specs.Expressions.{expr_span}
use Rattle.sr_tree.specs.Types as y
use Rattle.sr_tree.specs.Types.{EndsOpen, BracesBelong, SpellsMoreNames, SpellsNames, SpellsRange, SpellsSecondRange, SpellsDims, SpellsDecl, SpellsMoreDecls, SpellsDecls, SpellsMoreKinds, SpellsKinds, SpellsMode, SpellsPlainTypeIn, SpellsTypeIn, SpellsFieldIn, SpellsMoreFieldsIn, SpellsFormalIn, SpellsMoreFormalsIn, SpellsFormalsIn, SpellsReturnedIn, SpellsSignatureIn, formal_span}
use Rattle.sr_tree.specs.Tables.{name_of}
use Rattle.sr_grammar_laws.specs.SameExpressions as same_exprs
use Rattle.sr_grammar_laws.specs.SameExpressions.{SameList, SameName, SameOption}
use Rattle.sr_grammar_laws.specs.SameTypes as same_types
use Rattle.sr_grammar_laws.specs.SameTypes.{SameDecl, SameDimsTree, SameFormal, SameFormals, SameOptionalReturned, SameRangeTree, SameReturned, SameSignature, SameTypeTree}
use Rattle.sr_grammar_laws.specs.Retelling.{Keeps}
use Rattle.sr_grammar_laws.proofs.Retold.{same_name}
use Rattle.sr_grammar_laws.proofs.AgainExpressions.{again_qualified_name, again_expr}

-- ---- types that end in a signature with no braces

int_closed : (s : Span) → ends_open (ty.Int s) ≡ false
unfolding ends_open
int_closed s = ap ends_open (sym (ty.rolls-Int s)) ∙ fold-roll-TypeTree Bool Bool Bool Bool type_ends_open (λ formal. false) (λ returned. false) (λ signature. has_no_kinds signature.kinds) (TypeTree-F.Int s)

bool_closed : (s : Span) → ends_open (ty.Bool s) ≡ false
unfolding ends_open
bool_closed s = ap ends_open (sym (ty.rolls-Bool s)) ∙ fold-roll-TypeTree Bool Bool Bool Bool type_ends_open (λ formal. false) (λ returned. false) (λ signature. has_no_kinds signature.kinds) (TypeTree-F.Bool s)

char_closed : (s : Span) → ends_open (ty.Char s) ≡ false
unfolding ends_open
char_closed s = ap ends_open (sym (ty.rolls-Char s)) ∙ fold-roll-TypeTree Bool Bool Bool Bool type_ends_open (λ formal. false) (λ returned. false) (λ signature. has_no_kinds signature.kinds) (TypeTree-F.Char s)

string_closed : (s : Span) (l : Option Expr) → ends_open (ty.Str s l) ≡ false
unfolding ends_open
string_closed s l = ap ends_open (sym (ty.rolls-Str s l)) ∙ fold-roll-TypeTree Bool Bool Bool Bool type_ends_open (λ formal. false) (λ returned. false) (λ signature. has_no_kinds signature.kinds) (TypeTree-F.Str s l)

cap_closed : (s : Span) (q : QualifiedName) → ends_open (ty.CapOf s q) ≡ false
unfolding ends_open
cap_closed s q = ap ends_open (sym (ty.rolls-CapOf s q)) ∙ fold-roll-TypeTree Bool Bool Bool Bool type_ends_open (λ formal. false) (λ returned. false) (λ signature. has_no_kinds signature.kinds) (TypeTree-F.CapOf s q)

machine_closed : (s : Span) → ends_open (ty.CapMachine s) ≡ false
unfolding ends_open
machine_closed s = ap ends_open (sym (ty.rolls-CapMachine s)) ∙ fold-roll-TypeTree Bool Bool Bool Bool type_ends_open (λ formal. false) (λ returned. false) (λ signature. has_no_kinds signature.kinds) (TypeTree-F.CapMachine s)

named_closed : (s : Span) (q : QualifiedName) → ends_open (ty.Named s q) ≡ false
unfolding ends_open
named_closed s q = ap ends_open (sym (ty.rolls-Named s q)) ∙ fold-roll-TypeTree Bool Bool Bool Bool type_ends_open (λ formal. false) (λ returned. false) (λ signature. has_no_kinds signature.kinds) (TypeTree-F.Named s q)

enum_closed : (s : Span) (ns : List Name) → ends_open (ty.Enum s ns) ≡ false
unfolding ends_open
enum_closed s ns = ap ends_open (sym (ty.rolls-Enum s ns)) ∙ fold-roll-TypeTree Bool Bool Bool Bool type_ends_open (λ formal. false) (λ returned. false) (λ signature. has_no_kinds signature.kinds) (TypeTree-F.Enum s ns)

record_closed : (s : Span) (fs : List Formal) → ends_open (ty.Rec s fs) ≡ false
unfolding ends_open
record_closed s fs = ap ends_open (sym (ty.rolls-Rec s fs)) ∙ fold-roll-TypeTree Bool Bool Bool Bool type_ends_open (λ formal. false) (λ returned. false) (λ signature. has_no_kinds signature.kinds) (TypeTree-F.Rec s fs)

kinds_same : {s z : Signature} → SameSignature s z → (out-Signature z).kinds ≡ (out-Signature s).kinds
unfolding out-Signature roll-Signature denote.Hole.Carrier.out denote.Hole.Carrier.roll
kinds_same (same_types.signature span span' formals formals' returned returned' kinds x y) = refl

open_same : {a b : TypeTree} → SameTypeTree a b → ends_open b ≡ ends_open a
open_same (same_types.int {span = s} {span' = z}) = int_closed z ∙ sym (int_closed s)
open_same (same_types.bool {span = s} {span' = z}) = bool_closed z ∙ sym (bool_closed s)
open_same (same_types.char {span = s} {span' = z}) = char_closed z ∙ sym (char_closed s)
open_same (same_types.str {span = s} {span' = z} {length = l} {length' = m} x) = string_closed z m ∙ sym (string_closed s l)
open_same (same_types.enum {span = s} {span' = z} {literals = l} {literals' = m} x) = enum_closed z m ∙ sym (enum_closed s l)
open_same (same_types.rec {span = s} {span' = z} {fields = l} {fields' = m} x) = record_closed z m ∙ sym (record_closed s l)
open_same (same_types.cap_of {span = s} {span' = z} {name = l} {name' = m} x) = cap_closed z m ∙ sym (cap_closed s l)
open_same (same_types.cap_machine {span = s} {span' = z}) = machine_closed z ∙ sym (machine_closed s)
open_same (same_types.cap_operation {span = s} {span' = z} {signature = l} {signature' = m} x) = operation-open z m ∙ ap has_no_kinds (kinds_same x) ∙ sym (operation-open s l)
open_same (same_types.array {span = s} {span' = z} {dims = d} {dims' = c} {item = l} {item' = m} x y) = array-open z c m ∙ open_same y ∙ sym (array-open s d l)
open_same (same_types.named {span = s} {span' = z} {name = l} {name' = m} x) = named_closed z m ∙ sym (named_closed s l)

-- a type that is spelled and doesn't end so
no_open : {place : TypePlace} {t : TypeTree} {u : List Token} → SpellsTypeIn place t u → ¬ EndsOpen t → ends_open t ≡ false
no_open {t = t} d n = by_test (ends_open t) refl
  where
    by_test : (b : Bool) → ends_open t ≡ b → ends_open t ≡ false
    by_test true e = absurd (n (spelled-open-type d e))
    by_test false e = e

still_closed : {place : TypePlace} {t t' : TypeTree} {u : List Token} → SpellsTypeIn place t u → SameTypeTree t t' → ¬ EndsOpen t → ¬ EndsOpen t'
still_closed {t' = t'} d same n = closed-type t' (open_same same ∙ no_open d n)

result_same : {r r' : Returned} → SameReturned r r' → SameTypeTree (out-Returned r).ty (out-Returned r').ty
unfolding denote.Hole.Carrier.out denote.Hole.Carrier.roll
result_same (same_types.returned decl ty) = ty

result_spelled : {place : TypePlace} {r : Returned} {u : List Token} → SpellsReturnedIn place (Some r) u → (v : List Token) × SpellsTypeIn place (out-Returned r).ty v
unfolding denote.Hole.Carrier.out denote.Hole.Carrier.roll
result_spelled (y.returned {v = v} w colon h0 h1 h2 h3) = (v, h3)

-- braces still belong where they did
braces_again : {place : TypePlace} {r r' : Option Returned} {ks : List InvocationKind} {u : List Token} → SpellsReturnedIn place r u → SameOptionalReturned r r' → BracesBelong r ks → BracesBelong r' ks
braces_again d same y.no_braces = y.no_braces
braces_again d same_types.no_returned y.after_formals = y.after_formals
braces_again d (same_types.some_returned {x = x} {y = z} same) (y.after_type r n) = y.after_type z (still_closed (result_spelled d).1 (result_same same) n)

pub mode_same : {f z : Formal} → SameFormal f z → (out-Formal z).mode ≡ (out-Formal f).mode
unfolding denote.Hole.Carrier.out denote.Hole.Carrier.roll
mode_same (same_types.formal decls ty) = refl

module _ (retell : Token → Token) (keeps : Keeps retell) where
  pub again_more_names : {x : List Name} {u : List Token} → SpellsMoreNames x u → (x' : List Name) × SpellsMoreNames x' (map retell u) × SameList SameName x x'
  again_more_names (y.no_more_names) = ([], y.no_more_names, same_exprs.none_left)
  again_more_names (y.one_more_name {u = u} comma n h0 h1 h2) =
      let r3 = again_more_names h2 in
      ((name_of (retell n) ∷ r3.0), y.one_more_name (retell comma) (retell n) (keeps.kind comma ∙ h0) (keeps.kind n ∙ h1) r3.1, (same_exprs.one_more (same_name retell keeps n h1) r3.2))

  pub again_names : {x : List Name} {u : List Token} → SpellsNames x u → (x' : List Name) × SpellsNames x' (map retell u) × SameList SameName x x'
  again_names (y.names {u = u} n h0 h1) =
      let r2 = again_more_names h1 in
      ((name_of (retell n) ∷ r2.0), y.names (retell n) (keeps.kind n ∙ h0) r2.1, (same_exprs.one_more (same_name retell keeps n h0) r2.2))

  pub again_range : {x : RangeTree} {u : List Token} → SpellsRange x u → (x' : RangeTree) × SpellsRange x' (map retell u) × SameRangeTree x x'
  again_range (y.length {u = u} h0) =
      let r1 = again_expr retell keeps h0 in
      ((range.Length (expr_span r1.0) r1.0), y.length r1.1, (same_types.length r1.2))
  again_range (y.bounds {u = u} {v = v} colon h0 h1 h2) =
      let r1 = again_expr retell keeps h0 in
      let r3 = again_expr retell keeps h2 in
      ((range.Bounds (expr_span r1.0) r1.0 r3.0), subst (λ z. SpellsRange (range.Bounds (expr_span r1.0) r1.0 r3.0) z) (sym (map-append retell u (colon ∷ v))) (y.bounds (retell colon) r1.1 (keeps.kind colon ∙ h1) r3.1), (same_types.bounds r1.2 r3.2))
  again_range (y.from {u = u} colon star h0 h1 h2) =
      let r1 = again_expr retell keeps h0 in
      ((range.From (expr_span r1.0) r1.0), subst (λ z. SpellsRange (range.From (expr_span r1.0) r1.0) z) (sym (map-append retell u (colon ∷ star ∷ []))) (y.from (retell colon) (retell star) r1.1 (keeps.kind colon ∙ h1) (keeps.kind star ∙ h2)), (same_types.from r1.2))
  again_range (y.any star h0) = ((range.Any (retell star).span), y.any (retell star) (keeps.kind star ∙ h0), same_types.any)

  pub again_second_range : {x : Option RangeTree} {u : List Token} → SpellsSecondRange x u → (x' : Option RangeTree) × SpellsSecondRange x' (map retell u) × SameOption SameRangeTree x x'
  again_second_range (y.no_second_range) = (None, y.no_second_range, same_exprs.none)
  again_second_range (y.second_range {u = u} comma h0 h1) =
      let r2 = again_range h1 in
      ((Some r2.0), y.second_range (retell comma) (keeps.kind comma ∙ h0) r2.1, (same_exprs.some r2.2))

  pub again_dims : {x : DimsTree} {u : List Token} → SpellsDims x u → (x' : DimsTree) × SpellsDims x' (map retell u) × SameDimsTree x x'
  again_dims (y.dims {u = u} {v = v} opening closing h0 h1 h2 h3) =
      let r2 = again_range h1 in
      let r3 = again_second_range h2 in
      ((record { span = (retell opening).span; first = r2.0; second = r3.0 }), subst (λ z. SpellsDims (record { span = (retell opening).span; first = r2.0; second = r3.0 }) z) (sym (ap (λ z. retell opening ∷ z) (map-append retell u (v ++ closing ∷ []) ∙ ap (λ z. map retell u ++ z) (map-append retell v (closing ∷ []))))) (y.dims (retell opening) (retell closing) (keeps.kind opening ∙ h0) r2.1 r3.1 (keeps.kind closing ∙ h3)), (same_types.dims_tree r2.2 r3.2))

  pub again_decl : {x : Decl} {u : List Token} → SpellsDecl x u → (x' : Decl) × SpellsDecl x' (map retell u) × SameDecl x x'
  again_decl (y.bare n h0) = ((record { span = (retell n).span; name = name_of (retell n); dims = None }), y.bare (retell n) (keeps.kind n ∙ h0), (same_types.decl (same_name retell keeps n h0) same_exprs.none))
  again_decl (y.sized {u = u} n h0 h1) =
      let r2 = again_dims h1 in
      ((record { span = (retell n).span; name = name_of (retell n); dims = Some r2.0 }), y.sized (retell n) (keeps.kind n ∙ h0) r2.1, (same_types.decl (same_name retell keeps n h0) (same_exprs.some r2.2)))

  pub again_more_decls : {x : List Decl} {u : List Token} → SpellsMoreDecls x u → (x' : List Decl) × SpellsMoreDecls x' (map retell u) × SameList SameDecl x x'
  again_more_decls (y.no_more_decls) = ([], y.no_more_decls, same_exprs.none_left)
  again_more_decls (y.one_more_decl {u = u} {v = v} comma h0 h1 h2) =
      let r2 = again_decl h1 in
      let r3 = again_more_decls h2 in
      ((r2.0 ∷ r3.0), subst (λ z. SpellsMoreDecls (r2.0 ∷ r3.0) z) (sym (ap (λ z. retell comma ∷ z) (map-append retell u (v)))) (y.one_more_decl (retell comma) (keeps.kind comma ∙ h0) r2.1 r3.1), (same_exprs.one_more r2.2 r3.2))

  pub again_decls : {x : List Decl} {u : List Token} → SpellsDecls x u → (x' : List Decl) × SpellsDecls x' (map retell u) × SameList SameDecl x x'
  again_decls (y.decls {u = u} {v = v} h0 h1) =
      let r1 = again_decl h0 in
      let r2 = again_more_decls h1 in
      ((r1.0 ∷ r2.0), subst (λ z. SpellsDecls (r1.0 ∷ r2.0) z) (sym (map-append retell u (v))) (y.decls r1.1 r2.1), (same_exprs.one_more r1.2 r2.2))

  pub again_more_kinds : {z : List InvocationKind} {u : List Token} → SpellsMoreKinds z u → SpellsMoreKinds z (map retell u)
  again_more_kinds (y.no_more_kinds) = y.no_more_kinds
  again_more_kinds (y.one_more_kind comma t w k h0 h1 h2) = y.one_more_kind (retell comma) (retell t) w k (keeps.kind comma ∙ h0) (keeps.kind t ∙ h1) h2

  pub again_kinds : {z : List InvocationKind} {u : List Token} → SpellsKinds z u → SpellsKinds z (map retell u)
  again_kinds (y.no_kinds) = y.no_kinds
  again_kinds (y.kinds {ks = ks} {u = u} opening t closing w k h0 h1 h2 h3 h4) =
      let r4 = again_more_kinds h3 in
      subst (λ z. SpellsKinds (k ∷ ks) z) (sym (ap (λ z. retell opening ∷ z) (ap (λ z. retell t ∷ z) (map-append retell u (closing ∷ []))))) (y.kinds (retell opening) (retell t) (retell closing) w k (keeps.kind opening ∙ h0) (keeps.kind t ∙ h1) h2 r4 (keeps.kind closing ∙ h4))

  pub again_mode : {z : Option PassMode} {u : List Token} → SpellsMode z u → SpellsMode z (map retell u)
  again_mode (y.no_mode) = y.no_mode
  again_mode (y.mode t w m h0 h1) = y.mode (retell t) w m (keeps.kind t ∙ h0) h1

  mutual
    pub again_plain_type : {place : TypePlace} {x : TypeTree} {u : List Token} → SpellsPlainTypeIn place x u → (x' : TypeTree) × SpellsPlainTypeIn place x' (map retell u) × SameTypeTree x x'
    again_plain_type {place = place} (y.int t h0) = ((ty.Int (retell t).span), y.int (retell t) (keeps.kind t ∙ h0), same_types.int)
    again_plain_type {place = place} (y.bool t h0) = ((ty.Bool (retell t).span), y.bool (retell t) (keeps.kind t ∙ h0), same_types.bool)
    again_plain_type {place = place} (y.char t h0) = ((ty.Char (retell t).span), y.char (retell t) (keeps.kind t ∙ h0), same_types.char)
    again_plain_type {place = place} (y.string {u = u} t opening closing h0 h1 h2 h3) =
        let r3 = again_expr retell keeps h2 in
        ((ty.Str (retell t).span (Some r3.0)), subst (λ z. SpellsPlainTypeIn place (ty.Str (retell t).span (Some r3.0)) z) (sym (ap (λ z. retell t ∷ z) (ap (λ z. retell opening ∷ z) (map-append retell u (closing ∷ []))))) (y.string (retell t) (retell opening) (retell closing) (keeps.kind t ∙ h0) (keeps.kind opening ∙ h1) r3.1 (keeps.kind closing ∙ h3)), (same_types.str (same_exprs.some_expr r3.2)))
    again_plain_type {place = place} (y.string_of_any_length t opening star closing h0 h1 h2 h3) = ((ty.Str (retell t).span None), y.string_of_any_length (retell t) (retell opening) (retell star) (retell closing) (keeps.kind t ∙ h0) (keeps.kind opening ∙ h1) (keeps.kind star ∙ h2) (keeps.kind closing ∙ h3), (same_types.str same_exprs.no_expr))
    again_plain_type {place = place} (y.cap_of {u = u} t h0 h1) =
        let r2 = again_qualified_name retell keeps h1 in
        ((ty.CapOf (retell t).span r2.0), y.cap_of (retell t) (keeps.kind t ∙ h0) r2.1, (same_types.cap_of r2.2))
    again_plain_type {place = place} (y.cap_machine t vm h0 h1) = ((ty.CapMachine (retell t).span), y.cap_machine (retell t) (retell vm) (keeps.kind t ∙ h0) (keeps.kind vm ∙ h1), same_types.cap_machine)
    again_plain_type {place = place} (y.cap_operation {u = u} t h0 h1) =
        let r2 = again_signature h1 in
        ((ty.CapOperation (retell t).span r2.0), y.cap_operation (retell t) (keeps.kind t ∙ h0) r2.1, (same_types.cap_operation r2.2))
    again_plain_type {place = place} (y.array {u = u} {v = v} h0 h1) =
        let r1 = again_dims h0 in
        let r2 = again_type h1 in
        ((ty.Array r1.0.span r1.0 r2.0), subst (λ z. SpellsPlainTypeIn place (ty.Array r1.0.span r1.0 r2.0) z) (sym (map-append retell u (v))) (y.array r1.1 r2.1), (same_types.array r1.2 r2.2))
    again_plain_type {place = place} (y.named {u = u} h0) =
        let r1 = again_qualified_name retell keeps h0 in
        ((ty.Named r1.0.span r1.0), y.named r1.1, (same_types.named r1.2))

    pub again_type : {place : TypePlace} {x : TypeTree} {u : List Token} → SpellsTypeIn place x u → (x' : TypeTree) × SpellsTypeIn place x' (map retell u) × SameTypeTree x x'
    again_type {place = place} (y.plain {u = u} h0) =
        let r1 = again_plain_type h0 in
        (r1.0, y.plain r1.1, r1.2)
    again_type {place = place} (y.enum {u = u} t opening closing h0 h1 h2 h3 h4) =
        let r4 = again_names h3 in
        ((ty.Enum (retell t).span r4.0), subst (λ z. SpellsTypeIn place (ty.Enum (retell t).span r4.0) z) (sym (ap (λ z. retell t ∷ z) (ap (λ z. retell opening ∷ z) (map-append retell u (closing ∷ []))))) (y.enum (retell t) (retell opening) (retell closing) h0 (keeps.kind t ∙ h1) (keeps.kind opening ∙ h2) r4.1 (keeps.kind closing ∙ h4)), (same_types.enum r4.2))
    again_type {place = place} (y.record_of {u = u} {v = v} t opening closing h0 h1 h2 h3 h4 h5) =
        let r4 = again_field h3 in
        let r5 = again_more_fields h4 in
        ((ty.Rec (retell t).span (r4.0 ∷ r5.0)), subst (λ z. SpellsTypeIn place (ty.Rec (retell t).span (r4.0 ∷ r5.0)) z) (sym (ap (λ z. retell t ∷ z) (ap (λ z. retell opening ∷ z) (map-append retell u (v ++ closing ∷ []) ∙ ap (λ z. map retell u ++ z) (map-append retell v (closing ∷ [])))))) (y.record_of (retell t) (retell opening) (retell closing) h0 (keeps.kind t ∙ h1) (keeps.kind opening ∙ h2) r4.1 r5.1 (keeps.kind closing ∙ h5)), (same_types.rec (same_types.more_formals r4.2 r5.2)))

    pub again_field : {place : TypePlace} {x : Formal} {u : List Token} → SpellsFieldIn place x u → (x' : Formal) × SpellsFieldIn place x' (map retell u) × SameFormal x x'
    again_field {place = place} (y.field {u = u} h0 h1) =
        let r1 = again_formal h0 in
        (r1.0, y.field r1.1 (mode_same r1.2 ∙ h1), r1.2)

    pub again_more_fields : {place : TypePlace} {x : List Formal} {u : List Token} → SpellsMoreFieldsIn place x u → (x' : List Formal) × SpellsMoreFieldsIn place x' (map retell u) × SameFormals x x'
    again_more_fields {place = place} (y.no_more_fields) = ([], y.no_more_fields, same_types.no_formals)
    again_more_fields {place = place} (y.one_more_field {u = u} {v = v} separator h0 h1 h2) =
        let r2 = again_field h1 in
        let r3 = again_more_fields h2 in
        ((r2.0 ∷ r3.0), subst (λ z. SpellsMoreFieldsIn place (r2.0 ∷ r3.0) z) (sym (ap (λ z. retell separator ∷ z) (map-append retell u (v)))) (y.one_more_field (retell separator) (keeps.kind separator ∙ h0) r2.1 r3.1), (same_types.more_formals r2.2 r3.2))

    pub again_formal : {place : TypePlace} {x : Formal} {u : List Token} → SpellsFormalIn place x u → (x' : Formal) × SpellsFormalIn place x' (map retell u) × SameFormal x x'
    again_formal {place = place} (y.formal {m = m} {u = u} {v = v} {w = w} colon h0 h1 h2 h3) =
        let r1 = again_mode h0 in
        let r2 = again_decls h1 in
        let r4 = again_type h3 in
        ((roll-Formal (record { span = formal_span ((map retell u) ++ (map retell v)); mode = m; decls = r2.0; ty = r4.0 })), subst (λ z. SpellsFormalIn place (roll-Formal (record { span = formal_span ((map retell u) ++ (map retell v)); mode = m; decls = r2.0; ty = r4.0 })) z) (sym (map-append retell u (v ++ colon ∷ w) ∙ ap (λ z. map retell u ++ z) (map-append retell v (colon ∷ w)))) (y.formal (retell colon) r1 r2.1 (keeps.kind colon ∙ h2) r4.1), (same_types.formal r2.2 r4.2))

    pub again_more_formals : {place : TypePlace} {x : List Formal} {u : List Token} → SpellsMoreFormalsIn place x u → (x' : List Formal) × SpellsMoreFormalsIn place x' (map retell u) × SameFormals x x'
    again_more_formals {place = place} (y.no_more_formals) = ([], y.no_more_formals, same_types.no_formals)
    again_more_formals {place = place} (y.one_more_formal {u = u} {v = v} separator h0 h1 h2) =
        let r2 = again_formal h1 in
        let r3 = again_more_formals h2 in
        ((r2.0 ∷ r3.0), subst (λ z. SpellsMoreFormalsIn place (r2.0 ∷ r3.0) z) (sym (ap (λ z. retell separator ∷ z) (map-append retell u (v)))) (y.one_more_formal (retell separator) (keeps.kind separator ∙ h0) r2.1 r3.1), (same_types.more_formals r2.2 r3.2))

    pub again_formals : {place : TypePlace} {x : List Formal} {u : List Token} → SpellsFormalsIn place x u → (x' : List Formal) × SpellsFormalsIn place x' (map retell u) × SameFormals x x'
    again_formals {place = place} (y.no_formals opening closing h0 h1) = ([], y.no_formals (retell opening) (retell closing) (keeps.kind opening ∙ h0) (keeps.kind closing ∙ h1), same_types.no_formals)
    again_formals {place = place} (y.formals {u = u} {v = v} opening closing h0 h1 h2 h3) =
        let r2 = again_formal h1 in
        let r3 = again_more_formals h2 in
        ((r2.0 ∷ r3.0), subst (λ z. SpellsFormalsIn place (r2.0 ∷ r3.0) z) (sym (ap (λ z. retell opening ∷ z) (map-append retell u (v ++ closing ∷ []) ∙ ap (λ z. map retell u ++ z) (map-append retell v (closing ∷ []))))) (y.formals (retell opening) (retell closing) (keeps.kind opening ∙ h0) r2.1 r3.1 (keeps.kind closing ∙ h3)), (same_types.more_formals r2.2 r3.2))

    pub again_returned : {place : TypePlace} {x : Option Returned} {u : List Token} → SpellsReturnedIn place x u → (x' : Option Returned) × SpellsReturnedIn place x' (map retell u) × SameOptionalReturned x x'
    again_returned {place = place} (y.returns_nothing) = (None, y.returns_nothing, same_types.no_returned)
    again_returned {place = place} (y.returned {u = u} {v = v} w colon h0 h1 h2 h3) =
        let r2 = again_decl h1 in
        let r4 = again_type h3 in
        ((Some (roll-Returned (record { span = (retell w).span; decl = r2.0; ty = r4.0 }))), subst (λ z. SpellsReturnedIn place (Some (roll-Returned (record { span = (retell w).span; decl = r2.0; ty = r4.0 }))) z) (sym (ap (λ z. retell w ∷ z) (map-append retell u (colon ∷ v)))) (y.returned (retell w) (retell colon) (keeps.kind w ∙ h0) r2.1 (keeps.kind colon ∙ h2) r4.1), (same_types.some_returned (same_types.returned r2.2 r4.2)))

    pub again_signature : {place : TypePlace} {x : Signature} {u : List Token} → SpellsSignatureIn place x u → (x' : Signature) × SpellsSignatureIn place x' (map retell u) × SameSignature x x'
    again_signature {place = place} (y.signature {fs = fs} {r = r} {ks = ks} {u = u} {v = v} {w = w} h0 h1 h2 h3) =
        let r1 = again_formals h0 in
        let r2 = again_returned h1 in
        let r3 = again_kinds h2 in
        ((roll-Signature (record { span = formal_span (map retell u); formals = r1.0; returned = r2.0; kinds = ks })), subst (λ z. SpellsSignatureIn place (roll-Signature (record { span = formal_span (map retell u); formals = r1.0; returned = r2.0; kinds = ks })) z) (sym (map-append retell u (v ++ w) ∙ ap (λ z. map retell u ++ z) (map-append retell v (w)))) (y.signature r1.1 r2.1 r3 (braces_again h1 r2.2 h3)), (same_types.signature (formal_span u) (formal_span (map retell u)) fs r1.0 r r2.0 ks r1.2 r2.2))
