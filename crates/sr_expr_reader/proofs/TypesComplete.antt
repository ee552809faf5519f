-- What is spelled as a type is read, where the token after it continues nothing.
use Rattle.std.proofs.Common.{◌≡◌, refl, sym, ◌∙◌, ap, subst, Bool, true, false, List, [], ◌∷◌, ◌++◌, Option, Some, None, Ok, append_assoc}
use Rattle.std.specs.Prelude.{is_some}
use Rattle.sr_reader.specs.Reader.{next_is}
use Rattle.sr_value.specs.declared.place.Span.{Span}
use Rattle.sr_tree.specs.declared.expr.BasicType.TheVariants as basic
use Rattle.sr_tree.specs.declared.token.Sign.TheVariants as sign
use Rattle.sr_tree.specs.declared.token.Token.{Token}
use Rattle.sr_tree.specs.declared.token.TokenKind.{TokenKind}
use Rattle.sr_tree.specs.declared.token.TokenKind.TheVariants as kind
use Rattle.sr_tree.specs.declared.token.Word.TheVariants as word
use Rattle.sr_tree.specs.declared.types.Decl.{Decl}
use Rattle.sr_tree.specs.declared.types.Formal.{Formal, roll-Formal}
use Rattle.sr_tree.specs.declared.types.InvocationKind.{InvocationKind}
use Rattle.sr_tree.specs.declared.types.PassMode.{PassMode}
use Rattle.sr_tree.specs.declared.types.Returned.{Returned, out-Returned}
use Rattle.sr_tree.specs.declared.types.Signature.{Signature}
use Rattle.sr_tree.specs.declared.types.TypePlace.{TypePlace}
use Rattle.sr_tree.specs.declared.types.TypeTree.{TypeTree}
use Rattle.sr_tree.specs.declared.types.TypeTree.TheVariants as ty
use Rattle.sr_tree.specs.Tables.{IsSign, IsSeparator, basic_of}
use Rattle.sr_tree.specs.Tests.{is_sign, is_word}
use Rattle.sr_tree.specs.Types as g
use Rattle.sr_tree.specs.Types.{SpellsPlainTypeIn, SpellsTypeIn, SpellsFormalIn, SpellsMoreFormalsIn, SpellsFormalsIn, SpellsReturnedIn, SpellsKinds, SpellsSignatureIn, SpellsFieldIn, SpellsMoreFieldsIn, SpellsType, EndsOpen, BracesBelong, formal_span}
use Rattle.sr_tree.specs.Tokens.{is_separator, separator_at}
use Rattle.sr_expr_reader.specs.TypeReaders.{mode_of, formal_after_at, formal_at, is_separated, next_formal_at, formals_after_at, returned_at, ends_open, returns_open, own_kinds_at, signature_at, plain_type_at, next_field_at, type_at, type_in_at, type_readers}
use Rattle.sr_expr_reader.proofs.DeclsComplete.{name-first, dims-first, decls-first}
use Rattle.sr_expr_reader.proofs.Families.{YieldsIn, LoopsIn, below}
use Rattle.sr_expr_reader.proofs.ListsComplete.{list-stops, list-goes}
use Rattle.sr_expr_reader.proofs.TypePieces.{separator-reads, plain-basic, plain-string, plain-any-string, plain-machine, plain-operation, plain-cap, plain-array, plain-named, formal-after, formal-with, formal-without, formal-opens, more-formals-stop, more-fields-stop, no-formals, some-formals, returns-nothing, returns-yields, no-kinds, some-kinds, own-open, own-closed, signature-yields, readers_in, nested-plain, nested-enum, nested-record}
use Rattle.sr_expr_reader.proofs.TypesSound.{decls_start, formal_of, returned_of, signature_of, mode-of-formal}
use Rattle.sr_expr_reader.proofs.TypesOpen.{spelled-open-type}
use Rattle.sr_expr_reader.proofs.TypesQuiet.{QuietPlainType, QuietSignature, QuietTail, QuietType, TypeStops, stops-quiet-type, braces-quiet-type}

mode_word : {w : _} {m : PassMode} (t : Token) → t.kind ≡ kind.Word w → g.pass_mode_of w ≡ Some m → mode_of t.kind ≡ Some m
mode_word t h e = ap mode_of h ∙ e

opens-returned : (s : Span) (d : Decl) (t : TypeTree) → returns_open (Some (returned_of s d t)) ≡ ends_open t
unfolding denote.Hole.Carrier.out denote.Hole.Carrier.roll
opens-returned s d t = refl

pub type-of-returned : (s : Span) (d : Decl) (t : TypeTree) → (out-Returned (returned_of s d t)).ty ≡ t
unfolding denote.Hole.Carrier.out denote.Hole.Carrier.roll
type-of-returned s d t = refl

-- the type before braces ends in no signature without them
before_braces : (s : Span) (d : Decl) (t : TypeTree) (k : InvocationKind) (ks : List InvocationKind) → BracesBelong (Some (returned_of s d t)) (k ∷ ks) → ¬ EndsOpen t
before_braces s d t k ks (g.after_type r n) = λ o. n (subst EndsOpen (sym (type-of-returned s d t)) o)

-- formals after their opening bracket
record Opened (p : TypePlace) (fs : List Formal) (u : List Token) : Type 0 where
  opening : Token
  rest : List Token
  splits : u ≡ opening ∷ rest
  opens : IsSign sign.OpenParen opening
  reads : (q : List Token) → YieldsIn (readers_in p) formals_after_at (rest ++ q) (Ok (fs, q))

-- what stands after formals
record Tail (p : TypePlace) (x : Option Returned) (ks : List InvocationKind) (v w q : List Token) : Type 0 where
  returns : YieldsIn (readers_in p) returned_at (v ++ (w ++ q)) (Ok (x, w ++ q))
  braces : YieldsIn (readers_in p) (λ r. own_kinds_at x) (w ++ q) (Ok (ks, q))

module _ (p : TypePlace) where
  -- the braces of a signature that returns something and has none
  no_braces : (s : Span) (d : Decl) (t : TypeTree) (q : List Token) → (ends_open t ≡ false → next_is (λ x. is_sign sign.OpenBrace x.kind) q ≡ false)
      → YieldsIn (readers_in p) (λ r. own_kinds_at (Some (returned_of s d t))) q (Ok ([], q))
  no_braces s d t q f = go (ends_open t) refl
    where
      go : (b : Bool) → ends_open t ≡ b → YieldsIn (readers_in p) (λ r. own_kinds_at (Some (returned_of s d t))) q (Ok ([], q))
      go true e = own-open p (Some (returned_of s d t)) q (opens-returned s d t ∙ e)
      go false e = own-closed p (Some (returned_of s d t)) q _ (opens-returned s d t ∙ e) (no-kinds p q (f e))

  -- lists of formals and of fields

  formals_stop : (fs : List Formal) (k : Token) (q : List Token) → IsSign sign.CloseParen k → LoopsIn (readers_in p) is_separated next_formal_at fs (k ∷ q) (Ok (fs ++ [], k ∷ q))
  unfolding next_formal_at
  formals_stop fs k q h = list-stops separator_at formal_at is_separated fs (k ∷ q) (ap is_separator h)

  formals_go : (fs : List Formal) (f : Formal) (gs : List Formal) (s : Token) (u v q : List Token) → IsSeparator s → YieldsIn (readers_in p) formal_at (u ++ (v ++ q)) (Ok (f, v ++ q))
      → LoopsIn (readers_in p) is_separated next_formal_at (fs ++ f ∷ []) (v ++ q) (Ok ((fs ++ f ∷ []) ++ gs, q))
      → LoopsIn (readers_in p) is_separated next_formal_at fs (s ∷ ((u ++ v) ++ q)) (Ok (fs ++ f ∷ gs, q))
  unfolding next_formal_at
  formals_go fs f gs s u v q h y l =
      list-goes separator_at formal_at is_separated fs s.span f gs s u v q (separator-reads s (u ++ (v ++ q)) h) (ap is_separator h) (below formal_at (u ++ (v ++ q)) _ y) l

  fields_stop : (fs : List Formal) (k : Token) (q : List Token) → IsSign sign.CloseParen k → LoopsIn (readers_in p) is_separated next_field_at fs (k ∷ q) (Ok (fs ++ [], k ∷ q))
  unfolding next_field_at
  fields_stop fs k q h = list-stops separator_at (λ r. formal_after_at r None) is_separated fs (k ∷ q) (ap is_separator h)

  fields_go : (fs : List Formal) (f : Formal) (gs : List Formal) (s : Token) (u v q : List Token) → IsSeparator s
      → YieldsIn (readers_in p) (λ r. formal_after_at r None) (u ++ (v ++ q)) (Ok (f, v ++ q))
      → LoopsIn (readers_in p) is_separated next_field_at (fs ++ f ∷ []) (v ++ q) (Ok ((fs ++ f ∷ []) ++ gs, q))
      → LoopsIn (readers_in p) is_separated next_field_at fs (s ∷ ((u ++ v) ++ q)) (Ok (fs ++ f ∷ gs, q))
  unfolding next_field_at
  fields_go fs f gs s u v q h y l =
      list-goes separator_at (λ r. formal_after_at r None) is_separated fs s.span f gs s u v q (separator-reads s (u ++ (v ++ q)) h) (ap is_separator h)
      (below (λ r. formal_after_at r None) (u ++ (v ++ q)) _ y) l

module _ {p : TypePlace} where
  pub formals-first : {fs : List Formal} {u : List Token} → SpellsFormalsIn p fs u → (f : TokenKind → Bool) (q : List Token) → next_is (λ t. f t.kind) (u ++ q) ≡ f (kind.Sign sign.OpenParen)
  formals-first (g.no_formals o c h i) f q = ap f h
  formals-first (g.formals o c h d m i) f q = ap f h

  pub signature-first : {s : Signature} {u : List Token} → SpellsSignatureIn p s u → (f : TokenKind → Bool) (q : List Token) → next_is (λ t. f t.kind) (u ++ q) ≡ f (kind.Sign sign.OpenParen)
  signature-first (g.signature {u = u} {v = v} {w = w} d r k b) f q =
      ap (λ s. next_is (λ t. f t.kind) s) (append_assoc u (v ++ w) q) ∙ formals-first d f ((v ++ w) ++ q)

  closed_before : {t : TypeTree} {u : List Token} → SpellsTypeIn p t u → ¬ EndsOpen t → ends_open t ≡ false
  closed_before {t = t} d n = go (ends_open t) refl
    where
      go : (b : Bool) → ends_open t ≡ b → ends_open t ≡ false
      go true e = absurd (n (spelled-open-type d e))
      go false e = e

  -- a plain type begins with none of the words of the others
  plain_no_word : {t : TypeTree} {u : List Token} → SpellsPlainTypeIn p t u → (q : List Token) → (next_is (λ t. is_word word.Enum t.kind) (u ++ q) ≡ false) × (next_is (λ t. is_word word.Rec t.kind) (u ++ q) ≡ false)
  plain_no_word (g.int t h) q = (ap (is_word word.Enum) h, ap (is_word word.Rec) h)
  plain_no_word (g.bool t h) q = (ap (is_word word.Enum) h, ap (is_word word.Rec) h)
  plain_no_word (g.char t h) q = (ap (is_word word.Enum) h, ap (is_word word.Rec) h)
  plain_no_word (g.string t o k h i d j) q = (ap (is_word word.Enum) h, ap (is_word word.Rec) h)
  plain_no_word (g.string_of_any_length t o s k h i j l) q = (ap (is_word word.Enum) h, ap (is_word word.Rec) h)
  plain_no_word (g.cap_of t h d) q = (ap (is_word word.Enum) h, ap (is_word word.Rec) h)
  plain_no_word (g.cap_machine t v h i) q = (ap (is_word word.Enum) h, ap (is_word word.Rec) h)
  plain_no_word (g.cap_operation t h d) q = (ap (is_word word.Enum) h, ap (is_word word.Rec) h)
  plain_no_word (g.array {u = u} {v = v} d i) q = (
    ap (λ s. next_is (λ t. is_word word.Enum t.kind) s) (append_assoc u v q) ∙ dims-first d (is_word word.Enum) (v ++ q),
    ap (λ s. next_is (λ t. is_word word.Rec t.kind) s) (append_assoc u v q) ∙ dims-first d (is_word word.Rec) (v ++ q),
  )
  plain_no_word (g.named d) q = (name-first d (is_word word.Enum) q, name-first d (is_word word.Rec) q)

  mutual
    unfolding QuietPlainType

    pub complete-plain-type : {t : TypeTree} {u : List Token} (d : SpellsPlainTypeIn p t u) (q : List Token) → QuietPlainType d q → YieldsIn (readers_in p) plain_type_at (u ++ q) (Ok (t, q))
    complete-plain-type (g.int t h) q quiet = plain-basic p t basic.Int q (ap basic_of h)
    complete-plain-type (g.bool t h) q quiet = plain-basic p t basic.Bool q (ap basic_of h)
    complete-plain-type (g.char t h) q quiet = plain-basic p t basic.Char q (ap basic_of h)
    complete-plain-type (g.string {e = e} {u = u} t o k h i d j) q quiet =
        subst (λ w. YieldsIn (readers_in p) plain_type_at (t ∷ o ∷ w) (Ok (ty.Str t.span (Some e), q))) (sym (append_assoc u (k ∷ []) q)) (plain-string p t o k d q h i j)
    complete-plain-type (g.string_of_any_length t o s k h i j l) q quiet = plain-any-string p t o s k q h i j l
    complete-plain-type (g.cap_of t h d) q quiet = plain-cap p t d q h quiet
    complete-plain-type (g.cap_machine t v h i) q quiet = plain-machine p t v q h i
    complete-plain-type (g.cap_operation {u = u} t h d) q quiet =
        plain-operation p t u q h (signature-first d (is_word word.Vm) q) (signature-first d (is_sign sign.OpenParen) q) (complete-signature d q quiet)
    complete-plain-type (g.array {d = d} {item = item} {u = u} {v = v} x i) q quiet =
        subst (λ w. YieldsIn (readers_in p) plain_type_at w (Ok (ty.Array d.span d item, q))) (sym (append_assoc u v q)) (plain-array p v q x (complete-nested i q quiet))
    complete-plain-type (g.named d) q quiet = plain-named p d q quiet

    pub complete-nested : {t : TypeTree} {u : List Token} (d : SpellsTypeIn p t u) (q : List Token) → QuietType d q → YieldsIn type_readers (type_in_at p) (u ++ q) (Ok (t, q))
    complete-nested (g.plain {u = u} d) q quiet = let n = plain_no_word d q in nested-plain p (u ++ q) _ n.0 n.1 (complete-plain-type d q quiet)
    complete-nested (g.enum {ns = ns} {u = u} t o c m h i d j) q quiet =
        subst (λ w. YieldsIn type_readers (type_in_at p) (t ∷ o ∷ w) (Ok (ty.Enum t.span ns, q))) (sym (append_assoc u (c ∷ []) q)) (nested-enum p t o c q m h i d j)
    complete-nested (g.record_of {f = f} {fs = fs} {u = u} {v = v} t o c may h i d m j) q quiet =
        subst (λ w. YieldsIn type_readers (type_in_at p) (t ∷ o ∷ w) (Ok (ty.Rec t.span (f ∷ fs), q)))
        (ap (λ w. u ++ w) (sym (append_assoc v (c ∷ []) q)) ∙ sym (append_assoc u (v ++ c ∷ []) q))
        (nested-record p t o c u v q may h i j (complete_field d (v ++ c ∷ q) (more-fields-stop m c q j)) (more_fields m (f ∷ []) c q j))

    pub complete-signature : {s : Signature} {u : List Token} (d : SpellsSignatureIn p s u) (q : List Token) → QuietSignature d q → YieldsIn (readers_in p) signature_at (u ++ q) (Ok (s, q))
    complete-signature (g.signature {fs = fs} {r = x} {ks = ks} {u = u} {v = v} {w = w} f r k b) q quiet =
        let o = complete_opened f in
        let t = complete_tail k r b q quiet in
        subst (λ y. YieldsIn (readers_in p) signature_at ((y ++ (v ++ w)) ++ q) (Ok (signature_of (formal_span y) fs x ks, q))) (sym o.splits)
        (subst (λ y. YieldsIn (readers_in p) signature_at (o.opening ∷ y) (Ok (signature_of o.opening.span fs x ks, q)))
        (ap (λ y. o.rest ++ y) (sym (append_assoc v w q)) ∙ sym (append_assoc o.rest (v ++ w) q))
        (signature-yields p o.opening o.rest v w q o.opens (o.reads (v ++ (w ++ q))) t.returns t.braces))

    complete_tail : {ks : List InvocationKind} {x : Option Returned} {v w : List Token} (k : SpellsKinds ks w) (r : SpellsReturnedIn p x v) → BracesBelong x ks → (q : List Token) → QuietTail k r q
        → Tail p x ks v w q
    complete_tail g.no_kinds g.returns_nothing b q quiet = record { returns = returns-nothing p q quiet.0; braces = own-closed p None q _ refl (no-kinds p q quiet.1) }
    complete_tail g.no_kinds (g.returned {d = d} {t = t} {u = u} {v = v} w c h x i y) b q quiet = record {
      returns = subst (λ y. YieldsIn (readers_in p) returned_at (w ∷ y) (Ok (Some (returned_of w.span d t), q))) (sym (append_assoc u (c ∷ v) q))
          (returns-yields p w c v q h x i (complete-nested y q quiet.0));
      braces = no_braces p w.span d t q quiet.1;
    }
    complete_tail (g.kinds {u = u} o t c w k h i e m j) g.returns_nothing b q quiet = record {
      returns = returns-nothing p (o ∷ t ∷ ((u ++ c ∷ []) ++ q)) (ap (is_word word.Returns) h);
      braces = own-closed p None _ _ refl (some-kinds p o t c w k q h i e m j);
    }
    complete_tail (g.kinds {ks = ks} {u = u} o t c w k h i e m j) (g.returned {d = d} {t = y} {u = a} {v = v} s l n x z f) b q quiet =
        let closed = before_braces s.span d y k ks b in
        record {
          returns = subst (λ z. YieldsIn (readers_in p) returned_at (s ∷ z) (Ok (Some (returned_of s.span d y), o ∷ t ∷ ((u ++ c ∷ []) ++ q))))
              (sym (append_assoc a (l ∷ v) (o ∷ t ∷ ((u ++ c ∷ []) ++ q))))
              (returns-yields p s l v (o ∷ t ∷ ((u ++ c ∷ []) ++ q)) n x z (complete-nested f (o ∷ t ∷ ((u ++ c ∷ []) ++ q)) (braces-quiet-type f o (t ∷ ((u ++ c ∷ []) ++ q)) h closed)));
          braces = own-closed p (Some (returned_of s.span d y)) _ _ (opens-returned s.span d y ∙ closed_before f closed)
              (some-kinds p o t c w k q h i e m j);
        }

    complete_opened : {fs : List Formal} {u : List Token} → SpellsFormalsIn p fs u → Opened p fs u
    complete_opened (g.no_formals o c h i) = record { opening = o; rest = c ∷ []; splits = refl; opens = h; reads = λ q. no-formals p c q i }
    complete_opened (g.formals {f = f} {fs = fs} {u = u} {v = v} o c h d m i) = record {
      opening = o;
      rest = u ++ (v ++ c ∷ []);
      splits = refl;
      opens = h;
      reads = λ q.
          subst (λ y. YieldsIn (readers_in p) formals_after_at y (Ok (f ∷ fs, q)))
          (ap (λ y. u ++ y) (sym (append_assoc v (c ∷ []) q)) ∙ sym (append_assoc u (v ++ c ∷ []) q))
          (some-formals p u v c q i (formal-opens d (v ++ c ∷ q)) (complete-formal d (v ++ c ∷ q) (more-formals-stop m c q i)) (more_formals m (f ∷ []) c q i));
    }

    pub complete-formal : {f : Formal} {u : List Token} (d : SpellsFormalIn p f u) (q : List Token) → TypeStops q → YieldsIn (readers_in p) formal_at (u ++ q) (Ok (f, q))
    complete-formal (g.formal {ds = ds} {t = t} {v = v} {w = w} c g.no_mode d h y) q st =
        subst (λ y. YieldsIn (readers_in p) formal_at y (Ok (roll-Formal (record { span = formal_span v; mode = None; decls = ds; ty = t }), q))) (sym (append_assoc v (c ∷ w) q))
        (subst (λ s. YieldsIn (readers_in p) formal_at (v ++ c ∷ (w ++ q)) (Ok (roll-Formal (record { span = s; mode = None; decls = ds; ty = t }), q))) (sym (decls_start ds v d))
        (formal-without p (v ++ c ∷ (w ++ q)) q (decls-first d (λ k. is_some (mode_of k)) (c ∷ (w ++ q)))
        (formal-after p None c w q d h (complete-nested y q (stops-quiet-type y q st)))))
    complete-formal (g.formal {ds = ds} {t = t} {v = v} {w = w} c (g.mode s x m i e) d h y) q st =
        subst (λ y. YieldsIn (readers_in p) formal_at (s ∷ y) (Ok (formal_of (Some (s.span, m)) ds t, q))) (sym (append_assoc v (c ∷ w) q))
        (formal-with p s m (v ++ c ∷ (w ++ q)) q (mode_word s i e) (formal-after p (Some (s.span, m)) c w q d h (complete-nested y q (stops-quiet-type y q st))))

    more_formals : {gs : List Formal} {v : List Token} (m : SpellsMoreFormalsIn p gs v) (fs : List Formal) (k : Token) (q : List Token) → IsSign sign.CloseParen k
        → LoopsIn (readers_in p) is_separated next_formal_at fs (v ++ k ∷ q) (Ok (fs ++ gs, k ∷ q))
    more_formals g.no_more_formals fs k q h = formals_stop p fs k q h
    more_formals (g.one_more_formal {f = f} {fs = gs} {u = u} {v = v} s h d m) fs k q i =
        formals_go p fs f gs s u v (k ∷ q) h (complete-formal d (v ++ k ∷ q) (more-formals-stop m k q i)) (more_formals m (fs ++ f ∷ []) k q i)

    -- fields are formals with no word before them
    complete_field : {f : Formal} {u : List Token} → SpellsFieldIn p f u → (q : List Token) → TypeStops q → YieldsIn (readers_in p) (λ r. formal_after_at r None) (u ++ q) (Ok (f, q))
    complete_field (g.field (g.formal {ds = ds} {t = t} {v = v} {w = w} c g.no_mode d h y) e) q st =
        subst (λ y. YieldsIn (readers_in p) (λ r. formal_after_at r None) y (Ok (roll-Formal (record { span = formal_span v; mode = None; decls = ds; ty = t }), q))) (sym (append_assoc v (c ∷ w) q))
        (subst (λ s. YieldsIn (readers_in p) (λ r. formal_after_at r None) (v ++ c ∷ (w ++ q)) (Ok (roll-Formal (record { span = s; mode = None; decls = ds; ty = t }), q))) (sym (decls_start ds v d))
        (formal-after p None c w q d h (complete-nested y q (stops-quiet-type y q st))))
    complete_field (g.field (g.formal {ds = ds} {t = t} {v = v} c (g.mode s x m i k) d h y) e) q st =
        absurd (differs (sym (mode-of-formal (formal_span (s ∷ v)) (Some m) ds t) ∙ e))
      where
        differs : Some m ≡ None → ⊥
        differs y = cc

    more_fields : {gs : List Formal} {v : List Token} → SpellsMoreFieldsIn p gs v → (fs : List Formal) (k : Token) (q : List Token) → IsSign sign.CloseParen k
        → LoopsIn (readers_in p) is_separated next_field_at fs (v ++ k ∷ q) (Ok (fs ++ gs, k ∷ q))
    more_fields g.no_more_fields fs k q h = fields_stop p fs k q h
    more_fields (g.one_more_field {f = f} {fs = gs} {u = u} {v = v} s h d m) fs k q i =
        fields_go p fs f gs s u v (k ∷ q) h (complete_field d (v ++ k ∷ q) (more-fields-stop m k q i)) (more_fields m (fs ++ f ∷ []) k q i)

-- the type that a declaration gives a name
pub complete-type : {t : TypeTree} {u : List Token} (d : SpellsType t u) (q : List Token) → QuietType d q → YieldsIn type_readers type_at (u ++ q) (Ok (t, q))
complete-type d q quiet = complete-nested d q quiet
