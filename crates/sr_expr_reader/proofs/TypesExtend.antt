-- Where the token after a type continues its right edge, some longer list spells a type.
use Rattle.std.proofs.Common.{◌≡◌, refl, sym, ◌∙◌, ap, subst, Bool, true, false, List, [], ◌∷◌, ◌++◌, Option, Some, None, ◌⊎◌, inl, inr, append_assoc}
use Rattle.sr_reader.specs.Pieces.{GoesOn}
use Rattle.sr_reader.proofs.Soundness.{append-nil}
use Rattle.sr_tree.specs.declared.name.QualifiedName.{QualifiedName}
use Rattle.sr_tree.specs.declared.token.Sign.TheVariants as sign
use Rattle.sr_tree.specs.declared.token.Token.{Token}
use Rattle.sr_tree.specs.declared.token.TokenKind.TheVariants as kind
use Rattle.sr_tree.specs.declared.token.Word.TheVariants as word
use Rattle.sr_tree.specs.declared.types.Decl.{Decl}
use Rattle.sr_tree.specs.declared.types.InvocationKind.{InvocationKind}
use Rattle.sr_tree.specs.declared.types.InvocationKind.TheVariants as invoked
use Rattle.sr_tree.specs.declared.types.Returned.{Returned}
use Rattle.sr_tree.specs.declared.types.Signature.{Signature}
use Rattle.sr_tree.specs.declared.types.TypePlace.{TypePlace}
use Rattle.sr_tree.specs.declared.types.TypeTree.{TypeTree}
use Rattle.sr_tree.specs.declared.types.TypeTree.TheVariants as ty
use Rattle.sr_tree.specs.Expressions as names
use Rattle.sr_tree.specs.Expressions.{SpellsQualifiedName}
use Rattle.sr_tree.specs.Tables.{IsSign, IsWord, name_of}
use Rattle.sr_tree.specs.Tests.{is_sign, is_word}
use Rattle.sr_tree.specs.Types as g
use Rattle.sr_tree.specs.Types.{SpellsPlainTypeIn, SpellsTypeIn, SpellsReturnedIn, SpellsKinds, SpellsSignatureIn, EndsOpen, BracesBelong, formal_span}
use Rattle.sr_expr_reader.specs.TypeReaders.{ends_open}
use Rattle.sr_expr_reader.proofs.Extends.{with_kind, has-kind}
use Rattle.sr_expr_reader.proofs.TokensSound.{kind_of_sign, kind_of_word}
use Rattle.sr_expr_reader.proofs.TypesSound.{returned_of, signature_of}
use Rattle.sr_expr_reader.proofs.TypesOpen.{closed-type}
use Rattle.sr_expr_reader.proofs.TypesQuiet.{QuietName, QuietPlainType, QuietSignature, QuietTail, QuietType}
use Rattle.sr_expr_reader.proofs.TypesComplete.{type-of-returned}

name_goes_on : {n : QualifiedName} {u : List Token} (d : SpellsQualifiedName n u) (t : Token) (q : List Token) → QuietName d (t ∷ q) ⊎ GoesOn SpellsQualifiedName u t
unfolding QuietName
name_goes_on (names.qualified n p m h i j) t q = inl tt
name_goes_on (names.plain n h) t q = go (is_sign sign.Point t.kind) refl
  where
    go : (b : Bool) → is_sign sign.Point t.kind ≡ b → (is_sign sign.Point t.kind ≡ false) ⊎ GoesOn SpellsQualifiedName (n ∷ []) t
    go false e = inl e
    go true e = inr (record {
      tree = record { span = n.span; first = name_of n; second = Some (name_of (with_kind t kind.Name)) };
      more = with_kind t kind.Name ∷ [];
      spelled = names.qualified n t (with_kind t kind.Name) h (kind_of_sign sign.Point t.kind e) (has-kind t kind.Name);
    })

some_braces : (o : Token) → IsSign sign.OpenBrace o → SpellsKinds (invoked.Call ∷ []) (o ∷ with_kind o (kind.Word word.Call) ∷ with_kind o (kind.Sign sign.CloseBrace) ∷ [])
some_braces o h =
    g.kinds o (with_kind o (kind.Word word.Call)) (with_kind o (kind.Sign sign.CloseBrace)) word.Call invoked.Call h (has-kind o (kind.Word word.Call)) refl g.no_more_kinds
    (has-kind o (kind.Sign sign.CloseBrace))

-- a longer list that spells what stands after formals
record TailGoesOn (p : TypePlace) (s : List Token) (t : Token) : Type 0 where
  returned : Option Returned
  kinds : List InvocationKind
  front : List Token
  back : List Token
  more : List Token
  splits : s ++ t ∷ more ≡ front ++ back
  returns : SpellsReturnedIn p returned front
  braces : SpellsKinds kinds back
  belong : BracesBelong returned kinds

module _ {p : TypePlace} where
  -- a type and braces that may stand after it

  some_returned : (w : Token) → IsWord word.Returns w
      → SpellsReturnedIn p (Some (returned_of w.span (record { span = (with_kind w kind.Name).span; name = name_of (with_kind w kind.Name); dims = None }) (ty.Int (with_kind w (kind.Word word.Int)).span)))
      (w ∷ with_kind w kind.Name ∷ with_kind w (kind.Sign sign.Colon) ∷ with_kind w (kind.Word word.Int) ∷ [])
  some_returned w h =
      g.returned w (with_kind w (kind.Sign sign.Colon)) h (g.bare (with_kind w kind.Name) (has-kind w kind.Name)) (has-kind w (kind.Sign sign.Colon))
      (g.plain (g.int (with_kind w (kind.Word word.Int)) (has-kind w (kind.Word word.Int))))

  -- after formals alone
  bare_tail : (t : Token) (q : List Token) → ((is_word word.Returns t.kind ≡ false) × (is_sign sign.OpenBrace t.kind ≡ false)) ⊎ TailGoesOn p [] t
  bare_tail t q = by_word (is_word word.Returns t.kind) refl
    where
      by_brace : (b : Bool) → is_sign sign.OpenBrace t.kind ≡ b → is_word word.Returns t.kind ≡ false
          → ((is_word word.Returns t.kind ≡ false) × (is_sign sign.OpenBrace t.kind ≡ false)) ⊎ TailGoesOn p [] t
      by_brace false e h = inl (h, e)
      by_brace true e h = inr (record {
        returned = None;
        kinds = invoked.Call ∷ [];
        front = [];
        back = t ∷ with_kind t (kind.Word word.Call) ∷ with_kind t (kind.Sign sign.CloseBrace) ∷ [];
        more = with_kind t (kind.Word word.Call) ∷ with_kind t (kind.Sign sign.CloseBrace) ∷ [];
        splits = refl;
        returns = g.returns_nothing;
        braces = some_braces t (kind_of_sign sign.OpenBrace t.kind e);
        belong = g.after_formals;
      })

      by_word : (b : Bool) → is_word word.Returns t.kind ≡ b → ((is_word word.Returns t.kind ≡ false) × (is_sign sign.OpenBrace t.kind ≡ false)) ⊎ TailGoesOn p [] t
      by_word false h = by_brace (is_sign sign.OpenBrace t.kind) refl h
      by_word true h = inr (record {
        returned = _;
        kinds = [];
        front = t ∷ with_kind t kind.Name ∷ with_kind t (kind.Sign sign.Colon) ∷ with_kind t (kind.Word word.Int) ∷ [];
        back = [];
        more = with_kind t kind.Name ∷ with_kind t (kind.Sign sign.Colon) ∷ with_kind t (kind.Word word.Int) ∷ [];
        splits = refl;
        returns = some_returned t (kind_of_word word.Returns t.kind h);
        braces = g.no_kinds;
        belong = g.no_braces;
      })

  -- after a type that is returned
  braces_after : {d : Decl} {ty : TypeTree} {v : List Token} (w t : Token) → SpellsReturnedIn p (Some (returned_of w.span d ty)) v → ends_open ty ≡ false → IsSign sign.OpenBrace t → TailGoesOn p (v ++ []) t
  braces_after {d = d} {ty = y} {v = v} w t r e h = record {
    returned = Some (returned_of w.span d y);
    kinds = invoked.Call ∷ [];
    front = v;
    back = t ∷ with_kind t (kind.Word word.Call) ∷ with_kind t (kind.Sign sign.CloseBrace) ∷ [];
    more = with_kind t (kind.Word word.Call) ∷ with_kind t (kind.Sign sign.CloseBrace) ∷ [];
    splits = ap (λ x. x ++ t ∷ with_kind t (kind.Word word.Call) ∷ with_kind t (kind.Sign sign.CloseBrace) ∷ []) (append-nil v);
    returns = r;
    braces = some_braces t h;
    belong = g.after_type (returned_of w.span d y) (λ o. closed-type y e (subst EndsOpen (type-of-returned w.span d y) o));
  }

  longer_type : {d : Decl} {u v : List Token} (w c t : Token) (h : IsWord word.Returns w) (x : g.SpellsDecl d u) (i : IsSign sign.Colon c) → GoesOn (SpellsTypeIn p) v t
      → TailGoesOn p ((w ∷ (u ++ c ∷ v)) ++ []) t
  longer_type {d = d} {u = u} {v = v} w c t h x i m = record {
    returned = Some (returned_of w.span d m.tree);
    kinds = [];
    front = w ∷ (u ++ c ∷ (v ++ t ∷ m.more));
    back = [];
    more = m.more;
    splits = ap (λ s. s ++ t ∷ m.more) (append-nil (w ∷ (u ++ c ∷ v))) ∙ ap (λ s. w ∷ s) (append_assoc u (c ∷ v) (t ∷ m.more)) ∙ sym (append-nil (w ∷ (u ++ c ∷ (v ++ t ∷ m.more))));
    returns = g.returned w c h x i m.spelled;
    braces = g.no_kinds;
    belong = g.no_braces;
  }

  mutual
    unfolding QuietPlainType

    pub plain-type-goes-on : {y : TypeTree} {u : List Token} (d : SpellsPlainTypeIn p y u) (t : Token) (q : List Token) → QuietPlainType d (t ∷ q) ⊎ GoesOn (SpellsPlainTypeIn p) u t
    plain-type-goes-on (g.int s h) t q = inl tt
    plain-type-goes-on (g.bool s h) t q = inl tt
    plain-type-goes-on (g.char s h) t q = inl tt
    plain-type-goes-on (g.string s o k h i d j) t q = inl tt
    plain-type-goes-on (g.string_of_any_length s o x k h i j l) t q = inl tt
    plain-type-goes-on (g.cap_of {u = u} s h d) t q = go (name_goes_on d t q)
      where
        go : QuietName d (t ∷ q) ⊎ GoesOn SpellsQualifiedName u t → QuietName d (t ∷ q) ⊎ GoesOn (SpellsPlainTypeIn p) (s ∷ u) t
        go (inl x) = inl x
        go (inr x) = inr (record { tree = ty.CapOf s.span x.tree; more = x.more; spelled = g.cap_of s h x.spelled })
    plain-type-goes-on (g.cap_machine s v h i) t q = inl tt
    plain-type-goes-on (g.cap_operation {u = u} s h d) t q = go (signature-goes-on d t q)
      where
        go : QuietSignature d (t ∷ q) ⊎ GoesOn (SpellsSignatureIn p) u t → QuietSignature d (t ∷ q) ⊎ GoesOn (SpellsPlainTypeIn p) (s ∷ u) t
        go (inl x) = inl x
        go (inr x) = inr (record { tree = ty.CapOperation s.span x.tree; more = x.more; spelled = g.cap_operation s h x.spelled })
    plain-type-goes-on (g.array {d = d} {u = u} {v = v} x i) t q = go (type-goes-on i t q)
      where
        go : QuietType i (t ∷ q) ⊎ GoesOn (SpellsTypeIn p) v t → QuietType i (t ∷ q) ⊎ GoesOn (SpellsPlainTypeIn p) (u ++ v) t
        go (inl y) = inl y
        go (inr y) = inr (record {
          tree = ty.Array d.span d y.tree;
          more = y.more;
          spelled = subst (SpellsPlainTypeIn p (ty.Array d.span d y.tree)) (sym (append_assoc u v (t ∷ y.more))) (g.array x y.spelled);
        })
    plain-type-goes-on (g.named {u = u} d) t q = go (name_goes_on d t q)
      where
        go : QuietName d (t ∷ q) ⊎ GoesOn SpellsQualifiedName u t → QuietName d (t ∷ q) ⊎ GoesOn (SpellsPlainTypeIn p) u t
        go (inl x) = inl x
        go (inr x) = inr (record { tree = ty.Named x.tree.span x.tree; more = x.more; spelled = g.named x.spelled })

    pub signature-goes-on : {s : Signature} {u : List Token} (d : SpellsSignatureIn p s u) (t : Token) (q : List Token) → QuietSignature d (t ∷ q) ⊎ GoesOn (SpellsSignatureIn p) u t
    signature-goes-on (g.signature {fs = fs} {u = u} {v = v} {w = w} f r k b) t q = go (tail_goes_on k r t q)
      where
        go : QuietTail k r (t ∷ q) ⊎ TailGoesOn p (v ++ w) t → QuietTail k r (t ∷ q) ⊎ GoesOn (SpellsSignatureIn p) (u ++ (v ++ w)) t
        go (inl x) = inl x
        go (inr x) = inr (record {
          tree = signature_of (formal_span u) fs x.returned x.kinds;
          more = x.more;
          spelled = subst (SpellsSignatureIn p (signature_of (formal_span u) fs x.returned x.kinds))
              (ap (λ s. u ++ s) (sym x.splits) ∙ sym (append_assoc u (v ++ w) (t ∷ x.more))) (g.signature f x.returns x.braces x.belong);
        })

    tail_goes_on : {ks : List InvocationKind} {x : Option Returned} {v w : List Token} (k : SpellsKinds ks w) (r : SpellsReturnedIn p x v) (t : Token) (q : List Token)
        → QuietTail k r (t ∷ q) ⊎ TailGoesOn p (v ++ w) t
    tail_goes_on (g.kinds o s c w k h i e m j) r t q = inl tt
    tail_goes_on g.no_kinds g.returns_nothing t q = bare_tail t q
    tail_goes_on g.no_kinds (g.returned {d = d} {t = y} {u = u} {v = v} w c h x i f) t q = go (type-goes-on f t q)
      where
        by_brace : QuietType f (t ∷ q) → ends_open y ≡ false → (b : Bool) → is_sign sign.OpenBrace t.kind ≡ b
            → (QuietType f (t ∷ q) × (ends_open y ≡ false → is_sign sign.OpenBrace t.kind ≡ false)) ⊎ TailGoesOn p ((w ∷ (u ++ c ∷ v)) ++ []) t
        by_brace z e false n = inl (z, λ closed. n)
        by_brace z e true n = inr (braces_after w t (g.returned w c h x i f) e (kind_of_sign sign.OpenBrace t.kind n))

        by_open : QuietType f (t ∷ q) → (b : Bool) → ends_open y ≡ b
            → (QuietType f (t ∷ q) × (ends_open y ≡ false → is_sign sign.OpenBrace t.kind ≡ false)) ⊎ TailGoesOn p ((w ∷ (u ++ c ∷ v)) ++ []) t
        by_open z true e = inl (z, λ closed. absurd (differ (sym e ∙ closed)))
          where
            differ : true ≡ false → ⊥
            differ e = cc
        by_open z false e = by_brace z e (is_sign sign.OpenBrace t.kind) refl

        go : QuietType f (t ∷ q) ⊎ GoesOn (SpellsTypeIn p) v t
            → (QuietType f (t ∷ q) × (ends_open y ≡ false → is_sign sign.OpenBrace t.kind ≡ false)) ⊎ TailGoesOn p ((w ∷ (u ++ c ∷ v)) ++ []) t
        go (inl z) = by_open z (ends_open y) refl
        go (inr z) = inr (longer_type w c t h x i z)

    -- either the token is quiet at the right edge, or it begins more
    pub type-goes-on : {y : TypeTree} {u : List Token} (d : SpellsTypeIn p y u) (t : Token) (q : List Token) → QuietType d (t ∷ q) ⊎ GoesOn (SpellsTypeIn p) u t
    type-goes-on (g.enum s o k m h i d j) t q = inl tt
    type-goes-on (g.record_of s o k m h i d n j) t q = inl tt
    type-goes-on (g.plain {u = u} d) t q = go (plain-type-goes-on d t q)
      where
        go : QuietPlainType d (t ∷ q) ⊎ GoesOn (SpellsPlainTypeIn p) u t → QuietPlainType d (t ∷ q) ⊎ GoesOn (SpellsTypeIn p) u t
        go (inl x) = inl x
        go (inr x) = inr (record { tree = x.tree; more = x.more; spelled = g.plain x.spelled })
