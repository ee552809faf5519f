-- What each reader of a piece of a type gives where its parts are read.
use Rattle.std.proofs.Common.{◌≡◌, refl, sym, ◌∙◌, ap, subst, ℕ, zero, suc, ◌<◌, true, false, List, [], ◌∷◌, ◌++◌, length, Option, Some, None, Result, Ok, append_assoc, arith}
use Rattle.std.specs.Prelude.{if◌then◌else◌, is_some, option_map}
use Rattle.sr_reader.specs.Reader.{Reader, returned, given, next_is}
use Rattle.sr_value.specs.declared.place.Span.{Span}
use Rattle.sr_tree.specs.declared.expr.BasicType.{BasicType}
use Rattle.sr_tree.specs.declared.expr.Expr.{Expr}
use Rattle.sr_tree.specs.declared.name.QualifiedName.{QualifiedName}
use Rattle.sr_tree.specs.declared.token.Sign.TheVariants as sign
use Rattle.sr_tree.specs.declared.token.Token.{Token}
use Rattle.sr_tree.specs.declared.token.TokenKind.TheVariants as kind
use Rattle.sr_tree.specs.declared.token.Word.{Word}
use Rattle.sr_tree.specs.declared.token.Word.TheVariants as word
use Rattle.sr_tree.specs.declared.types.Decl.{Decl}
use Rattle.sr_tree.specs.declared.types.DimsTree.{DimsTree}
use Rattle.sr_tree.specs.declared.types.Formal.{Formal}
use Rattle.sr_tree.specs.declared.types.InvocationKind.{InvocationKind}
use Rattle.sr_tree.specs.declared.types.PassMode.{PassMode}
use Rattle.sr_tree.specs.declared.types.Returned.{Returned}
use Rattle.sr_tree.specs.declared.types.Signature.{Signature}
use Rattle.sr_tree.specs.declared.types.TypePlace.{TypePlace}
use Rattle.sr_tree.specs.declared.types.TypePlace.TheVariants.{Declaration, Elsewhere}
use Rattle.sr_tree.specs.declared.types.TypeTree.{TypeTree}
use Rattle.sr_tree.specs.declared.types.TypeTree.TheVariants as ty
use Rattle.sr_tree.specs.Expressions.{SpellsExpr, SpellsQualifiedName}
use Rattle.sr_tree.specs.Tables.{IsSign, IsWord, IsSeparator, basic_of}
use Rattle.sr_tree.specs.Tests.{is_sign, is_word}
use Rattle.sr_tree.specs.Types as g
use Rattle.sr_tree.specs.Types.{SpellsNames, SpellsDims, SpellsDecl, SpellsDecls, SpellsMoreKinds, SpellsFormalIn, SpellsMoreFormalsIn, SpellsMoreFieldsIn, MayDeclare, kind_of}
use Rattle.sr_expr_reader.specs.Readers.{qualified_at}
use Rattle.sr_tree.specs.Tokens.{sign_at, word_at, separator_at, is_separator}
use Rattle.sr_expr_reader.specs.TypeReaders.{basic_type, basic_type_at, mode_of, mode_word_at, invocation_kind_of, kind_at, names_at, dims_at, decl_at, decls_at, mode_at, formal_after_at, formal_at, is_separated, next_formal_at, more_formals_at, formals_after_at, returned_at, more_kinds_at, kinds_at, returns_open, own_kinds_at, signature_at, string_at, cap_at, array_type_at, plain_type_at, enum_at, next_field_at, more_fields_at, record_type_at, type_at, type_in_at, TypeReaders, within, nested, declared, type_readers}
use Rattle.sr_expr_reader.proofs.DeclsComplete.{name-first, dims-first, decls-first, complete-name, complete-names, complete-dims, complete-decl, complete-decls}
use Rattle.sr_expr_reader.proofs.ExpressionEdges.{expr-begins, begins-no-sign, continues_expr, token-stops}
use Rattle.sr_expr_reader.proofs.ExpressionsComplete.{operand-below}
use Rattle.sr_expr_reader.proofs.Families.{YieldsIn, BelowIn, LoopsIn, below, token_then, below_token, below_then, yields_then, after_then, below_returned, yields_returned, yields_met, yields_unmet, below_met, below_unmet, below_seq, loop_within, yields_part, below_part}
use Rattle.sr_expr_reader.proofs.TokensComplete.{is_that_sign, is_that_word, sign-reads, word-reads}
use Rattle.sr_expr_reader.proofs.TypesSound.{formal_of, returned_of, signature_of}
use Rattle.sr_expr_reader.proofs.TypesQuiet.{QuietName, TypeStops, continues_type, token-stops-type}
use Rattle.sr_expr_reader.proofs.Yields.{steps-readers}

-- the readers of what stands at a place, for every bound
abbrev pub readers_in : TypePlace → ℕ → TypeReaders
readers_in p k = within p (type_readers k)

pub below-nested : (p : TypePlace) (s : List Token) (z : Result (TypeTree × List Token) ℕ) → YieldsIn type_readers (type_in_at p) s z
    → BelowIn (readers_in p) (λ r. r.nested) s z
unfolding nested
below-nested Declaration s z y = record { gives = at }
  where
    at : (k : ℕ) → length s < k → declared k s ≡ z
    at zero h = absurd (omega (arith, h))
    at (suc k) h = y.gives k (omega (arith, h))
below-nested Elsewhere s z y = record { gives = at }
  where
    at : (k : ℕ) → length s < k → nested k s ≡ z
    at zero h = absurd (omega (arith, h))
    at (suc k) h = y.gives k (omega (arith, h))

-- single tokens

pub separator-reads : (t : Token) (q : List Token) → IsSeparator t → separator_at (t ∷ q) ≡ Ok (t.span, q)
unfolding separator_at
separator-reads t q h = ap (λ b. given (if b then Some t.span else None) q (length (t ∷ q))) (ap is_separator h)

basic_reads : (t : Token) (b : BasicType) (q : List Token) → basic_of t.kind ≡ Some b → basic_type_at (t ∷ q) ≡ Ok (basic_type t.span b, q)
unfolding basic_type_at
basic_reads t b q h = ap (λ m. given (option_map (basic_type t.span) m) q (length (t ∷ q))) h

mode_reads : (t : Token) (m : PassMode) (q : List Token) → mode_of t.kind ≡ Some m → mode_word_at (t ∷ q) ≡ Ok ((t.span, m), q)
unfolding mode_word_at
mode_reads t m q h = ap (λ x. given (option_map (λ y. (t.span, y)) x) q (length (t ∷ q))) h

kind_reads : (t : Token) (w : Word) (k : InvocationKind) (q : List Token) → IsWord w t → kind_of w ≡ Some k → kind_at (t ∷ q) ≡ Ok (k, q)
unfolding kind_at
kind_reads t w k q h e = ap (λ m. given m q (length (t ∷ q))) (ap invocation_kind_of h ∙ e)

no_basic : (w : Word) (t : Token) → IsWord w t → is_some (basic_of (kind.Word w)) ≡ false → is_some (basic_of t.kind) ≡ false
no_basic w t h e = ap (λ k. is_some (basic_of k)) h ∙ e

dims_long : {d : DimsTree} {u : List Token} → SpellsDims d u → 0 < length u
dims_long (g.dims o k h x y i) = omega arith

-- a formal begins with a name or with the word of its mode
pub formal-opens : {p : TypePlace} {f : Formal} {u : List Token} → SpellsFormalIn p f u → (q : List Token) → next_is (λ t. is_sign sign.CloseParen t.kind) (u ++ q) ≡ false
formal-opens (g.formal {v = v} {w = w} c g.no_mode d h e) q =
    ap (λ s. next_is (λ t. is_sign sign.CloseParen t.kind) s) (append_assoc v (c ∷ w) q) ∙ decls-first d (is_sign sign.CloseParen) (c ∷ (w ++ q))
formal-opens (g.formal c (g.mode t w m i j) d h e) q = ap (is_sign sign.CloseParen) i

pub more-formals-stop : {p : TypePlace} {fs : List Formal} {v : List Token} → SpellsMoreFormalsIn p fs v → (k : Token) (q : List Token) → IsSign sign.CloseParen k → TypeStops (v ++ k ∷ q)
more-formals-stop g.no_more_formals k q h = token-stops-type k q (ap continues_type h)
more-formals-stop (g.one_more_formal {u = u} {v = v} s h d m) k q i = token-stops-type s ((u ++ v) ++ k ∷ q) (ap continues_type h)

pub more-fields-stop : {p : TypePlace} {fs : List Formal} {v : List Token} → SpellsMoreFieldsIn p fs v → (k : Token) (q : List Token) → IsSign sign.CloseParen k → TypeStops (v ++ k ∷ q)
more-fields-stop g.no_more_fields k q h = token-stops-type k q (ap continues_type h)
more-fields-stop (g.one_more_field {u = u} {v = v} s h d m) k q i = token-stops-type s ((u ++ v) ++ k ∷ q) (ap continues_type h)

module _ (p : TypePlace) where
  -- plain types

  pub plain-basic : (t : Token) (b : BasicType) (q : List Token) → basic_of t.kind ≡ Some b → YieldsIn (readers_in p) plain_type_at (t ∷ q) (Ok (basic_type t.span b, q))
  unfolding plain_type_at
  plain-basic t b q h = yields_met _ (λ r. basic_type_at) _ (t ∷ q) _ (ap is_some h) (record { gives = λ k l. basic_reads t b q h })

  pub plain-string : {e : Expr} {u : List Token} (t o k : Token) (d : SpellsExpr 5 e u) (q : List Token) → IsWord word.String t → IsSign sign.OpenBracket o → IsSign sign.CloseBracket k
      → YieldsIn (readers_in p) plain_type_at (t ∷ o ∷ (u ++ k ∷ q)) (Ok (ty.Str t.span (Some e), q))
  unfolding plain_type_at string_at
  plain-string {e = e} {u = u} t o k d q h i j =
      yields_unmet _ _ _ (t ∷ o ∷ (u ++ k ∷ q)) _ (no_basic word.String t h refl)
      (yields_met _ _ _ (t ∷ o ∷ (u ++ k ∷ q)) _ (is_that_word word.String t h)
      (token_then (word_at word.String) _ t (o ∷ (u ++ k ∷ q)) t.span _ (word-reads word.String t (o ∷ (u ++ k ∷ q)) h)
      (below_token (sign_at sign.OpenBracket) _ o (u ++ k ∷ q) o.span _ (sign-reads sign.OpenBracket o (u ++ k ∷ q) i)
      (below_unmet _ _ _ (u ++ k ∷ q) _ (begins-no-sign sign.Star (u ++ k ∷ q) refl (expr-begins d (k ∷ q)))
      (below_then (λ r. r.expressions.operand 5) _ u (k ∷ q) e _
      (below_part (λ r. r.expressions) (λ n. refl) (λ r. r.operand 5) (u ++ k ∷ q) _ (operand-below d (k ∷ q) (token-stops k q (ap continues_expr j))))
      (below_token (sign_at sign.CloseBracket) _ k q k.span _ (sign-reads sign.CloseBracket k q j) (below_returned _ q)))))))

  pub plain-any-string : (t o s k : Token) (q : List Token) → IsWord word.String t → IsSign sign.OpenBracket o → IsSign sign.Star s → IsSign sign.CloseBracket k
      → YieldsIn (readers_in p) plain_type_at (t ∷ o ∷ s ∷ k ∷ q) (Ok (ty.Str t.span None, q))
  unfolding plain_type_at string_at
  plain-any-string t o s k q h i j l =
      yields_unmet _ _ _ (t ∷ o ∷ s ∷ k ∷ q) _ (no_basic word.String t h refl)
      (yields_met _ _ _ (t ∷ o ∷ s ∷ k ∷ q) _ (is_that_word word.String t h)
      (token_then (word_at word.String) _ t (o ∷ s ∷ k ∷ q) t.span _ (word-reads word.String t (o ∷ s ∷ k ∷ q) h)
      (below_token (sign_at sign.OpenBracket) _ o (s ∷ k ∷ q) o.span _ (sign-reads sign.OpenBracket o (s ∷ k ∷ q) i)
      (below_met _ _ _ (s ∷ k ∷ q) _ (is_that_sign sign.Star s j)
      (below_token (sign_at sign.Star) _ s (k ∷ q) s.span _ (sign-reads sign.Star s (k ∷ q) j)
      (below_token (sign_at sign.CloseBracket) _ k q k.span _ (sign-reads sign.CloseBracket k q l) (below_returned _ q)))))))

  -- what stands after `cap`
  at_cap : (t : Token) (s : List Token) (z : Result (TypeTree × List Token) ℕ) → IsWord word.Cap t → YieldsIn (readers_in p) cap_at (t ∷ s) z → YieldsIn (readers_in p) plain_type_at (t ∷ s) z
  unfolding plain_type_at
  at_cap t s z h y =
      yields_unmet _ _ _ (t ∷ s) _ (no_basic word.Cap t h refl)
      (yields_unmet _ _ _ (t ∷ s) _ (ap (is_word word.String) h)
      (yields_met _ _ _ (t ∷ s) _ (is_that_word word.Cap t h) y))

  pub plain-machine : (t v : Token) (q : List Token) → IsWord word.Cap t → IsWord word.Vm v → YieldsIn (readers_in p) plain_type_at (t ∷ v ∷ q) (Ok (ty.CapMachine t.span, q))
  unfolding cap_at
  plain-machine t v q h i =
      at_cap t (v ∷ q) _ h
      (token_then (word_at word.Cap) _ t (v ∷ q) t.span _ (word-reads word.Cap t (v ∷ q) h)
      (below_met _ _ _ (v ∷ q) _ (is_that_word word.Vm v i) (below_token (word_at word.Vm) _ v q v.span _ (word-reads word.Vm v q i) (below_returned _ q))))

  pub plain-operation : {s : Signature} (t : Token) (u q : List Token) → IsWord word.Cap t → next_is (λ x. is_word word.Vm x.kind) (u ++ q) ≡ false
      → next_is (λ x. is_sign sign.OpenParen x.kind) (u ++ q) ≡ true → YieldsIn (readers_in p) signature_at (u ++ q) (Ok (s, q))
      → YieldsIn (readers_in p) plain_type_at (t ∷ (u ++ q)) (Ok (ty.CapOperation t.span s, q))
  unfolding cap_at
  plain-operation {s = s} t u q h i j y =
      at_cap t (u ++ q) _ h
      (token_then (word_at word.Cap) _ t (u ++ q) t.span _ (word-reads word.Cap t (u ++ q) h)
      (below_unmet _ _ _ (u ++ q) _ i (below_met _ _ _ (u ++ q) _ j (below_then signature_at _ u q s _ (below signature_at (u ++ q) _ y) (below_returned _ q)))))

  pub plain-cap : {n : QualifiedName} {u : List Token} (t : Token) (d : SpellsQualifiedName n u) (q : List Token) → IsWord word.Cap t → QuietName d q
      → YieldsIn (readers_in p) plain_type_at (t ∷ (u ++ q)) (Ok (ty.CapOf t.span n, q))
  unfolding cap_at
  plain-cap {n = n} {u = u} t d q h e =
      at_cap t (u ++ q) _ h
      (token_then (word_at word.Cap) _ t (u ++ q) t.span _ (word-reads word.Cap t (u ++ q) h)
      (below_unmet _ _ _ (u ++ q) _ (name-first d (is_word word.Vm) q) (below_unmet _ _ _ (u ++ q) _ (name-first d (is_sign sign.OpenParen) q)
      (below_then (λ r. qualified_at) _ u q n _ (below (λ r. qualified_at) (u ++ q) _ (complete-name d q e)) (below_returned _ q)))))

  pub plain-array : {d : DimsTree} {item : TypeTree} {u : List Token} (v q : List Token) → SpellsDims d u → YieldsIn type_readers (type_in_at p) (v ++ q) (Ok (item, q))
      → YieldsIn (readers_in p) plain_type_at (u ++ (v ++ q)) (Ok (ty.Array d.span d item, q))
  unfolding plain_type_at array_type_at
  plain-array {d = d} {item = item} {u = u} v q x y =
      yields_unmet _ _ _ (u ++ (v ++ q)) _ (dims-first x (λ k. is_some (basic_of k)) (v ++ q))
      (yields_unmet _ _ _ (u ++ (v ++ q)) _ (dims-first x (is_word word.String) (v ++ q))
      (yields_unmet _ _ _ (u ++ (v ++ q)) _ (dims-first x (is_word word.Cap) (v ++ q))
      (yields_met _ _ _ (u ++ (v ++ q)) _ (dims-first x (is_sign sign.OpenBracket) (v ++ q))
      (after_then (λ r. dims_at r.expressions) _ u (v ++ q) d _ (dims_long x) (yields_part (λ r. r.expressions) (λ n. refl) dims_at (u ++ (v ++ q)) _ (complete-dims x (v ++ q)))
      (below_then (λ r. r.nested) _ v q item _ (below-nested p (v ++ q) _ y) (below_returned _ q))))))

  pub plain-named : {n : QualifiedName} {u : List Token} (d : SpellsQualifiedName n u) (q : List Token) → QuietName d q
      → YieldsIn (readers_in p) plain_type_at (u ++ q) (Ok (ty.Named n.span n, q))
  unfolding plain_type_at
  plain-named {n = n} {u = u} d q e =
      yields_unmet _ _ _ (u ++ q) _ (name-first d (λ k. is_some (basic_of k)) q)
      (yields_unmet _ _ _ (u ++ q) _ (name-first d (is_word word.String) q)
      (yields_unmet _ _ _ (u ++ q) _ (name-first d (is_word word.Cap) q)
      (yields_unmet _ _ _ (u ++ q) _ (name-first d (is_sign sign.OpenBracket) q)
      (yields_then (λ r. qualified_at) _ u q n _ (complete-name d q e) (yields_returned _ q)))))

  -- formals

  pub formal-after : {ds : List Decl} {t : TypeTree} {u : List Token} (m : Option (Span × PassMode)) (c : Token) (v q : List Token) → SpellsDecls ds u → IsSign sign.Colon c
      → YieldsIn type_readers (type_in_at p) (v ++ q) (Ok (t, q)) → YieldsIn (readers_in p) (λ r. formal_after_at r m) (u ++ c ∷ (v ++ q)) (Ok (formal_of m ds t, q))
  unfolding formal_after_at
  formal-after {ds = ds} {t = t} {u = u} m c v q d h y =
      yields_then (λ r. decls_at r.expressions) _ u (c ∷ (v ++ q)) ds _
      (yields_part (λ r. r.expressions) (λ n. refl) decls_at (u ++ c ∷ (v ++ q)) _ (complete-decls d (c ∷ (v ++ q)) (ap (is_sign sign.OpenBracket) h) (ap (is_sign sign.Comma) h)))
      (token_then (sign_at sign.Colon) _ c (v ++ q) c.span _ (sign-reads sign.Colon c (v ++ q) h)
      (below_then (λ r. r.nested) _ v q t _ (below-nested p (v ++ q) _ y) (below_returned _ q)))

  pub formal-with : {f : Formal} (t : Token) (m : PassMode) (s q : List Token) → mode_of t.kind ≡ Some m → YieldsIn (readers_in p) (λ r. formal_after_at r (Some (t.span, m))) s (Ok (f, q))
      → YieldsIn (readers_in p) formal_at (t ∷ s) (Ok (f, q))
  unfolding formal_at mode_at
  formal-with t m s q h y =
      yields_then (λ r. mode_at) formal_after_at (t ∷ []) s (Some (t.span, m)) _
      (yields_met _ _ _ (t ∷ s) _ (ap is_some h) (token_then mode_word_at _ t s (t.span, m) _ (mode_reads t m s h) (below_returned _ s))) y

  pub formal-without : {f : Formal} (s q : List Token) → next_is (λ t. is_some (mode_of t.kind)) s ≡ false → YieldsIn (readers_in p) (λ r. formal_after_at r None) s (Ok (f, q))
      → YieldsIn (readers_in p) formal_at s (Ok (f, q))
  unfolding formal_at mode_at
  formal-without s q h y = yields_then (λ r. mode_at) formal_after_at [] s None _ (yields_unmet _ _ _ s _ h (yields_returned None s)) y

  pub no-formals : (k : Token) (q : List Token) → IsSign sign.CloseParen k → YieldsIn (readers_in p) formals_after_at (k ∷ q) (Ok ([], q))
  unfolding formals_after_at
  no-formals k q h =
      yields_met _ _ _ (k ∷ q) _ (is_that_sign sign.CloseParen k h) (token_then (sign_at sign.CloseParen) _ k q k.span _ (sign-reads sign.CloseParen k q h) (below_returned _ q))

  pub some-formals : {f : Formal} {fs : List Formal} (u v : List Token) (k : Token) (q : List Token) → IsSign sign.CloseParen k
      → next_is (λ t. is_sign sign.CloseParen t.kind) (u ++ (v ++ k ∷ q)) ≡ false → YieldsIn (readers_in p) formal_at (u ++ (v ++ k ∷ q)) (Ok (f, v ++ k ∷ q))
      → LoopsIn (readers_in p) is_separated next_formal_at (f ∷ []) (v ++ k ∷ q) (Ok (f ∷ fs, k ∷ q)) → YieldsIn (readers_in p) formals_after_at (u ++ (v ++ k ∷ q)) (Ok (f ∷ fs, q))
  unfolding formals_after_at more_formals_at
  some-formals {f = f} {fs = fs} u v k q h e y l =
      yields_unmet _ _ _ (u ++ (v ++ k ∷ q)) _ e
      (yields_then formal_at _ u (v ++ k ∷ q) f _ y
      (yields_then (λ r. more_formals_at r (f ∷ [])) _ v (k ∷ q) (f ∷ fs) _
      (loop_within is_separated next_formal_at (λ r. r.expressions.steps) steps-readers (f ∷ []) (v ++ k ∷ q) _ l)
      (token_then (sign_at sign.CloseParen) _ k q k.span _ (sign-reads sign.CloseParen k q h) (below_returned _ q))))

  -- what is returned, and kinds of invocation

  pub returns-nothing : (q : List Token) → next_is (λ t. is_word word.Returns t.kind) q ≡ false → YieldsIn (readers_in p) returned_at q (Ok (None, q))
  unfolding returned_at
  returns-nothing q h = yields_unmet _ _ _ q _ h (yields_returned None q)

  pub returns-yields : {d : Decl} {t : TypeTree} {u : List Token} (w c : Token) (v q : List Token) → IsWord word.Returns w → SpellsDecl d u → IsSign sign.Colon c
      → YieldsIn type_readers (type_in_at p) (v ++ q) (Ok (t, q)) → YieldsIn (readers_in p) returned_at (w ∷ (u ++ c ∷ (v ++ q))) (Ok (Some (returned_of w.span d t), q))
  unfolding returned_at
  returns-yields {d = d} {t = t} {u = u} w c v q h x i y =
      yields_met _ _ _ (w ∷ (u ++ c ∷ (v ++ q))) _ (is_that_word word.Returns w h)
      (token_then (word_at word.Returns) _ w (u ++ c ∷ (v ++ q)) w.span _ (word-reads word.Returns w (u ++ c ∷ (v ++ q)) h)
      (below_then (λ r. decl_at r.expressions) _ u (c ∷ (v ++ q)) d _
      (below_part (λ r. r.expressions) (λ n. refl) decl_at (u ++ c ∷ (v ++ q)) _ (below decl_at (u ++ c ∷ (v ++ q)) _ (complete-decl x (c ∷ (v ++ q)) (ap (is_sign sign.OpenBracket) i))))
      (below_token (sign_at sign.Colon) _ c (v ++ q) c.span _ (sign-reads sign.Colon c (v ++ q) i)
      (below_then (λ r. r.nested) _ v q t _ (below-nested p (v ++ q) _ y) (below_returned _ q)))))

  pub no-kinds : (q : List Token) → next_is (λ t. is_sign sign.OpenBrace t.kind) q ≡ false → YieldsIn (readers_in p) (λ r. kinds_at) q (Ok ([], q))
  unfolding kinds_at
  no-kinds q h = yields_unmet _ _ _ q _ h (yields_returned [] q)

  more_kinds : {ks : List InvocationKind} {u : List Token} → SpellsMoreKinds ks u → (c : Token) (q : List Token) → IsSign sign.CloseBrace c
      → BelowIn (readers_in p) (λ r. more_kinds_at) (u ++ c ∷ q) (Ok (ks, q))
  unfolding more_kinds_at
  more_kinds g.no_more_kinds c q h =
      below_unmet _ _ _ (c ∷ q) _ (ap (is_sign sign.Comma) h) (below_token (sign_at sign.CloseBrace) _ c q c.span _ (sign-reads sign.CloseBrace c q h) (below_returned [] q))
  more_kinds (g.one_more_kind comma t w k i j e) c q h =
      below_met _ _ _ (comma ∷ t ∷ c ∷ q) _ (is_that_sign sign.Comma comma i)
      (below_token (sign_at sign.Comma) _ comma (t ∷ c ∷ q) comma.span _ (sign-reads sign.Comma comma (t ∷ c ∷ q) i)
      (below_token kind_at _ t (c ∷ q) k _ (kind_reads t w k (c ∷ q) j e)
      (below_token (sign_at sign.CloseBrace) _ c q c.span _ (sign-reads sign.CloseBrace c q h) (below_returned (k ∷ []) q))))

  pub some-kinds : {ks : List InvocationKind} {u : List Token} (o t c : Token) (w : Word) (k : InvocationKind) (q : List Token) → IsSign sign.OpenBrace o → IsWord w t → kind_of w ≡ Some k
      → SpellsMoreKinds ks u → IsSign sign.CloseBrace c → YieldsIn (readers_in p) (λ r. kinds_at) (o ∷ t ∷ ((u ++ c ∷ []) ++ q)) (Ok (k ∷ ks, q))
  unfolding kinds_at
  some-kinds {ks = ks} {u = u} o t c w k q h i e m j =
      subst (λ s. YieldsIn (readers_in p) (λ r. kinds_at) (o ∷ t ∷ s) (Ok (k ∷ ks, q))) (sym (append_assoc u (c ∷ []) q))
      (yields_met _ _ _ (o ∷ t ∷ (u ++ c ∷ q)) _ (is_that_sign sign.OpenBrace o h)
      (token_then (sign_at sign.OpenBrace) _ o (t ∷ (u ++ c ∷ q)) o.span _ (sign-reads sign.OpenBrace o (t ∷ (u ++ c ∷ q)) h)
      (below_token kind_at _ t (u ++ c ∷ q) k _ (kind_reads t w k (u ++ c ∷ q) i e)
      (below_seq (λ r. more_kinds_at) _ (u ++ c ∷ q) (u ++ c ∷ []) q ks _ (sym (append_assoc u (c ∷ []) q)) (more_kinds m c q j) (below_returned (k ∷ ks) q)))))

  pub own-open : (x : Option Returned) (q : List Token) → returns_open x ≡ true → YieldsIn (readers_in p) (λ r. own_kinds_at x) q (Ok ([], q))
  unfolding own_kinds_at
  own-open x q e = record { gives = λ k h. ap (λ b. (if b then returned [] else kinds_at) q) e }

  pub own-closed : (x : Option Returned) (s : List Token) (z : Result (List InvocationKind × List Token) ℕ) → returns_open x ≡ false
      → YieldsIn (readers_in p) (λ r. kinds_at) s z → YieldsIn (readers_in p) (λ r. own_kinds_at x) s z
  unfolding own_kinds_at
  own-closed x s z e y = record { gives = λ k h. ap (λ b. (if b then returned [] else kinds_at) s) e ∙ y.gives k h }

  pub signature-yields : {fs : List Formal} {x : Option Returned} {ks : List InvocationKind} (o : Token) (u v w q : List Token) → IsSign sign.OpenParen o
      → YieldsIn (readers_in p) formals_after_at (u ++ (v ++ (w ++ q))) (Ok (fs, v ++ (w ++ q))) → YieldsIn (readers_in p) returned_at (v ++ (w ++ q)) (Ok (x, w ++ q))
      → YieldsIn (readers_in p) (λ r. own_kinds_at x) (w ++ q) (Ok (ks, q)) → YieldsIn (readers_in p) signature_at (o ∷ (u ++ (v ++ (w ++ q)))) (Ok (signature_of o.span fs x ks, q))
  unfolding signature_at
  signature-yields {fs = fs} {x = x} {ks = ks} o u v w q h a b c =
      token_then (sign_at sign.OpenParen) _ o (u ++ (v ++ (w ++ q))) o.span _ (sign-reads sign.OpenParen o (u ++ (v ++ (w ++ q))) h)
      (below_then formals_after_at _ u (v ++ (w ++ q)) fs _ (below formals_after_at (u ++ (v ++ (w ++ q))) _ a)
      (below_then returned_at _ v (w ++ q) x _ (below returned_at (v ++ (w ++ q)) _ b)
      (below_then (λ r. own_kinds_at x) _ w q ks _ (below (λ r. own_kinds_at x) (w ++ q) _ c) (below_returned _ q))))

-- types that may be declared

-- what reads at a place
at_place : {A : Type 0} (p : TypePlace) (f : TypeReaders → Reader Token A) (s : List Token) (z : Result (A × List Token) ℕ) → YieldsIn (readers_in p) f s z
    → YieldsIn type_readers (λ r. f (within p r)) s z
at_place p f s z y = record { gives = λ k h. y.gives k h }

pub nested-plain : (p : TypePlace) (s : List Token) (z : Result (TypeTree × List Token) ℕ) → next_is (λ t. is_word word.Enum t.kind) s ≡ false
    → next_is (λ t. is_word word.Rec t.kind) s ≡ false → YieldsIn (readers_in p) plain_type_at s z → YieldsIn type_readers (type_in_at p) s z
unfolding type_at
nested-plain Declaration s z h i y = yields_unmet _ _ _ s z h (yields_unmet _ _ _ s z i (at_place Declaration plain_type_at s z y))
nested-plain Elsewhere s z h i y = at_place Elsewhere plain_type_at s z y

type-enum : {ns : _} {u : List Token} (t o c : Token) (q : List Token) → IsWord word.Enum t → IsSign sign.OpenParen o → SpellsNames ns u → IsSign sign.CloseParen c
    → YieldsIn type_readers type_at (t ∷ o ∷ (u ++ c ∷ q)) (Ok (ty.Enum t.span ns, q))
unfolding type_at enum_at
type-enum {ns = ns} {u = u} t o c q h i d j =
    yields_met _ _ _ (t ∷ o ∷ (u ++ c ∷ q)) _ (is_that_word word.Enum t h)
    (token_then (word_at word.Enum) _ t (o ∷ (u ++ c ∷ q)) t.span _ (word-reads word.Enum t (o ∷ (u ++ c ∷ q)) h)
    (below_token (sign_at sign.OpenParen) _ o (u ++ c ∷ q) o.span _ (sign-reads sign.OpenParen o (u ++ c ∷ q) i)
    (below_then (λ r. names_at r.expressions) _ u (c ∷ q) ns _
    (below_part (λ r. r.expressions) (λ n. refl) names_at (u ++ c ∷ q) _ (below names_at (u ++ c ∷ q) _ (complete-names d (c ∷ q) (ap (is_sign sign.Comma) j))))
    (below_token (sign_at sign.CloseParen) _ c q c.span _ (sign-reads sign.CloseParen c q j) (below_returned _ q)))))

pub nested-enum : {ns : _} {u : List Token} (p : TypePlace) (t o c : Token) (q : List Token) → MayDeclare p → IsWord word.Enum t → IsSign sign.OpenParen o → SpellsNames ns u
    → IsSign sign.CloseParen c → YieldsIn type_readers (type_in_at p) (t ∷ o ∷ (u ++ c ∷ q)) (Ok (ty.Enum t.span ns, q))
nested-enum Declaration t o c q may h i d j = type-enum t o c q h i d j
nested-enum Elsewhere t o c q may h i d j = absurd may

record-yields : {f : Formal} {fs : List Formal} (t o c : Token) (u v q : List Token) → IsWord word.Rec t → IsSign sign.OpenParen o → IsSign sign.CloseParen c
    → YieldsIn (readers_in Declaration) (λ r. formal_after_at r None) (u ++ (v ++ c ∷ q)) (Ok (f, v ++ c ∷ q))
    → LoopsIn (readers_in Declaration) is_separated next_field_at (f ∷ []) (v ++ c ∷ q) (Ok (f ∷ fs, c ∷ q))
    → YieldsIn (readers_in Declaration) record_type_at (t ∷ o ∷ (u ++ (v ++ c ∷ q))) (Ok (ty.Rec t.span (f ∷ fs), q))
unfolding record_type_at more_fields_at
record-yields {f = f} {fs = fs} t o c u v q h i j y l =
    token_then (word_at word.Rec) _ t (o ∷ (u ++ (v ++ c ∷ q))) t.span _ (word-reads word.Rec t (o ∷ (u ++ (v ++ c ∷ q))) h)
    (below_token (sign_at sign.OpenParen) _ o (u ++ (v ++ c ∷ q)) o.span _ (sign-reads sign.OpenParen o (u ++ (v ++ c ∷ q)) i)
    (below_then (λ r. formal_after_at r None) _ u (v ++ c ∷ q) f _ (below (λ r. formal_after_at r None) (u ++ (v ++ c ∷ q)) _ y)
    (below_then (λ r. more_fields_at r (f ∷ [])) _ v (c ∷ q) (f ∷ fs) _
    (below _ (v ++ c ∷ q) _ (loop_within is_separated next_field_at (λ r. r.expressions.steps) steps-readers (f ∷ []) (v ++ c ∷ q) _ l))
    (below_token (sign_at sign.CloseParen) _ c q c.span _ (sign-reads sign.CloseParen c q j) (below_returned _ q)))))

pub nested-record : {f : Formal} {fs : List Formal} (p : TypePlace) (t o c : Token) (u v q : List Token) → MayDeclare p → IsWord word.Rec t → IsSign sign.OpenParen o
    → IsSign sign.CloseParen c → YieldsIn (readers_in p) (λ r. formal_after_at r None) (u ++ (v ++ c ∷ q)) (Ok (f, v ++ c ∷ q))
    → LoopsIn (readers_in p) is_separated next_field_at (f ∷ []) (v ++ c ∷ q) (Ok (f ∷ fs, c ∷ q))
    → YieldsIn type_readers (type_in_at p) (t ∷ o ∷ (u ++ (v ++ c ∷ q))) (Ok (ty.Rec t.span (f ∷ fs), q))
unfolding type_at
nested-record Declaration t o c u v q may h i j y l =
    yields_unmet _ _ _ (t ∷ o ∷ (u ++ (v ++ c ∷ q))) _ (ap (is_word word.Enum) h)
    (yields_met _ _ _ (t ∷ o ∷ (u ++ (v ++ c ∷ q))) _ (is_that_word word.Rec t h)
    (at_place Declaration record_type_at (t ∷ o ∷ (u ++ (v ++ c ∷ q))) _ (record-yields t o c u v q h i j y l)))
nested-record Elsewhere t o c u v q may h i j y l = absurd may
