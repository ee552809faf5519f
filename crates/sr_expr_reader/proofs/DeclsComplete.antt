-- Names, dimensions and declared names that are spelled are read whole.
use Rattle.std.proofs.Common.{◌≡◌, refl, sym, ◌∙◌, ap, subst, Bool, false, List, [], ◌∷◌, ◌++◌, Option, Ok, append_assoc}
use Rattle.sr_reader.specs.Reader.{next_is}
use Rattle.sr_tree.specs.declared.expr.Expr.{Expr}
use Rattle.sr_tree.specs.declared.name.Name.{Name}
use Rattle.sr_tree.specs.declared.name.QualifiedName.{QualifiedName}
use Rattle.sr_tree.specs.declared.token.Sign.TheVariants as sign
use Rattle.sr_tree.specs.declared.token.Token.{Token}
use Rattle.sr_tree.specs.declared.token.TokenKind.{TokenKind}
use Rattle.sr_tree.specs.declared.token.TokenKind.TheVariants as kind
use Rattle.sr_tree.specs.declared.types.Decl.{Decl}
use Rattle.sr_tree.specs.declared.types.DimsTree.{DimsTree}
use Rattle.sr_tree.specs.declared.types.RangeTree.{RangeTree}
use Rattle.sr_tree.specs.declared.types.RangeTree.TheVariants as range
use Rattle.sr_tree.specs.Expressions as names
use Rattle.sr_tree.specs.Expressions.{SpellsExpr, SpellsQualifiedName, expr_span}
use Rattle.sr_tree.specs.Tables.{IsSign, name_of}
use Rattle.sr_tree.specs.Tests.{is_sign}
use Rattle.sr_tree.specs.Types as g
use Rattle.sr_tree.specs.Types.{SpellsNames, SpellsMoreNames, SpellsRange, SpellsSecondRange, SpellsDims, SpellsDecl, SpellsDecls, SpellsMoreDecls}
use Rattle.sr_expr_reader.specs.Readers.{is_comma, operand_at, qualified_at}
use Rattle.sr_tree.specs.Tokens.{sign_at, name_at}
use Rattle.sr_expr_reader.specs.TypeReaders.{next_name_at, more_names_at, names_at, upper_bound_at, range_at, second_range_at, dims_at, decl_at, next_decl_at, more_decls_at, decls_at}
use Rattle.sr_expr_reader.proofs.ExpressionEdges.{expr-begins, begins-no-sign, continues_expr, token-stops}
use Rattle.sr_expr_reader.proofs.ExpressionsComplete.{complete-operand, operand-below}
use Rattle.sr_expr_reader.proofs.Families.{YieldsIn, below, token_then, below_token, below_then, yields_then, below_returned, yields_returned, yields_met, yields_unmet, below_met, below_unmet}
use Rattle.sr_expr_reader.proofs.ListsComplete.{list-stops, list-goes}
use Rattle.sr_expr_reader.proofs.TokensComplete.{is_that_sign, sign-reads, name-reads, Stops}
use Rattle.sr_expr_reader.proofs.TypesQuiet.{QuietName}
use Rattle.sr_expr_reader.proofs.Yields.{Yields, Loops, loop_yields}

-- first tokens

pub name-first : {n : QualifiedName} {u : List Token} → SpellsQualifiedName n u → (f : TokenKind → Bool) (q : List Token) → next_is (λ t. f t.kind) (u ++ q) ≡ f kind.Name
name-first (names.plain n h) f q = ap f h
name-first (names.qualified n p m h i j) f q = ap f h

pub names-first : {ns : List Name} {u : List Token} → SpellsNames ns u → (f : TokenKind → Bool) (q : List Token) → next_is (λ t. f t.kind) (u ++ q) ≡ f kind.Name
names-first (g.names n h m) f q = ap f h

pub dims-first : {d : DimsTree} {u : List Token} → SpellsDims d u → (f : TokenKind → Bool) (q : List Token) → next_is (λ t. f t.kind) (u ++ q) ≡ f (kind.Sign sign.OpenBracket)
dims-first (g.dims o c h x y i) f q = ap f h

pub decls-first : {ds : List Decl} {u : List Token} → SpellsDecls ds u → (f : TokenKind → Bool) (q : List Token) → next_is (λ t. f t.kind) (u ++ q) ≡ f kind.Name
decls-first (g.decls (g.bare n h) m) f q = ap f h
decls-first (g.decls (g.sized n h d) m) f q = ap f h

-- names

pub complete-name : {R : Type 0} {family : _ → R} {n : QualifiedName} {u : List Token} (d : SpellsQualifiedName n u) (q : List Token) → QuietName d q
    → YieldsIn family (λ r. qualified_at) (u ++ q) (Ok (n, q))
unfolding qualified_at QuietName
complete-name (names.plain n h) q e =
    token_then name_at _ n q (name_of n) _ (name-reads n q h) (below_unmet (λ t. is_sign sign.Point t.kind) _ (λ r. _) q _ e (below_returned _ q))
complete-name (names.qualified n p m h i j) q e =
    token_then name_at _ n (p ∷ m ∷ q) (name_of n) _ (name-reads n (p ∷ m ∷ q) h)
    (below_met (λ t. is_sign sign.Point t.kind) _ (λ r. _) (p ∷ m ∷ q) _ (is_that_sign sign.Point p i)
    (below_token (sign_at sign.Point) _ p (m ∷ q) p.span _ (sign-reads sign.Point p (m ∷ q) i)
    (below_token name_at _ m q (name_of m) _ (name-reads m q j) (below_returned _ q))))

complete_more_names : {ms : List Name} {v : List Token} → SpellsMoreNames ms v → (ns : List Name) (q : List Token) → next_is (λ t. is_sign sign.Comma t.kind) q ≡ false
    → Loops is_comma (λ r. next_name_at) ns (v ++ q) (Ok (ns ++ ms, q))
unfolding next_name_at
complete_more_names g.no_more_names ns q e = list-stops (sign_at sign.Comma) (λ r. name_at) is_comma ns q e
complete_more_names (g.one_more_name {ns = ms} {u = u} comma n h i m) ns q e =
    list-goes (sign_at sign.Comma) (λ r. name_at) is_comma ns comma.span (name_of n) ms comma (n ∷ []) u q (sign-reads sign.Comma comma (n ∷ (u ++ q)) h)
    (is_that_sign sign.Comma comma h) (record { gives = λ k l. name-reads n (u ++ q) i }) (complete_more_names m (ns ++ name_of n ∷ []) q e)

pub complete-names : {ns : List Name} {u : List Token} → SpellsNames ns u → (q : List Token) → next_is (λ t. is_sign sign.Comma t.kind) q ≡ false → Yields names_at (u ++ q) (Ok (ns, q))
unfolding names_at more_names_at
complete-names (g.names {ns = ns} {u = u} n h m) q e =
    token_then name_at _ n (u ++ q) (name_of n) _ (name-reads n (u ++ q) h)
    (below _ (u ++ q) _ (loop_yields is_comma (λ r. next_name_at) (name_of n ∷ []) (u ++ q) _ (complete_more_names m (name_of n ∷ []) q e)))

-- dimensions

no_star : {e : Expr} {u : List Token} → SpellsExpr 5 e u → (q : List Token) → next_is (λ t. is_sign sign.Star t.kind) (u ++ q) ≡ false
no_star {u = u} d q = begins-no-sign sign.Star (u ++ q) refl (expr-begins d q)

pub complete-range : {x : RangeTree} {u : List Token} → SpellsRange x u → (q : List Token) → Stops q → next_is (λ t. is_sign sign.Colon t.kind) q ≡ false → Yields range_at (u ++ q) (Ok (x, q))
unfolding range_at upper_bound_at
complete-range (g.any s h) q st e =
    yields_met _ _ _ (s ∷ q) _ (is_that_sign sign.Star s h) (token_then (sign_at sign.Star) _ s q s.span _ (sign-reads sign.Star s q h) (below_returned _ q))
complete-range (g.length {e = a} {u = u} d) q st e =
    yields_unmet _ _ _ (u ++ q) _ (no_star d q)
    (yields_then (λ r. operand_at r 5) _ u q a _ (complete-operand d q st) (yields_unmet _ _ _ q _ e (yields_returned _ q)))
complete-range (g.from {low = low} {u = u} c s d h i) q st e =
    subst (λ w. Yields range_at w (Ok (range.From (expr_span low) low, q))) (sym (append_assoc u (c ∷ s ∷ []) q))
    (yields_unmet _ _ _ (u ++ c ∷ s ∷ q) _ (no_star d (c ∷ s ∷ q))
    (yields_then (λ r. operand_at r 5) _ u (c ∷ s ∷ q) low _ (complete-operand d (c ∷ s ∷ q) (token-stops c (s ∷ q) (ap continues_expr h)))
    (yields_met _ _ _ (c ∷ s ∷ q) _ (is_that_sign sign.Colon c h)
    (token_then (sign_at sign.Colon) _ c (s ∷ q) c.span _ (sign-reads sign.Colon c (s ∷ q) h)
    (below_met _ _ _ (s ∷ q) _ (is_that_sign sign.Star s i)
    (below_token (sign_at sign.Star) _ s q s.span _ (sign-reads sign.Star s q i) (below_returned _ q)))))))
complete-range (g.bounds {low = low} {high = high} {u = u} {v = v} c d h f) q st e =
    subst (λ w. Yields range_at w (Ok (range.Bounds (expr_span low) low high, q))) (sym (append_assoc u (c ∷ v) q))
    (yields_unmet _ _ _ (u ++ c ∷ (v ++ q)) _ (no_star d (c ∷ (v ++ q)))
    (yields_then (λ r. operand_at r 5) _ u (c ∷ (v ++ q)) low _ (complete-operand d (c ∷ (v ++ q)) (token-stops c (v ++ q) (ap continues_expr h)))
    (yields_met _ _ _ (c ∷ (v ++ q)) _ (is_that_sign sign.Colon c h)
    (token_then (sign_at sign.Colon) _ c (v ++ q) c.span _ (sign-reads sign.Colon c (v ++ q) h)
    (below_unmet _ _ _ (v ++ q) _ (no_star f q)
    (below_then (λ r. r.operand 5) _ v q high _ (operand-below f q st) (below_returned _ q)))))))

second_range_stops : {x : Option RangeTree} {v : List Token} → SpellsSecondRange x v → (k : Token) (q : List Token) → IsSign sign.CloseBracket k → Stops (v ++ k ∷ q)
second_range_stops g.no_second_range k q h = token-stops k q (ap continues_expr h)
second_range_stops (g.second_range {u = u} comma h d) k q i = token-stops comma (u ++ k ∷ q) (ap continues_expr h)

second_range_colon : {x : Option RangeTree} {v : List Token} → SpellsSecondRange x v → (k : Token) (q : List Token) → IsSign sign.CloseBracket k
    → next_is (λ t. is_sign sign.Colon t.kind) (v ++ k ∷ q) ≡ false
second_range_colon g.no_second_range k q h = ap (is_sign sign.Colon) h
second_range_colon (g.second_range comma h d) k q i = ap (is_sign sign.Colon) h

complete_second : {x : Option RangeTree} {v : List Token} → SpellsSecondRange x v → (k : Token) (q : List Token) → IsSign sign.CloseBracket k → Yields second_range_at (v ++ k ∷ q) (Ok (x, k ∷ q))
unfolding second_range_at
complete_second g.no_second_range k q h = yields_unmet _ _ _ (k ∷ q) _ (ap (is_sign sign.Comma) h) (yields_returned _ (k ∷ q))
complete_second (g.second_range {r = x} {u = u} comma h d) k q i =
    yields_met _ _ _ (comma ∷ (u ++ k ∷ q)) _ (is_that_sign sign.Comma comma h)
    (token_then (sign_at sign.Comma) _ comma (u ++ k ∷ q) comma.span _ (sign-reads sign.Comma comma (u ++ k ∷ q) h)
    (below_then range_at _ u (k ∷ q) x _ (below range_at (u ++ k ∷ q) _ (complete-range d (k ∷ q) (token-stops k q (ap continues_expr i)) (ap (is_sign sign.Colon) i))) (below_returned _ (k ∷ q))))

pub complete-dims : {d : DimsTree} {u : List Token} → SpellsDims d u → (q : List Token) → Yields dims_at (u ++ q) (Ok (d, q))
unfolding dims_at
complete-dims (g.dims {r = x} {second = y} {u = u} {v = v} o k h d s i) q =
    subst (λ w. Yields dims_at (o ∷ w) (Ok (record { span = o.span; first = x; second = y }, q)))
    (ap (λ w. u ++ w) (sym (append_assoc v (k ∷ []) q)) ∙ sym (append_assoc u (v ++ k ∷ []) q))
    (token_then (sign_at sign.OpenBracket) _ o (u ++ (v ++ k ∷ q)) o.span _ (sign-reads sign.OpenBracket o (u ++ (v ++ k ∷ q)) h)
    (below_then range_at _ u (v ++ k ∷ q) x _ (below range_at (u ++ (v ++ k ∷ q)) _ (complete-range d (v ++ k ∷ q) (second_range_stops s k q i) (second_range_colon s k q i)))
    (below_then second_range_at _ v (k ∷ q) y _ (below second_range_at (v ++ k ∷ q) _ (complete_second s k q i))
    (below_token (sign_at sign.CloseBracket) _ k q k.span _ (sign-reads sign.CloseBracket k q i) (below_returned _ q)))))

-- declared names

pub complete-decl : {d : Decl} {u : List Token} → SpellsDecl d u → (q : List Token) → next_is (λ t. is_sign sign.OpenBracket t.kind) q ≡ false → Yields decl_at (u ++ q) (Ok (d, q))
unfolding decl_at
complete-decl (g.bare n h) q e =
    token_then name_at _ n q (name_of n) _ (name-reads n q h) (below_unmet _ _ _ q _ e (below_returned _ q))
complete-decl (g.sized {d = d} {u = u} n h x) q e =
    token_then name_at _ n (u ++ q) (name_of n) _ (name-reads n (u ++ q) h)
    (below_met _ _ _ (u ++ q) _ (dims-first x (is_sign sign.OpenBracket) q)
    (below_then dims_at _ u q d _ (below dims_at (u ++ q) _ (complete-dims x q)) (below_returned _ q)))

more_decls_bracket : {es : List Decl} {v : List Token} → SpellsMoreDecls es v → (q : List Token) → next_is (λ t. is_sign sign.OpenBracket t.kind) q ≡ false
    → next_is (λ t. is_sign sign.OpenBracket t.kind) (v ++ q) ≡ false
more_decls_bracket g.no_more_decls q e = e
more_decls_bracket (g.one_more_decl comma h d m) q e = ap (is_sign sign.OpenBracket) h

complete_more_decls : {es : List Decl} {v : List Token} → SpellsMoreDecls es v → (ds : List Decl) (q : List Token) → next_is (λ t. is_sign sign.OpenBracket t.kind) q ≡ false
    → next_is (λ t. is_sign sign.Comma t.kind) q ≡ false → Loops is_comma next_decl_at ds (v ++ q) (Ok (ds ++ es, q))
unfolding next_decl_at
complete_more_decls g.no_more_decls ds q e f = list-stops (sign_at sign.Comma) decl_at is_comma ds q f
complete_more_decls (g.one_more_decl {d = d} {ds = es} {u = u} {v = v} comma h x m) ds q e f =
    list-goes (sign_at sign.Comma) decl_at is_comma ds comma.span d es comma u v q (sign-reads sign.Comma comma (u ++ (v ++ q)) h) (is_that_sign sign.Comma comma h)
    (below decl_at (u ++ (v ++ q)) _ (complete-decl x (v ++ q) (more_decls_bracket m q e))) (complete_more_decls m (ds ++ d ∷ []) q e f)

pub complete-decls : {ds : List Decl} {u : List Token} → SpellsDecls ds u → (q : List Token) → next_is (λ t. is_sign sign.OpenBracket t.kind) q ≡ false
    → next_is (λ t. is_sign sign.Comma t.kind) q ≡ false → Yields decls_at (u ++ q) (Ok (ds, q))
unfolding decls_at more_decls_at
complete-decls (g.decls {d = d} {ds = ds} {u = u} {v = v} x m) q e f =
    subst (λ w. Yields decls_at w (Ok (d ∷ ds, q))) (sym (append_assoc u v q))
    (yields_then decl_at _ u (v ++ q) d _ (complete-decl x (v ++ q) (more_decls_bracket m q e))
    (loop_yields is_comma next_decl_at (d ∷ []) (v ++ q) _ (complete_more_decls m (d ∷ []) q e f)))
