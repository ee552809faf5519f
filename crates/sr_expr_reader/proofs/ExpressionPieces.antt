-- What each reader of a piece of an expression gives where its parts are read.
use Rattle.std.proofs.Common.{◌≡◌, sym, ◌∙◌, ap, subst, ℕ, true, false, List, [], ◌∷◌, ◌++◌, Option, Some, None, Result, Ok, ◌⊎◌, inl, inr, append_assoc}
use Rattle.std.specs.Prelude.{is_some, if◌then◌else◌}
use Rattle.sr_reader.specs.Reader.{returned, next_is}
use Rattle.sr_value.specs.declared.place.Span.{Span}
use Rattle.sr_tree.specs.declared.expr.BasicType.{BasicType}
use Rattle.sr_tree.specs.declared.expr.BasicType.TheVariants as basic
use Rattle.sr_tree.specs.declared.expr.BinaryOperator.{BinaryOperator}
use Rattle.sr_tree.specs.declared.expr.Conversion.{Conversion}
use Rattle.sr_tree.specs.declared.expr.Conversion.TheVariants as conversion
use Rattle.sr_tree.specs.declared.expr.Create.{Create}
use Rattle.sr_tree.specs.declared.expr.Create.TheVariants as create
use Rattle.sr_tree.specs.declared.expr.Expr.{Expr, out-Expr}
use Rattle.sr_tree.specs.declared.expr.Expr.TheVariants as expr
use Rattle.sr_tree.specs.declared.expr.Part.{Part}
use Rattle.sr_tree.specs.declared.name.QualifiedName.{QualifiedName}
use Rattle.sr_tree.specs.declared.token.Sign.TheVariants as sign
use Rattle.sr_tree.specs.declared.token.Token.{Token}
use Rattle.sr_tree.specs.declared.token.Word.TheVariants as word
use Rattle.sr_tree.specs.Expressions as g
use Rattle.sr_tree.specs.Expressions.{SpellsExpr, SpellsFactor, SpellsCreate, SpellsPrimary, SpellsSecond, SpellsMoreParts, SpellsMoreExprs, SpellsQualifiedName, expr_span, part, invocation, is_conversion_word, is_array}
use Rattle.sr_tree.specs.Tables.{IsSign, IsWord, IsName, name_of, literal_of, basic_of, conversion_of, unary_of, binary_of, right_level}
use Rattle.sr_tree.specs.Tests.{is_sign, is_word, is_name}
use Rattle.sr_expr_reader.specs.Readers.{binary_at, unary_at, literal_at, conversion_at, qualified_at, enclosed_at, is_comma, next_argument_at, more_arguments_at, arguments_at, on_at, create_at, repeated_part_at, part_at, next_part_at, more_parts_at, array_at, bracketed_at, unconverted_at, converted_at, start_at, field_at, second_at, index_at, call_at, is_callable, is_suffix, suffix_at, suffixes_at, primary_at, signed_at, pending_at, factor_at, is_operator, operation_at, operators_at, operand_at}
use Rattle.sr_tree.specs.Tokens.{sign_at, word_at, name_at}
use Rattle.sr_expr_reader.proofs.ExpressionsSound.{alone}
use Rattle.sr_expr_reader.proofs.Quiet.{QuietExpr, stops-quiet}
use Rattle.sr_expr_reader.proofs.TokensComplete.{is_that_sign, is_that_word, sign-reads, word-reads, name-reads, binary-reads, unary-reads, literal-reads, conversion-reads, only_literal, basic_cases, Stops, comma-stops, paren-stops, bracket-stops, stops-operator, unary_create, IsNoPrefix, sign_starts, name_starts, literal_starts, conversion_starts, basic_starts, unary_opens}
use Rattle.sr_expr_reader.proofs.Families.{below, token_then, below_token, below_then, yields_then, below_returned, yields_returned, yields_met, yields_unmet, below_met, below_unmet, below_seq, loop_stops}
use Rattle.sr_expr_reader.proofs.Yields.{Yields, Below, Loops, below-operand, loop_yields}

-- first tokens

pub record Starts (q : List Token) : Type 0 where
  pub create : next_is (λ t. is_word word.Create t.kind) q ≡ false
  pub unary : next_is (λ t. is_some (unary_of t.kind)) q ≡ false
  pub query : next_is (λ t. is_sign sign.Query t.kind) q ≡ false
  pub bracket : next_is (λ t. is_sign sign.OpenBracket t.kind) q ≡ false
  pub closing : next_is (λ t. is_sign sign.CloseParen t.kind) q ≡ false

pub from_kind : (t : Token) (q : List Token) → IsNoPrefix t.kind → Starts (t ∷ q)
from_kind t q p = record { create = p.create; unary = p.unary; query = p.query; bracket = p.bracket; closing = p.closing }

pub primary-starts : {e : Expr} {u : List Token} → SpellsPrimary e u → (q : List Token) → Starts (u ++ q)
primary-starts (g.literal t l h) q = from_kind t q (literal_starts t.kind t.text l h)
primary-starts (g.name t h) q = from_kind t q (name_starts t h)
primary-starts (g.basic_type t b h) q = from_kind t q (basic_starts t.kind b h)
primary-starts (g.conversion {u = u} t o k c h i d j) q = from_kind t (o ∷ (u ++ k ∷ []) ++ q) (conversion_starts t.kind c h)
primary-starts (g.group {u = u} o k h d i) q = from_kind o ((u ++ k ∷ []) ++ q) (sign_starts o h)
primary-starts (g.parts {u = u} {v = v} o k h d m a i) q = from_kind o ((u ++ (v ++ k ∷ [])) ++ q) (sign_starts o h)
primary-starts (g.field {u = u} p n d h i) q = subst Starts (sym (append_assoc u (p ∷ n ∷ []) q)) (primary-starts d (p ∷ n ∷ q))
primary-starts (g.index {u = u} {v = v} {w = w} o k d h f s i) q =
    subst Starts (sym (append_assoc u (o ∷ (v ++ (w ++ k ∷ []))) q)) (primary-starts d ((o ∷ (v ++ (w ++ k ∷ []))) ++ q))
primary-starts (g.call {u = u} {v = v} o k d n h a i) q =
    subst Starts (sym (append_assoc u (o ∷ (v ++ k ∷ [])) q)) (primary-starts d ((o ∷ (v ++ k ∷ [])) ++ q))

pub create-starts : {c : Create} {u : List Token} → SpellsCreate c u → (q : List Token)
    → (next_is (λ t. is_word word.Create t.kind) (u ++ q) ≡ true) × (next_is (λ t. is_sign sign.OpenBracket t.kind) (u ++ q) ≡ false) × (next_is (λ t. is_sign sign.CloseParen t.kind) (u ++ q) ≡ false)
create-starts (g.resource t o k h n i d j on) q = (is_that_word word.Create t h, ap (is_sign sign.OpenBracket) h, ap (is_sign sign.CloseParen) h)
create-starts (g.machine t v o k h i j l) q = (is_that_word word.Create t h, ap (is_sign sign.OpenBracket) h, ap (is_sign sign.CloseParen) h)

-- no bracket opens an expression, and none closes before it
pub record Opens (q : List Token) : Type 0 where
  pub bracket : next_is (λ t. is_sign sign.OpenBracket t.kind) q ≡ false
  pub closing : next_is (λ t. is_sign sign.CloseParen t.kind) q ≡ false

pub factor-opens : {e : Expr} {u : List Token} → SpellsFactor e u → (q : List Token) → Opens (u ++ q)
factor-opens (g.creates d) q = let c = create-starts d q in record { bracket = c.1; closing = c.2 }
factor-opens (g.primary d) q = let s = primary-starts d q in record { bracket = s.bracket; closing = s.closing }
factor-opens (g.unary {u = u} t o h d) q = let c = unary_opens t.kind o h in record { bracket = c.0; closing = c.1 }
factor-opens (g.pending t n h i) q = record { bracket = ap (is_sign sign.OpenBracket) h; closing = ap (is_sign sign.CloseParen) h }

pub expr-opens : {m : ℕ} {e : Expr} {u : List Token} → SpellsExpr m e u → (q : List Token) → Opens (u ++ q)
expr-opens (g.factor d) q = factor-opens d q
expr-opens (g.binary {u = u} {v = v} t o h i a d) q = subst Opens (sym (append_assoc u (t ∷ v) q)) (expr-opens a (t ∷ (v ++ q)))

-- the tokens after a part of a list stop it
pub more-stops : {es : List Expr} {v : List Token} → SpellsMoreExprs es v → (k : Token) (q : List Token) → IsSign sign.CloseParen k → Stops (v ++ k ∷ q)
more-stops g.no_more_exprs k q h = paren-stops k q h
more-stops (g.one_more_expr {u = u} {v = v} comma h d m) k q i = comma-stops comma ((u ++ v) ++ k ∷ q) h

pub parts-stop : {ps : List Part} {v : List Token} → SpellsMoreParts ps v → (k : Token) (q : List Token) → IsSign sign.CloseParen k → Stops (v ++ k ∷ q)
parts-stop g.no_more_parts k q h = paren-stops k q h
parts-stop (g.one_more_part {u = u} {v = v} comma h d m) k q i = comma-stops comma ((u ++ v) ++ k ∷ q) h

pub second-stops : {e : Option Expr} {v : List Token} → SpellsSecond e v → (k : Token) (q : List Token) → IsSign sign.CloseBracket k → Stops (v ++ k ∷ q)
second-stops g.no_second k q h = bracket-stops k q h
second-stops (g.second {u = u} comma h d) k q i = comma-stops comma (u ++ k ∷ q) h

-- an expression inside brackets

pub inner : {e : Expr} {u : List Token} (d : SpellsExpr 5 e u) (q : List Token) → Stops q
    → ((q : List Token) (z : Result (Expr × List Token) ℕ) → QuietExpr d q → Loops (is_operator 5) operation_at e q z → Yields (λ r. operand_at r 5) (u ++ q) z)
    → Below (λ r. r.operand 5) (u ++ q) (Ok (e, q))
inner {e = e} {u = u} d q st w = below-operand 5 (u ++ q) (Ok (e, q)) (w q (Ok (e, q)) (stops-quiet d q st) (loop_stops (is_operator 5) operation_at e q (stops-operator 5 e q st)))

-- names

pub complete-qualified : {n : QualifiedName} {u : List Token} → SpellsQualifiedName n u → (q : List Token) → next_is (λ t. is_sign sign.Point t.kind) q ≡ false
    → Below (λ r. qualified_at) (u ++ q) (Ok (n, q))
unfolding qualified_at
complete-qualified (g.plain n h) q e =
    below_token name_at _ n q (name_of n) _ (name-reads n q h)
    (below_unmet (λ t. is_sign sign.Point t.kind) _ (λ r. returned _) q _ e (below_returned _ q))
complete-qualified (g.qualified n p m h i j) q e =
    below_token name_at _ n (p ∷ m ∷ q) (name_of n) _ (name-reads n (p ∷ m ∷ q) h)
    (below_met (λ t. is_sign sign.Point t.kind) _ (λ r. returned _) (p ∷ m ∷ q) _ (is_that_sign sign.Point p i)
    (below_token (sign_at sign.Point) _ p (m ∷ q) p.span _ (sign-reads sign.Point p (m ∷ q) i)
    (below_token name_at _ m q (name_of m) _ (name-reads m q j) (below_returned _ q))))

pub qualified-starts : {n : QualifiedName} {u : List Token} → SpellsQualifiedName n u → (q : List Token) → next_is (λ t. is_word word.Vm t.kind) (u ++ q) ≡ false
qualified-starts (g.plain n h) q = ap (is_word word.Vm) h
qualified-starts (g.qualified n p m h i j) q = ap (is_word word.Vm) h

abbrev pub with_primary : (p : Expr) (q : List Token) → Type 0
with_primary p q = is_conversion_word p ≡ true → next_is (λ t. is_sign sign.OpenParen t.kind) q ≡ false

-- a start and what continues it
pub begins : (u q : List Token) (p : Expr) (z : Result (Expr × List Token) ℕ) → Yields start_at (u ++ q) (Ok (p, q)) → Loops is_suffix suffix_at p q z → Yields primary_at (u ++ q) z
unfolding primary_at suffixes_at
begins u q p z y l = yields_then start_at (λ r e. suffixes_at r e) u q p z y (loop_yields is_suffix suffix_at p q z l)

pub start-literal : (t : Token) (a : _) (q : List Token) → literal_of t.kind t.text ≡ Some a → Yields start_at (t ∷ q) (Ok (expr.Literal t.span a, q))
unfolding start_at
start-literal t a q h =
    let only = only_literal t.kind t.text a h in
    yields_unmet _ converted_at _ (t ∷ q) _ only.conversion
    (yields_unmet _ bracketed_at _ (t ∷ q) _ only.paren
    (yields_unmet _ _ _ (t ∷ q) _ only.name
    (yields_unmet _ _ _ (t ∷ q) _ only.bool
    (token_then literal_at _ t q (t.span, a) _ (literal-reads t a q h) (below_returned _ q)))))

pub start-name : (t : Token) (q : List Token) → IsName t → Yields start_at (t ∷ q) (Ok (expr.Name (name_of t), q))
unfolding start_at
start-name t q h =
    yields_unmet _ converted_at _ (t ∷ q) _ (ap (λ k. is_some (conversion_of k)) h)
    (yields_unmet _ bracketed_at _ (t ∷ q) _ (ap (is_sign sign.OpenParen) h)
    (yields_met _ _ _ (t ∷ q) _ (ap is_name h)
    (token_then name_at _ t q (name_of t) _ (name-reads t q h) (below_returned _ q))))

pub start-bool : (t : Token) (q : List Token) → IsWord word.Bool t → Yields start_at (t ∷ q) (Ok (expr.BasicType t.span basic.Bool, q))
unfolding start_at
start-bool t q h =
    yields_unmet _ converted_at _ (t ∷ q) _ (ap (λ k. is_some (conversion_of k)) h)
    (yields_unmet _ bracketed_at _ (t ∷ q) _ (ap (is_sign sign.OpenParen) h)
    (yields_unmet _ _ _ (t ∷ q) _ (ap is_name h)
    (yields_met _ _ _ (t ∷ q) _ (is_that_word word.Bool t h)
    (token_then (word_at word.Bool) _ t q t.span _ (word-reads word.Bool t q h) (below_returned _ q)))))

pub unconverted-yields : (s : Span) (c : Conversion) (b : BasicType) (q : List Token) → alone c ≡ Some b → Yields (λ r. unconverted_at s c) q (Ok (expr.BasicType s b, q))
unfolding unconverted_at
unconverted-yields s conversion.Int b q h = subst (λ x. Yields (λ r. unconverted_at s conversion.Int) q (Ok (expr.BasicType s x, q))) (same basic.Int b h) (yields_returned _ q)
  where
    same : (x y : BasicType) → Some x ≡ Some y → x ≡ y
    same x y e = cc
unconverted-yields s conversion.Char b q h = subst (λ x. Yields (λ r. unconverted_at s conversion.Char) q (Ok (expr.BasicType s x, q))) (same basic.Char b h) (yields_returned _ q)
  where
    same : (x y : BasicType) → Some x ≡ Some y → x ≡ y
    same x y e = cc
unconverted-yields s conversion.Str b q h = absurd (differs b h)
  where
    differs : (b : BasicType) → None ≡ Some b → ⊥
    differs b e = cc

pub start-alone : (t : Token) (c : Conversion) (b : BasicType) (q : List Token) → conversion_of t.kind ≡ Some c → alone c ≡ Some b
    → next_is (λ t. is_sign sign.OpenParen t.kind) q ≡ false → Yields start_at (t ∷ q) (Ok (expr.BasicType t.span b, q))
unfolding start_at converted_at
start-alone t c b q h i e =
    yields_met _ _ _ (t ∷ q) _ (ap is_some h)
    (token_then conversion_at _ t q (t.span, c) _ (conversion-reads t c q h)
    (below_unmet _ _ _ q _ e (below _ q _ (unconverted-yields t.span c b q i))))

pub conversion-word : (s : Span) (c : Conversion) (b : BasicType) → alone c ≡ Some b → is_conversion_word (expr.BasicType s b) ≡ true
unfolding out-Expr denote.Hole.Carrier.out
conversion-word s conversion.Int b h = ap (λ m. elim m [ Some x ↦ elim x [ basic.Int ↦ true | basic.Char ↦ true | basic.Bool ↦ false ] | None ↦ true ]) (sym h)
conversion-word s conversion.Char b h = ap (λ m. elim m [ Some x ↦ elim x [ basic.Int ↦ true | basic.Char ↦ true | basic.Bool ↦ false ] | None ↦ true ]) (sym h)
conversion-word s conversion.Str b h = ap (λ m. elim m [ Some x ↦ elim x [ basic.Int ↦ true | basic.Char ↦ true | basic.Bool ↦ false ] | None ↦ true ]) (sym h)

pub start-basic : (t : Token) (b : BasicType) (q : List Token) → basic_of t.kind ≡ Some b → with_primary (expr.BasicType t.span b) q → Yields start_at (t ∷ q) (Ok (expr.BasicType t.span b, q))
start-basic t b q h w = by_case (basic_cases t.kind b h)
  where
    by_case : ((c : Conversion) × (conversion_of t.kind ≡ Some c) × (alone c ≡ Some b)) ⊎ (IsWord word.Bool t × (b ≡ basic.Bool)) → Yields start_at (t ∷ q) (Ok (expr.BasicType t.span b, q))
    by_case (inl c) = start-alone t c.0 b q c.1 c.2 (w (conversion-word t.span c.0 b c.2))
    by_case (inr p) = subst (λ x. Yields start_at (t ∷ q) (Ok (expr.BasicType t.span x, q))) (sym p.1) (start-bool t q p.0)

pub start-conversion : {e : Expr} (t o k : Token) (c : Conversion) (u q : List Token) → conversion_of t.kind ≡ Some c → IsSign sign.OpenParen o → IsSign sign.CloseParen k
    → Below (λ r. r.operand 5) (u ++ k ∷ q) (Ok (e, k ∷ q)) → Yields start_at (t ∷ o ∷ (u ++ k ∷ q)) (Ok (expr.Conversion t.span c e, q))
unfolding start_at converted_at enclosed_at
start-conversion {e = e} t o k c u q h i j b =
    yields_met _ _ _ (t ∷ o ∷ (u ++ k ∷ q)) _ (ap is_some h)
    (token_then conversion_at _ t (o ∷ (u ++ k ∷ q)) (t.span, c) _ (conversion-reads t c (o ∷ (u ++ k ∷ q)) h)
    (below_met _ _ _ (o ∷ (u ++ k ∷ q)) _ (is_that_sign sign.OpenParen o i)
    (below_seq enclosed_at _ (o ∷ (u ++ k ∷ q)) (o ∷ (u ++ k ∷ [])) q (o.span, e) _ (ap (λ w. o ∷ w) (sym (append_assoc u (k ∷ []) q)))
    (below_token (sign_at sign.OpenParen) _ o (u ++ k ∷ q) o.span _ (sign-reads sign.OpenParen o (u ++ k ∷ q) i)
    (below_then (λ r. r.operand 5) _ u (k ∷ q) e _ b
    (below_token (sign_at sign.CloseParen) _ k q k.span _ (sign-reads sign.CloseParen k q j) (below_returned _ q))))
    (below_returned _ q))))

-- at an opening bracket
pub start-bracket : (o : Token) (w : List Token) (z : Result (Expr × List Token) ℕ) → IsSign sign.OpenParen o → Yields bracketed_at (o ∷ w) z → Yields start_at (o ∷ w) z
unfolding start_at
start-bracket o w z h y =
    yields_unmet _ converted_at _ (o ∷ w) z (ap (λ k. is_some (conversion_of k)) h)
    (yields_met _ bracketed_at _ (o ∷ w) z (is_that_sign sign.OpenParen o h) y)

pub bracketed-group : {e : Expr} (o k : Token) (u q : List Token) → IsSign sign.OpenParen o → IsSign sign.CloseParen k → Opens (u ++ k ∷ q)
    → Below (λ r. r.operand 5) (u ++ k ∷ q) (Ok (e, k ∷ q)) → Yields bracketed_at (o ∷ (u ++ k ∷ q)) (Ok (expr.Group o.span e, q))
unfolding bracketed_at
bracketed-group {e = e} o k u q h i op b =
    token_then (sign_at sign.OpenParen) _ o (u ++ k ∷ q) o.span _ (sign-reads sign.OpenParen o (u ++ k ∷ q) h)
    (below_unmet _ _ _ (u ++ k ∷ q) _ op.bracket
    (below_then (λ r. r.operand 5) _ u (k ∷ q) e _ b
    (below_unmet _ _ _ (k ∷ q) _ (ap (is_sign sign.Comma) i)
    (below_token (sign_at sign.CloseParen) _ k q k.span _ (sign-reads sign.CloseParen k q i) (below_returned _ q)))))

-- lists

pub next-argument : {e : Expr} (es : List Expr) (comma : Token) (u q : List Token) → IsSign sign.Comma comma → Below (λ r. r.operand 5) (u ++ q) (Ok (e, q))
    → Yields (λ r. next_argument_at r es) (comma ∷ (u ++ q)) (Ok (es ++ e ∷ [], q))
unfolding next_argument_at
next-argument {e = e} es comma u q h b =
    token_then (sign_at sign.Comma) _ comma (u ++ q) comma.span _ (sign-reads sign.Comma comma (u ++ q) h)
    (below_then (λ r. r.operand 5) _ u q e _ b (below_returned _ q))

pub next-part : {p : Part} (ps : List Part) (comma : Token) (u q : List Token) → IsSign sign.Comma comma → Below part_at (u ++ q) (Ok (p, q))
    → Yields (λ r. next_part_at r ps) (comma ∷ (u ++ q)) (Ok (ps ++ p ∷ [], q))
unfolding next_part_at
next-part {p = p} ps comma u q h b =
    token_then (sign_at sign.Comma) _ comma (u ++ q) comma.span _ (sign-reads sign.Comma comma (u ++ q) h)
    (below_then part_at _ u q p _ b (below_returned _ q))

pub array-yields : (s : Span) (ps qs : List Part) (v : List Token) (k : Token) (q : List Token) → IsSign sign.CloseParen k
    → Loops is_comma next_part_at ps (v ++ k ∷ q) (Ok (ps ++ qs, k ∷ q)) → Yields (λ r. array_at r s ps) (v ++ k ∷ q) (Ok (expr.Parts s (ps ++ qs), q))
unfolding array_at more_parts_at
array-yields s ps qs v k q h l =
    yields_then (λ r. more_parts_at r ps) _ v (k ∷ q) (ps ++ qs) _ (loop_yields is_comma next_part_at ps (v ++ k ∷ q) _ l)
    (token_then (sign_at sign.CloseParen) _ k q k.span _ (sign-reads sign.CloseParen k q h) (below_returned _ q))

pub once-below : {e : Expr} (u q : List Token) → Opens (u ++ q) → Below (λ r. r.operand 5) (u ++ q) (Ok (e, q)) → Below part_at (u ++ q) (Ok (part (expr_span e) None e, q))
unfolding part_at
once-below {e = e} u q op b = below_unmet _ repeated_part_at _ (u ++ q) _ op.bracket (below_then (λ r. r.operand 5) _ u q e _ b (below_returned _ q))

pub repeated-yields : {c e : Expr} (o k : Token) (u v q : List Token) → IsSign sign.OpenBracket o → IsSign sign.CloseBracket k
    → Below (λ r. r.operand 5) (u ++ k ∷ (v ++ q)) (Ok (c, k ∷ (v ++ q))) → Below (λ r. r.operand 5) (v ++ q) (Ok (e, q))
    → Yields repeated_part_at (o ∷ (u ++ k ∷ (v ++ q))) (Ok (part o.span (Some c) e, q))
unfolding repeated_part_at
repeated-yields {c = c} {e = e} o k u v q h i b d =
    token_then (sign_at sign.OpenBracket) _ o (u ++ k ∷ (v ++ q)) o.span _ (sign-reads sign.OpenBracket o (u ++ k ∷ (v ++ q)) h)
    (below_then (λ r. r.operand 5) _ u (k ∷ (v ++ q)) c _ b
    (below_token (sign_at sign.CloseBracket) _ k (v ++ q) k.span _ (sign-reads sign.CloseBracket k (v ++ q) i)
    (below_then (λ r. r.operand 5) _ v q e _ d (below_returned _ q))))

pub part-at-bracket : (o : Token) (w : List Token) (z : Result (Part × List Token) ℕ) → IsSign sign.OpenBracket o → Yields repeated_part_at (o ∷ w) z → Below part_at (o ∷ w) z
unfolding part_at
part-at-bracket o w z h y = below_met _ repeated_part_at _ (o ∷ w) z (is_that_sign sign.OpenBracket o h) (below repeated_part_at (o ∷ w) z y)

pub bracketed-repeated : {p : Part} {ps : List Part} (o b k : Token) (w v q : List Token) → IsSign sign.OpenParen o → IsSign sign.OpenBracket b → IsSign sign.CloseParen k
    → Yields repeated_part_at (b ∷ (w ++ (v ++ k ∷ q))) (Ok (p, v ++ k ∷ q)) → Loops is_comma next_part_at (p ∷ []) (v ++ k ∷ q) (Ok (p ∷ ps, k ∷ q))
    → Yields bracketed_at (o ∷ b ∷ (w ++ (v ++ k ∷ q))) (Ok (expr.Parts o.span (p ∷ ps), q))
unfolding bracketed_at
bracketed-repeated {p = p} {ps = ps} o b k w v q h i j y l =
    token_then (sign_at sign.OpenParen) _ o (b ∷ (w ++ (v ++ k ∷ q))) o.span _ (sign-reads sign.OpenParen o (b ∷ (w ++ (v ++ k ∷ q))) h)
    (below_met _ _ _ (b ∷ (w ++ (v ++ k ∷ q))) _ (is_that_sign sign.OpenBracket b i)
    (below_then repeated_part_at _ (b ∷ w) (v ++ k ∷ q) p _ (below repeated_part_at (b ∷ (w ++ (v ++ k ∷ q))) _ y)
    (below _ (v ++ k ∷ q) _ (array-yields o.span (p ∷ []) ps v k q j l))))

pub bracketed-several : {e : Expr} {p : Part} {ps : List Part} (o comma k : Token) (u w v q : List Token) → IsSign sign.OpenParen o → IsSign sign.Comma comma → IsSign sign.CloseParen k
    → Opens (u ++ comma ∷ (w ++ (v ++ k ∷ q)))
    → Below (λ r. r.operand 5) (u ++ comma ∷ (w ++ (v ++ k ∷ q))) (Ok (e, comma ∷ (w ++ (v ++ k ∷ q))))
    → Below part_at (w ++ (v ++ k ∷ q)) (Ok (p, v ++ k ∷ q))
    → Loops is_comma next_part_at (part (expr_span e) None e ∷ p ∷ []) (v ++ k ∷ q) (Ok (part (expr_span e) None e ∷ p ∷ ps, k ∷ q))
    → Yields bracketed_at (o ∷ (u ++ comma ∷ (w ++ (v ++ k ∷ q)))) (Ok (expr.Parts o.span (part (expr_span e) None e ∷ p ∷ ps), q))
unfolding bracketed_at
bracketed-several {e = e} {p = p} {ps = ps} o comma k u w v q h i j op b d l =
    token_then (sign_at sign.OpenParen) _ o (u ++ comma ∷ (w ++ (v ++ k ∷ q))) o.span _ (sign-reads sign.OpenParen o _ h)
    (below_unmet _ _ _ (u ++ comma ∷ (w ++ (v ++ k ∷ q))) _ op.bracket
    (below_then (λ r. r.operand 5) _ u (comma ∷ (w ++ (v ++ k ∷ q))) e _ b
    (below_met _ _ _ (comma ∷ (w ++ (v ++ k ∷ q))) _ (is_that_sign sign.Comma comma i)
    (below_then (λ r. next_part_at r (part (expr_span e) None e ∷ [])) _ (comma ∷ w) (v ++ k ∷ q) (part (expr_span e) None e ∷ p ∷ []) _
    (below _ (comma ∷ (w ++ (v ++ k ∷ q))) _ (next-part (part (expr_span e) None e ∷ []) comma w (v ++ k ∷ q) i d))
    (below _ (v ++ k ∷ q) _ (array-yields o.span (part (expr_span e) None e ∷ p ∷ []) ps v k q j l))))))

-- arguments in brackets

pub no-arguments : (o k : Token) (q : List Token) → IsSign sign.OpenParen o → IsSign sign.CloseParen k → Yields arguments_at (o ∷ k ∷ q) (Ok ([], q))
unfolding arguments_at
no-arguments o k q h i =
    token_then (sign_at sign.OpenParen) _ o (k ∷ q) o.span _ (sign-reads sign.OpenParen o (k ∷ q) h)
    (below_met _ _ _ (k ∷ q) _ (is_that_sign sign.CloseParen k i)
    (below_token (sign_at sign.CloseParen) _ k q k.span _ (sign-reads sign.CloseParen k q i) (below_returned [] q)))

pub some-arguments : {e : Expr} {es : List Expr} (o k : Token) (u v q : List Token) → IsSign sign.OpenParen o → IsSign sign.CloseParen k → Opens (u ++ (v ++ k ∷ q))
    → Below (λ r. r.operand 5) (u ++ (v ++ k ∷ q)) (Ok (e, v ++ k ∷ q)) → Loops is_comma next_argument_at (e ∷ []) (v ++ k ∷ q) (Ok (e ∷ es, k ∷ q))
    → Yields arguments_at (o ∷ (u ++ (v ++ k ∷ q))) (Ok (e ∷ es, q))
unfolding arguments_at more_arguments_at
some-arguments {e = e} {es = es} o k u v q h i op b l =
    token_then (sign_at sign.OpenParen) _ o (u ++ (v ++ k ∷ q)) o.span _ (sign-reads sign.OpenParen o (u ++ (v ++ k ∷ q)) h)
    (below_unmet _ _ _ (u ++ (v ++ k ∷ q)) _ op.closing
    (below_then (λ r. r.operand 5) _ u (v ++ k ∷ q) e _ b
    (below_then (λ r. more_arguments_at r (e ∷ [])) _ v (k ∷ q) (e ∷ es) _
    (below _ (v ++ k ∷ q) _ (loop_yields is_comma next_argument_at (e ∷ []) (v ++ k ∷ q) _ l))
    (below_token (sign_at sign.CloseParen) _ k q k.span _ (sign-reads sign.CloseParen k q i) (below_returned (e ∷ es) q)))))

-- what continues a primary

pub suffix-met : (p : Expr) (t : Token) → IsSign sign.Point t → is_suffix p t ≡ true
suffix-met p t h = ap (λ b. if b then true else if is_sign sign.OpenBracket t.kind then true else is_callable p t) (is_that_sign sign.Point t h)

pub index-met : (p : Expr) (t : Token) → IsSign sign.OpenBracket t → is_suffix p t ≡ true
index-met p t h =
    ap (λ b. if b then true else if is_sign sign.OpenBracket t.kind then true else is_callable p t) (ap (is_sign sign.Point) h)
    ∙ ap (λ b. if b then true else is_callable p t) (is_that_sign sign.OpenBracket t h)

pub callable-met : (p : Expr) (t : Token) → is_conversion_word p ≡ false → IsSign sign.OpenParen t → is_callable p t ≡ true
callable-met p t n h = ap (λ b. if b then false else is_sign sign.OpenParen t.kind) n ∙ is_that_sign sign.OpenParen t h

pub call-met : (p : Expr) (t : Token) → is_conversion_word p ≡ false → IsSign sign.OpenParen t → is_suffix p t ≡ true
call-met p t n h =
    ap (λ b. if b then true else if is_sign sign.OpenBracket t.kind then true else is_callable p t) (ap (is_sign sign.Point) h)
    ∙ ap (λ b. if b then true else is_callable p t) (ap (is_sign sign.OpenBracket) h)
    ∙ callable-met p t n h

pub field-yields : (p : Expr) (t n : Token) (q : List Token) → IsSign sign.Point t → IsName n
    → Yields (λ r. suffix_at r p) (t ∷ n ∷ q) (Ok (expr.Field (expr_span p) p (name_of n), q))
unfolding suffix_at field_at
field-yields p t n q h i =
    yields_met _ (λ r. field_at p) _ (t ∷ n ∷ q) _ (is_that_sign sign.Point t h)
    (token_then (sign_at sign.Point) _ t (n ∷ q) t.span _ (sign-reads sign.Point t (n ∷ q) h)
    (below_token name_at _ n q (name_of n) _ (name-reads n q i) (below_returned _ q)))

pub index-yields : (p e : Expr) (m : Option Expr) (o k : Token) (v w q : List Token) → IsSign sign.OpenBracket o → IsSign sign.CloseBracket k
    → Below (λ r. r.operand 5) (v ++ (w ++ k ∷ q)) (Ok (e, w ++ k ∷ q)) → Below second_at (w ++ k ∷ q) (Ok (m, k ∷ q))
    → Yields (λ r. suffix_at r p) (o ∷ (v ++ (w ++ k ∷ q))) (Ok (expr.Index (expr_span p) p e m, q))
unfolding suffix_at index_at
index-yields p e m o k v w q h i b s =
    yields_unmet _ (λ r. field_at p) _ (o ∷ (v ++ (w ++ k ∷ q))) _ (ap (is_sign sign.Point) h)
    (yields_met _ (λ r. index_at r p) _ (o ∷ (v ++ (w ++ k ∷ q))) _ (is_that_sign sign.OpenBracket o h)
    (token_then (sign_at sign.OpenBracket) _ o (v ++ (w ++ k ∷ q)) o.span _ (sign-reads sign.OpenBracket o (v ++ (w ++ k ∷ q)) h)
    (below_then (λ r. r.operand 5) _ v (w ++ k ∷ q) e _ b
    (below_then second_at _ w (k ∷ q) m _ s
    (below_token (sign_at sign.CloseBracket) _ k q k.span _ (sign-reads sign.CloseBracket k q i) (below_returned _ q))))))

pub call-yields : (p : Expr) (es : List Expr) (o : Token) (v q : List Token) → is_conversion_word p ≡ false → IsSign sign.OpenParen o
    → Yields arguments_at (o ∷ (v ++ q)) (Ok (es, q)) → Yields (λ r. suffix_at r p) (o ∷ (v ++ q)) (Ok (expr.Call (invocation p es), q))
unfolding suffix_at call_at
call-yields p es o v q n h y =
    yields_unmet _ (λ r. field_at p) _ (o ∷ (v ++ q)) _ (ap (is_sign sign.Point) h)
    (yields_unmet _ (λ r. index_at r p) _ (o ∷ (v ++ q)) _ (ap (is_sign sign.OpenBracket) h)
    (yields_met _ (λ r. call_at r p) _ (o ∷ (v ++ q)) _ (callable-met p o n h)
    (yields_then arguments_at _ (o ∷ v) q es _ y (yields_returned _ q))))

-- factors and operators

pub operation-yields : {b : Expr} (a : Expr) (t : Token) (o : BinaryOperator) (v q : List Token) → binary_of t.kind ≡ Some o
    → Below (λ r. r.operand (right_level o)) (v ++ q) (Ok (b, q)) → Yields (λ r. operation_at r a) (t ∷ (v ++ q)) (Ok (expr.Binary (expr_span a) a o b, q))
unfolding operation_at
operation-yields {b = b} a t o v q h y =
    token_then binary_at _ t (v ++ q) o _ (binary-reads t o (v ++ q) h) (below_then (λ r. r.operand (right_level o)) _ v q b _ y (below_returned _ q))

pub factor-operand : {e : Expr} (limit : ℕ) (u q : List Token) (z : Result (Expr × List Token) ℕ) → Yields factor_at (u ++ q) (Ok (e, q))
    → Loops (is_operator limit) operation_at e q z → Yields (λ r. operand_at r limit) (u ++ q) z
unfolding operand_at operators_at
factor-operand {e = e} limit u q z y l = yields_then factor_at (λ r a. operators_at r limit a) u q e z y (loop_yields (is_operator limit) operation_at e q z l)

pub factor-create : {c : Create} (u q : List Token) → next_is (λ t. is_word word.Create t.kind) (u ++ q) ≡ true → Yields create_at (u ++ q) (Ok (c, q))
    → Yields factor_at (u ++ q) (Ok (expr.Create c, q))
unfolding factor_at
factor-create {c = c} u q h y = yields_met _ _ _ (u ++ q) _ h (yields_then create_at _ u q c _ y (yields_returned _ q))

pub factor-primary : {e : Expr} (u q : List Token) → Starts (u ++ q) → Yields primary_at (u ++ q) (Ok (e, q)) → Yields factor_at (u ++ q) (Ok (e, q))
unfolding factor_at
factor-primary u q s y =
    yields_unmet _ _ _ (u ++ q) _ s.create (yields_unmet _ signed_at _ (u ++ q) _ s.unary (yields_unmet _ _ primary_at (u ++ q) _ s.query y))

pub factor-unary : {e : Expr} (t : Token) (o : _) (u q : List Token) → unary_of t.kind ≡ Some o → Below (λ r. r.factor) (u ++ q) (Ok (e, q))
    → Yields factor_at (t ∷ (u ++ q)) (Ok (expr.Unary t.span o e, q))
unfolding factor_at signed_at
factor-unary {e = e} t o u q h y =
    yields_unmet _ _ _ (t ∷ (u ++ q)) _ (unary_create t.kind o h)
    (yields_met _ _ _ (t ∷ (u ++ q)) _ (ap is_some h)
    (token_then unary_at _ t (u ++ q) (t.span, o) _ (unary-reads t o (u ++ q) h)
    (below_then (λ r. r.factor) _ u q e _ y (below_returned _ q))))

pub factor-pending : (t n : Token) (q : List Token) → IsSign sign.Query t → IsName n → Yields factor_at (t ∷ n ∷ q) (Ok (expr.Pending t.span (name_of n), q))
unfolding factor_at pending_at
factor-pending t n q h i =
    yields_unmet _ _ _ (t ∷ n ∷ q) _ (ap (is_word word.Create) h)
    (yields_unmet _ signed_at _ (t ∷ n ∷ q) _ (ap (λ k. is_some (unary_of k)) h)
    (yields_met _ (λ r. pending_at) primary_at (t ∷ n ∷ q) _ (is_that_sign sign.Query t h)
    (token_then (sign_at sign.Query) _ t (n ∷ q) t.span _ (sign-reads sign.Query t (n ∷ q) h)
    (below_token name_at _ n q (name_of n) _ (name-reads n q i) (below_returned _ q)))))

-- the making of instances and machines

pub on-yields : {e : Expr} (t : Token) (u q : List Token) → IsWord word.On t → Below (λ r. r.primary) (u ++ q) (Ok (e, q)) → Yields on_at (t ∷ (u ++ q)) (Ok (Some e, q))
unfolding on_at
on-yields {e = e} t u q h y =
    yields_met _ _ _ (t ∷ (u ++ q)) _ (is_that_word word.On t h)
    (token_then (word_at word.On) _ t (u ++ q) t.span _ (word-reads word.On t (u ++ q) h) (below_then (λ r. r.primary) _ u q e _ y (below_returned _ q)))

pub not-on-yields : (q : List Token) → next_is (λ t. is_word word.On t.kind) q ≡ false → Yields on_at q (Ok (None, q))
unfolding on_at
not-on-yields q h = yields_unmet _ _ _ q _ h (yields_returned None q)

pub machine-yields : (t v o k : Token) (q : List Token) → IsWord word.Create t → IsWord word.Vm v → IsSign sign.OpenParen o → IsSign sign.CloseParen k
    → Yields create_at (t ∷ v ∷ o ∷ k ∷ q) (Ok (create.Machine t.span, q))
unfolding create_at
machine-yields t v o k q h i j l =
    token_then (word_at word.Create) _ t (v ∷ o ∷ k ∷ q) t.span _ (word-reads word.Create t (v ∷ o ∷ k ∷ q) h)
    (below_met _ _ _ (v ∷ o ∷ k ∷ q) _ (is_that_word word.Vm v i)
    (below_token (word_at word.Vm) _ v (o ∷ k ∷ q) v.span _ (word-reads word.Vm v (o ∷ k ∷ q) i)
    (below_token (sign_at sign.OpenParen) _ o (k ∷ q) o.span _ (sign-reads sign.OpenParen o (k ∷ q) j)
    (below_token (sign_at sign.CloseParen) _ k q k.span _ (sign-reads sign.CloseParen k q l) (below_returned _ q)))))

pub resource-yields : {n : QualifiedName} {es : List Expr} {m : Option Expr} (t o k : Token) (u v w q : List Token) → IsWord word.Create t → SpellsQualifiedName n u
    → IsSign sign.OpenParen o → Yields arguments_at (o ∷ (v ++ k ∷ (w ++ q))) (Ok (es, w ++ q)) → Yields on_at (w ++ q) (Ok (m, q))
    → Yields create_at (t ∷ (u ++ o ∷ (v ++ k ∷ (w ++ q)))) (Ok (create.Resource t.span n es m, q))
unfolding create_at
resource-yields {n = n} {es = es} {m = m} t o k u v w q h d i a y =
    token_then (word_at word.Create) _ t (u ++ o ∷ (v ++ k ∷ (w ++ q))) t.span _ (word-reads word.Create t (u ++ o ∷ (v ++ k ∷ (w ++ q))) h)
    (below_unmet _ _ _ (u ++ o ∷ (v ++ k ∷ (w ++ q))) _ (qualified-starts d (o ∷ (v ++ k ∷ (w ++ q))))
    (below_then (λ r. qualified_at) _ u (o ∷ (v ++ k ∷ (w ++ q))) n _ (complete-qualified d (o ∷ (v ++ k ∷ (w ++ q))) (ap (is_sign sign.Point) i))
    (below_seq arguments_at _ (o ∷ (v ++ k ∷ (w ++ q))) (o ∷ (v ++ k ∷ [])) (w ++ q) es _ (ap (λ x. o ∷ x) (sym (append_assoc v (k ∷ []) (w ++ q))))
    (below arguments_at (o ∷ (v ++ k ∷ (w ++ q))) _ a)
    (below_then on_at _ w q m _ (below on_at (w ++ q) _ y) (below_returned _ q)))))

pub no-second-below : (q : List Token) → next_is (λ t. is_sign sign.Comma t.kind) q ≡ false → Below second_at q (Ok (None, q))
unfolding second_at
no-second-below q e = below_unmet _ _ _ q _ e (below_returned None q)

pub second-below : (a : Expr) (comma : Token) (u q : List Token) → IsSign sign.Comma comma → Below (λ r. r.operand 5) (u ++ q) (Ok (a, q))
    → Below second_at (comma ∷ (u ++ q)) (Ok (Some a, q))
unfolding second_at
second-below a comma u q h b =
    below_met _ _ _ (comma ∷ (u ++ q)) _ (is_that_sign sign.Comma comma h)
    (below_token (sign_at sign.Comma) _ comma (u ++ q) comma.span _ (sign-reads sign.Comma comma (u ++ q) h)
    (below_then (λ r. r.operand 5) _ u q a _ b (below_returned (Some a) q)))

pub both_ways : (p : Expr) → is_conversion_word p ≡ true → is_conversion_word p ≡ false → ⊥
both_ways p h i = differs (sym h ∙ i)
  where
    differs : true ≡ false → ⊥
    differs e = cc

pub single-is-no-array : (s : Span) (e : Expr) → is_array (part s None e) [] ≡ true → ⊥
unfolding denote.Hole.Carrier.out denote.Hole.Carrier.roll
single-is-no-array s e h = cc
