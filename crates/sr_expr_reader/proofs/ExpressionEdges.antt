-- Which tokens begin an expression, and which end one.
use Rattle.std.proofs.Common.{◌≡◌, refl, sym, ◌∙◌, ap, subst, ℕ, Bool, true, false, List, [], ◌∷◌, ◌++◌, Some, append_assoc}
use Rattle.std.specs.Prelude.{if◌then◌else◌, is_some}
use Rattle.sr_reader.specs.Reader.{next_is}
use Rattle.sr_tree.specs.declared.expr.BasicType.{BasicType}
use Rattle.sr_tree.specs.declared.expr.Conversion.{Conversion}
use Rattle.sr_tree.specs.declared.expr.Expr.{Expr}
use Rattle.sr_tree.specs.declared.expr.Literal.{Literal}
use Rattle.sr_tree.specs.declared.expr.UnaryOperator.{UnaryOperator}
use Rattle.sr_tree.specs.declared.token.Sign.{Sign}
use Rattle.sr_tree.specs.declared.token.Sign.TheVariants as sign
use Rattle.sr_tree.specs.declared.token.Token.{Token}
use Rattle.sr_tree.specs.declared.token.TokenKind.{TokenKind}
use Rattle.sr_tree.specs.declared.token.TokenKind.TheVariants as kind
use Rattle.sr_tree.specs.declared.token.Word.{Word}
use Rattle.sr_tree.specs.declared.token.Word.TheVariants as word
use Rattle.sr_tree.specs.Expressions as g
use Rattle.sr_tree.specs.Expressions.{SpellsExpr, SpellsFactor, SpellsCreate, SpellsPrimary}
use Rattle.sr_tree.specs.Tables.{literal_of, word_literal, basic_of, word_basic, conversion_of, word_conversion, unary_of, sign_unary, word_unary, binary_of}
use Rattle.sr_tree.specs.Tests.{is_sign, is_word}
use Rattle.sr_expr_reader.proofs.TokensSound.{kind_of_sign, kind_of_word, none_some}
use Rattle.sr_expr_reader.proofs.TokensComplete.{Stops}

abbrev pub sign_begins : Sign → Bool
sign_begins sign.Minus = true
sign_begins sign.Plus = true
sign_begins sign.OpenParen = true
sign_begins sign.Query = true
sign_begins _ = false

abbrev pub word_begins : Word → Bool
word_begins word.True = true
word_begins word.False = true
word_begins word.Null = true
word_begins word.Noop = true
word_begins word.Int = true
word_begins word.Bool = true
word_begins word.Char = true
word_begins word.String = true
word_begins word.Not = true
word_begins word.Create = true
word_begins _ = false

-- which tokens begin an expression
abbrev pub begins_expr : TokenKind → Bool
begins_expr (kind.Sign s) = sign_begins s
begins_expr (kind.Word w) = word_begins w
begins_expr kind.Separator = false
begins_expr _ = true

literal_begins : (k : TokenKind) (text : List ℕ) (x : Literal) → literal_of k text ≡ Some x → begins_expr k ≡ true
literal_begins (kind.Word w) text x h = of_word w x h
  where
    of_word : (w : Word) (x : Literal) → word_literal w ≡ Some x → word_begins w ≡ true
    of_word word.True x h = refl
    of_word word.False x h = refl
    of_word word.Null x h = refl
    of_word word.Noop x h = refl
    of_word _ x h = absurd (none_some x h)
literal_begins (kind.Sign s) text x h = absurd (none_some x h)
literal_begins kind.Separator text x h = absurd (none_some x h)
literal_begins _ text x h = refl

basic_begins : (k : TokenKind) (b : BasicType) → basic_of k ≡ Some b → begins_expr k ≡ true
basic_begins (kind.Word w) b h = of_word w b h
  where
    of_word : (w : Word) (b : BasicType) → word_basic w ≡ Some b → word_begins w ≡ true
    of_word word.Int b h = refl
    of_word word.Bool b h = refl
    of_word word.Char b h = refl
    of_word _ b h = absurd (none_some b h)
basic_begins _ b h = absurd (none_some b h)

conversion_begins : (k : TokenKind) (c : Conversion) → conversion_of k ≡ Some c → begins_expr k ≡ true
conversion_begins (kind.Word w) c h = of_word w c h
  where
    of_word : (w : Word) (c : Conversion) → word_conversion w ≡ Some c → word_begins w ≡ true
    of_word word.Int c h = refl
    of_word word.Char c h = refl
    of_word word.String c h = refl
    of_word _ c h = absurd (none_some c h)
conversion_begins _ c h = absurd (none_some c h)

unary_begins : (k : TokenKind) (o : UnaryOperator) → unary_of k ≡ Some o → begins_expr k ≡ true
unary_begins (kind.Word w) o h = of_word w o h
  where
    of_word : (w : Word) (o : UnaryOperator) → word_unary w ≡ Some o → word_begins w ≡ true
    of_word word.Not o h = refl
    of_word _ o h = absurd (none_some o h)
unary_begins (kind.Sign s) o h = of_sign s o h
  where
    of_sign : (s : Sign) (o : UnaryOperator) → sign_unary s ≡ Some o → sign_begins s ≡ true
    of_sign sign.Minus o h = refl
    of_sign sign.Plus o h = refl
    of_sign _ o h = absurd (none_some o h)
unary_begins _ o h = absurd (none_some o h)

abbrev Begun : List Token → Type 0
Begun s = next_is (λ t. begins_expr t.kind) s ≡ true

pub primary-begins : {e : Expr} {u : List Token} → SpellsPrimary e u → (q : List Token) → next_is (λ t. begins_expr t.kind) (u ++ q) ≡ true
primary-begins (g.literal t l h) q = literal_begins t.kind t.text l h
primary-begins (g.name t h) q = ap begins_expr h
primary-begins (g.basic_type t b h) q = basic_begins t.kind b h
primary-begins (g.conversion t o k c h i d j) q = conversion_begins t.kind c h
primary-begins (g.group o k h d i) q = ap begins_expr h
primary-begins (g.parts o k h d m a i) q = ap begins_expr h
primary-begins (g.field {u = u} p n d h i) q = subst Begun (sym (append_assoc u (p ∷ n ∷ []) q)) (primary-begins d (p ∷ n ∷ q))
primary-begins (g.index {u = u} {v = v} {w = w} o k d h f s i) q =
    subst Begun (sym (append_assoc u (o ∷ (v ++ (w ++ k ∷ []))) q)) (primary-begins d ((o ∷ (v ++ (w ++ k ∷ []))) ++ q))
primary-begins (g.call {u = u} {v = v} o k d n h a i) q =
    subst Begun (sym (append_assoc u (o ∷ (v ++ k ∷ [])) q)) (primary-begins d ((o ∷ (v ++ k ∷ [])) ++ q))

create_begins : {c : _} {u : List Token} → SpellsCreate c u → (q : List Token) → next_is (λ t. begins_expr t.kind) (u ++ q) ≡ true
create_begins (g.resource t o k h n i d j on) q = ap begins_expr h
create_begins (g.machine t v o k h i j l) q = ap begins_expr h

factor_begins : {e : Expr} {u : List Token} → SpellsFactor e u → (q : List Token) → next_is (λ t. begins_expr t.kind) (u ++ q) ≡ true
factor_begins (g.creates d) q = create_begins d q
factor_begins (g.primary d) q = primary-begins d q
factor_begins (g.unary t o h d) q = unary_begins t.kind o h
factor_begins (g.pending t n h i) q = ap begins_expr h

-- each expression begins with such a token
pub expr-begins : {m : ℕ} {e : Expr} {u : List Token} → SpellsExpr m e u → (q : List Token) → next_is (λ t. begins_expr t.kind) (u ++ q) ≡ true
expr-begins (g.factor d) q = factor_begins d q
expr-begins (g.binary {u = u} {v = v} t o h i a d) q = subst Begun (sym (append_assoc u (t ∷ v) q)) (expr-begins a (t ∷ (v ++ q)))

differ : true ≡ false → ⊥
differ e = cc

-- so with no sign or word that begins none
pub begins-no-sign : (s : Sign) (q : List Token) → begins_expr (kind.Sign s) ≡ false → next_is (λ t. begins_expr t.kind) q ≡ true → next_is (λ t. is_sign s t.kind) q ≡ false
begins-no-sign s [] n h = refl
begins-no-sign s (t ∷ q) n h = go (is_sign s t.kind) refl
  where
    go : (b : Bool) → is_sign s t.kind ≡ b → b ≡ false
    go true e = absurd (differ (sym h ∙ ap begins_expr (kind_of_sign s t.kind e) ∙ n))
    go false e = refl

pub begins-no-word : (w : Word) (q : List Token) → begins_expr (kind.Word w) ≡ false → next_is (λ t. begins_expr t.kind) q ≡ true → next_is (λ t. is_word w t.kind) q ≡ false
begins-no-word w [] n h = refl
begins-no-word w (t ∷ q) n h = go (is_word w t.kind) refl
  where
    go : (b : Bool) → is_word w t.kind ≡ b → b ≡ false
    go true e = absurd (differ (sym h ∙ ap begins_expr (kind_of_word w t.kind e) ∙ n))
    go false e = refl

-- which tokens may continue an expression
abbrev pub continues_expr : TokenKind → Bool
continues_expr k =
    if is_some (binary_of k) then true else if is_sign sign.Point k then true else if is_sign sign.OpenBracket k then true
    else if is_sign sign.OpenParen k then true else is_word word.On k

record AllFalse (a b c d e : Bool) : Type 0 where
  first : a ≡ false
  second : b ≡ false
  third : c ≡ false
  fourth : d ≡ false
  fifth : e ≡ false

all_false : (a b c d e : Bool) → (if a then true else if b then true else if c then true else if d then true else e) ≡ false → AllFalse a b c d e
all_false true b c d e h = absurd (differ h)
all_false false true c d e h = absurd (differ h)
all_false false false true d e h = absurd (differ h)
all_false false false false true e h = absurd (differ h)
all_false false false false false e h = record { first = refl; second = refl; third = refl; fourth = refl; fifth = h }

-- the others end one
pub token-stops : (t : Token) (q : List Token) → continues_expr t.kind ≡ false → Stops (t ∷ q)
token-stops t q h =
    let n = all_false (is_some (binary_of t.kind)) (is_sign sign.Point t.kind) (is_sign sign.OpenBracket t.kind) (is_sign sign.OpenParen t.kind) (is_word word.On t.kind) h in
    record { operator = n.first; point = n.second; bracket = n.third; paren = n.fourth; on = n.fifth }

pub end-stops : Stops []
end-stops = record { operator = refl; point = refl; bracket = refl; paren = refl; on = refl }
