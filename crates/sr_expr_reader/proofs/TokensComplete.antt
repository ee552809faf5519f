-- What the readers of single tokens give where their token stands, and which tokens end an expression.
use Rattle.std.proofs.Common.{◌≡◌, refl, sym, ◌∙◌, ap, ℕ, suc, ◌≤◌, Bool, true, false, List, [], ◌∷◌, length, Option, Some, None, Ok, ◌⊎◌, inl, inr, lit≤}
use Rattle.std.specs.Prelude.{if◌then◌else◌, option_map, is_some}
use denote.Enum.Bare.{true_same}
use Rattle.sr_reader.specs.Reader.{given, next_is}
use Rattle.sr_tree.specs.contracts.token.Sign as signs
use Rattle.sr_tree.specs.contracts.token.Word as words
use Rattle.sr_tree.specs.declared.expr.BasicType.{BasicType}
use Rattle.sr_tree.specs.declared.expr.BasicType.TheVariants as basic
use Rattle.sr_tree.specs.declared.expr.BinaryOperator.{BinaryOperator}
use Rattle.sr_tree.specs.declared.expr.BinaryOperator.TheVariants as binary
use Rattle.sr_tree.specs.declared.expr.Conversion.{Conversion}
use Rattle.sr_tree.specs.declared.expr.Conversion.TheVariants as conversion
use Rattle.sr_tree.specs.declared.expr.Expr.{Expr}
use Rattle.sr_tree.specs.declared.expr.Literal.{Literal}
use Rattle.sr_tree.specs.declared.expr.UnaryOperator.{UnaryOperator}
use Rattle.sr_tree.specs.declared.token.Sign.{Sign}
use Rattle.sr_tree.specs.declared.token.Sign.TheVariants as sign
use Rattle.sr_tree.specs.declared.token.Token.{Token}
use Rattle.sr_tree.specs.declared.token.TokenKind.{TokenKind}
use Rattle.sr_tree.specs.declared.token.TokenKind.TheVariants as kind
use Rattle.sr_tree.specs.declared.token.Word.{Word}
use Rattle.sr_tree.specs.declared.token.Word.TheVariants as word
use Rattle.sr_tree.specs.Expressions.{is_conversion_word}
use Rattle.sr_tree.specs.Tables.{IsSign, IsWord, IsName, name_of, literal_of, word_literal, basic_of, word_basic, conversion_of, word_conversion, unary_of, sign_unary, word_unary, binary_of, sign_binary, word_binary, right_level, left_level}
use Rattle.sr_tree.specs.Tests.{is_sign, is_word, is_name}
use Rattle.sr_expr_reader.specs.Readers.{binary_at, unary_at, literal_at, conversion_at, is_suffix, may_follow, is_operator}
use Rattle.sr_tree.specs.Tokens.{sign_at, word_at, name_at}
use Rattle.sr_expr_reader.proofs.ExpressionsSound.{alone}
use Rattle.sr_expr_reader.proofs.TokensSound.{none_some, some_some}

pub is_that_sign : (s : Sign) (t : Token) → IsSign s t → is_sign s t.kind ≡ true
is_that_sign s t h = ap (is_sign s) h ∙ true_same signs.the_type s s refl

pub is_that_word : (w : Word) (t : Token) → IsWord w t → is_word w t.kind ≡ true
is_that_word w t h = ap (is_word w) h ∙ true_same words.the_type w w refl

pub sign-reads : (s : Sign) (t : Token) (q : List Token) → IsSign s t → sign_at s (t ∷ q) ≡ Ok (t.span, q)
unfolding sign_at
sign-reads s t q h = ap (λ b. given (if b then Some t.span else None) q (length (t ∷ q))) (is_that_sign s t h)

pub word-reads : (w : Word) (t : Token) (q : List Token) → IsWord w t → word_at w (t ∷ q) ≡ Ok (t.span, q)
unfolding word_at
word-reads w t q h = ap (λ b. given (if b then Some t.span else None) q (length (t ∷ q))) (is_that_word w t h)

pub name-reads : (t : Token) (q : List Token) → IsName t → name_at (t ∷ q) ≡ Ok (name_of t, q)
unfolding name_at
name-reads t q h = ap (λ b. given (if b then Some (name_of t) else None) q (length (t ∷ q))) (ap is_name h)

pub binary-reads : (t : Token) (o : BinaryOperator) (q : List Token) → binary_of t.kind ≡ Some o → binary_at (t ∷ q) ≡ Ok (o, q)
unfolding binary_at
binary-reads t o q h = ap (λ m. given m q (length (t ∷ q))) h

pub unary-reads : (t : Token) (o : UnaryOperator) (q : List Token) → unary_of t.kind ≡ Some o → unary_at (t ∷ q) ≡ Ok ((t.span, o), q)
unfolding unary_at
unary-reads t o q h = ap (λ m. given (option_map (λ x. (t.span, x)) m) q (length (t ∷ q))) h

pub literal-reads : (t : Token) (a : Literal) (q : List Token) → literal_of t.kind t.text ≡ Some a → literal_at (t ∷ q) ≡ Ok ((t.span, a), q)
unfolding literal_at
literal-reads t a q h = ap (λ m. given (option_map (λ x. (t.span, x)) m) q (length (t ∷ q))) h

pub conversion-reads : (t : Token) (c : Conversion) (q : List Token) → conversion_of t.kind ≡ Some c → conversion_at (t ∷ q) ≡ Ok ((t.span, c), q)
unfolding conversion_at
conversion-reads t c q h = ap (λ m. given (option_map (λ x. (t.span, x)) m) q (length (t ∷ q))) h

-- a literal is no other start of a primary
pub record IsOnlyLiteral (k : TokenKind) : Type 0 where
  pub conversion : is_some (conversion_of k) ≡ false
  pub paren : is_sign sign.OpenParen k ≡ false
  pub name : is_name k ≡ false
  pub bool : is_word word.Bool k ≡ false

only_word_literal : (w : Word) (x : Literal) → word_literal w ≡ Some x → IsOnlyLiteral (kind.Word w)
only_word_literal word.Int x h = absurd (none_some x h)
only_word_literal word.Char x h = absurd (none_some x h)
only_word_literal word.String x h = absurd (none_some x h)
only_word_literal word.Bool x h = absurd (none_some x h)
only_word_literal _ x h = record { conversion = refl; paren = refl; name = refl; bool = refl }

pub only_literal : (k : TokenKind) (text : List ℕ) (x : Literal) → literal_of k text ≡ Some x → IsOnlyLiteral k
only_literal (kind.Word w) text x h = only_word_literal w x h
only_literal (kind.Sign s) text x h = absurd (none_some x h)
only_literal kind.Name text x h = absurd (none_some x h)
only_literal kind.Separator text x h = absurd (none_some x h)
only_literal _ text x h = record { conversion = refl; paren = refl; name = refl; bool = refl }

-- a basic type is a conversion's word or `bool`
pub basic_cases : (k : TokenKind) (b : BasicType) → basic_of k ≡ Some b
    → ((c : Conversion) × (conversion_of k ≡ Some c) × (alone c ≡ Some b)) ⊎ ((k ≡ kind.Word word.Bool) × (b ≡ basic.Bool))
basic_cases (kind.Word w) b h = of_word w b h
  where
    of_word : (w : Word) (b : BasicType) → word_basic w ≡ Some b
        → ((c : Conversion) × (conversion_of (kind.Word w) ≡ Some c) × (alone c ≡ Some b)) ⊎ ((kind.Word w ≡ kind.Word word.Bool) × (b ≡ basic.Bool))
    of_word word.Int b h = inl (conversion.Int, refl, h)
    of_word word.Char b h = inl (conversion.Char, refl, h)
    of_word word.Bool b h = inr (refl, sym (some_some basic.Bool b h))
    of_word _ b h = absurd (none_some b h)
basic_cases _ b h = absurd (none_some b h)

-- what may end an expression
pub record Stops (q : List Token) : Type 0 where
  pub operator : next_is (λ t. is_some (binary_of t.kind)) q ≡ false
  pub point : next_is (λ t. is_sign sign.Point t.kind) q ≡ false
  pub bracket : next_is (λ t. is_sign sign.OpenBracket t.kind) q ≡ false
  pub paren : next_is (λ t. is_sign sign.OpenParen t.kind) q ≡ false
  pub on : next_is (λ t. is_word word.On t.kind) q ≡ false

pub comma-stops : (t : Token) (q : List Token) → IsSign sign.Comma t → Stops (t ∷ q)
comma-stops t q h = record {
  operator = ap (λ k. is_some (binary_of k)) h;
  point = ap (is_sign sign.Point) h;
  bracket = ap (is_sign sign.OpenBracket) h;
  paren = ap (is_sign sign.OpenParen) h;
  on = ap (is_word word.On) h;
}

pub paren-stops : (t : Token) (q : List Token) → IsSign sign.CloseParen t → Stops (t ∷ q)
paren-stops t q h = record {
  operator = ap (λ k. is_some (binary_of k)) h;
  point = ap (is_sign sign.Point) h;
  bracket = ap (is_sign sign.OpenBracket) h;
  paren = ap (is_sign sign.OpenParen) h;
  on = ap (is_word word.On) h;
}

pub bracket-stops : (t : Token) (q : List Token) → IsSign sign.CloseBracket t → Stops (t ∷ q)
bracket-stops t q h = record {
  operator = ap (λ k. is_some (binary_of k)) h;
  point = ap (is_sign sign.Point) h;
  bracket = ap (is_sign sign.OpenBracket) h;
  paren = ap (is_sign sign.OpenParen) h;
  on = ap (is_word word.On) h;
}

-- a point or an opening bracket, which continue each primary
abbrev pub continues : Token → Bool
continues t = if is_sign sign.Point t.kind then true else if is_sign sign.OpenBracket t.kind then true else is_sign sign.OpenParen t.kind

none_continues : (a b d : Bool) → a ≡ false → b ≡ false → d ≡ false → (if a then true else if b then true else d) ≡ false
none_continues true b d e f h = e
none_continues false true d e f h = f
none_continues false false d e f h = h

pub stops-continued : (q : List Token) → Stops q → next_is continues q ≡ false
stops-continued [] st = refl
stops-continued (t ∷ q) st = none_continues (is_sign sign.Point t.kind) (is_sign sign.OpenBracket t.kind) (is_sign sign.OpenParen t.kind) st.point st.bracket st.paren

suffix_continues : (a b c d : Bool) → (if a then true else if b then true else d) ≡ false → (if a then true else if b then true else if c then false else d) ≡ false
suffix_continues true b c d e = e
suffix_continues false true c d e = e
suffix_continues false false true d e = refl
suffix_continues false false false d e = e

paren_continues : (a b d : Bool) → (if a then true else if b then true else d) ≡ false → d ≡ false
paren_continues true b d e = cc
paren_continues false true d e = cc
paren_continues false false d e = e

pub continued-suffix : (p : Expr) (q : List Token) → next_is continues q ≡ false → next_is (is_suffix p) q ≡ false
continued-suffix p [] h = refl
continued-suffix p (t ∷ q) h = suffix_continues (is_sign sign.Point t.kind) (is_sign sign.OpenBracket t.kind) (is_conversion_word p) (is_sign sign.OpenParen t.kind) h

pub continued-paren : (q : List Token) → next_is continues q ≡ false → next_is (λ t. is_sign sign.OpenParen t.kind) q ≡ false
continued-paren [] h = refl
continued-paren (t ∷ q) h = paren_continues (is_sign sign.Point t.kind) (is_sign sign.OpenBracket t.kind) (is_sign sign.OpenParen t.kind) h

no_follow : (limit : ℕ) (e : Expr) (m : Option BinaryOperator) → is_some m ≡ false → may_follow limit e m ≡ false
no_follow limit e None h = refl
no_follow limit e (Some o) h = cc

pub stops-operator : (limit : ℕ) (e : Expr) (q : List Token) → Stops q → next_is (is_operator limit e) q ≡ false
stops-operator limit e [] st = refl
stops-operator limit e (t ∷ q) st = no_follow limit e (binary_of t.kind) st.operator

-- an operator is nothing else that continues an expression
pub record IsOnlyOperator (k : TokenKind) : Type 0 where
  pub point : is_sign sign.Point k ≡ false
  pub bracket : is_sign sign.OpenBracket k ≡ false
  pub paren : is_sign sign.OpenParen k ≡ false
  pub on : is_word word.On k ≡ false

only_operator_sign : (s : Sign) (o : BinaryOperator) → sign_binary s ≡ Some o → IsOnlyOperator (kind.Sign s)
only_operator_sign sign.Point o h = absurd (none_some o h)
only_operator_sign sign.OpenBracket o h = absurd (none_some o h)
only_operator_sign sign.OpenParen o h = absurd (none_some o h)
only_operator_sign _ o h = record { point = refl; bracket = refl; paren = refl; on = refl }

only_operator_word : (w : Word) (o : BinaryOperator) → word_binary w ≡ Some o → IsOnlyOperator (kind.Word w)
only_operator_word word.On o h = absurd (none_some o h)
only_operator_word _ o h = record { point = refl; bracket = refl; paren = refl; on = refl }

pub only_operator : (k : TokenKind) (o : BinaryOperator) → binary_of k ≡ Some o → IsOnlyOperator k
only_operator (kind.Sign s) o h = only_operator_sign s o h
only_operator (kind.Word w) o h = only_operator_word w o h
only_operator _ o h = absurd (none_some o h)

pub operator-continued : (t : Token) (o : BinaryOperator) → binary_of t.kind ≡ Some o → continues t ≡ false
operator-continued t o h =
    let only = only_operator t.kind o h in
    none_continues (is_sign sign.Point t.kind) (is_sign sign.OpenBracket t.kind) (is_sign sign.OpenParen t.kind) only.point only.bracket only.paren

pub left-right : (o : BinaryOperator) → left_level o ≤ suc (right_level o)
left-right binary.Or = lit≤ tt
left-right _ = lit≤ tt

-- what a unary operator and `?` are not
pub unary_create : (k : TokenKind) (o : UnaryOperator) → unary_of k ≡ Some o → is_word word.Create k ≡ false
unary_create (kind.Sign s) o h = refl
unary_create (kind.Word w) o h = of_word w o h
  where
    of_word : (w : Word) (o : UnaryOperator) → word_unary w ≡ Some o → is_word word.Create (kind.Word w) ≡ false
    of_word word.Create o h = absurd (none_some o h)
    of_word _ o h = refl
unary_create _ o h = absurd (none_some o h)

-- what the first token of a primary isn't
pub record IsNoPrefix (k : TokenKind) : Type 0 where
  pub create : is_word word.Create k ≡ false
  pub unary : is_some (unary_of k) ≡ false
  pub query : is_sign sign.Query k ≡ false
  pub bracket : is_sign sign.OpenBracket k ≡ false
  pub closing : is_sign sign.CloseParen k ≡ false

pub sign_starts : (t : Token) → IsSign sign.OpenParen t → IsNoPrefix t.kind
sign_starts t h = record { create = ap (is_word word.Create) h; unary = ap (λ k. is_some (unary_of k)) h; query = ap (is_sign sign.Query) h; bracket = ap (is_sign sign.OpenBracket) h; closing = ap (is_sign sign.CloseParen) h }

pub name_starts : (t : Token) → IsName t → IsNoPrefix t.kind
name_starts t h = record { create = ap (is_word word.Create) h; unary = ap (λ k. is_some (unary_of k)) h; query = ap (is_sign sign.Query) h; bracket = ap (is_sign sign.OpenBracket) h; closing = ap (is_sign sign.CloseParen) h }

literal_word_starts : (w : Word) (x : Literal) → word_literal w ≡ Some x → IsNoPrefix (kind.Word w)
literal_word_starts word.Create x h = absurd (none_some x h)
literal_word_starts word.Not x h = absurd (none_some x h)
literal_word_starts _ x h = record { create = refl; unary = refl; query = refl; bracket = refl; closing = refl }

pub literal_starts : (k : TokenKind) (text : List ℕ) (x : Literal) → literal_of k text ≡ Some x → IsNoPrefix k
literal_starts (kind.Word w) text x h = literal_word_starts w x h
literal_starts (kind.Sign s) text x h = absurd (none_some x h)
literal_starts kind.Name text x h = absurd (none_some x h)
literal_starts kind.Separator text x h = absurd (none_some x h)
literal_starts _ text x h = record { create = refl; unary = refl; query = refl; bracket = refl; closing = refl }

conversion_word_starts : (w : Word) (c : Conversion) → word_conversion w ≡ Some c → IsNoPrefix (kind.Word w)
conversion_word_starts word.Create x h = absurd (none_some x h)
conversion_word_starts word.Not x h = absurd (none_some x h)
conversion_word_starts _ x h = record { create = refl; unary = refl; query = refl; bracket = refl; closing = refl }

pub conversion_starts : (k : TokenKind) (c : Conversion) → conversion_of k ≡ Some c → IsNoPrefix k
conversion_starts (kind.Word w) c h = conversion_word_starts w c h
conversion_starts _ c h = absurd (none_some c h)

basic_word_starts : (w : Word) (b : BasicType) → word_basic w ≡ Some b → IsNoPrefix (kind.Word w)
basic_word_starts word.Create x h = absurd (none_some x h)
basic_word_starts word.Not x h = absurd (none_some x h)
basic_word_starts _ x h = record { create = refl; unary = refl; query = refl; bracket = refl; closing = refl }

pub basic_starts : (k : TokenKind) (b : BasicType) → basic_of k ≡ Some b → IsNoPrefix k
basic_starts (kind.Word w) b h = basic_word_starts w b h
basic_starts _ b h = absurd (none_some b h)

-- nor that of a factor, where it is a sign
unary_sign_opens : (s : Sign) (o : UnaryOperator) → sign_unary s ≡ Some o → (is_sign sign.OpenBracket (kind.Sign s) ≡ false) × (is_sign sign.CloseParen (kind.Sign s) ≡ false)
unary_sign_opens sign.OpenBracket o h = absurd (none_some o h)
unary_sign_opens sign.CloseParen o h = absurd (none_some o h)
unary_sign_opens _ o h = (refl, refl)

pub unary_opens : (k : TokenKind) (o : UnaryOperator) → unary_of k ≡ Some o → (is_sign sign.OpenBracket k ≡ false) × (is_sign sign.CloseParen k ≡ false)
unary_opens (kind.Sign s) o h = unary_sign_opens s o h
unary_opens _ o h = (refl, refl)
