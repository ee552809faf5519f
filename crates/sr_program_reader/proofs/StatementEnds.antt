-- What may stand after expressions, declarations and statements.
use Rattle.std.proofs.Common.{◌≡◌, refl, ap, Bool, true, false, List, ◌∷◌, Some}
use Rattle.std.specs.Prelude.{if◌then◌else◌}
use Rattle.sr_reader.specs.Reader.{next_is}
use Rattle.sr_tree.specs.declared.statement.Direction.{Direction}
use Rattle.sr_tree.specs.declared.token.Sign.{Sign}
use Rattle.sr_tree.specs.declared.token.Sign.TheVariants as sign
use Rattle.sr_tree.specs.declared.token.Token.{Token}
use Rattle.sr_tree.specs.declared.token.TokenKind.{TokenKind}
use Rattle.sr_tree.specs.declared.token.TokenKind.TheVariants as kind
use Rattle.sr_tree.specs.declared.token.Word.{Word}
use Rattle.sr_tree.specs.declared.token.Word.TheVariants as word
use Rattle.sr_tree.specs.Statements.{direction_of}
use Rattle.sr_tree.specs.Tables.{IsSign, IsWord, IsSeparator}
use Rattle.sr_tree.specs.Tests.{is_sign, is_word}
use Rattle.sr_tree.specs.Tokens.{is_separator}
use Rattle.sr_expr_reader.proofs.ExpressionEdges.{continues_expr, token-stops}
use Rattle.sr_expr_reader.proofs.TokensSound.{none_some}
use Rattle.sr_expr_reader.proofs.TokensComplete.{Stops}
use Rattle.sr_expr_reader.proofs.TypesQuiet.{continues_type, token-stops-type}
use Rattle.sr_program_reader.specs.StatementReaders.{begins_block_item}

-- ---- after expressions

pub arrow-stops : (t : Token) (q : List Token) → IsSign sign.Arrow t → Stops (t ∷ q)
arrow-stops t q h = token-stops t q (ap continues_expr h)

pub direction-stops : (t : Token) (q : List Token) (w : Word) (d : Direction) → IsWord w t → direction_of w ≡ Some d → Stops (t ∷ q)
direction-stops t q word.To d h e = token-stops t q (ap continues_expr h)
direction-stops t q word.Downto d h e = token-stops t q (ap continues_expr h)
direction-stops t q _ d h e = absurd (none_some d e)

-- ---- after declarations and statements

-- nothing, or a token that continues no declaration and no statement
pub record Ends (q : List Token) : Type 0 where
  pub stops : Stops q
  pub brace : next_is (λ t. is_sign sign.OpenBrace t.kind) q ≡ false
  pub comma : next_is (λ t. is_sign sign.Comma t.kind) q ≡ false
  pub colon : next_is (λ t. is_sign sign.Colon t.kind) q ≡ false
  pub assign : next_is (λ t. is_sign sign.Assign t.kind) q ≡ false
  pub exchange : next_is (λ t. is_sign sign.Exchange t.kind) q ≡ false
  pub increment : next_is (λ t. is_sign sign.Increment t.kind) q ≡ false
  pub decrement : next_is (λ t. is_sign sign.Decrement t.kind) q ≡ false
  pub arrow : next_is (λ t. is_sign sign.Arrow t.kind) q ≡ false
  pub returns : next_is (λ t. is_word word.Returns t.kind) q ≡ false

-- which tokens may continue one
abbrev pub continues_item : TokenKind → Bool
continues_item k =
    if continues_expr k then true else if continues_type k then true else if is_sign sign.Comma k then true else if is_sign sign.Colon k then true
    else if is_sign sign.Assign k then true else if is_sign sign.Exchange k then true else if is_sign sign.Increment k then true
    else if is_sign sign.Decrement k then true else is_sign sign.Arrow k

neither : (a b : Bool) → (if a then true else b) ≡ false → (a ≡ false) × (b ≡ false)
neither false b h = (refl, h)
neither true b h = cc

-- the others end one
pub token-ends : (t : Token) (q : List Token) → continues_item t.kind ≡ false → Ends (t ∷ q)
token-ends t q h =
    let expression = neither (continues_expr t.kind) _ h in
    let type_of = neither (continues_type t.kind) _ expression.1 in
    let comma = neither (is_sign sign.Comma t.kind) _ type_of.1 in
    let colon = neither (is_sign sign.Colon t.kind) _ comma.1 in
    let assign = neither (is_sign sign.Assign t.kind) _ colon.1 in
    let exchange = neither (is_sign sign.Exchange t.kind) _ assign.1 in
    let increment = neither (is_sign sign.Increment t.kind) _ exchange.1 in
    let decrement = neither (is_sign sign.Decrement t.kind) _ increment.1 in
    let types = token-stops-type t q type_of.0 in
    record {
      stops = token-stops t q expression.0;
      brace = types.brace;
      comma = comma.0;
      colon = colon.0;
      assign = assign.0;
      exchange = exchange.0;
      increment = increment.0;
      decrement = decrement.0;
      arrow = decrement.1;
      returns = types.returns;
    }

pub separator-ends : (t : Token) (q : List Token) → IsSeparator t → Ends (t ∷ q)
separator-ends t q h = token-ends t q (ap continues_item h)

-- tokens after which no list of items goes on
abbrev pub word_closes : Word → Bool
word_closes word.Fi = true
word_closes word.Od = true
word_closes word.Af = true
word_closes word.Ni = true
word_closes word.Oc = true
word_closes word.End = true
word_closes word.Body = true
word_closes word.Final = true
word_closes _ = false

abbrev pub sign_closes : Sign → Bool
sign_closes sign.Alternative = true
sign_closes sign.Parallel = true
sign_closes _ = false

abbrev pub closes : TokenKind → Bool
closes (kind.Word w) = word_closes w
closes (kind.Sign s) = sign_closes s
closes _ = false

-- what a token is that closes
closing : (P : TokenKind → Type 0) (k : TokenKind) → closes k ≡ true → P (kind.Word word.Fi) → P (kind.Word word.Od) → P (kind.Word word.Af) → P (kind.Word word.Ni)
    → P (kind.Word word.Oc) → P (kind.Word word.End) → P (kind.Word word.Body) → P (kind.Word word.Final) → P (kind.Sign sign.Alternative) → P (kind.Sign sign.Parallel) → P k
closing P (kind.Word w) h fi od af ni oc end_ body final box parallel = of_word w h
  where
    of_word : (w : Word) → word_closes w ≡ true → P (kind.Word w)
    of_word word.Fi h = fi
    of_word word.Od h = od
    of_word word.Af h = af
    of_word word.Ni h = ni
    of_word word.Oc h = oc
    of_word word.End h = end_
    of_word word.Body h = body
    of_word word.Final h = final
    of_word _ h = cc
closing P (kind.Sign s) h fi od af ni oc end_ body final box parallel = of_sign s h
  where
    of_sign : (s : Sign) → sign_closes s ≡ true → P (kind.Sign s)
    of_sign sign.Alternative h = box
    of_sign sign.Parallel h = parallel
    of_sign _ h = cc
closing P _ h fi od af ni oc end_ body final box parallel = cc

pub closing-ends : (t : Token) (q : List Token) → closes t.kind ≡ true → Ends (t ∷ q)
closing-ends t q h = token-ends t q (closing (λ k. continues_item k ≡ false) t.kind h refl refl refl refl refl refl refl refl refl refl)

pub closing-separator : (k : TokenKind) → closes k ≡ true → is_separator k ≡ false
closing-separator k h = closing (λ k. is_separator k ≡ false) k h refl refl refl refl refl refl refl refl refl refl

pub closing-item : (k : TokenKind) → closes k ≡ true → begins_block_item k ≡ false
closing-item k h = closing (λ k. begins_block_item k ≡ false) k h refl refl refl refl refl refl refl refl refl refl

-- what begins an item is no separator
pub item-separator : (t : Token) → begins_block_item t.kind ≡ true → is_separator t.kind ≡ false
item-separator t h = other t.kind h
  where
    other : (k : TokenKind) → begins_block_item k ≡ true → is_separator k ≡ false
    other kind.Separator h = cc
    other _ h = refl
