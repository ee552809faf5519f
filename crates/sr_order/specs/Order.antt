-- Spans of tokens in the order of the tokens.
use Rattle.std.specs.Prelude.{◌≡◌, ◌≤◌, ℕ, suc, Bool, ◌&&◌, ◌==◌, List, [], ◌∷◌, map}
use Rattle.sr_value.specs.declared.place.Span.{Span}
use Rattle.sr_tree.specs.declared.token.Token.{Token}

-- the spans are those of some of the tokens, in their order
pub data Picks : List Span → List Token → Type 0 where
  nothing : Picks [] []
  left_out : {spans : List Span} {tokens : List Token} (token : Token) → Picks spans tokens → Picks spans (token ∷ tokens)
  picked : {spans : List Span} {tokens : List Token} (token : Token) → Picks spans tokens → Picks (token.span ∷ spans) (token ∷ tokens)

-- the spans are of this file, and each begins after the beginning of the one before; the first not before `from`
pub data Ascend (file : ℕ) : ℕ → List Span → Type 0 where
  none_left : {from : ℕ} → Ascend file from []
  one_more : {from : ℕ} {spans : List Span} (span : Span) → span.file ≡ file → from ≤ span.from → Ascend file (suc span.from) spans
      → Ascend file from (span ∷ spans)

-- where the tokens stand
abbrev pub token_spans : List Token → List Span
token_spans tokens = map (λ token. token.span) tokens

-- both begin at the same byte of the same file
abbrev pub same_place : Span → Span → Bool
same_place a b = (a.file == b.file) && (a.from == b.from)
