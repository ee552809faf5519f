-- The limits on the tokens of a file.
use Rattle.std.specs.Prelude.{◌≡◌, ℕ, ◌+◌, ◌<◌, nat_lt, Bool, ◌||◌, not, if◌then◌else◌, List, take, reverse, take_while, count_by, slice_get, Option, Some, None}
use Rattle.sr_text.specs.declared.refusal.Kind.{Kind}
use Rattle.sr_text.specs.declared.refusal.Kind.TheVariants.{OutOfProfile, Large}
use Rattle.sr_text.specs.declared.refusal.Refusal.{Refusal}
use Rattle.sr_tree.specs.declared.token.Token.{Token}
use Rattle.sr_tree.specs.declared.token.TokenKind.{TokenKind}
use Rattle.sr_lexer.specs.Roles.{opens_level, closes_level, breaks_run, counts_in_run, is_left_out}

-- brackets and bracketing words may be nested so deep
abbrev pub greatest_depth : ℕ
greatest_depth = 64

-- a run may hold so many operators, points and opening brackets
abbrev pub greatest_run : ℕ
greatest_run = 64

-- how many of the tokens pass
abbrev pub count_of : (TokenKind → Bool) → List Token → ℕ
count_of test tokens = count_by (λ token. test token.kind) tokens

-- the run that the last of the tokens belongs to, from its end: as many tokens as have none between runs among them
abbrev pub run_of : List Token → List Token
run_of tokens = take_while (λ token. not (breaks_run token.kind)) (reverse tokens)

-- why a token is refused after so many that open and that close a level, and so many that count in its run
abbrev pub fault_where : ℕ → ℕ → ℕ → TokenKind → Option Kind
fault_where openers closers run kind =
    if is_left_out kind then Some OutOfProfile
    else (if nat_lt (closers + greatest_depth) openers || nat_lt greatest_run run then Some Large else None)

-- why the last of the tokens, which is of this kind, is refused: it is a word that is left out, it stands too deep,
-- or too many count in its run
abbrev pub fault_of : List Token → TokenKind → Option Kind
fault_of tokens kind =
    fault_where (count_of opens_level tokens) (count_of closes_level tokens) (count_of counts_in_run (run_of tokens)) kind

-- none of the first `count` tokens is refused
abbrev pub IsWithinLimits : List Token → ℕ → Type 0
IsWithinLimits tokens count =
    (at : ℕ) (token : Token) → at < count → slice_get tokens at ≡ Some token → fault_of (take (at + 1) tokens) token.kind ≡ None

-- this token is the first that is refused, and that is why
pub record ExceedsLimits (tokens : List Token) (refusal : Refusal) : Type 0 where
  pub at : ℕ
  pub token : Token
  pub here : slice_get tokens at ≡ Some token
  pub fault : fault_of (take (at + 1) tokens) token.kind ≡ Some refusal.kind
  pub place : refusal.place ≡ record { file = token.span.file; line = token.span.line }
  pub first : IsWithinLimits tokens at
