-- The tokens and separators of a list of pieces.
use Rattle.std.specs.Prelude.{ℕ, ◌+◌, ◌-◌, ◌==◌, Bool, true, false, ◌&&◌, not, if◌then◌else◌, List, [], ◌∷◌, ◌++◌, reverse, fold, find, take_while, Option, Some, None, option_map}
use Rattle.sr_value.specs.declared.place.Span.{Span}
use Rattle.sr_tree.specs.declared.token.Token.{Token}
use Rattle.sr_tree.specs.declared.token.TokenKind.{TokenKind}
use Rattle.sr_tree.specs.declared.token.TokenKind.TheVariants.{Separator}
use Rattle.sr_lexer.specs.declared.piece.PieceKind.{PieceKind}
use Rattle.sr_lexer.specs.declared.piece.PieceKind.TheVariants as pieces
use Rattle.sr_lexer.specs.Roles.{may_end_line, continues_line, opens_bracket, closes_bracket}

-- a piece of a file, its bytes and where they stand
pub record Placed : Type 0 where
  pub kind : PieceKind
  pub text : List ℕ
  pub span : Span

-- whether a piece is a token that passes
abbrev pub token_passes : (TokenKind → Bool) → PieceKind → Bool
token_passes test (pieces.Token kind) = test kind
token_passes test _ = false

abbrev pub is_token : Placed → Bool
is_token piece = token_passes (λ _. true) piece.kind

abbrev pub is_newline_kind : PieceKind → Bool
is_newline_kind pieces.Newline = true
is_newline_kind _ = false

abbrev pub is_newline : Placed → Bool
is_newline piece = is_newline_kind piece.kind

-- an opening bracket adds one to those that are open, a closing one takes one away where there is one
abbrev pub open_after : ℕ → PieceKind → ℕ
open_after depth kind =
    if token_passes opens_bracket kind then depth + 1
    else (if token_passes closes_bracket kind then depth - 1 else depth)

-- how many `(` and `[` are open after the pieces
abbrev pub open_brackets : List Placed → ℕ
open_brackets before = fold (λ depth piece. open_after depth piece.kind) 0 before

-- whether the last token of the pieces is one after which a line may end
abbrev pub ends_line : Option Placed → Bool
ends_line None = false
ends_line (Some last) = token_passes may_end_line last.kind

abbrev pub line_may_end : List Placed → Bool
line_may_end before = ends_line (find is_token (reverse before))

-- the pieces after the last token, the last one first
abbrev pub after_last_token : List Placed → List Placed
after_last_token before = take_while (λ piece. not (is_token piece)) (reverse before)

-- where the first newline after the last token stands
abbrev pub newline_after : List Placed → Option Span
newline_after before = option_map (λ piece. piece.span) (find is_newline (reverse (after_last_token before)))

-- the separator that a newline is
abbrev pub newline_separator : Option Span → List Token
newline_separator None = []
newline_separator (Some span) = record { kind = Separator; text = 10 ∷ []; span = span } ∷ []

-- the first newline between two tokens is a separator where no bracket is open, a line may end after the one
-- token, and the other doesn't go on with it
abbrev pub separators_where : ℕ → Bool → Option Span → TokenKind → List Token
separators_where depth may_end newline next =
    if depth == 0 && may_end && not (continues_line next) then newline_separator newline else []

-- the separator between the pieces and the token after them
abbrev pub separators : List Placed → TokenKind → List Token
separators before next = separators_where (open_brackets before) (line_may_end before) (newline_after before) next

-- a token of the bytes
abbrev pub token_of : TokenKind → List ℕ → Span → Token
token_of kind text span = record { kind = kind; text = text; span = span }

-- what a piece adds to the tokens, where `before` are the pieces in front of it
abbrev pub tokens_at : List Placed → PieceKind → List ℕ → Span → List Token
tokens_at before (pieces.Token kind) text span = separators before kind ++ token_of kind text span ∷ []
tokens_at before _ text span = []

-- the tokens of the pieces, where `before` are the pieces in front of them
abbrev pub tokens_after : List Placed → List Placed → List Token
tokens_after before [] = []
tokens_after before (p ∷ rest) = tokens_at before p.kind p.text p.span ++ tokens_after (before ++ p ∷ []) rest

-- the tokens and separators of a whole list of pieces
unfoldable pub tokens_of : List Placed → List Token
tokens_of all = tokens_after [] all
