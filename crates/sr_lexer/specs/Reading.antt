-- What the reader of pieces keeps, and how it goes on.
use Rattle.std.specs.Prelude.{◌≡◌, ℕ, List, [], ◌∷◌, ◌++◌, Some, None, unwrap_or}
use Rattle.sr_value.specs.declared.place.Span.{Span}
use Rattle.sr_tree.specs.declared.token.TokenKind.{TokenKind}
use Rattle.sr_lexer.specs.declared.piece.PieceKind.{PieceKind}
use Rattle.sr_lexer.specs.declared.piece.PieceKind.TheVariants as pieces
use Rattle.sr_lexer.specs.declared.reader.Reader.{Reader}
use Rattle.sr_lexer.specs.Roles.{may_end_line}
use Rattle.sr_lexer.specs.Separators.{Placed, open_after, open_brackets, line_may_end, newline_after, separators_where, tokens_of, token_of}

-- what stands before the token and the token
abbrev pub after_token : Reader → TokenKind → List ℕ → Span → Reader
after_token reader kind text span = record {
  tokens = (reader.tokens ++ separators_where reader.depth reader.may_end reader.newline kind) ++ token_of kind text span ∷ [];
  depth = open_after reader.depth (pieces.Token kind);
  may_end = may_end_line kind;
  newline = None;
}

-- only the first newline after a token counts
abbrev pub after_newline : Reader → Span → Reader
after_newline reader span = record reader { newline = Some (unwrap_or reader.newline span) }

-- after one more piece
abbrev pub after_piece : Reader → PieceKind → List ℕ → Span → Reader
after_piece reader pieces.Blank text span = reader
after_piece reader pieces.Comment text span = reader
after_piece reader pieces.Newline text span = after_newline reader span
after_piece reader (pieces.Token kind) text span = after_token reader kind text span

-- the reader has read these pieces
pub record Tracks (before : List Placed) (reader : Reader) : Type 0 where
  pub tokens : reader.tokens ≡ tokens_of before
  pub depth : reader.depth ≡ open_brackets before
  pub may_end : reader.may_end ≡ line_may_end before
  pub newline : reader.newline ≡ newline_after before
