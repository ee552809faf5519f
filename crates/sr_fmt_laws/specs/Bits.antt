-- A text in the one style, bit by bit: newlines, blanks, comments and tokens.
use Rattle.std.specs.Prelude.{ℕ, zero, suc, ◌*◌, Bool, if◌then◌else◌, List, [], ◌∷◌, ◌++◌, Option, Some, None}
use Rattle.sr_tree.specs.declared.token.TokenKind.{TokenKind}
use Rattle.sr_lexer.specs.Separators.{Placed}
use Rattle.sr_fmt.specs.declared.pen.Pen.{Pen}
use Rattle.sr_fmt.specs.Blanks.{is_spaced}
use Rattle.sr_fmt.specs.Layout.{begins_line, level_of, spelled, kind_of, is_comment, is_dropped, pen_after}
use Rattle.sr_fmt.specs.Roles.{begins_component}

-- a token of a kind, or a gap
pub record Bit : Type 0 where
  pub kind : Option TokenKind
  pub text : List ℕ

abbrev pub gap_bit : List ℕ → Bit
gap_bit text = record { kind = None; text = text }

abbrev pub token_bit : TokenKind → List ℕ → Bit
token_bit kind text = record { kind = Some kind; text = text }

-- what the bits say, one after the other
abbrev pub text_of : List Bit → List ℕ
text_of [] = []
text_of (bit ∷ bits) = bit.text ++ text_of bits

abbrev pub newline_bit : List Bit
newline_bit = gap_bit (10 ∷ []) ∷ []

-- the end of a line
abbrev pub end_bits : Option TokenKind → List Bit
end_bits None = []
end_bits (Some last) = newline_bit

abbrev pub empty_bits : Option TokenKind → TokenKind → List Bit
empty_bits last kind = if begins_component kind then end_bits last else []

-- comments, each with a newline
abbrev pub comment_bits : List (List ℕ) → List Bit
comment_bits [] = []
comment_bits (comment ∷ comments) = gap_bit comment ∷ gap_bit (10 ∷ []) ∷ comment_bits comments

-- so many blanks
abbrev pub blank_bits : ℕ → List Bit
blank_bits zero = []
blank_bits (suc n) = gap_bit (32 ∷ []) ∷ blank_bits n

abbrev pub between_bits : Option TokenKind → TokenKind → List Bit
between_bits None kind = []
between_bits (Some last) kind = if is_spaced last kind then gap_bit (32 ∷ []) ∷ [] else []

abbrev pub start_bits : Pen → List (List ℕ) → TokenKind → List Bit
start_bits pen held kind = end_bits pen.last ++ empty_bits pen.last kind ++ comment_bits held ++ blank_bits (2 * level_of pen.level kind)

abbrev pub before_bits : Pen → List (List ℕ) → Bool → TokenKind → List Bit
before_bits pen held statement kind = if begins_line pen.depth statement kind then start_bits pen held kind else between_bits pen.last kind

-- of a piece
abbrev pub piece_bits : Pen → List (List ℕ) → Bool → Option TokenKind → List ℕ → List Bit
piece_bits pen held statement None text = []
piece_bits pen held statement (Some kind) text = if is_dropped pen.depth kind then [] else before_bits pen held statement kind ++ token_bit kind (spelled kind text) ∷ []

-- the comments that wait after a piece
abbrev pub held_after : Pen → List (List ℕ) → Bool → Option TokenKind → List ℕ → List (List ℕ)
held_after pen held statement None text = if is_comment text then held ++ text ∷ [] else held
held_after pen held statement (Some kind) text = if is_dropped pen.depth kind then held else (if begins_line pen.depth statement kind then [] else held)

-- of the pieces
abbrev pub layout_bits : (ℕ → Bool) → Pen → List (List ℕ) → List Placed → List Bit
layout_bits begins pen held [] = end_bits pen.last ++ comment_bits held
layout_bits begins pen held (p ∷ rest) =
    piece_bits pen held (begins p.span.from) (kind_of p) p.text
    ++ layout_bits begins (pen_after pen (begins p.span.from) (kind_of p) p.text) (held_after pen held (begins p.span.from) (kind_of p) p.text) rest
