-- The pieces of a source text: blanks, newlines, comments and tokens, each the longest that can begin at its byte.
use Rattle.std.specs.Prelude.{ℕ, ◌<◌, ◌≤◌, ◌+◌, ◌-◌, ◌*◌, ◌==◌, nat_eq, nat_lt, Bool, true, false, ◌&&◌, ◌||◌, not, if◌then◌else◌, List, [], ◌∷◌, take, drop, length, fold, position, take_while, slice_index, Option, Some, None, codes}
use Rattle.std.specs.Prelude.{Result, Ok, Err}
use Rattle.std.specs.List.{starts_with, range_with_len}
use Rattle.sr_text.specs.declared.refusal.Kind.{Kind}
use Rattle.sr_text.specs.declared.refusal.Kind.TheVariants.{BadByte, BadToken}
use Rattle.sr_tree.specs.declared.token.Sign.{Sign}
use Rattle.sr_tree.specs.declared.token.Word.{Word}
use Rattle.sr_tree.specs.declared.token.TokenKind.{TokenKind}
use Rattle.sr_tree.specs.declared.token.TokenKind.TheVariants as kinds
use Rattle.sr_lexer.specs.declared.byte.Class.{Class}
use Rattle.sr_lexer.specs.declared.byte.Class.TheVariants as classes
use Rattle.sr_lexer.specs.declared.piece.PieceKind.{PieceKind}
use Rattle.sr_lexer.specs.declared.piece.PieceKind.TheVariants.{Blank, Newline, Comment, Token}
use Rattle.sr_lexer.specs.declared.piece.Piece.{Piece}
use Rattle.sr_lexer.specs.declared.piece.Fault.{Fault}
use Rattle.sr_lexer.specs.Bytes.{class_of, is_letter, is_digit, is_name_byte, is_text_byte}
use Rattle.sr_lexer.specs.Literals.{quoted_len, has_wrong_escape, character_count}
use Rattle.sr_lexer.specs.Symbols.{word_of, sign_at, sign_spelling}

-- a piece of so many bytes
abbrev pub a_piece : PieceKind → ℕ → Piece
a_piece kind len = record { kind = kind; len = len }

-- that piece is found
abbrev pub found : PieceKind → ℕ → Result Piece Fault
found kind len = Ok (a_piece kind len)

-- no piece begins here, as the byte `at` after the first shows
abbrev pub broken : Kind → ℕ → Result Piece Fault
broken kind at = Err (record { kind = kind; at = at })

-- whether there is a first byte, and it passes
abbrev pub first_passes : (ℕ → Bool) → List ℕ → Bool
first_passes test [] = false
first_passes test (byte ∷ bytes) = test byte

-- how many bytes from the front on pass
abbrev pub run_len : (ℕ → Bool) → List ℕ → ℕ
run_len test bytes = length (take_while test bytes)

-- `#` and what follows it up to the end of the line
abbrev pub line_comment : List ℕ → Piece
line_comment bytes = a_piece Comment (run_len (λ byte. not (byte == 10)) (drop 1 bytes) + 1)

-- `*/` stands at this place
abbrev pub is_close : List ℕ → ℕ → Bool
is_close bytes at = starts_with nat_eq (drop at bytes) (codes "*/")

-- the first place at which `*/` stands
unfoldable pub close_of : List ℕ → Option ℕ
close_of bytes = position (is_close bytes) (range_with_len 0 (length bytes))

-- `/*` and what follows it up to the next `*/`; without one it is unfinished
abbrev pub closed_comment : Option ℕ → Result Piece Fault
closed_comment None = broken BadToken 0
closed_comment (Some at) = found Comment (at + 4)

abbrev pub block_comment : List ℕ → Result Piece Fault
block_comment bytes = closed_comment (close_of (drop 2 bytes))

-- a reserved word, or else a name
abbrev pub name_kind : Option Word → TokenKind
name_kind None = kinds.Name
name_kind (Some word) = kinds.Word word

-- a letter and what follows it of letters, digits and underscores
abbrev pub name_piece : List ℕ → Piece
name_piece bytes = let len = run_len is_name_byte (drop 1 bytes) + 1 in a_piece (Token (name_kind (word_of (take len bytes)))) len

-- the number that decimal digits stand for
abbrev pub number_of : List ℕ → ℕ
number_of digits = fold (λ number digit. 10 * number + (digit - 48)) 0 digits

-- a number is in range, and no letter or underscore touches it
abbrev pub is_number : List ℕ → List ℕ → Bool
is_number digits rest = not (nat_lt 2147483647 (number_of digits)) && not (first_passes (λ byte. is_letter byte || byte == 95) rest)

-- decimal digits, as many as stand there
abbrev pub number_piece : List ℕ → Result Piece Fault
number_piece bytes = let len = run_len is_digit bytes in if is_number (take len bytes) (drop len bytes) then found (Token kinds.Number) len else broken BadToken 0

-- a char has one character, a string any number
abbrev pub has_right_count : TokenKind → List ℕ → Bool
has_right_count kinds.Char bytes = character_count bytes == 1
has_right_count _ bytes = true

-- a literal is closed, has no wrong escape and the right number of characters
abbrev pub is_literal : TokenKind → ℕ → List ℕ → List ℕ → Bool
is_literal kind quote inner rest = first_passes (λ byte. byte == quote) rest && not (has_wrong_escape inner) && has_right_count kind inner

-- a byte that no literal allows is the fault, whatever else is wrong
abbrev pub quoted_piece : TokenKind → ℕ → List ℕ → List ℕ → Option ℕ → Result Piece Fault
quoted_piece kind quote inner rest (Some at) = broken BadByte (at + 1)
quoted_piece kind quote inner rest None = if is_literal kind quote inner rest then found (Token kind) (length inner + 2) else broken BadToken 0

-- a literal, where `after` are the bytes after its opening quote
abbrev pub literal_piece : TokenKind → ℕ → List ℕ → Result Piece Fault
literal_piece kind quote after =
    let len = quoted_len quote after in
    quoted_piece kind quote (take len after) (drop len after) (position (λ byte. not (is_text_byte byte)) (take len after))

-- the longest sign, or else a byte that begins nothing
abbrev pub signed_piece : Option Sign → Result Piece Fault
signed_piece None = broken BadByte 0
signed_piece (Some sign) = found (Token (kinds.Sign sign)) (length (sign_spelling sign))

-- a comment, a separator or a sign
abbrev pub sign_piece : List ℕ → Result Piece Fault
sign_piece bytes =
    if starts_with nat_eq bytes (codes "/*") then block_comment bytes
    else (if starts_with nat_eq bytes (codes ";") then found (Token kinds.Separator) 1
    else signed_piece (sign_at bytes))

-- the piece at the front of the bytes, by the class of the first
abbrev pub piece_of_class : Class → List ℕ → Result Piece Fault
piece_of_class classes.Blank bytes = found Blank 1
piece_of_class classes.Newline bytes = found Newline 1
piece_of_class classes.Hash bytes = Ok (line_comment bytes)
piece_of_class classes.Apostrophe bytes = literal_piece kinds.Char 39 (drop 1 bytes)
piece_of_class classes.Quote bytes = literal_piece kinds.Str 34 (drop 1 bytes)
piece_of_class classes.Digit bytes = number_piece bytes
piece_of_class classes.Letter bytes = Ok (name_piece bytes)
piece_of_class classes.Other bytes = sign_piece bytes

-- the longest piece that begins at the first byte, or why none does
unfoldable pub piece_at : List ℕ → Result Piece Fault
piece_at bytes = piece_of_class (class_of (slice_index bytes 0)) bytes

-- a piece has bytes, all of them there, and the byte that shows a fault is there too
abbrev pub FitsIn : List ℕ → Result Piece Fault → Type 0
FitsIn bytes (Ok piece) = (0 < piece.len) × (piece.len ≤ length bytes)
FitsIn bytes (Err fault) = fault.at < length bytes
