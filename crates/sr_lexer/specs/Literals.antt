-- What stands between the quotes of a literal.
use Rattle.std.specs.Prelude.{ℕ, ◌==◌, Bool, false, ◌&&◌, ◌||◌, not, List, [], ◌∷◌, filter, length}
use Rattle.std.specs.List.{list_any, prefix_len}
use Rattle.sr_lexer.specs.Bytes.{is_escape}

-- a byte, and whether a backslash before it escapes it
pub record Marked : Type 0 where
  pub byte : ℕ
  pub escaped : Bool

-- a backslash that isn't escaped itself escapes the byte after it
abbrev pub escapes_next : Bool → ℕ → Bool
escapes_next escaped byte = not escaped && byte == 92

-- each byte with its mark, where `escaped` is the mark of the first
abbrev pub marked : Bool → List ℕ → List Marked
marked escaped [] = []
marked escaped (byte ∷ bytes) = record { byte = byte; escaped = escaped } ∷ marked (escapes_next escaped byte) bytes

-- a newline ends a literal, and so does its own quote where it isn't escaped
abbrev pub is_inside : ℕ → Marked → Bool
is_inside quote m = not (m.byte == 10 || m.byte == quote && not m.escaped)

-- how many bytes stand after the opening quote up to the closing quote, a newline or the end of the file
unfoldable pub quoted_len : ℕ → List ℕ → ℕ
quoted_len quote bytes = prefix_len (is_inside quote) (marked false bytes)

-- a backslash escapes a byte that has no escape
abbrev pub is_wrong_escape : Marked → Bool
is_wrong_escape m = m.escaped && not (is_escape m.byte)

-- an escape stands for one character, and so does any other byte
abbrev pub begins_character : Marked → Bool
begins_character m = not m.escaped

unfoldable pub has_wrong_escape : List ℕ → Bool
has_wrong_escape bytes = list_any is_wrong_escape (marked false bytes)

-- how many characters the bytes stand for
unfoldable pub character_count : List ℕ → ℕ
character_count bytes = length (filter begins_character (marked false bytes))
