-- Classes of bytes.
use Rattle.std.specs.Prelude.{ℕ, Bool, ◌==◌, ◌&&◌, ◌||◌, nat_le, if◌then◌else◌}
use Rattle.sr_lexer.specs.declared.byte.Class.{Class}
use Rattle.sr_lexer.specs.declared.byte.Class.TheVariants.{Blank, Newline, Hash, Apostrophe, Quote, Digit, Letter, Other}

-- a byte from one to another, both counted in
abbrev pub is_between : ℕ → ℕ → ℕ → Bool
is_between low high byte = nat_le low byte && nat_le byte high

-- letters of both cases
abbrev pub is_letter : ℕ → Bool
is_letter byte = is_between 97 122 byte || is_between 65 90 byte

-- decimal digits
abbrev pub is_digit : ℕ → Bool
is_digit byte = is_between 48 57 byte

-- what a name may go on with: letters, digits and the underscore
abbrev pub is_name_byte : ℕ → Bool
is_name_byte byte = is_letter byte || is_digit byte || byte == 95

-- what may stand inside a literal: a tab, and the bytes from the space to the tilde
abbrev pub is_text_byte : ℕ → Bool
is_text_byte byte = byte == 9 || is_between 32 126 byte

-- the backslash and both quotes
abbrev pub is_quoting_byte : ℕ → Bool
is_quoting_byte byte = byte == 92 || byte == 39 || byte == 34

-- what may stand after a backslash: n, t, r, 0, the backslash and both quotes
abbrev pub is_escape : ℕ → Bool
is_escape byte = byte == 110 || byte == 116 || byte == 114 || byte == 48 || is_quoting_byte byte

-- tab, carriage return and space are blanks
abbrev pub is_blank : ℕ → Bool
is_blank byte = byte == 9 || byte == 13 || byte == 32

-- what a piece is, by its first byte
abbrev pub class_of : ℕ → Class
class_of byte = if is_blank byte then Blank
    else (if byte == 10 then Newline
    else (if byte == 35 then Hash
    else (if byte == 39 then Apostrophe
    else (if byte == 34 then Quote
    else (if is_digit byte then Digit
    else (if is_letter byte then Letter else Other))))))
