-- What the token of a literal stands for.
use Rattle.std.specs.Prelude.{ℕ, ◌+◌, ◌-◌, ◌*◌, ◌==◌, ◌&&◌, nat_le, Bool, true, false, if◌then◌else◌, List, [], ◌∷◌, length, take, drop, Option, Some, None}
use Rattle.std.specs.Option.{option_and_then}

abbrev pub is_digit : ℕ → Bool
is_digit byte = nat_le 48 byte && nat_le byte 57

-- the number with one digit more, where an `int` holds it
abbrev pub with_digit : ℕ → ℕ → Option ℕ
with_digit number byte = if is_digit byte && nat_le (10 * number + (byte - 48)) 2147483647 then Some (10 * number + (byte - 48)) else None

abbrev pub with_digits : ℕ → List ℕ → Option ℕ
with_digits number [] = Some number
with_digits number (byte ∷ bytes) = option_and_then (λ more. with_digits more bytes) (with_digit number byte)

-- the number that decimal digits stand for: one digit or more, and a number that an `int` holds
abbrev pub number_of : List ℕ → Option ℕ
number_of [] = None
number_of (byte ∷ bytes) = with_digits 0 (byte ∷ bytes)

-- what stands between the first byte and the last
abbrev pub inside : List ℕ → List ℕ
inside token = take (length token - 2) (drop 1 token)

-- the byte that an escape names: `\n` a newline, `\t` a tab, `\r` a carriage return, `\0` the byte 0, and the
-- backslash and the quotes themselves
abbrev pub named : ℕ → ℕ
named byte = if byte == 110 then 10 else if byte == 116 then 9 else if byte == 114 then 13 else if byte == 48 then 0 else byte

-- the bytes that are meant by those between the quotes, where `escaped` says that a backslash stands before the first
abbrev pub meant : Bool → List ℕ → List ℕ
meant escaped [] = []
meant true (byte ∷ bytes) = named byte ∷ meant false bytes
meant false (byte ∷ bytes) = if byte == 92 then meant true bytes else byte ∷ meant false bytes

-- the bytes that a string literal stands for
abbrev pub string_of : List ℕ → List ℕ
string_of token = meant false (inside token)
