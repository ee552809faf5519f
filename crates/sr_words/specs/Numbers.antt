-- Numbers among the words: 1 to 10 decimal digits, and no sign. A leading zero is a digit as any other.
use Rattle.std.specs.Prelude.{ℕ, ◌+◌, ◌-◌, ◌*◌, ◌&&◌, nat_le, Bool, List, length, Option, Some, None, if◌then◌else◌}
use Rattle.std.specs.Char.{is_ascii_digit}
use Rattle.std.specs.List.{fold, list_all}

-- what decimal digits stand for
abbrev pub value_of : List ℕ → ℕ
value_of digits = fold (λ value digit. 10 * value + (digit - 48)) 0 digits

-- the number that a word of digits alone is
abbrev pub number_of_digits : List ℕ → Option ℕ
number_of_digits word = if list_all is_ascii_digit word then Some (value_of word) else None

-- 1 to 10 digits
abbrev pub is_number : List ℕ → Bool
is_number word = nat_le 1 (length word) && nat_le (length word) 10 && list_all is_ascii_digit word

-- the number from `least` to `most` that a word is
abbrev pub number_within : ℕ → ℕ → List ℕ → Option ℕ
number_within least most word =
    if is_number word && nat_le least (value_of word) && nat_le (value_of word) most then Some (value_of word) else None
