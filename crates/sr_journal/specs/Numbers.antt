-- Numbers as a journal writes them.
use Rattle.std.specs.Prelude.{ℕ, zero, suc, ◌+◌, ◌/◌, ◌%◌, nat_lt, List, [], ◌∷◌, ◌++◌, if◌then◌else◌}

-- the decimal digits of a number; the first argument bounds how many
abbrev pub digits_within : ℕ → ℕ → List ℕ
digits_within zero n = []
digits_within (suc k) n = if nat_lt n 10 then (48 + n) ∷ [] else digits_within k (n / 10) ++ (48 + n % 10) ∷ []

-- a number of any size in decimal, with no leading zeros
unfoldable pub number_text : ℕ → List ℕ
number_text n = digits_within (suc n) n
