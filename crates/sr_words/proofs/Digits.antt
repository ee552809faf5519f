-- The number of some digits, from the front on.
use Rattle.std.proofs.Common.{◌≡◌, ℕ, ◌+◌, ◌-◌, ◌*◌, ◌&&◌, Bool, true, false, List, [], ◌∷◌, if◌then◌else◌, refl, Some, None}
use Rattle.std.specs.Prelude.{Option}
use Rattle.std.specs.Char.{is_ascii_digit}
use Rattle.std.specs.List.{fold, list_all}
use Rattle.sr_words.specs.Numbers.{number_of_digits}

-- the number so far, with the other digits after it
abbrev pub number_from : ℕ → List ℕ → Option ℕ
number_from number [] = Some number
number_from number (digit ∷ digits) = if is_ascii_digit digit then number_from (10 * number + (digit - 48)) digits else None

-- the number so far and these digits, where all of them are digits
abbrev pub value_from : ℕ → List ℕ → Option ℕ
value_from number digits =
    if list_all is_ascii_digit digits then Some (fold (λ value digit. 10 * value + (digit - 48)) number digits) else None

step : (b : Bool) (digit number : ℕ) (digits : List ℕ) → number_from (10 * number + (digit - 48)) digits ≡ value_from (10 * number + (digit - 48)) digits
    → (if b then number_from (10 * number + (digit - 48)) digits else None)
    ≡ (if b && list_all is_ascii_digit digits then Some (fold (λ value digit. 10 * value + (digit - 48)) (10 * number + (digit - 48)) digits) else None)
step true digit number digits e = e
step false digit number digits e = refl

pub number_from-digits : (number : ℕ) (digits : List ℕ) → number_from number digits ≡ value_from number digits
number_from-digits number [] = refl
number_from-digits number (digit ∷ digits) =
    step (is_ascii_digit digit) digit number digits (number_from-digits (10 * number + (digit - 48)) digits)

pub all_digits : (digits : List ℕ) → number_from 0 digits ≡ number_of_digits digits
all_digits digits = number_from-digits 0 digits
