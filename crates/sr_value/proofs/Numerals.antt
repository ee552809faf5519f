-- What `parse` reads as an `int` is the number that the text writes.
use Rattle.std.proofs.Common.{◌≡◌, ◌<◌, ◌+◌, ◌-◌, ◌*◌, ℕ, ℤ, pos, negsuc, List, [], ◌∷◌, length, Bool, true, false, ◌&&◌, Option, Some, None, Result, Ok, Err, nat_lt, ◌==◌, FitsSigned, w32, refl, sym, ap, cond, drop, arith, rules, ◌∙◌}
use Rattle.std.specs.Str.{all_ascii_digits, IsUtf8, IsAscii}
use Rattle.std.specs.Str.Parse.{IsNumeral, ParsesSigned, without_leading_sign, signed_digits_value}
use Rattle.std.specs.Result.{result_ok}
use Rattle.std.proofs.lemmas.Str.Parse.{IsNumeralModel, numerals_by_fold}
use Rattle.std.proofs.lemmas.Str.{IsUtf8-from_ascii}
use Rattle.std.proofs.lemmas.Bool.{eqb-true}
use Rattle.std.proofs.lemmas.Str.Ascii.{IsAscii-cons, IsAscii-nil}
use Rattle.std.proofs.lemmas.Fmt.{IsAscii-from_digits}
use Rattle.sr_value.specs.Operators.{is_int}
use Rattle.sr_value.specs.Predefined.{written_int}

abbrev read_on : ℕ → List ℕ → ℕ
read_on n [] = n
read_on n (c ∷ cs) = read_on (10 * n + (c - 48)) cs

digits : IsNumeralModel (λ ds. all_ascii_digits ds ≡ true) (read_on 0)
digits = numerals_by_fold _ (search rules) read_on (search rules)

-- the text is a numeral in the range of `int`
abbrev writes_int : List ℕ → Bool
writes_int bs = nat_lt 0 (length (without_leading_sign bs)) && all_ascii_digits (without_leading_sign bs) && is_int (signed_digits_value 10 bs)

both : (a b : Bool) → (a && b) ≡ true → (a ≡ true) × (b ≡ true)
both true b h = (refl, h)
both false b h = cc

fits-from_is_int : (z : ℤ) → is_int z ≡ true → FitsSigned w32 z
fits-from_is_int (pos n) h = record { sfits = grind arith }
fits-from_is_int (negsuc n) h = record { sfits = grind arith }

is_int-from_fits : (z : ℤ) → FitsSigned w32 z → is_int z ≡ true
is_int-from_fits (pos n) h = let low : n < 2147483648 = h.sfits in grind arith
is_int-from_fits (negsuc n) h = let low : n < 2147483648 = h.sfits in grind arith

writes_int-to : (bs : List ℕ) → writes_int bs ≡ true → IsNumeral 10 (without_leading_sign bs) × FitsSigned w32 (signed_digits_value 10 bs)
writes_int-to bs h =
    let outer = both (nat_lt 0 (length (without_leading_sign bs)) && all_ascii_digits (without_leading_sign bs)) (is_int (signed_digits_value 10 bs)) h in
    let inner = both (nat_lt 0 (length (without_leading_sign bs))) (all_ascii_digits (without_leading_sign bs)) outer.0 in
    let some : 0 < length (without_leading_sign bs) = grind (arith, inner.0) in
    ((some, digits.to (without_leading_sign bs) inner.1), fits-from_is_int (signed_digits_value 10 bs) outer.1)

writes_int-from : (bs : List ℕ) → IsNumeral 10 (without_leading_sign bs) → FitsSigned w32 (signed_digits_value 10 bs) → writes_int bs ≡ true
writes_int-from bs n f =
    let some : nat_lt 0 (length (without_leading_sign bs)) ≡ true = grind (arith, n.0) in
    let all : all_ascii_digits (without_leading_sign bs) ≡ true = digits.from (without_leading_sign bs) n.1 in
    let low : is_int (signed_digits_value 10 bs) ≡ true = is_int-from_fits (signed_digits_value 10 bs) f in
    cc

taken : (b : Bool) (x : ℤ) → b ≡ true → Some x ≡ cond b (Some x) None
taken true x h = refl
taken false x h = cc

refused : (b : Bool) (x : ℤ) → (b ≡ true → ⊥) → ◌≡◌ {A = Option ℤ} None (cond b (Some x) None)
refused true x h = absurd (h refl)
refused false x h = refl

pub parsed_is_written : {E : Type 0} (bs : List ℕ) (r : Result ℤ E) → ParsesSigned w32 10 bs r → result_ok r ≡ written_int bs
parsed_is_written bs (Ok x) h = ap (λ y. Some y) h.1 ∙ taken (writes_int bs) (signed_digits_value 10 bs) (writes_int-from bs h.0.0 h.0.1)
parsed_is_written bs (Err e) h = refused (writes_int bs) (signed_digits_value 10 bs) (λ t. h (writes_int-to bs t))

ascii_by_sign : (c : ℕ) (cs : List ℕ) (minus plus : Bool) → minus ≡ (c == 45) → plus ≡ (c == 43) → IsAscii (cond minus (drop 1 (c ∷ cs)) (drop (cond plus 1 0) (c ∷ cs))) → IsAscii (c ∷ cs)
ascii_by_sign c cs true plus m p h = let low : c < 128 = grind (arith, eqb-true c 45 (sym m)) in IsAscii-cons c cs low h
ascii_by_sign c cs false true m p h = let low : c < 128 = grind (arith, eqb-true c 43 (sym p)) in IsAscii-cons c cs low h
ascii_by_sign c cs false false m p h = h

ascii_with_sign : (bs : List ℕ) → IsAscii (without_leading_sign bs) → IsAscii bs
ascii_with_sign [] h = IsAscii-nil
ascii_with_sign (c ∷ cs) h = ascii_by_sign c cs (c == 45) (c == 43) refl refl h

pub not_text_writes_none : (bs : List ℕ) → (IsUtf8 bs → ⊥) → ◌≡◌ {A = Option ℤ} None (written_int bs)
not_text_writes_none bs h = refused (writes_int bs) (signed_digits_value 10 bs) (λ t. h (IsUtf8-from_ascii bs (ascii_with_sign bs (IsAscii-from_digits (without_leading_sign bs) (writes_int-to bs t).0.1))))
