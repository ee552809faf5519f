-- A piece reads the same whatever follows it, unless its first byte goes on with the piece.
use Rattle.std.proofs.Common.{◌≡◌, ℕ, suc, ◌+◌, ◌≤◌, ◌==◌, Bool, true, false, cond, not, ◌&&◌, ◌||◌, List, [], ◌∷◌, ◌++◌, length, take, drop, refl, ap, sym, ◌∙◌, arith, Ok, nat_lt, nat_le, ◌⊎◌, inl, inr, eqb-true}
use Rattle.std.specs.List.{prefix_len}
use Rattle.std.proofs.lemmas.Bool.{leb-true, and_parts as both_of, or_cases as either_of}
use Rattle.std.proofs.lemmas.List.{take-append-le}
use Rattle.std.proofs.lemmas.List.Folds.{length-prefix_len}
use Rattle.std.proofs.Math.Seq.{drop-append_seam, drop-length}
use Rattle.sr_lexer.specs.Bytes.{class_of, is_between, is_blank, is_digit, is_letter, is_name_byte}
use Rattle.sr_lexer.specs.Pieces.{first_passes, run_len, line_comment, name_piece, number_of, is_number, number_piece, piece_of_class, piece_at}

pub along : {A B : Type 0} {x y : A} → x ≡ y → (f : A → B) → f x ≡ f y
along e f = ap f e

pub split : (b : Bool) → (b ≡ true) ⊎ (b ≡ false)
split true = inl refl
split false = inr refl

-- a byte that passes isn't one that doesn't
apart : (test : ℕ → Bool) (byte known : ℕ) → test byte ≡ true → test known ≡ false → (byte == known) ≡ false
apart test byte known e f =
    elim (split (byte == known)) [
      | inl same ↦ (let clash : true ≡ false = sym e ∙ ap test (eqb-true byte known same) ∙ f in absurd (cc))
      | inr other ↦ other
    ]

-- ---- runs

pub run_is : (test : ℕ → Bool) (xs : List ℕ) → run_len test xs ≡ prefix_len test xs
run_is test xs = length-prefix_len test xs

no_first : (test : ℕ → Bool) (rest : List ℕ) → first_passes test rest ≡ false → prefix_len test rest ≡ 0
no_first test [] e = refl
no_first test (byte ∷ rest) e = ap (λ b. cond b (1 + prefix_len test rest) 0) e

pub one_longer : (b : Bool) (p q n : ℕ) → cond b (1 + p) 0 ≡ suc n → (p ≡ n → q ≡ n) → cond b (1 + q) 0 ≡ suc n
one_longer true p q n e f = let same = f (omega (arith, e)) in omega (arith, same)
one_longer false p q n e f = absurd (omega (arith, e))

prefix_alone : (test : ℕ → Bool) (xs rest : List ℕ) → prefix_len test xs ≡ length xs → first_passes test rest ≡ false → prefix_len test (xs ++ rest) ≡ length xs
prefix_alone test [] rest e f = no_first test rest f
prefix_alone test (x ∷ xs) rest e f = one_longer (test x) (prefix_len test xs) (prefix_len test (xs ++ rest)) (length xs) e (λ same. prefix_alone test xs rest same f)

-- a run that takes all bytes ends before what doesn't pass
pub run_alone : (test : ℕ → Bool) (xs rest : List ℕ) → run_len test xs ≡ length xs → first_passes test rest ≡ false → run_len test (xs ++ rest) ≡ run_len test xs
run_alone test xs rest e f = run_is test (xs ++ rest) ∙ prefix_alone test xs rest (sym (run_is test xs) ∙ e) f ∙ sym e

-- ---- the class of a first byte

letter_above : (byte : ℕ) → is_letter byte ≡ true → 65 ≤ byte
letter_above byte e =
    elim (either_of (is_between 97 122 byte) (is_between 65 90 byte) e) [
      | inl small ↦ (let low = leb-true 97 byte (both_of (nat_le 97 byte) (nat_le byte 122) small).0 in omega (arith, low))
      | inr great ↦ leb-true 65 byte (both_of (nat_le 65 byte) (nat_le byte 90) great).0
    ]

letter_no_digit : (byte : ℕ) → is_letter byte ≡ true → is_digit byte ≡ false
letter_no_digit byte e =
    elim (split (is_digit byte)) [
      | inl digit ↦ (let high = leb-true byte 57 (both_of (nat_le 48 byte) (nat_le byte 57) digit).1 in absurd (omega (arith, high, letter_above byte e)))
      | inr none ↦ none
    ]

pub not_blank : (byte : ℕ) → (byte == 9) ≡ false → (byte == 13) ≡ false → (byte == 32) ≡ false → is_blank byte ≡ false
not_blank byte a b c = rw (a, b, c) refl

letter_class : (byte : ℕ) → is_letter byte ≡ true → class_of byte ≡ class_of 97
letter_class byte e =
    let blank = not_blank byte (apart is_letter byte 9 e refl) (apart is_letter byte 13 e refl) (apart is_letter byte 32 e refl) in
    let newline = apart is_letter byte 10 e refl in
    let hash = apart is_letter byte 35 e refl in
    let apostrophe = apart is_letter byte 39 e refl in
    let quote = apart is_letter byte 34 e refl in
    let digit = letter_no_digit byte e in
    rw (blank, newline, hash, apostrophe, quote, digit, e) refl

digit_class : (byte : ℕ) → is_digit byte ≡ true → class_of byte ≡ class_of 48
digit_class byte e =
    let blank = not_blank byte (apart is_digit byte 9 e refl) (apart is_digit byte 13 e refl) (apart is_digit byte 32 e refl) in
    let newline = apart is_digit byte 10 e refl in
    let hash = apart is_digit byte 35 e refl in
    let apostrophe = apart is_digit byte 39 e refl in
    let quote = apart is_digit byte 34 e refl in
    rw (blank, newline, hash, apostrophe, quote, e) refl

-- ---- names and words

pub name_at : (byte : ℕ) (more : List ℕ) → is_letter byte ≡ true → piece_at (byte ∷ more) ≡ Ok (name_piece (byte ∷ more))
unfolding piece_at
name_at byte more e = along (letter_class byte e) (λ class. piece_of_class class (byte ∷ more))

pub name_alone : (byte : ℕ) (more rest : List ℕ) → is_letter byte ≡ true → run_len is_name_byte more ≡ length more → first_passes is_name_byte rest ≡ false → piece_at (byte ∷ (more ++ rest)) ≡ piece_at (byte ∷ more)
name_alone byte more rest e whole ends =
    let run = run_alone is_name_byte more rest whole ends in
    let bytes : take (run_len is_name_byte more + 1) (byte ∷ (more ++ rest)) ≡ take (run_len is_name_byte more + 1) (byte ∷ more) =
    take-append-le (run_len is_name_byte more + 1) (byte ∷ more) rest (omega (arith, whole)) in
    let same : name_piece (byte ∷ (more ++ rest)) ≡ name_piece (byte ∷ more) = rw (run, bytes) refl in
    name_at byte (more ++ rest) e ∙ along same (λ piece. Ok piece) ∙ sym (name_at byte more e)

-- ---- numbers

pub number_at : (byte : ℕ) (more : List ℕ) → is_digit byte ≡ true → piece_at (byte ∷ more) ≡ number_piece (byte ∷ more)
unfolding piece_at
number_at byte more e = along (digit_class byte e) (λ class. piece_of_class class (byte ∷ more))

-- what a number may not touch goes on with a name
pub no_touch : (rest : List ℕ) → first_passes is_name_byte rest ≡ false → (first_passes is_digit rest ≡ false) × (first_passes (λ byte. is_letter byte || byte == 95) rest ≡ false)
no_touch [] e = (refl, refl)
no_touch (byte ∷ rest) e = by_tests (is_letter byte) (is_digit byte) (byte == 95) e
  where
    by_tests : (letter digit line : Bool) → (letter || digit || line) ≡ false → (digit ≡ false) × ((letter || line) ≡ false)
    by_tests true digit line e = absurd (cc)
    by_tests false true line e = absurd (cc)
    by_tests false false line e = (refl, e)

is_number_alone : (digits rest : List ℕ) → first_passes (λ byte. is_letter byte || byte == 95) rest ≡ false → is_number digits rest ≡ is_number digits []
is_number_alone digits rest e = along e (λ (b : Bool). not (nat_lt 2147483647 (number_of digits)) && not b)

pub number_alone : (byte : ℕ) (more rest : List ℕ) → is_digit byte ≡ true → run_len is_digit (byte ∷ more) ≡ length (byte ∷ more) → first_passes is_name_byte rest ≡ false → piece_at (byte ∷ (more ++ rest)) ≡ piece_at (byte ∷ more)
number_alone byte more rest e whole ends =
    let digits = byte ∷ more in
    let run : run_len is_digit (digits ++ rest) ≡ run_len is_digit digits = run_alone is_digit digits rest whole (no_touch rest ends).0 in
    let bytes : take (run_len is_digit digits) (digits ++ rest) ≡ take (run_len is_digit digits) digits = take-append-le (run_len is_digit digits) digits rest (omega (arith, whole)) in
    let after : drop (run_len is_digit digits) (digits ++ rest) ≡ rest = ap (λ n. drop n (digits ++ rest)) whole ∙ drop-append_seam digits rest in
    let none : drop (run_len is_digit digits) digits ≡ [] = ap (λ n. drop n digits) whole ∙ drop-length digits in
    let number : is_number (take (run_len is_digit digits) (digits ++ rest)) (drop (run_len is_digit digits) (digits ++ rest)) ≡ is_number (take (run_len is_digit digits) digits) (drop (run_len is_digit digits) digits) =
    ap (λ text. is_number text (drop (run_len is_digit digits) (digits ++ rest))) bytes
    ∙ ap (λ left. is_number (take (run_len is_digit digits) digits) left) after
    ∙ is_number_alone (take (run_len is_digit digits) digits) rest (no_touch rest ends).1
    ∙ ap (λ left. is_number (take (run_len is_digit digits) digits) left) (sym none) in
    let same : number_piece (digits ++ rest) ≡ number_piece digits = rw (run, number) refl in
    number_at byte (more ++ rest) e ∙ same ∙ sym (number_at byte more e)

-- ---- comments

-- a comment up to the end of the line
pub hash_at : (more : List ℕ) → piece_at (35 ∷ more) ≡ Ok (line_comment (35 ∷ more))
unfolding piece_at
hash_at more = refl

pub line_comment_alone : (more rest : List ℕ) → run_len (λ byte. not (byte == 10)) more ≡ length more → first_passes (λ byte. not (byte == 10)) rest ≡ false → piece_at (35 ∷ (more ++ rest)) ≡ piece_at (35 ∷ more)
line_comment_alone more rest whole ends =
    let run = run_alone (λ byte. not (byte == 10)) more rest whole ends in
    let same : line_comment (35 ∷ (more ++ rest)) ≡ line_comment (35 ∷ more) = rw run refl in
    hash_at (more ++ rest) ∙ along same (λ piece. Ok piece) ∙ sym (hash_at more)
