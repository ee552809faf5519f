-- Reading digits one by one, as a loop does.
use Rattle.std.proofs.Common.{◌≡◌, refl, sym, ◌∙◌, ap, subst, ℕ, suc, ◌+◌, ◌-◌, ◌*◌, ◌^◌, ◌<◌, ◌≤◌, ◌⊎◌, inl, inr, min, Bool, true, false, cond, eqb, nat_le, Option, Some, None, List, [], ◌∷◌, length, take, drop, get_or, Result, Ok, Err, length-drop, drop-cons, arith}
use Rattle.std.specs.Char.{is_ascii_digit}
use Rattle.std.proofs.lemmas.Bool.{eqb-true, eqb-false, eq-eqb, ne_eqb, leb-true, le-leb, lt-leb, cases_lt}
use Rattle.sr_journal.specs.declared.fail.JournalFail.{JournalFail}
use Rattle.sr_journal.specs.declared.fail.JournalFail.TheVariants.{NotJournal, Truncated}
use Rattle.sr_journal.specs.Reading.{Reading, ◌>>=◌, word_at, is_within, limit_of, grown, capped, with_capped, digits_at, number_at}
use Rattle.sr_journal.proofs.Lists.{take-whole}

split : (s : List ℕ) (i : ℕ) → i < length s → drop i s ≡ get_or s i 0 ∷ drop (i + 1) s
split s i h = let e : suc i ≡ i + 1 = omega arith in drop-cons s i 0 h ∙ ap (λ k. get_or s i 0 ∷ drop k s) e

ends : (most : Option ℕ) (end n b : ℕ) (s : List ℕ) → b ≡ end → digits_at most end n (b ∷ s) ≡ Ok (n, s)
unfolding digits_at
ends most end n b s e =
    ap (λ t. cond t (Ok (n, s)) (cond (is_ascii_digit b) (cond (is_within most (grown n b)) (digits_at most end (grown n b) s) (Err NotJournal)) (Err NotJournal))) (eq-eqb b end e)

later : (most : Option ℕ) (end n b : ℕ) (s : List ℕ) → (b ≡ end → ⊥)
    → digits_at most end n (b ∷ s) ≡ cond (is_ascii_digit b) (cond (is_within most (grown n b)) (digits_at most end (grown n b) s) (Err NotJournal)) (Err NotJournal)
unfolding digits_at
later most end n b s e =
    ap (λ t. cond t (Ok (n, s)) (cond (is_ascii_digit b) (cond (is_within most (grown n b)) (digits_at most end (grown n b) s) (Err NotJournal)) (Err NotJournal))) (ne_eqb b end e)

-- the byte that ends the number
pub at-end-byte : (most : Option ℕ) (end n i number : ℕ) (s : List ℕ) → i < length s → get_or s i 0 ≡ end → number ≡ capped n
    → digits_at most end n (drop i s) ≡ digits_at most end 0 s → with_capped (digits_at most end 0 s) ≡ Ok (number, take (length s - (i + 1)) (drop (i + 1) s))
at-end-byte most end n i number s h e c so_far =
    let all : length (drop (i + 1) s) ≡ length s - (i + 1) = length-drop (i + 1) s in
    let part : drop (i + 1) s ≡ take (length s - (i + 1)) (drop (i + 1) s) = sym (take-whole (length s - (i + 1)) (drop (i + 1) s) (omega (arith, all))) in
    ap with_capped (sym so_far ∙ ap (digits_at most end n) (split s i h) ∙ ends most end n (get_or s i 0) (drop (i + 1) s) e) ∙ (λ t. Ok (sym c t, part t))

-- a byte that is no digit
pub at-no-digit : (most : Option ℕ) (end n i : ℕ) (s : List ℕ) → i < length s → (get_or s i 0 ≡ end → ⊥) → is_ascii_digit (get_or s i 0) ≡ false
    → digits_at most end n (drop i s) ≡ digits_at most end 0 s → with_capped (digits_at most end 0 s) ≡ Err NotJournal
at-no-digit most end n i s h e d so_far =
    let b : ℕ = get_or s i 0 in
    let r : List ℕ = drop (i + 1) s in
    ap with_capped (sym so_far ∙ ap (digits_at most end n) (split s i h) ∙ later most end n b r e
    ∙ ap (λ t. cond t (cond (is_within most (grown n b)) (digits_at most end (grown n b) r) (Err NotJournal)) (Err NotJournal)) d)

by-digit : (most : Option ℕ) (end n i : ℕ) (s : List ℕ) → i < length s → (get_or s i 0 ≡ end → ⊥) → is_ascii_digit (get_or s i 0) ≡ true
    → digits_at most end n (drop i s) ≡ cond (is_within most (grown n (get_or s i 0))) (digits_at most end (grown n (get_or s i 0)) (drop (i + 1) s)) (Err NotJournal)
by-digit most end n i s h e d =
    let b : ℕ = get_or s i 0 in
    let r : List ℕ = drop (i + 1) s in
    ap (digits_at most end n) (split s i h) ∙ later most end n b r e
    ∙ ap (λ t. cond t (cond (is_within most (grown n b)) (digits_at most end (grown n b) r) (Err NotJournal)) (Err NotJournal)) d

-- a limit of what is capped is a limit of the number
limit-by-test : (most n : ℕ) (t : Bool) → eqb most (2 ^ 64 - 1) ≡ t → most < 2 ^ 64 → nat_le (capped n) most ≡ is_within (cond t None (Some most)) n
limit-by-test most n true e h = let k : most ≡ 2 ^ 64 - 1 = eqb-true most (2 ^ 64 - 1) e in le-leb (capped n) most (omega (arith, k))
limit-by-test most n false e h = by_size (cases_lt most n)
  where
    by_size : (most < n) ⊎ (n ≤ most) → nat_le (capped n) most ≡ nat_le n most
    by_size (inl l) = let k : most ≡ 2 ^ 64 - 1 → ⊥ = eqb-false most (2 ^ 64 - 1) e in lt-leb (capped n) most (omega (arith, k, l, h)) ∙ sym (lt-leb n most l)
    by_size (inr l) = le-leb (capped n) most (omega (arith, l)) ∙ sym (le-leb n most l)

limit : (most n : ℕ) → most < 2 ^ 64 → nat_le (capped n) most ≡ is_within (limit_of most) n
limit most n h = limit-by-test most n (eqb most (2 ^ 64 - 1)) refl h

-- a number that is too great
pub at-too-great : (most end n i number : ℕ) (s : List ℕ) → most < 2 ^ 64 → i < length s → (get_or s i 0 ≡ end → ⊥) → is_ascii_digit (get_or s i 0) ≡ true
    → number ≡ capped (grown n (get_or s i 0)) → most < number
    → digits_at (limit_of most) end n (drop i s) ≡ digits_at (limit_of most) end 0 s → with_capped (digits_at (limit_of most) end 0 s) ≡ Err NotJournal
at-too-great most end n i number s m h e d c over so_far =
    let b : ℕ = get_or s i 0 in
    let no-way : is_within (limit_of most) (grown n b) ≡ false = sym (limit most (grown n b) m) ∙ lt-leb (capped (grown n b)) most (subst (λ k. most < k) c over) in
    ap with_capped (sym so_far ∙ by-digit (limit_of most) end n i s h e d ∙ ap (λ t. cond t (digits_at (limit_of most) end (grown n b) (drop (i + 1) s)) (Err NotJournal)) no-way)

-- one more digit
pub at-digit : (most end n i number : ℕ) (s : List ℕ) → most < 2 ^ 64 → i < length s → (get_or s i 0 ≡ end → ⊥) → is_ascii_digit (get_or s i 0) ≡ true
    → number ≡ capped (grown n (get_or s i 0)) → number ≤ most
    → digits_at (limit_of most) end n (drop i s) ≡ digits_at (limit_of most) end 0 s
    → digits_at (limit_of most) end (grown n (get_or s i 0)) (drop (i + 1) s) ≡ digits_at (limit_of most) end 0 s
at-digit most end n i number s m h e d c under so_far =
    let b : ℕ = get_or s i 0 in
    let yes : is_within (limit_of most) (grown n b) ≡ true = sym (limit most (grown n b) m) ∙ le-leb (capped (grown n b)) most (subst (λ k. k ≤ most) c under) in
    sym (by-digit (limit_of most) end n i s h e d ∙ ap (λ t. cond t (digits_at (limit_of most) end (grown n b) (drop (i + 1) s)) (Err NotJournal)) yes) ∙ so_far

pub cap-grown : (n number b : ℕ) → number ≡ capped n → min (min (number * 10) (2 ^ 64 - 1) + (b - 48)) (2 ^ 64 - 1) ≡ capped (grown n b)
cap-grown n number b e = omega (arith, e)

-- the bytes have ended
pub at-end-of-bytes : (most : Option ℕ) (end n i : ℕ) (s : List ℕ) → length s ≤ i → digits_at most end n (drop i s) ≡ digits_at most end 0 s → with_capped (digits_at most end 0 s) ≡ Err Truncated
unfolding digits_at
at-end-of-bytes most end n i s h so_far =
    let l : length (drop i s) ≡ length s - i = length-drop i s in
    ap with_capped (sym so_far ∙ ap (digits_at most end n) (empty (drop i s) (omega (arith, l, h))))
  where
    empty : (u : List ℕ) → length u ≡ 0 → u ≡ []
    empty [] e = refl
    empty (x ∷ u) e = absurd (omega (arith, e))

-- what is read is within the limit
digits-within : (most end n : ℕ) (s : List ℕ) (k : ℕ) (r : List ℕ) → n ≤ most → digits_at (Some most) end n s ≡ Ok (k, r) → k ≤ most
unfolding digits_at
digits-within most end n [] k r h e = cc
digits-within most end n (b ∷ s) k r h e = by-tests (eqb b end) (is_ascii_digit b) (is_within (Some most) (grown n b)) refl (λ w f. digits-within most end (grown n b) s k r w f) e
  where
    by-tests : (x y z : Bool) → is_within (Some most) (grown n b) ≡ z → (grown n b ≤ most → digits_at (Some most) end (grown n b) s ≡ Ok (k, r) → k ≤ most)
        → cond x (Ok (n, s)) (cond y (cond z (digits_at (Some most) end (grown n b) s) (Err NotJournal)) (Err NotJournal)) ≡ Ok (k, r) → k ≤ most
    by-tests true y z q next f = let at : n ≡ k = ap first-of f in omega (arith, at, h)
      where
        first-of : Reading ℕ → ℕ
        first-of (Ok x) = x.0
        first-of (Err e) = n
    by-tests false true true q next f = next (leb-true (grown n b) most q) f
    by-tests false true false q next f = cc
    by-tests false false z q next f = cc

number-within : (zeros : Bool) (most end : ℕ) (s : List ℕ) (k : ℕ) (r : List ℕ) → number_at zeros (Some most) end s ≡ Ok (k, r) → k ≤ most
unfolding number_at
number-within zeros most end [] k r e = cc
number-within zeros most end (b ∷ s) k r e = by-tests (eqb b 48) zeros (is_ascii_digit b) (word_at (end ∷ []) s) e
  where
    value : Reading ℕ → ℕ
    value (Ok x) = x.0
    value (Err e) = 0

    by-tests : (x y z : Bool) (w : Result (List ℕ) JournalFail)
        → cond x (cond y (w >>= λ rest. Ok (0, rest)) (Err NotJournal)) (cond z (digits_at (Some most) end 0 (b ∷ s)) (Err NotJournal)) ≡ Ok (k, r) → k ≤ most
    by-tests true true z (Ok u) f = let at : 0 ≡ k = ap value f in omega (arith, at)
    by-tests true true z (Err u) f = cc
    by-tests true false z w f = cc
    by-tests false y true w f = digits-within most end 0 (b ∷ s) k r (omega arith) f
    by-tests false y false w f = cc

some-limit : (most : ℕ) → most < 2 ^ 32 → limit_of most ≡ Some most
some-limit most h = let n : most ≡ 2 ^ 64 - 1 → ⊥ = λ e. omega arith in ap (λ t. cond t None (Some most)) (ne_eqb most (2 ^ 64 - 1) n)

uncapped : (r : Reading ℕ) (most c : ℕ) (rest : List ℕ) → most < 2 ^ 32 → ((k : ℕ) (q : List ℕ) → r ≡ Ok (k, q) → k ≤ most) → with_capped r ≡ Ok (c, rest) → (r ≡ Ok (c, rest)) × (c ≤ most)
uncapped (Ok x) most c rest h w e =
    let le : x.0 ≤ most = w x.0 x.1 refl in
    let same : capped x.0 ≡ x.0 = omega (arith, le, h) in
    let whole : Ok x ≡ Ok (c, rest) = ap (λ k. Ok (k, x.1)) (sym same) ∙ e in
    (whole, w c rest whole)
uncapped (Err u) most c rest h w e = cc

-- a number that has a limit isn't capped
pub limited-ok : (zeros : Bool) (most end c : ℕ) (s rest : List ℕ) → most < 2 ^ 32 → with_capped (number_at zeros (limit_of most) end s) ≡ Ok (c, rest) → (number_at zeros (Some most) end s ≡ Ok (c, rest)) × (c ≤ most)
limited-ok zeros most end c s rest h e =
    let f : with_capped (number_at zeros (Some most) end s) ≡ Ok (c, rest) = ap (λ l. with_capped (number_at zeros l end s)) (sym (some-limit most h)) ∙ e in
    uncapped (number_at zeros (Some most) end s) most c rest h (number-within zeros most end s) f
