-- The text of a number: digits, the number back, and no leading zeros.
use Rattle.std.proofs.Common.{◌≡◌, refl, sym, ◌∙◌, ap, ℕ, zero, suc, ◌+◌, ◌/◌, ◌%◌, ◌^◌, ◌<◌, ◌≤◌, Bool, true, false, cond, nat_lt, List, [], ◌∷◌, ◌++◌, arith}
use Rattle.std.specs.Fmt.{decimal}
use Rattle.std.specs.List.{AllByRecursion}
use Rattle.std.proofs.lemmas.Bool.{ltb-true, ltb-false, lt-ltb, le-ltb}
use Rattle.std.proofs.lemmas.Fmt.{decimal_by_steps}
use Rattle.sr_journal.specs.Numbers.{digits_within, number_text}
use Rattle.sr_journal.specs.Reading.{grown}

abbrev pub IsDigit : ℕ → Type 0
IsDigit b = (48 ≤ b) × (b < 58)

abbrev pub AreDigits : List ℕ → Type 0
AreDigits ds = AllByRecursion IsDigit ds

-- the number that digits write after those of n
abbrev pub value_after : ℕ → List ℕ → ℕ
value_after n [] = n
value_after n (d ∷ ds) = value_after (grown n d) ds

pub value-append : (n : ℕ) (ds es : List ℕ) → value_after n (ds ++ es) ≡ value_after (value_after n ds) es
value-append n [] es = refl
value-append n (d ∷ ds) es = value-append (grown n d) ds es

digits-append : (ds es : List ℕ) → AreDigits ds → AreDigits es → AreDigits (ds ++ es)
digits-append [] es p q = q
digits-append (d ∷ ds) es p q = (p.0, digits-append ds es p.1 q)

-- more digits make no smaller number
pub value-grows : (n : ℕ) (ds : List ℕ) → n ≤ value_after n ds
value-grows n [] = omega arith
value-grows n (d ∷ ds) = let h : grown n d ≤ value_after (grown n d) ds = value-grows (grown n d) ds in omega (arith, h)

-- digits of a number: its text, whatever bounds their count
record IsTextOf (n : ℕ) (ds : List ℕ) : Type 0 where
  digits : AreDigits ds
  value : value_after 0 ds ≡ n
  -- the first digit is 0 in the text of 0 alone
  first : (b : ℕ) (bs : List ℕ) → ds ≡ b ∷ bs → b ≡ 48 → (n ≡ 0) × (bs ≡ [])
  some : ds ≡ [] → ⊥

one-digit : (n : ℕ) → n < 10 → IsTextOf n ((48 + n) ∷ [])
one-digit n h = record {
  digits = ((omega arith, omega arith), tt);
  value = omega arith;
  first = λ b bs e z. let head : 48 + n ≡ b = cc in let tail : bs ≡ [] = cc in (omega arith, tail);
  some = λ e. cc;
}

more-digits : (n : ℕ) (ds : List ℕ) → 10 ≤ n → IsTextOf (n / 10) ds → IsTextOf n (ds ++ (48 + n % 10) ∷ [])
more-digits n ds h t = record {
  digits = digits-append ds ((48 + n % 10) ∷ []) t.digits ((omega arith, omega arith), tt);
  value = value-append 0 ds ((48 + n % 10) ∷ []) ∙ ap (λ m. grown m (48 + n % 10)) t.value ∙ (let e : grown (n / 10) (48 + n % 10) ≡ n = omega arith in e);
  first = λ b bs e z. absurd (leads ds t b bs e z);
  some = λ e. none ds e;
}
  where
    none : (ds : List ℕ) → ds ++ (48 + n % 10) ∷ [] ≡ [] → ⊥
    none [] e = cc
    none (d ∷ ds) e = cc

    leads : (ds : List ℕ) → IsTextOf (n / 10) ds → (b : ℕ) (bs : List ℕ) → ds ++ (48 + n % 10) ∷ [] ≡ b ∷ bs → b ≡ 48 → ⊥
    leads [] t b bs e z = t.some refl
    leads (d ∷ ds) t b bs e z = let head : d ≡ 48 = cc in let f = t.first d ds refl head in let k : n / 10 ≡ 0 = f.0 in absurd (omega (arith, k))

text-by-size : (k n : ℕ) (t : Bool) → nat_lt n 10 ≡ t → (10 ≤ n → IsTextOf (n / 10) (digits_within k (n / 10)))
    → IsTextOf n (cond t ((48 + n) ∷ []) (digits_within k (n / 10) ++ (48 + n % 10) ∷ []))
text-by-size k n true e front = one-digit n (ltb-true n 10 e)
text-by-size k n false e front = let big : 10 ≤ n = ltb-false n 10 e in more-digits n (digits_within k (n / 10)) big (front big)

text-within : (k n : ℕ) → n < k → IsTextOf n (digits_within k n)
text-within zero n h = absurd (omega arith)
text-within (suc k) n h = text-by-size k n (nat_lt n 10) refl (λ big. text-within k (n / 10) (omega arith))

same-by-size : (j k n : ℕ) (t : Bool) → nat_lt n 10 ≡ t → (10 ≤ n → digits_within j (n / 10) ≡ digits_within k (n / 10))
    → cond t ((48 + n) ∷ []) (digits_within j (n / 10) ++ (48 + n % 10) ∷ []) ≡ cond t ((48 + n) ∷ []) (digits_within k (n / 10) ++ (48 + n % 10) ∷ [])
same-by-size j k n true e front = refl
same-by-size j k n false e front = ap (λ ds. ds ++ (48 + n % 10) ∷ []) (front (ltb-false n 10 e))

-- the bound doesn't matter
within-any : (j k n : ℕ) → n < j → n < k → digits_within j n ≡ digits_within k n
within-any zero k n p q = absurd (omega arith)
within-any (suc j) zero n p q = absurd (omega arith)
within-any (suc j) (suc k) n p q = same-by-size j k n (nat_lt n 10) refl (λ big. within-any j k (n / 10) (omega arith) (omega arith))

text-of : (n : ℕ) → IsTextOf n (number_text n)
unfolding number_text
text-of n = text-within (suc n) n (omega arith)

pub are-digits : (n : ℕ) → AreDigits (number_text n)
are-digits n = (text-of n).digits

pub number-back : (n : ℕ) → value_after 0 (number_text n) ≡ n
number-back n = (text-of n).value

pub no-leading-zero : (n b : ℕ) (bs : List ℕ) → number_text n ≡ b ∷ bs → b ≡ 48 → (n ≡ 0) × (bs ≡ [])
no-leading-zero n = (text-of n).first

pub some-digit : (n : ℕ) → number_text n ≡ [] → ⊥
some-digit n = (text-of n).some

pub same-number : (m n : ℕ) → number_text m ≡ number_text n → m ≡ n
same-number m n e = sym (number-back m) ∙ ap (value_after 0) e ∙ number-back n

pub number_text-digit : (n : ℕ) → n < 10 → number_text n ≡ (48 + n) ∷ []
unfolding number_text
number_text-digit n h = ap (λ t. cond t ((48 + n) ∷ []) (digits_within n (n / 10) ++ (48 + n % 10) ∷ [])) (lt-ltb n 10 h)

pub number_text-step : (n : ℕ) → 10 ≤ n → number_text n ≡ number_text (n / 10) ++ (48 + n % 10) ∷ []
unfolding number_text
number_text-step n h =
    ap (λ t. cond t ((48 + n) ∷ []) (digits_within n (n / 10) ++ (48 + n % 10) ∷ [])) (le-ltb n 10 h)
    ∙ ap (λ ds. ds ++ (48 + n % 10) ∷ []) (within-any n (suc (n / 10)) (n / 10) (omega arith) (omega arith))

-- one more digit after those of a number that isn't 0
pub number_text-grown : (n b : ℕ) → 1 ≤ n → IsDigit b → number_text (grown n b) ≡ number_text n ++ b ∷ []
number_text-grown n b some d =
    let low = d.0 in
    let high = d.1 in
    let front : grown n b / 10 ≡ n = omega arith in
    let last : 48 + grown n b % 10 ≡ b = omega arith in
    number_text-step (grown n b) (omega arith) ∙ (λ i. number_text (front i) ++ last i ∷ [])

-- the text of a number that a `u64` can hold is what std writes
pub number_text-decimal : (n : ℕ) → n < 2 ^ 64 → number_text n ≡ decimal n
number_text-decimal n h = decimal_by_steps (λ m ds. number_text m ≡ ds) number_text-digit (λ m ds big e. number_text-step m big ∙ ap (λ front. front ++ (48 + m % 10) ∷ []) e) n h
