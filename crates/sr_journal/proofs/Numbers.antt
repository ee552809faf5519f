-- The format of a number with the byte that ends it, and the reader of it.
use Rattle.std.proofs.Common.{◌≡◌, refl, sym, ◌∙◌, ap, subst, ℕ, suc, ◌+◌, ◌<◌, ◌≤◌, Bool, true, false, cond, eqb, nat_le, Option, Some, None, List, [], ◌∷◌, ◌++◌, length, Result, Ok, Err, append_assoc, length-append, arith}
use Rattle.std.specs.Char.{is_ascii_digit}
use Rattle.std.proofs.lemmas.Bool.{eqb-true, eqb-false, leb-true, le-leb, and_parts}
use Rattle.sr_journal.specs.declared.fail.JournalFail.{JournalFail}
use Rattle.sr_journal.specs.declared.fail.JournalFail.TheVariants.{NotJournal, Truncated, Version, NoMemory}
use Rattle.sr_journal.specs.Numbers.{number_text}
use Rattle.sr_journal.specs.Reading.{◌>>=◌, word_at, is_within, grown, digits_at, number_at}
use Rattle.sr_journal.proofs.Formats.{Format, IsRead, IsShort, IsClash, Judged}
use Rattle.sr_journal.proofs.Lists.{append-nil}
use Rattle.sr_journal.proofs.NumberTexts.{IsDigit, AreDigits, value_after, value-append, value-grows, are-digits, number-back, no-leading-zero, some-digit, same-number, number_text-digit, number_text-grown}
use Rattle.sr_journal.proofs.Words.{Told, word-told}

-- the numbers that a place may have
pub record CanStand (may_be_zero : Bool) (most : Option ℕ) (n : ℕ) : Type 0 where
  pub least : may_be_zero ≡ false → 1 ≤ n
  pub within : is_within most n ≡ true

abbrev pub Number : Bool → Option ℕ → ℕ → Format ℕ
Number may_be_zero most end = record { Holds = CanStand may_be_zero most; text = λ n. number_text n ++ end ∷ [] }

within-less : (most : Option ℕ) (m n : ℕ) → m ≤ n → is_within most n ≡ true → is_within most m ≡ true
within-less None m n h e = refl
within-less (Some most) m n h e = let k : n ≤ most = leb-true n most e in le-leb m most (omega arith)

pub digit-is : (b : ℕ) → is_ascii_digit b ≡ true → IsDigit b
digit-is b e = let p = and_parts (nat_le 48 b) (nat_le b 57) e in let low : 48 ≤ b = leb-true 48 b p.0 in let high : b ≤ 57 = leb-true b 57 p.1 in (low, omega arith)

digit-from : (b : ℕ) → IsDigit b → is_ascii_digit b ≡ true
digit-from b d = let low = d.0 in let high = d.1 in let p : nat_le 48 b ≡ true = le-leb 48 b low in let q : nat_le b 57 ≡ true = le-leb b 57 (omega arith) in cc

no-digit : (b : ℕ) → is_ascii_digit b ≡ false → IsDigit b → ⊥
no-digit b e d = let t : is_ascii_digit b ≡ true = digit-from b d in cc

-- digits, and what follows them up to a byte that is none
record Cut (ds ns p : List ℕ) (end : ℕ) (q : List ℕ) : Type 0 where
  rest : List ℕ
  digits : AreDigits rest
  whole : ns ≡ ds ++ rest
  follows : p ≡ rest ++ end ∷ q

cut : (end : ℕ) → (IsDigit end → ⊥) → (ds ns p q : List ℕ) → AreDigits ds → AreDigits ns → ds ++ p ≡ ns ++ end ∷ q → Cut ds ns p end q
cut end other [] ns p q a b e = record { rest = ns; digits = b; whole = refl; follows = e }
cut end other (d ∷ ds) [] p q a b e = let head : d ≡ end = cc in absurd (other (subst IsDigit head a.0))
cut end other (d ∷ ds) (n ∷ ns) p q a b e =
    let head : d ≡ n = cc in
    let tails : ds ++ p ≡ ns ++ end ∷ q = cc in
    let k = cut end other ds ns p q a.1 b.1 tails in
    record { rest = k.rest; digits = k.digits; whole = (λ i. sym head i ∷ k.whole i); follows = k.follows }

module _ (may_be_zero : Bool) (most : Option ℕ) (end : ℕ) (other : IsDigit end → ⊥) where
  abbrev F : Format ℕ
  F = Number may_be_zero most end

  text-then : (n : ℕ) (y : List ℕ) → (number_text n ++ end ∷ []) ++ y ≡ number_text n ++ end ∷ y
  text-then n y = append_assoc (number_text n) (end ∷ []) y

  -- however digits go on, a number that begins with them has them at its front
  compare : (v n : ℕ) (p y : List ℕ) → number_text v ++ p ≡ (number_text n ++ end ∷ []) ++ y → Cut (number_text v) (number_text n) p end y
  compare v n p y e = cut end other (number_text v) (number_text n) p y (are-digits v) (are-digits n) (e ∙ text-then n y)

  pub at-end : (v n : ℕ) (p y : List ℕ) → number_text v ++ end ∷ p ≡ (number_text n ++ end ∷ []) ++ y → n ≡ v
  at-end v n p y e = by_rest k.rest k.digits k.whole k.follows
    where
      k : Cut (number_text v) (number_text n) (end ∷ p) end y
      k = compare v n (end ∷ p) y e

      by_rest : (r : List ℕ) → AreDigits r → number_text n ≡ number_text v ++ r → end ∷ p ≡ r ++ end ∷ y → n ≡ v
      by_rest [] d w f = same-number n v (w ∙ append-nil (number_text v))
      by_rest (b ∷ r) d w f = let head : end ≡ b = cc in absurd (other (subst IsDigit (sym head) d.0))

  no-less : (v n : ℕ) (p y : List ℕ) → number_text v ++ p ≡ (number_text n ++ end ∷ []) ++ y → v ≤ n
  no-less v n p y e =
      let k = compare v n p y e in
      let back : n ≡ value_after v k.rest = sym (number-back n) ∙ ap (value_after 0) k.whole ∙ value-append 0 (number_text v) k.rest ∙ ap (λ m. value_after m k.rest) (number-back v) in
      let grows : v ≤ value_after v k.rest = value-grows v k.rest in
      omega (arith, back, grows)

  at-other : (v n b : ℕ) (p y : List ℕ) → (IsDigit b → ⊥) → (b ≡ end → ⊥) → number_text v ++ b ∷ p ≡ (number_text n ++ end ∷ []) ++ y → ⊥
  at-other v n b p y none ends e = by_rest k.rest k.digits k.follows
    where
      k : Cut (number_text v) (number_text n) (b ∷ p) end y
      k = compare v n (b ∷ p) y e

      by_rest : (r : List ℕ) → AreDigits r → b ∷ p ≡ r ++ end ∷ y → ⊥
      by_rest [] d f = let head : b ≡ end = cc in ends head
      by_rest (c ∷ r) d f = let head : b ≡ c = cc in none (subst IsDigit (sym head) d.0)

  read-one : (v : ℕ) (s rest : List ℕ) → CanStand may_be_zero most v → s ≡ number_text v ++ end ∷ rest → IsRead F s v rest
  read-one v s rest h e = record {
    holds = h;
    splits = e ∙ sym (text-then v rest);
    only = λ n x y g f. at-end v n (rest ++ x) y (sym (append_assoc (number_text v) (end ∷ rest) x) ∙ ap (λ w. w ++ x) (sym e) ∙ f);
  }

  -- the digits of a number are there, and no more bytes
  short-after : (v : ℕ) (s : List ℕ) → CanStand may_be_zero most v → s ≡ number_text v → IsShort F s
  short-after v s h e = record {
    value = v;
    more = end ∷ [];
    holds = h;
    whole = ap (λ w. w ++ end ∷ []) e;
    some_more = omega arith;
    none = λ n x g f. none n x (compare v n [] x (append-nil (number_text v) ∙ sym e ∙ f));
  }
    where
      none : (n : ℕ) (x : List ℕ) → Cut (number_text v) (number_text n) [] end x → ⊥
      none n x k = by_rest k.rest k.follows
        where
          by_rest : (r : List ℕ) → [] ≡ r ++ end ∷ x → ⊥
          by_rest [] f = cc
          by_rest (c ∷ r) f = cc

  -- after the digits of a number that isn't 0
  pub digits-judged : (s : List ℕ) (v : ℕ) → 1 ≤ v → is_within most v ≡ true → Judged F (number_text v ++ s) (digits_at most end v s)
  unfolding digits_at
  digits-judged [] v some w = short-after v (number_text v ++ []) (record { least = λ z. some; within = w }) (append-nil (number_text v))
  digits-judged (b ∷ s) v some w = by-byte b s v some w (eqb b end) (is_ascii_digit b) (is_within most (grown v b)) refl refl refl (λ d. digits-judged s (grown v b) (grown-some v b some d))
    where
      grown-some : (v b : ℕ) → 1 ≤ v → IsDigit b → 1 ≤ grown v b
      grown-some v b some d = omega arith

      by-byte : (b : ℕ) (s : List ℕ) (v : ℕ) → 1 ≤ v → is_within most v ≡ true → (x y z : Bool) → eqb b end ≡ x → is_ascii_digit b ≡ y → is_within most (grown v b) ≡ z
          → (IsDigit b → is_within most (grown v b) ≡ true → Judged F (number_text (grown v b) ++ s) (digits_at most end (grown v b) s))
          → Judged F (number_text v ++ b ∷ s) (cond x (Ok (v, s)) (cond y (cond z (digits_at most end (grown v b) s) (Err NotJournal)) (Err NotJournal)))
      by-byte b s v some w true y z p q r next = read-one v (number_text v ++ b ∷ s) s (record { least = λ z. some; within = w }) (ap (λ c. number_text v ++ c ∷ s) (eqb-true b end p))
      by-byte b s v some w false true true p q r next =
          let d : IsDigit b = digit-is b q in
          let e : number_text (grown v b) ++ s ≡ number_text v ++ b ∷ s = ap (λ t. t ++ s) (number_text-grown v b some d) ∙ append_assoc (number_text v) (b ∷ []) s in
          subst (λ t. Judged F t (digits_at most end (grown v b) s)) e (next d r)
      by-byte b s v some w false true false p q r next =
          let d : IsDigit b = digit-is b q in
          let e : number_text (grown v b) ++ s ≡ number_text v ++ b ∷ s = ap (λ t. t ++ s) (number_text-grown v b some d) ∙ append_assoc (number_text v) (b ∷ []) s in
          record {
            none = λ n x y g f.
                let less : grown v b ≤ n = no-less (grown v b) n (s ++ x) y (sym (append_assoc (number_text (grown v b)) s x) ∙ ap (λ t. t ++ x) e ∙ f) in
                let t : is_within most (grown v b) ≡ true = within-less most (grown v b) n less g.within in
                cc;
          }
      by-byte b s v some w false false z p q r next = record {
        none = λ n x y g f. at-other v n b (s ++ x) y (no-digit b q) (eqb-false b end p) (sym (append_assoc (number_text v) (b ∷ s) x) ∙ f);
      }

  zero-text : number_text 0 ≡ 48 ∷ []
  zero-text = number_text-digit 0 (omega arith)

  -- a number whose text begins with 0 is 0, and its text ends there
  only-zero : (n : ℕ) (p y : List ℕ) → 48 ∷ p ≡ (number_text n ++ end ∷ []) ++ y → (n ≡ 0) × (p ≡ end ∷ y)
  only-zero n p y e = by_rest k.rest k.whole k.follows
    where
      k : Cut (number_text 0) (number_text n) p end y
      k = compare 0 n p y (ap (λ w. w ++ p) zero-text ∙ e)

      by_rest : (r : List ℕ) → number_text n ≡ number_text 0 ++ r → p ≡ r ++ end ∷ y → (n ≡ 0) × (p ≡ end ∷ y)
      by_rest r w f =
          let z = no-leading-zero n 48 r (w ∙ ap (λ u. u ++ r) zero-text) refl in
          (z.0, f ∙ ap (λ u. u ++ end ∷ y) z.1)

  none-left : (p more : List ℕ) → p ++ more ≡ end ∷ [] → 0 < length more → p ≡ []
  none-left [] more e some = refl
  none-left (b ∷ p) more e some =
      let h : length p + length more ≡ 0 = sym (length-append p more) ∙ (let tails : p ++ more ≡ [] = cc in ap length tails) in
      absurd (omega (arith, h, some))

  after-zero : (p : List ℕ) (r : Result (List ℕ) JournalFail) → may_be_zero ≡ true → is_within most 0 ≡ true → Told (end ∷ []) p r → Judged F (48 ∷ p) (r >>= λ rest. Ok (0, rest))
  after-zero p (Ok rest) m w t = read-one 0 (48 ∷ p) rest (record { least = λ z. cc; within = w }) (ap (λ q. 48 ∷ q) t.splits ∙ ap (λ u. u ++ end ∷ rest) (sym zero-text))
  after-zero p (Err Truncated) m w t = short-after 0 (48 ∷ p) (record { least = λ z. cc; within = w }) (ap (λ q. 48 ∷ q) (none-left p t.more t.whole t.some_more) ∙ sym zero-text)
  after-zero p (Err NotJournal) m w t = record { none = λ n x y h e. t.none x y (only-zero n (p ++ x) y e).1 }
  after-zero p (Err Version) m w t = t
  after-zero p (Err NoMemory) m w t = t

  no-zero : (p : List ℕ) → may_be_zero ≡ false → IsClash F (48 ∷ p)
  no-zero p m = record { none = λ n x y h e. let z : n ≡ 0 = (only-zero n (p ++ x) y e).0 in let l : 1 ≤ n = h.least m in absurd (omega (arith, z, l)) }

  no-first : (b : ℕ) (p : List ℕ) → (IsDigit b → ⊥) → IsClash F (b ∷ p)
  no-first b p none = record { none = λ n x y h e. by_text (number_text n) (some-digit n) (are-digits n) (p ++ x) y e }
    where
      by_text : (ds : List ℕ) → (ds ≡ [] → ⊥) → AreDigits ds → (q y : List ℕ) → b ∷ q ≡ (ds ++ end ∷ []) ++ y → ⊥
      by_text [] some a q y e = some refl
      by_text (d ∷ ds) some a q y e = let head : b ≡ d = cc in none (subst IsDigit (sym head) a.0)

  first-digit : (b : ℕ) (s : List ℕ) → (b ≡ 48 → ⊥) → IsDigit b → Judged F (b ∷ s) (digits_at most end 0 (b ∷ s))
  unfolding digits_at
  first-digit b s nonzero d = by-byte (eqb b end) (is_ascii_digit b) (is_within most (grown 0 b)) refl refl refl
    where
      low : 48 ≤ b
      low = d.0

      high : b < 58
      high = d.1

      text : number_text (grown 0 b) ≡ b ∷ []
      text = let e : 48 + grown 0 b ≡ b = omega arith in number_text-digit (grown 0 b) (omega arith) ∙ ap (λ c. c ∷ []) e

      some : 1 ≤ grown 0 b
      some = let n : b ≡ 48 → ⊥ = nonzero in omega arith

      by-byte : (x y z : Bool) → eqb b end ≡ x → is_ascii_digit b ≡ y → is_within most (grown 0 b) ≡ z
          → Judged F (b ∷ s) (cond x (Ok (0, s)) (cond y (cond z (digits_at most end (grown 0 b) s) (Err NotJournal)) (Err NotJournal)))
      by-byte true y z p q r = absurd (other (subst IsDigit (eqb-true b end p) d))
      by-byte false true true p q r = subst (λ t. Judged F (t ++ s) (digits_at most end (grown 0 b) s)) text (digits-judged s (grown 0 b) some r)
      by-byte false true false p q r = record {
        none = λ n x y g f.
            let less : grown 0 b ≤ n = no-less (grown 0 b) n (s ++ x) y (ap (λ t. t ++ (s ++ x)) text ∙ f) in
            let t : is_within most (grown 0 b) ≡ true = within-less most (grown 0 b) n less g.within in
            cc;
      }
      by-byte false false z p q r = absurd (no-digit b q d)

  -- any bytes, where some number can stand
  pub number-judged : (w : ℕ) → CanStand may_be_zero most w → (s : List ℕ) → Judged F s (number_at may_be_zero most end s)
  unfolding number_at
  number-judged w h [] = record {
    value = w;
    more = number_text w ++ end ∷ [];
    holds = h;
    whole = refl;
    some_more = let l : length (number_text w ++ end ∷ []) ≡ length (number_text w) + 1 = length-append (number_text w) (end ∷ []) in omega (arith, l);
    none = λ n x g e. let l : 0 ≡ length (number_text n) + suc (length x) = ap length (e ∙ text-then n x) ∙ length-append (number_text n) (end ∷ x) in absurd (omega (arith, l));
  }
  number-judged w h (b ∷ s) = by-first (eqb b 48) (is_ascii_digit b) may_be_zero refl refl refl
    where
      by-first : (x y z : Bool) → eqb b 48 ≡ x → is_ascii_digit b ≡ y → may_be_zero ≡ z
          → Judged F (b ∷ s) (cond x (cond z (word_at (end ∷ []) s >>= λ rest. Ok (0, rest)) (Err NotJournal)) (cond y (digits_at most end 0 (b ∷ s)) (Err NotJournal)))
      by-first true y true p q r =
          subst (λ c. Judged F (c ∷ s) (word_at (end ∷ []) s >>= λ rest. Ok (0, rest))) (sym (eqb-true b 48 p))
          (after-zero s (word_at (end ∷ []) s) r (within-less most 0 w (omega arith) h.within) (word-told (end ∷ []) s))
      by-first true y false p q r = subst (λ c. IsClash F (c ∷ s)) (sym (eqb-true b 48 p)) (no-zero s r)
      by-first false true z p q r = first-digit b s (eqb-false b 48 p) (digit-is b q)
      by-first false false z p q r = no-first b s (no-digit b q)
