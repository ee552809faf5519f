-- Bytes that begin a character without ending it, and how it can go on.
use Rattle.std.proofs.Common.{◌≡◌, refl, sym, ◌∙◌, ap, subst, ℕ, zero, suc, ◌+◌, ◌-◌, ◌*◌, ◌<◌, ◌≤◌, ◌⊎◌, inl, inr, Bool, true, false, cond, eqb, nat_lt, nat_le, Option, Some, None, List, [], ◌∷◌, ◌++◌, length, take, get_or, arith}
use Rattle.std.specs.Int.{is_in_range}
use Rattle.std.specs.Char.{encode_utf8}
use Rattle.std.specs.Str.{IsUtf8}
use Rattle.std.specs.Str.Lossy.{utf8_error_len, second_byte_min, second_byte_max}
use Rattle.std.proofs.lemmas.Bool.{eqb-true, eqb-false, ne_eqb, lt-ltb, le-ltb, leb-true, le-leb, and_parts, cases_lt, cases_eq}
use Rattle.std.proofs.lemmas.Str.{IsUtf8-nil, IsUtf8-append}
use Rattle.std.proofs.str.Laws.{Scalar, Follows, Shape, of1, of2, of3, of4, one, two, three}
use Rattle.std.proofs.str.Valid.{of_one, of_two, of_three, of_four}
use Rattle.sr_journal.specs.Reading.{char_len}

-- bytes in the ranges of a character are text
letter : IsUtf8 (97 ∷ [])
letter = of_one (97 ∷ []) 0 (omega arith) (omega arith)

two-bytes : (a b : ℕ) → 194 ≤ a → a < 224 → Follows b → IsUtf8 (a ∷ b ∷ [])
two-bytes a b l u f = of_two (a ∷ b ∷ []) 0 (omega arith) (l, u) f

three-bytes : (a b d : ℕ) → 224 ≤ a → a < 240 → Follows b → Follows d → (a ≡ 224 → 160 ≤ b) → (a ≡ 237 → b < 160) → IsUtf8 (a ∷ b ∷ d ∷ [])
three-bytes a b d l u f g low high =
    let f0 : 128 ≤ b = f.0 in
    let f1 : b < 192 = f.1 in
    let g0 : 128 ≤ d = g.0 in
    let g1 : d < 192 = g.1 in
    let c : ℕ = (a - 224) * 4096 + (b - 128) * 64 + (d - 128) in
    of_three (a ∷ b ∷ d ∷ []) 0 (omega arith) (l, u) f g (by_least (cases_eq a 224) f0 f1 g0 g1) (by_place (cases_lt a 237) (cases_eq a 237) f0 f1 g0 g1)
  where
    by_least : (a ≡ 224) ⊎ (a ≡ 224 → ⊥) → 128 ≤ b → b < 192 → 128 ≤ d → d < 192 → 2048 ≤ (a - 224) * 4096 + (b - 128) * 64 + (d - 128)
    by_least (inl e) f0 f1 g0 g1 = let k : 160 ≤ b = low e in omega (arith, k)
    by_least (inr e) f0 f1 g0 g1 = omega arith

    by_place : (a < 237) ⊎ (237 ≤ a) → (a ≡ 237) ⊎ (a ≡ 237 → ⊥) → 128 ≤ b → b < 192 → 128 ≤ d → d < 192
        → ((a - 224) * 4096 + (b - 128) * 64 + (d - 128) < 55296) ⊎ (57344 ≤ (a - 224) * 4096 + (b - 128) * 64 + (d - 128))
    by_place (inl h) e f0 f1 g0 g1 = inl (omega arith)
    by_place (inr h) (inl e) f0 f1 g0 g1 = let k : b < 160 = high e in inl (omega (arith, k))
    by_place (inr h) (inr e) f0 f1 g0 g1 = inr (omega arith)

four-bytes : (a b d x : ℕ) → 240 ≤ a → a ≤ 244 → Follows b → Follows d → Follows x → (a ≡ 240 → 144 ≤ b) → (a ≡ 244 → b < 144) → IsUtf8 (a ∷ b ∷ d ∷ x ∷ [])
four-bytes a b d x l u f g k low high =
    let f0 : 128 ≤ b = f.0 in
    let f1 : b < 192 = f.1 in
    of_four (a ∷ b ∷ d ∷ x ∷ []) 0 (omega arith) l f g k (by_least (cases_eq a 240) f0 f1, by_most (cases_eq a 244) f0 f1)
  where
    by_least : (a ≡ 240) ⊎ (a ≡ 240 → ⊥) → 128 ≤ b → b < 192 → 16 ≤ (a - 240) * 64 + (b - 128)
    by_least (inl e) f0 f1 = let h : 144 ≤ b = low e in omega (arith, h)
    by_least (inr e) f0 f1 = omega arith

    by_most : (a ≡ 244) ⊎ (a ≡ 244 → ⊥) → 128 ≤ b → b < 192 → (a - 240) * 64 + (b - 128) < 272
    by_most (inl e) f0 f1 = let h : b < 144 = high e in omega (arith, h)
    by_most (inr e) f0 f1 = omega arith

-- what a test of a range says
range-is : (lo hi x : ℕ) → is_in_range lo hi x ≡ true → (lo ≤ x) × (x ≤ hi)
range-is lo hi x e = let p = and_parts (nat_le lo x) (nat_le x hi) e in (leb-true lo x p.0, leb-true x hi p.1)

in-range : (lo hi x : ℕ) → lo ≤ x → x ≤ hi → is_in_range lo hi x ≡ true
in-range lo hi x p q = let a : nat_le lo x ≡ true = le-leb lo x p in let b : nat_le x hi ≡ true = le-leb x hi q in cc

-- the second bytes that may follow a first
record Second (a b : ℕ) : Type 0 where
  least : 128 ≤ b
  most : b < 192
  after_224 : a ≡ 224 → 160 ≤ b
  after_237 : a ≡ 237 → b < 160
  after_240 : a ≡ 240 → 144 ≤ b
  after_244 : a ≡ 244 → b < 144

least-is : (a b : ℕ) (x y : Bool) → eqb a 224 ≡ x → eqb a 240 ≡ y → cond x 160 (cond y 144 128) ≤ b → (128 ≤ b) × (a ≡ 224 → 160 ≤ b) × (a ≡ 240 → 144 ≤ b)
least-is a b true y p q h = (omega arith, λ e. h, λ e. omega arith)
least-is a b false true p q h = (omega arith, λ e. absurd (eqb-false a 224 p e), λ e. h)
least-is a b false false p q h = (h, λ e. absurd (eqb-false a 224 p e), λ e. absurd (eqb-false a 240 q e))

most-is : (a b : ℕ) (x y : Bool) → eqb a 237 ≡ x → eqb a 244 ≡ y → b ≤ cond x 159 (cond y 143 191) → (b < 192) × (a ≡ 237 → b < 160) × (a ≡ 244 → b < 144)
most-is a b true y p q h = (omega arith, λ e. omega arith, λ e. let k : a ≡ 237 = eqb-true a 237 p in absurd (omega (arith, k, e)))
most-is a b false true p q h = (omega arith, λ e. absurd (eqb-false a 237 p e), λ e. omega arith)
most-is a b false false p q h = (omega arith, λ e. absurd (eqb-false a 237 p e), λ e. absurd (eqb-false a 244 q e))

second-is : (a b : ℕ) → is_in_range (second_byte_min a) (second_byte_max a) b ≡ true → Second a b
second-is a b e =
    let r = range-is (second_byte_min a) (second_byte_max a) b e in
    let l = least-is a b (eqb a 224) (eqb a 240) refl refl r.0 in
    let m = most-is a b (eqb a 237) (eqb a 244) refl refl r.1 in
    record { least = l.0; most = m.0; after_224 = l.1; after_237 = m.1; after_240 = l.2; after_244 = m.2 }

least-from : (a b : ℕ) (x y : Bool) → eqb a 224 ≡ x → eqb a 240 ≡ y → Second a b → cond x 160 (cond y 144 128) ≤ b
least-from a b true y p q s = s.after_224 (eqb-true a 224 p)
least-from a b false true p q s = s.after_240 (eqb-true a 240 q)
least-from a b false false p q s = s.least

most-from : (a b : ℕ) (x y : Bool) → eqb a 237 ≡ x → eqb a 244 ≡ y → Second a b → b ≤ cond x 159 (cond y 143 191)
most-from a b true y p q s = let h : b < 160 = s.after_237 (eqb-true a 237 p) in omega (arith, h)
most-from a b false true p q s = let h : b < 144 = s.after_244 (eqb-true a 244 q) in omega (arith, h)
most-from a b false false p q s = let h : b < 192 = s.most in omega (arith, h)

second-from : (a b : ℕ) → Second a b → is_in_range (second_byte_min a) (second_byte_max a) b ≡ true
second-from a b s =
    in-range (second_byte_min a) (second_byte_max a) b (least-from a b (eqb a 224) (eqb a 240) refl refl s) (most-from a b (eqb a 237) (eqb a 244) refl refl s)

len-two : (a : ℕ) → a < 224 → char_len a ≡ 2
len-two a h = ap (λ t. cond t 2 (cond (nat_lt a 240) 3 4)) (lt-ltb a 224 h)

len-three : (a : ℕ) → 224 ≤ a → a < 240 → char_len a ≡ 3
len-three a l h = ap (λ t. cond t 2 (cond (nat_lt a 240) 3 4)) (le-ltb a 224 l) ∙ ap (λ t. cond t 3 4) (lt-ltb a 240 h)

len-four : (a : ℕ) → 240 ≤ a → char_len a ≡ 4
len-four a l = ap (λ t. cond t 2 (cond (nat_lt a 240) 3 4)) (le-ltb a 224 (omega arith)) ∙ ap (λ t. cond t 3 4) (le-ltb a 240 l)

-- the bytes go on as one character
pub record Completes (r : List ℕ) : Type 0 where
  pub fill : List ℕ
  pub is_text : IsUtf8 (r ++ fill)
  pub long : length (r ++ fill) ≡ char_len (get_or r 0 0)

passes : (t : Bool) (o : Option ℕ) (k : ℕ) → cond t o (Some k) ≡ None → (t ≡ true) × (o ≡ None)
passes true o k e = (refl, e)
passes false o k e = cc

after-one : (a : ℕ) → 194 ≤ a → a ≤ 244 → Completes (a ∷ [])
after-one a l u = by_size (cases_lt a 224) (cases_lt a 240) (cases_eq a 224) (cases_eq a 240)
  where
    by_size : (a < 224) ⊎ (224 ≤ a) → (a < 240) ⊎ (240 ≤ a) → (a ≡ 224) ⊎ (a ≡ 224 → ⊥) → (a ≡ 240) ⊎ (a ≡ 240 → ⊥) → Completes (a ∷ [])
    by_size (inl h) _ _ _ = record { fill = 128 ∷ []; is_text = two-bytes a 128 l h (omega arith, omega arith); long = sym (len-two a h) }
    by_size (inr k) (inl h) (inl e) _ = record {
      fill = 160 ∷ 128 ∷ [];
      is_text = three-bytes a 160 128 k h (omega arith, omega arith) (omega arith, omega arith) (λ f. omega arith) (λ f. absurd (omega arith));
      long = sym (len-three a k h);
    }
    by_size (inr k) (inl h) (inr e) _ = record {
      fill = 128 ∷ 128 ∷ [];
      is_text = three-bytes a 128 128 k h (omega arith, omega arith) (omega arith, omega arith) (λ f. absurd (e f)) (λ f. omega arith);
      long = sym (len-three a k h);
    }
    by_size (inr k) (inr h) _ (inl e) = record {
      fill = 144 ∷ 128 ∷ 128 ∷ [];
      is_text = four-bytes a 144 128 128 h u (omega arith, omega arith) (omega arith, omega arith) (omega arith, omega arith) (λ f. omega arith) (λ f. absurd (omega arith));
      long = sym (len-four a h);
    }
    by_size (inr k) (inr h) _ (inr e) = record {
      fill = 128 ∷ 128 ∷ 128 ∷ [];
      is_text = four-bytes a 128 128 128 h u (omega arith, omega arith) (omega arith, omega arith) (omega arith, omega arith) (λ f. absurd (e f)) (λ f. omega arith);
      long = sym (len-four a h);
    }

after-two : (a b : ℕ) → 194 ≤ a → a ≤ 244 → Second a b → (IsUtf8 (a ∷ b ∷ []) → ⊥) → Completes (a ∷ b ∷ [])
after-two a b l u s none = by_size (cases_lt a 224) (cases_lt a 240)
  where
    f : Follows b
    f = (s.least, s.most)

    by_size : (a < 224) ⊎ (224 ≤ a) → (a < 240) ⊎ (240 ≤ a) → Completes (a ∷ b ∷ [])
    by_size (inl h) _ = absurd (none (two-bytes a b l h f))
    by_size (inr k) (inl h) = record { fill = 128 ∷ []; is_text = three-bytes a b 128 k h f (omega arith, omega arith) s.after_224 s.after_237; long = sym (len-three a k h) }
    by_size (inr k) (inr h) = record {
      fill = 128 ∷ 128 ∷ [];
      is_text = four-bytes a b 128 128 h u f (omega arith, omega arith) (omega arith, omega arith) s.after_240 s.after_244;
      long = sym (len-four a h);
    }

after-three : (a b d : ℕ) → 194 ≤ a → a ≤ 244 → Second a b → Follows d → (IsUtf8 (a ∷ b ∷ []) → ⊥) → (IsUtf8 (a ∷ b ∷ d ∷ []) → ⊥) → Completes (a ∷ b ∷ d ∷ [])
after-three a b d l u s g none neither = by_size (cases_lt a 224) (cases_lt a 240)
  where
    f : Follows b
    f = (s.least, s.most)

    by_size : (a < 224) ⊎ (224 ≤ a) → (a < 240) ⊎ (240 ≤ a) → Completes (a ∷ b ∷ d ∷ [])
    by_size (inl h) _ = absurd (none (two-bytes a b l h f))
    by_size (inr k) (inl h) = absurd (neither (three-bytes a b d k h f g s.after_224 s.after_237))
    by_size (inr k) (inr h) = record {
      fill = 128 ∷ [];
      is_text = four-bytes a b d 128 h u f g (omega arith, omega arith) s.after_240 s.after_244;
      long = sym (len-four a h);
    }

-- four bytes or more end a character or don't begin one
never : (t0 x1 t2 x2 t3 x3 t4 : Bool) → t0 ≡ false → t2 ≡ false → t3 ≡ false → t4 ≡ false
    → ◌≡◌ {A = Option ℕ} (cond t0 None (cond x1 (cond t2 None (cond x2 (cond t3 None (cond x3 (cond t4 None (Some 3)) (Some 2))) (Some 1))) (Some 1))) None → ⊥
never true x1 t2 x2 t3 x3 t4 p q r s e = cc
never false false t2 x2 t3 x3 t4 p q r s e = cc
never false true true x2 t3 x3 t4 p q r s e = cc
never false true false false t3 x3 t4 p q r s e = cc
never false true false true true x3 t4 p q r s e = cc
never false true false true false false t4 p q r s e = cc
never false true false true false true true p q r s e = cc
never false true false true false true false p q r s e = cc

-- bytes after which std expects more, and of which no front is text, go on as a character
pub completes : (r : List ℕ) → 0 < length r → utf8_error_len r ≡ None → ((k : ℕ) → 0 < k → k ≤ length r → IsUtf8 (take k r) → ⊥) → Completes r
unfolding utf8_error_len
completes [] some e none = absurd (omega arith)
completes (a ∷ []) some e none =
    let p = passes (is_in_range 194 244 a) None 1 e in
    let r = range-is 194 244 a p.0 in
    after-one a r.0 r.1
completes (a ∷ b ∷ []) some e none =
    let p = passes (is_in_range 194 244 a) (cond (is_in_range (second_byte_min a) (second_byte_max a) b) None (Some 1)) 1 e in
    let q = passes (is_in_range (second_byte_min a) (second_byte_max a) b) None 1 p.1 in
    let r = range-is 194 244 a p.0 in
    after-two a b r.0 r.1 (second-is a b q.0) (none 2 (omega arith) (omega arith))
completes (a ∷ b ∷ d ∷ []) some e none =
    let third : Option ℕ = cond (is_in_range 128 191 d) None (Some 2) in
    let p = passes (is_in_range 194 244 a) (cond (is_in_range (second_byte_min a) (second_byte_max a) b) third (Some 1)) 1 e in
    let q = passes (is_in_range (second_byte_min a) (second_byte_max a) b) third 1 p.1 in
    let t = passes (is_in_range 128 191 d) None 2 q.1 in
    let r = range-is 194 244 a p.0 in
    let w = range-is 128 191 d t.0 in
    let w1 : d ≤ 191 = w.1 in
    after-three a b d r.0 r.1 (second-is a b q.0) (w.0, omega (arith, w1)) (none 2 (omega arith) (omega arith)) (none 3 (omega arith) (omega arith))
completes (a ∷ b ∷ d ∷ x ∷ r) some e none =
    let n : ℕ = length (a ∷ b ∷ d ∷ x ∷ r) in
    absurd (never (eqb n 0) (is_in_range 194 244 a) (nat_lt n 2) (is_in_range (second_byte_min a) (second_byte_max a) b) (nat_lt n 3) (is_in_range 128 191 d) (nat_lt n 4)
    (ne_eqb n 0 (λ z. omega arith)) (le-ltb n 2 (omega arith)) (le-ltb n 3 (omega arith)) (le-ltb n 4 (omega arith)) e)

-- what std says of one byte, of two and of three that begin a character
first-open : (a : ℕ) → 194 ≤ a → a ≤ 244 → utf8_error_len (a ∷ []) ≡ None
unfolding utf8_error_len
first-open a l u = ap (λ t. cond t None (Some 1)) (in-range 194 244 a l u)

second-open : (a b : ℕ) → 194 ≤ a → a ≤ 244 → Second a b → utf8_error_len (a ∷ b ∷ []) ≡ None
unfolding utf8_error_len
second-open a b l u s =
    ap (λ t. cond t (cond (is_in_range (second_byte_min a) (second_byte_max a) b) None (Some 1)) (Some 1)) (in-range 194 244 a l u)
    ∙ ap (λ t. cond t None (Some 1)) (second-from a b s)

third-open : (a b d : ℕ) → 194 ≤ a → a ≤ 244 → Second a b → Follows d → utf8_error_len (a ∷ b ∷ d ∷ []) ≡ None
unfolding utf8_error_len
third-open a b d l u s g =
    let third : Option ℕ = cond (is_in_range 128 191 d) None (Some 2) in
    let g1 : d < 192 = g.1 in
    ap (λ t. cond t (cond (is_in_range (second_byte_min a) (second_byte_max a) b) third (Some 1)) (Some 1)) (in-range 194 244 a l u)
    ∙ ap (λ t. cond t third (Some 1)) (second-from a b s)
    ∙ ap (λ t. cond t None (Some 2)) (in-range 128 191 d g.0 (omega (arith, g1)))

-- no shorter form of a character would do
past-one : (c a b : ℕ) (l : List ℕ) → encode_utf8 c ≡ a ∷ b ∷ l → 128 ≤ c
past-one c a b l e = by_size (cases_lt c 128)
  where
    by_size : (c < 128) ⊎ (128 ≤ c) → 128 ≤ c
    by_size (inl h) = let k : 1 ≡ suc (suc (length l)) = ap length (sym (one c h) ∙ e) in absurd (omega (arith, k))
    by_size (inr h) = h

past-two : (c a b d : ℕ) (l : List ℕ) → encode_utf8 c ≡ a ∷ b ∷ d ∷ l → 2048 ≤ c
past-two c a b d l e = by_size (cases_lt c 2048)
  where
    by_size : (c < 2048) ⊎ (2048 ≤ c) → 2048 ≤ c
    by_size (inl h) = let k : 2 ≡ suc (suc (suc (length l))) = ap length (sym (two c (past-one c a b (d ∷ l) e) h) ∙ e) in absurd (omega (arith, k))
    by_size (inr h) = h

past-three : (c a b d x : ℕ) (l : List ℕ) → encode_utf8 c ≡ a ∷ b ∷ d ∷ x ∷ l → 65536 ≤ c
past-three c a b d x l e = by_size (cases_lt c 65536)
  where
    by_size : (c < 65536) ⊎ (65536 ≤ c) → 65536 ≤ c
    by_size (inl h) = let k : 3 ≡ suc (suc (suc (suc (length l)))) = ap length (sym (three c (past-two c a b d (x ∷ l) e) h) ∙ e) in absurd (omega (arith, k))
    by_size (inr h) = h

-- std expects more after the bytes, and their first says how long the character is
pub record IsOpen (r : List ℕ) (n : ℕ) : Type 0 where
  pub error : utf8_error_len r ≡ None
  pub len : char_len (get_or r 0 0) ≡ n

two-open : (c a b : ℕ) → 192 ≤ a → a < 224 → Follows b → c + 12416 ≡ a * 64 + b → encode_utf8 c ≡ a ∷ b ∷ [] → (r z t : List ℕ) → r ++ z ≡ a ∷ b ∷ t → 0 < length r → length r < 2 → IsOpen r 2
two-open c a b l u f s e [] z t q some short = absurd (omega arith)
two-open c a b l u f s e (x ∷ y ∷ r) z t q some short = absurd (omega arith)
two-open c a b l u f s e (x ∷ []) z t q some short =
    let head : x ≡ a = cc in
    let big : 128 ≤ c = past-one c a b [] e in
    let f1 : b < 192 = f.1 in
    record { error = first-open x (omega (arith, head, big, s, f1)) (omega (arith, head, u)); len = len-two x (omega (arith, head, u)) }

second-of-three : (c a b d : ℕ) → Scalar c → 224 ≤ a → a < 240 → Follows b → Follows d → c + 925824 ≡ a * 4096 + b * 64 + d → 2048 ≤ c → Second a b
second-of-three c a b d k l u f g s big =
    let f0 : 128 ≤ b = f.0 in
    let f1 : b < 192 = f.1 in
    let g0 : 128 ≤ d = g.0 in
    let g1 : d < 192 = g.1 in
    record { least = f0; most = f1; after_224 = λ e. omega arith; after_237 = λ e. no_surrogate k e f0 f1 g0 g1; after_240 = λ e. absurd (omega arith); after_244 = λ e. absurd (omega arith) }
  where
    no_surrogate : Scalar c → a ≡ 237 → 128 ≤ b → b < 192 → 128 ≤ d → d < 192 → b < 160
    no_surrogate (inl h) e f0 f1 g0 g1 = omega arith
    no_surrogate (inr h) e f0 f1 g0 g1 = let h0 : 57344 ≤ c = h.0 in omega (arith, h0)

three-open : (c a b d : ℕ) → Scalar c → 224 ≤ a → a < 240 → Follows b → Follows d → c + 925824 ≡ a * 4096 + b * 64 + d → encode_utf8 c ≡ a ∷ b ∷ d ∷ []
    → (r z t : List ℕ) → r ++ z ≡ a ∷ b ∷ d ∷ t → 0 < length r → length r < 3 → IsOpen r 3
three-open c a b d k l u f g s e [] z t q some short = absurd (omega arith)
three-open c a b d k l u f g s e (x ∷ y ∷ w ∷ r) z t q some short = absurd (omega arith)
three-open c a b d k l u f g s e (x ∷ []) z t q some short =
    let head : x ≡ a = cc in
    record { error = first-open x (omega (arith, head, l)) (omega (arith, head, u)); len = len-three x (omega (arith, head, l)) (omega (arith, head, u)) }
three-open c a b d k l u f g s e (x ∷ y ∷ []) z t q some short =
    let head : x ≡ a = cc in
    let next : y ≡ b = cc in
    let fits : Second a b = second-of-three c a b d k l u f g s (past-two c a b d [] e) in
    record {
      error = second-open x y (omega (arith, head, l)) (omega (arith, head, u)) (subst (λ m. Second m y) (sym head) (subst (Second a) (sym next) fits));
      len = len-three x (omega (arith, head, l)) (omega (arith, head, u));
    }

second-of-four : (c a b d x : ℕ) → Scalar c → 240 ≤ a → Follows b → Follows d → Follows x → c + 63447168 ≡ a * 262144 + b * 4096 + d * 64 + x → 65536 ≤ c → Second a b × (a ≤ 244)
second-of-four c a b d x k l f g h s big =
    let f0 : 128 ≤ b = f.0 in
    let f1 : b < 192 = f.1 in
    let g0 : 128 ≤ d = g.0 in
    let g1 : d < 192 = g.1 in
    let h0 : 128 ≤ x = h.0 in
    let h1 : x < 192 = h.1 in
    let top : c < 1114112 = below k in
    (record { least = f0; most = f1; after_224 = λ e. absurd (omega arith); after_237 = λ e. absurd (omega arith); after_240 = λ e. omega arith; after_244 = λ e. omega arith }, omega arith)
  where
    below : Scalar c → c < 1114112
    below (inl p) = omega arith
    below (inr p) = p.1

four-open : (c a b d x : ℕ) → Scalar c → 240 ≤ a → Follows b → Follows d → Follows x → c + 63447168 ≡ a * 262144 + b * 4096 + d * 64 + x → encode_utf8 c ≡ a ∷ b ∷ d ∷ x ∷ []
    → (r z t : List ℕ) → r ++ z ≡ a ∷ b ∷ d ∷ x ∷ t → 0 < length r → length r < 4 → IsOpen r 4
four-open c a b d x k l f g h s e [] z t q some short = absurd (omega arith)
four-open c a b d x k l f g h s e (m ∷ n ∷ o ∷ p ∷ r) z t q some short = absurd (omega arith)
four-open c a b d x k l f g h s e (m ∷ []) z t q some short =
    let head : m ≡ a = cc in
    let fits = second-of-four c a b d x k l f g h s (past-three c a b d x [] e) in
    let top : a ≤ 244 = fits.1 in
    record { error = first-open m (omega (arith, head, l)) (omega (arith, head, top)); len = len-four m (omega (arith, head, l)) }
four-open c a b d x k l f g h s e (m ∷ n ∷ []) z t q some short =
    let head : m ≡ a = cc in
    let next : n ≡ b = cc in
    let fits = second-of-four c a b d x k l f g h s (past-three c a b d x [] e) in
    let top : a ≤ 244 = fits.1 in
    record {
      error = second-open m n (omega (arith, head, l)) (omega (arith, head, top)) (subst (λ i. Second i n) (sym head) (subst (Second a) (sym next) fits.0));
      len = len-four m (omega (arith, head, l));
    }
four-open c a b d x k l f g h s e (m ∷ n ∷ o ∷ []) z t q some short =
    let head : m ≡ a = cc in
    let next : n ≡ b = cc in
    let third : o ≡ d = cc in
    let fits = second-of-four c a b d x k l f g h s (past-three c a b d x [] e) in
    let top : a ≤ 244 = fits.1 in
    record {
      error = third-open m n o (omega (arith, head, l)) (omega (arith, head, top)) (subst (λ i. Second i n) (sym head) (subst (Second a) (sym next) fits.0)) (subst Follows (sym third) g);
      len = len-four m (omega (arith, head, l));
    }

shown : (c : ℕ) (l r z t : List ℕ) → encode_utf8 c ≡ l → r ++ z ≡ encode_utf8 c ++ t → r ++ z ≡ l ++ t
shown c l r z t e q = q ∙ ap (λ p. p ++ t) e

shorter : (c : ℕ) (l r : List ℕ) → encode_utf8 c ≡ l → length r < length (encode_utf8 c) → length r < length l
shorter c l r e h = subst (λ p. length r < length p) e h

-- the beginning of a character is open
pub opens : (c : ℕ) → Scalar c → Shape c → (r z t : List ℕ) → r ++ z ≡ encode_utf8 c ++ t → 0 < length r → length r < length (encode_utf8 c) → IsOpen r (length (encode_utf8 c))
opens c k (of1 h e) r z t q some short = let s : length r < 1 = shorter c (c ∷ []) r e short in absurd (omega (arith, s, some))
opens c k (of2 a b l u f s e) r z t q some short =
    subst (λ p. IsOpen r (length p)) (sym e) (two-open c a b l u f s e r z t (shown c (a ∷ b ∷ []) r z t e q) some (shorter c (a ∷ b ∷ []) r e short))
opens c k (of3 a b d l u f g s e) r z t q some short =
    subst (λ p. IsOpen r (length p)) (sym e) (three-open c a b d k l u f g s e r z t (shown c (a ∷ b ∷ d ∷ []) r z t e q) some (shorter c (a ∷ b ∷ d ∷ []) r e short))
opens c k (of4 a b d x l u f g h s e) r z t q some short =
    subst (λ p. IsOpen r (length p)) (sym e) (four-open c a b d x k l f g h s e r z t (shown c (a ∷ b ∷ d ∷ x ∷ []) r z t e q) some (shorter c (a ∷ b ∷ d ∷ x ∷ []) r e short))

-- text of any length
pub record Padding (k : ℕ) : Type 0 where
  pub bytes : List ℕ
  pub long : length bytes ≡ k
  pub is_text : IsUtf8 bytes

pub padding : (k : ℕ) → Padding k
padding zero = record { bytes = []; long = refl; is_text = IsUtf8-nil }
padding (suc k) =
    let p = padding k in
    record { bytes = 97 ∷ p.bytes; long = ap suc p.long; is_text = IsUtf8-append (97 ∷ []) p.bytes letter p.is_text }
