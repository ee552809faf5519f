-- Counts that go no further than a cap.
use Rattle.std.proofs.Common.{◌≡◌, ◌≤◌, ◌*◌, ℕ, zero, suc, min, arith, refl, inl, inr, ap, ◌∙◌}
use Rattle.std.proofs.lemmas.Bool.{cases_lt}
use Rattle.std.proofs.Math.Nat.{le-mul_of_pos_right, mul_comm, mul-zero}

above : (a b c : ℕ) → c ≤ a → min (c * min b c) c ≡ min (a * b) c
above a zero c h = let none : min 0 c ≡ 0 = omega arith in rw (none, mul-zero c, mul-zero a) refl
above a (suc b) zero h = omega arith
above a (suc b) (suc c) h =
    let first : suc c ≤ suc c * min (suc b) (suc c) = le-mul_of_pos_right (suc c) (omega arith) in
    let second : a ≤ a * suc b = le-mul_of_pos_right a (omega arith) in
    omega arith

-- a product of capped counts is the product, capped
pub capped_product : (a b c : ℕ) → min (min a c * min b c) c ≡ min (a * b) c
capped_product a b c = elim (cases_lt a c) [
  | inl small ↦ elim (cases_lt b c) [
    | inl few ↦ let one : min a c ≡ a = omega arith in let two : min b c ≡ b = omega arith in rw (one, two) refl
    | inr many ↦ let two : min b c ≡ c = omega arith in
        rw two (ap (λ n. min n c) (mul_comm (min a c) c) ∙ above b a c many ∙ ap (λ n. min n c) (mul_comm b a))
  ]
  | inr large ↦ let one : min a c ≡ c = omega arith in rw one (above a b c large)
]
