-- Laws of the two quotients and their rests.
use Rattle.std.proofs.Common.{◌≡◌, ◌≢◌, ◌<◌, ◌+ℤ◌, ◌*ℤ◌, ◌≤ℤ◌, ◌<ℤ◌, ◌⊎◌, pos, negsuc, unsigned_abs, ℤ, ℕ, zero, suc, ◌/◌, ◌%◌, arith, refl, ap, ◌∙◌, inl, inr, int_rem, neg_ℤ}
use Rattle.std.proofs.lemmas.Int.{ints, to_z-of_z}
use Rattle.std.proofs.lemmas.Nat.{div-add-mod', le-div, div_below, mod_below}
use Rattle.std.proofs.lemmas.Bool.{cases_lt}
use Rattle.std.proofs.Math.Nat.{suc-mod, mul-suc, suc-mul, mod-eq_of_lt, mod_self, mul_comm}
use Rattle.sr_value.specs.Division.{IsCutQuotient, IsFloorQuotient, IsAtMostQuotient, cut_quotient, floor_quotient, floor_rest}

-- the rest of the next number is one more, or 0 where that is the divisor
suc_rest : (a b : ℕ) → 0 < b → ((suc (a % b) ≡ b) × (suc a % b ≡ 0)) ⊎ ((suc (a % b) < b) × (suc a % b ≡ suc (a % b)))
suc_rest a b p =
    let below : a % b < b = mod_below a b p in
    elim (cases_lt (suc (a % b)) b) [
      | inl less ↦ inr (less, suc-mod a b ∙ mod-eq_of_lt less)
      | inr most ↦ let same : suc (a % b) ≡ b = omega arith in inl (same, suc-mod a b ∙ ap (λ n. n % b) same ∙ mod_self b)
    ]

-- `mod` by a positive number: the rest of `/`, raised once where it is negative
pub floor_rest_kept : (a b : ℤ) → pos 0 <ℤ b → pos 0 ≤ℤ int_rem a b → int_rem a b ≡ floor_rest a b
floor_rest_kept (pos a) (pos b) p h = omega (arith, ints, div-add-mod' a b)
floor_rest_kept (pos a) (negsuc b) p h = absurd (omega (arith, ints))
floor_rest_kept (negsuc a) (pos b) p h = grind (arith, ints, suc_rest a b, div-add-mod' a b, mul-suc b (a / b), mul_comm b (a / b))
floor_rest_kept (negsuc a) (negsuc b) p h = absurd (omega (arith, ints))

pub floor_rest_raised : (a b : ℤ) → pos 0 <ℤ b → int_rem a b <ℤ pos 0 → int_rem a b +ℤ b ≡ floor_rest a b
floor_rest_raised (pos a) (pos b) p h = absurd (omega (arith, ints))
floor_rest_raised (pos a) (negsuc b) p h = absurd (omega (arith, ints))
floor_rest_raised (negsuc a) (pos b) p h = grind (arith, ints, suc_rest a b, div-add-mod' a b, mul-suc b (a / b), mul_comm b (a / b))
floor_rest_raised (negsuc a) (negsuc b) p h = absurd (omega (arith, ints))

pub floor_rest_low : (a b : ℤ) → b <ℤ pos 0 → int_rem a b ≤ℤ pos 0 → int_rem a b ≡ floor_rest a b
floor_rest_low (pos zero) (negsuc b) p h = grind (arith, ints, div-add-mod' 0 (suc b))
floor_rest_low (pos (suc a)) (negsuc b) p h = grind (arith, ints, suc_rest a (suc b), div-add-mod' a (suc b), mul-suc (suc b) (a / suc b), mul_comm (suc b) (a / suc b))
floor_rest_low (negsuc a) (negsuc b) p h = grind (arith, ints, div-add-mod' (suc a) (suc b))
floor_rest_low a (pos b) p h = absurd (omega (arith, ints))

pub floor_rest_lowered : (a b : ℤ) → b <ℤ pos 0 → pos 0 <ℤ int_rem a b → int_rem a b +ℤ b ≡ floor_rest a b
floor_rest_lowered (pos zero) (negsuc b) p h = grind (arith, ints, div-add-mod' 0 (suc b))
floor_rest_lowered (pos (suc a)) (negsuc b) p h = grind (arith, ints, suc_rest a (suc b), div-add-mod' a (suc b), mul-suc (suc b) (a / suc b), mul_comm (suc b) (a / suc b))
floor_rest_lowered (negsuc a) (negsuc b) p h = grind (arith, ints, div-add-mod' (suc a) (suc b))
floor_rest_lowered a (pos b) p h = absurd (omega (arith, ints))

floor_at_most : (a b : ℤ) → b ≢ pos 0 → IsAtMostQuotient a b (floor_quotient a b)
floor_at_most (pos a) (pos b) h = grind (arith, ints, div-add-mod' a b)
floor_at_most (pos zero) (negsuc b) h = grind (arith, ints)
floor_at_most (pos (suc a)) (negsuc b) h = grind (arith, ints, div-add-mod' a (suc b), suc-mul (a / suc b) (suc b), mod_below a (suc b))
floor_at_most (negsuc a) (pos zero) h = absurd (h refl)
floor_at_most (negsuc a) (pos (suc b)) h = grind (arith, ints, div-add-mod' a (suc b), suc-mul (a / suc b) (suc b), mod_below a (suc b))
floor_at_most (negsuc a) (negsuc b) h = grind (arith, ints, div-add-mod' (suc a) (suc b))

floor_greatest : (a b : ℤ) → b ≢ pos 0 → (k : ℤ) → IsAtMostQuotient a b k → k ≤ℤ floor_quotient a b
floor_greatest (pos a) (pos b) h (pos k) m = grind (arith, ints, le-div k a b)
floor_greatest (pos a) (pos b) h (negsuc k) m = omega (arith, ints)
floor_greatest (pos zero) (negsuc b) h (pos k) m = grind (arith, ints)
floor_greatest (pos zero) (negsuc b) h (negsuc k) m = omega (arith, ints)
floor_greatest (pos (suc a)) (negsuc b) h (pos k) m = grind (arith, ints)
floor_greatest (pos (suc a)) (negsuc b) h (negsuc k) m = grind (arith, ints, div_below a (suc b) (suc k))
floor_greatest (negsuc a) (pos b) h (pos k) m = grind (arith, ints)
floor_greatest (negsuc a) (pos b) h (negsuc k) m = grind (arith, ints, div_below a b (suc k))
floor_greatest (negsuc a) (negsuc b) h (pos k) m = grind (arith, ints, le-div k (suc a) (suc b))
floor_greatest (negsuc a) (negsuc b) h (negsuc k) m = omega (arith, ints)

pub floor_quotient_is : (a b : ℤ) → b ≢ pos 0 → IsFloorQuotient a b (floor_quotient a b)
floor_quotient_is a b h = record { at_most = floor_at_most a b h; greatest = floor_greatest a b h }

abs_neg : (n : ℕ) → unsigned_abs (neg_ℤ (pos n)) ≡ n
abs_neg zero = refl
abs_neg (suc n) = refl

cut_size : (a b : ℤ) → unsigned_abs (cut_quotient a b) ≡ unsigned_abs a / unsigned_abs b
cut_size (pos a) (pos b) = refl
cut_size (pos a) (negsuc b) = abs_neg (a / suc b)
cut_size (negsuc a) (pos b) = abs_neg (suc a / b)
cut_size (negsuc a) (negsuc b) = refl

size_pos : (b : ℤ) → b ≢ pos 0 → 0 < unsigned_abs b
size_pos (pos zero) h = absurd (h refl)
size_pos (pos (suc b)) h = omega arith
size_pos (negsuc b) h = omega arith

cut_not_negative : (a b : ℤ) → b ≢ pos 0 → pos 0 ≤ℤ (a *ℤ b) → pos 0 ≤ℤ cut_quotient a b
cut_not_negative (pos a) (pos b) h p = omega (arith, ints)
cut_not_negative (pos zero) (negsuc b) h p = grind (arith, ints)
cut_not_negative (pos (suc a)) (negsuc b) h p = absurd (grind (arith, ints))
cut_not_negative (negsuc a) (pos zero) h p = absurd (h refl)
cut_not_negative (negsuc a) (pos (suc b)) h p = absurd (grind (arith, ints))
cut_not_negative (negsuc a) (negsuc b) h p = omega (arith, ints)

cut_not_positive : (a b : ℤ) → b ≢ pos 0 → (a *ℤ b) ≤ℤ pos 0 → cut_quotient a b ≤ℤ pos 0
cut_not_positive (pos zero) (pos b) h p = grind (arith, ints)
cut_not_positive (pos (suc a)) (pos zero) h p = absurd (h refl)
cut_not_positive (pos (suc a)) (pos (suc b)) h p = absurd (grind (arith, ints))
cut_not_positive (pos a) (negsuc b) h p = grind (arith, ints)
cut_not_positive (negsuc a) (pos b) h p = grind (arith, ints)
cut_not_positive (negsuc a) (negsuc b) h p = absurd (grind (arith, ints))

pub cut_quotient_is : (a b : ℤ) → b ≢ pos 0 → IsCutQuotient a b (cut_quotient a b)
cut_quotient_is a b h =
    let size = cut_size a b in
    let parts = div-add-mod' (unsigned_abs a) (unsigned_abs b) in
    let rest : unsigned_abs a % unsigned_abs b < unsigned_abs b = mod_below (unsigned_abs a) (unsigned_abs b) (size_pos b h) in
    record {
      within = rw size (omega arith);
      farthest = rw size (omega (arith, suc-mul (unsigned_abs a / unsigned_abs b) (unsigned_abs b)));
      not_negative = cut_not_negative a b h;
      not_positive = cut_not_positive a b h;
    }

pub ruleset floor_laws = (to_z-of_z, floor_rest_kept, floor_rest_raised, floor_rest_low, floor_rest_lowered, floor_quotient_is)
