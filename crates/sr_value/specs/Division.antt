-- Division of whole numbers, in which nothing is cut to 32 bits. Each holds where `b` isn't 0.
use Rattle.std.specs.Prelude.{zero, suc, ◌+◌, ◌*◌, ◌/◌, ◌<◌, ◌≤◌, ℤ, pos, negsuc, ◌-ℤ◌, ◌*ℤ◌, ◌≤ℤ◌, int_div, unsigned_abs}

-- `q` is at most the exact quotient of `a` by `b`: `q * b` is at most `a`, or at least `a` where `b` is negative
abbrev pub IsAtMostQuotient : ℤ → ℤ → ℤ → Type 0
IsAtMostQuotient a (pos b) q = (q *ℤ pos b) ≤ℤ a
IsAtMostQuotient a (negsuc b) q = a ≤ℤ (q *ℤ negsuc b)

-- `q` is the greatest whole number that is at most the exact quotient of `a` by `b`
pub record IsFloorQuotient (a b q : ℤ) : Type 0 where
  pub at_most : IsAtMostQuotient a b q
  pub greatest : (k : ℤ) → IsAtMostQuotient a b k → k ≤ℤ q

-- `q` is the exact quotient of `a` by `b` cut towards zero: of the whole numbers between it and 0 the farthest from 0
pub record IsCutQuotient (a b q : ℤ) : Type 0 where
  pub within : unsigned_abs q * unsigned_abs b ≤ unsigned_abs a
  pub farthest : unsigned_abs a < (unsigned_abs q + 1) * unsigned_abs b
  pub not_negative : pos 0 ≤ℤ (a *ℤ b) → pos 0 ≤ℤ q
  pub not_positive : (a *ℤ b) ≤ℤ pos 0 → q ≤ℤ pos 0

-- the quotient cut towards zero, which is what `/` means
abbrev pub cut_quotient : ℤ → ℤ → ℤ
cut_quotient a b = int_div a b

-- what `%` means: what `a` has more than the cut quotient times `b`
abbrev pub cut_rest : ℤ → ℤ → ℤ
cut_rest a b = a -ℤ cut_quotient a b *ℤ b

-- the greatest whole number at most the exact quotient
abbrev pub floor_quotient : ℤ → ℤ → ℤ
floor_quotient (pos a) (pos b) = pos (a / b)
floor_quotient (pos zero) (negsuc b) = pos 0
floor_quotient (pos (suc a)) (negsuc b) = negsuc (a / suc b)
floor_quotient (negsuc a) (pos b) = negsuc (a / b)
floor_quotient (negsuc a) (negsuc b) = pos (suc a / suc b)

-- what `mod` means: what `a` has more than `b` times the floor quotient
abbrev pub floor_rest : ℤ → ℤ → ℤ
floor_rest a b = a -ℤ b *ℤ floor_quotient a b

-- `r` is 0 or has the sign of `a`
pub record HasSignOf (a r : ℤ) : Type 0 where
  pub not_negative : pos 0 ≤ℤ a → pos 0 ≤ℤ r
  pub not_positive : a ≤ℤ pos 0 → r ≤ℤ pos 0
