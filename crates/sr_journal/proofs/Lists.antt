-- Lists that are equal, from their fronts.
use Rattle.std.proofs.Common.{◌≡◌, refl, ◌∙◌, ap, ℕ, zero, suc, ◌+◌, ◌<◌, ◌≤◌, List, [], ◌∷◌, ◌++◌, length, take, length-append, arith}

pub cancel : (u p q : List ℕ) → u ++ p ≡ u ++ q → p ≡ q
cancel [] p q e = e
cancel (x ∷ u) p q e = let tails : u ++ p ≡ u ++ q = cc in cancel u p q tails

pub append-nil : (u : List ℕ) → u ++ [] ≡ u
append-nil [] = refl
append-nil (x ∷ u) = ap (λ w. x ∷ w) (append-nil u)

-- a list is no longer than itself
pub no-more : (u p : List ℕ) → u ≡ u ++ p → 0 < length p → ⊥
no-more u p e some = let h : length u ≡ length u + length p = ap length e ∙ length-append u p in absurd (omega (arith, h))

pub take-whole : (n : ℕ) (u : List ℕ) → length u ≤ n → take n u ≡ u
take-whole zero [] h = refl
take-whole zero (x ∷ u) h = absurd (omega arith)
take-whole (suc n) [] h = refl
take-whole (suc n) (x ∷ u) h = ap (λ w. x ∷ w) (take-whole n u (omega arith))
