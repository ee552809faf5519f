-- The place where those below a number end.
use Rattle.std.proofs.Common.{◌≡◌, ℕ, zero, suc, ◌≤◌, List, [], ◌∷◌, length, Some, cond, refl, sym, ap, ◌∙◌, ltb, leb, true, false, arith}
use Rattle.std.specs.List.{find, slice_get}
use Rattle.std.specs.List.Sorted.{IsPartitionPoint}
use Rattle.std.proofs.lemmas.Bool.{le-leb, lt-leb, ltb-true, ltb-false}

-- the place where those below end is that of the first that isn't below
pub first_at : (least : ℕ) (xs : List ℕ) (i : ℕ) → IsPartitionPoint (λ y. ltb y least ≡ true) (λ y. ltb y least ≡ false) xs i → i ≤ length xs → slice_get xs i ≡ find (λ number. leb least number) xs
first_at least [] i parted low = refl
first_at least (x ∷ xs) zero parted low = sym (ap (λ b. cond b (Some x) (find (λ number. leb least number) xs)) (le-leb least x (ltb-false x least (parted.1 zero x (omega arith) (omega arith)))))
first_at least (x ∷ xs) (suc i) parted low =
    first_at least xs i ((λ k d from upto. parted.0 (suc k) d (omega arith) (omega arith)), (λ k d from upto. parted.1 (suc k) d (omega arith) (omega arith))) (omega arith)
    ∙ sym (ap (λ b. cond b (Some x) (find (λ number. leb least number) xs)) (lt-leb least x (ltb-true x least (parted.0 zero x (omega arith) (omega arith)))))
