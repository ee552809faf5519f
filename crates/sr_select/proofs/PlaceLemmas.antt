-- What is left of a queue at a place.
use Rattle.std.proofs.Common.{◌≡◌, ℕ, zero, suc, ◌+◌, ◌≤◌, Bool, true, false, List, [], ◌∷◌, length, drop, refl, ap, sym, ◌∙◌, arith, cond}
use Rattle.std.specs.Prelude.{Option, Some, None, is_some, slice_get}
use Rattle.std.proofs.Common.{true≢false}

pub drop-at : {A : Type 0} (at : ℕ) (xs : List A) (x : A) → slice_get xs at ≡ Some x → drop at xs ≡ x ∷ drop (at + 1) xs
drop-at at xs x found = let next : at + 1 ≡ suc at = omega arith in drop-next at xs x found ∙ ap (λ n. x ∷ drop n xs) (sym next)
  where
    drop-next : {A : Type 0} (at : ℕ) (xs : List A) (x : A) → slice_get xs at ≡ Some x → drop at xs ≡ x ∷ drop (suc at) xs
    drop-next at [] x found = absurd (true≢false (sym (ap is_some found)))
    drop-next zero (y ∷ xs) x found = let same : y ≡ x = cc in ap (λ z. z ∷ xs) same
    drop-next (suc at) (y ∷ xs) x found = drop-next at xs x found

pub drop-end : {A : Type 0} (at : ℕ) (xs : List A) → length xs ≤ at → drop at xs ≡ []
drop-end zero [] end = refl
drop-end zero (x ∷ xs) end = absurd (omega arith)
drop-end (suc at) [] end = refl
drop-end (suc at) (x ∷ xs) end = drop-end at xs (omega arith)
