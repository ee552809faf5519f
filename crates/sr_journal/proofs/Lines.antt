-- Writing one line after the other, as a loop does.
use Rattle.std.proofs.Common.{◌≡◌, refl, ◌∙◌, ap, ℕ, zero, suc, ◌≤◌, List, [], ◌∷◌, ◌++◌, length, take, arith}
use Rattle.std.specs.Prelude.{map}
use Rattle.std.specs.List.{concat, flat_map}

joined : {A : Type 0} (f : A → List ℕ) (xs : List A) → flat_map f xs ≡ concat (map f xs)
joined f [] = refl
joined f (x ∷ xs) = ap (λ w. f x ++ w) (joined f xs)

take-all : {A : Type 0} (n : ℕ) (xs : List A) → length xs ≤ n → take n xs ≡ xs
take-all zero [] h = refl
take-all zero (x ∷ xs) h = absurd (omega arith)
take-all (suc n) [] h = refl
take-all (suc n) (x ∷ xs) h = ap (λ w. x ∷ w) (take-all n xs (omega arith))

pub all-lines : {A : Type 0} (f : A → List ℕ) (xs : List A) (i : ℕ) (old text : List ℕ) → length xs ≤ i → text ≡ old ++ flat_map f (take i xs) → text ≡ old ++ concat (map f xs)
all-lines f xs i old text h e = e ∙ ap (λ w. old ++ w) (ap (flat_map f) (take-all i xs h) ∙ joined f xs)
