-- Things in lists: in what is made of each, at their places, and where each thing has a property; lists that are the same.
use Rattle.std.proofs.Common.{◌≡◌, ℕ, suc, List, [], ◌∷◌, Some, map, refl, ap, subst, inl, inr}
use Rattle.std.specs.List.{slice_get}
use Rattle.sr_check.proofs.Each.{Each}
use Rattle.sr_scope.specs.Uses.{IsIn}

pub in_mapped : {A B : Type 0} (f : A → B) (xs : List A) (x : A) → IsIn x xs → IsIn (f x) (map f xs)
in_mapped f [] x h = absurd h
in_mapped f (y ∷ xs) x (inl e) = inl (ap f e)
in_mapped f (y ∷ xs) x (inr k) = inr (in_mapped f xs x k)

pub from_mapped : {A B : Type 0} (f : A → B) (xs : List A) (b : B) → IsIn b (map f xs) → (x : A) × (IsIn x xs) × (f x ≡ b)
from_mapped f [] b h = absurd h
from_mapped f (y ∷ xs) b (inl e) = (y, inl refl, e)
from_mapped f (y ∷ xs) b (inr k) = let more = from_mapped f xs b k in (more.0, inr more.1, more.2)

pub place_of : {A : Type 0} (xs : List A) (a : A) → IsIn a xs → (i : ℕ) × (slice_get xs i ≡ Some a)
place_of [] a h = absurd h
place_of (x ∷ xs) a (inl e) = (0, ap Some e)
place_of (x ∷ xs) a (inr h) = let found = place_of xs a h in (suc found.0, found.1)

pub each_at : {A : Type 0} (Q : A → Type 0) (xs : List A) → Each Q xs → (a : A) → IsIn a xs → Q a
each_at Q [] h a k = absurd k
each_at Q (x ∷ xs) h a (inl e) = subst Q e h.0
each_at Q (x ∷ xs) h a (inr k) = each_at Q xs h.1 a k

pub first_same : {A : Type 0} (a b : A) (xs ys : List A) → a ∷ xs ≡ b ∷ ys → a ≡ b
first_same a b xs ys e = cc

pub rest_same : {A : Type 0} (a b : A) (xs ys : List A) → a ∷ xs ≡ b ∷ ys → xs ≡ ys
rest_same a b xs ys e = cc

pub none_listed : {A : Type 0} (a : A) (xs : List A) → a ∷ xs ≡ [] → ⊥
none_listed a xs e = cc
