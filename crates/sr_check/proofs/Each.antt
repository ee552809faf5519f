-- What holds of each element of a list, one element after another.
use Rattle.std.proofs.Common.{suc, zero, List, [], ◌∷◌, ◌++◌, arith}
use Rattle.std.specs.List.{All, flat_map}

abbrev pub Each : {X : Type 0} → (X → Type 0) → List X → Type 0
Each P [] = Unit {0}
Each P (x ∷ xs) = P x × Each P xs

module _ {X : Type 0} (P : X → Type 0) where
  pub each : (xs : List X) → All P xs → Each P xs
  each [] h = tt
  each (x ∷ xs) h = (h zero x (omega arith), each xs (λ k d low. h (suc k) d (omega arith)))

  pub all_of : (xs : List X) → Each P xs → All P xs
  all_of [] h k d low = absurd (omega arith)
  all_of (x ∷ xs) h zero d low = h.0
  all_of (x ∷ xs) h (suc k) d low = all_of xs h.1 k d (omega arith)

  pub each-append : (xs ys : List X) → Each P xs → Each P ys → Each P (xs ++ ys)
  each-append [] ys h k = k
  each-append (x ∷ xs) ys h k = (h.0, each-append xs ys h.1 k)

  pub each-left : (xs ys : List X) → Each P (xs ++ ys) → Each P xs
  each-left [] ys h = tt
  each-left (x ∷ xs) ys h = (h.0, each-left xs ys h.1)

  pub each-right : (xs ys : List X) → Each P (xs ++ ys) → Each P ys
  each-right [] ys h = h
  each-right (x ∷ xs) ys h = each-right xs ys h.1

  pub each-weaker : (Q : X → Type 0) → ((x : X) → P x → Q x) → (xs : List X) → Each P xs → Each Q xs
  each-weaker Q f [] h = tt
  each-weaker Q f (x ∷ xs) h = (f x h.0, each-weaker Q f xs h.1)

  pub each-parts : {Y : Type 0} (f : Y → List X) (ys : List Y) → Each P (flat_map f ys) → Each (λ y. Each P (f y)) ys
  each-parts f [] h = tt
  each-parts f (y ∷ ys) h = (each-left (f y) (flat_map f ys) h, each-parts f ys (each-right (f y) (flat_map f ys) h))
