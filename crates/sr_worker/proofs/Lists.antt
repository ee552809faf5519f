-- Lists by their places.
use Rattle.std.proofs.Common.{◌≡◌, ◌≢◌, ◌⊎◌, inl, inr, ◌+◌, ◌<◌, ℕ, zero, suc, List, [], ◌∷◌, ◌++◌, Some, None, length, length-append, map, slice_get, slice_set, refl, ap, sym, ◌∙◌, ⊎_elim, arith}
use Rattle.std.proofs.lemmas.Option.{none-some}

module _ {X : Type 0} where
  pub get-set : (xs : List X) (k : ℕ) (x y : X) → slice_get xs k ≡ Some x → slice_get (slice_set xs k y) k ≡ Some y
  get-set [] k x y here = absurd (none-some x here)
  get-set (z ∷ xs) zero x y here = refl
  get-set (z ∷ xs) (suc k) x y here = get-set xs k x y here

  pub get-set-other : (xs : List X) (k j : ℕ) (y : X) → k ≢ j → slice_get (slice_set xs k y) j ≡ slice_get xs j
  get-set-other [] k j y off = refl
  get-set-other (z ∷ xs) zero zero y off = absurd (off refl)
  get-set-other (z ∷ xs) zero (suc j) y off = refl
  get-set-other (z ∷ xs) (suc k) zero y off = refl
  get-set-other (z ∷ xs) (suc k) (suc j) y off = get-set-other xs k j y (λ same. off (ap suc same))

  pub within : (xs : List X) (k : ℕ) → k < length xs → (x : X) × (slice_get xs k ≡ Some x)
  within [] k low = absurd (omega arith)
  within (z ∷ xs) zero low = (z, refl)
  within (z ∷ xs) (suc k) low = within xs k (omega arith)

  pub get-append : (xs ys : List X) (k : ℕ) (y : X) → slice_get (xs ++ ys) k ≡ Some y
      → (slice_get xs k ≡ Some y) ⊎ ((j : ℕ) × (k ≡ length xs + j) × (slice_get ys j ≡ Some y))
  get-append [] ys k y here = inr (k, omega arith, here)
  get-append (x ∷ xs) ys zero y here = inl here
  get-append (x ∷ xs) ys (suc k) y here = ⊎_elim (λ first. inl first) (λ later. inr (later.0, omega (arith, later.1), later.2)) (get-append xs ys k y here)

  -- in a list with one more item, an item is the last or stands among the others
  pub last-or-before : (xs before after : List X) (x y : X) → xs ++ x ∷ [] ≡ before ++ y ∷ after
      → ((before ≡ xs) × (y ≡ x)) ⊎ ((rest : List X) × (xs ≡ before ++ y ∷ rest))
  last-or-before [] [] after x y same = inl (refl, cc)
  last-or-before [] (b ∷ before) after x y same = absurd (omega (arith, ap length same, length-append before (y ∷ after)))
  last-or-before (a ∷ xs) [] after x y same = inr (xs, cc)
  last-or-before (a ∷ xs) (b ∷ before) after x y same =
      let head : a ≡ b = cc in
      let tail : xs ++ x ∷ [] ≡ before ++ y ∷ after = cc in
      ⊎_elim (λ last. inl (ap (λ zs. b ∷ zs) last.0 ∙ ap (λ z. z ∷ xs) (sym head), last.1))
      (λ among. inr (among.0, ap (λ z. z ∷ xs) head ∙ ap (λ zs. b ∷ zs) among.1))
      (last-or-before xs before after x y tail)

module _ {X Y : Type 0} (f : X → Y) where
  pub get-map : (xs : List X) (k : ℕ) (x : X) → slice_get xs k ≡ Some x → slice_get (map f xs) k ≡ Some (f x)
  get-map [] k x here = absurd (none-some x here)
  get-map (z ∷ xs) zero x here = let same : z ≡ x = cc in ap (λ v. Some (f v)) same
  get-map (z ∷ xs) (suc k) x here = get-map xs k x here

  pub map-set-alike : (xs : List X) (k : ℕ) (x y : X) → slice_get xs k ≡ Some x → f y ≡ f x → map f (slice_set xs k y) ≡ map f xs
  map-set-alike [] k x y here alike = refl
  map-set-alike (z ∷ xs) zero x y here alike = let same : z ≡ x = cc in ap (λ v. v ∷ map f xs) (alike ∙ ap f (sym same))
  map-set-alike (z ∷ xs) (suc k) x y here alike = ap (λ vs. f z ∷ vs) (map-set-alike xs k x y here alike)
