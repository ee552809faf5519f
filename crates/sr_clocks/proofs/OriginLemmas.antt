-- Rows that are computed from lists of items.
use Rattle.std.proofs.Common.{◌≡◌, ◌<◌, ◌≤◌, ◌⊎◌, inl, inr, ⊎_elim, ℕ, zero, suc, List, [], ◌∷◌, refl, ap, arith, length, map}
use Rattle.std.specs.Prelude.{Contains, slice_index_or}
use Rattle.sr_clocks.specs.Clocks.{AreFrom, AreRows, IsOrigin, Rows, greatest}
use Rattle.sr_clocks.proofs.ClockLemmas.{order}

pub above : (f : ℕ → ℕ) (xs : List ℕ) (k x : ℕ) → k < length xs → slice_index_or xs k x ≡ x → f x ≤ greatest (map f xs)
above f [] k x short is = absurd (omega arith)
above f (y ∷ ys) zero x short is = let same : f y ≡ f x = ap f is in omega arith
above f (y ∷ ys) (suc k) x short is = omega (arith, above f ys k x (omega arith) is)

pub reached : (f : ℕ → ℕ) (xs : List ℕ) → (greatest (map f xs) ≡ 0) ⊎ ((x : ℕ) × Contains xs x × (greatest (map f xs) ≡ f x))
reached f [] = inl refl
reached f (y ∷ ys) = ⊎_elim (λ less. later less (reached f ys)) (λ rest. inr (y, (0, omega arith, refl), ⊎_elim (λ e. omega arith) (λ l. omega arith) rest)) (order (f y) (greatest (map f ys)))
  where
    later : f y < greatest (map f ys) → (greatest (map f ys) ≡ 0) ⊎ ((x : ℕ) × Contains ys x × (greatest (map f ys) ≡ f x))
        → (greatest (map f (y ∷ ys)) ≡ 0) ⊎ ((x : ℕ) × Contains (y ∷ ys) x × (greatest (map f (y ∷ ys)) ≡ f x))
    later less (inl none) = absurd (omega arith)
    later less (inr found) = inr (found.0, (suc found.1.0, omega (arith, found.1.1), found.1.2), omega (arith, found.2))

-- they are the rows of the links from these items
pub rows_from : (origins : ℕ → List ℕ) (owners : List ℕ) (count : ℕ) (row : Rows) → AreFrom origins owners count row
    → AreRows (IsOrigin origins) owners count row
rows_from origins owners count row from = record {
  above = λ i j process inside some origin. omega (arith, from j process inside some, above (λ k. row k process) (origins j) origin.0 i origin.1 origin.2);
  reached = λ j process inside some. ⊎_elim (λ none. inl (omega (arith, from j process inside some)))
      (λ found. inr (found.0, found.1, omega (arith, from j process inside some, found.2))) (reached (λ k. row k process) (origins j));
}
