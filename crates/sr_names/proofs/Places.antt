-- Items at places of lists.
use Rattle.std.proofs.Common.{◌≡◌, ◌⊎◌, ℕ, zero, suc, ◌+◌, ◌<◌, ◌≤◌, List, [], ◌∷◌, ◌++◌, length, take, drop, refl, sym, ◌∙◌, subst, inl, inr, arith}
use Rattle.sr_names.specs.Searches.{At}

module _ {A : Type 0} where
  pub at-within : (items : List A) (place : ℕ) (item : A) → At items place item → place < length items
  at-within [] place item h = absurd h
  at-within (first ∷ items) zero item h = omega arith
  at-within (first ∷ items) (suc place) item h = omega (arith, at-within items place item h)

  pub at-some : (items : List A) (place : ℕ) → place < length items → (item : A) × At items place item
  at-some [] place h = absurd (omega arith)
  at-some (first ∷ items) zero h = (first, refl)
  at-some (first ∷ items) (suc place) h = at-some items place (omega arith)

  pub at-same : (items : List A) (place : ℕ) (a b : A) → At items place a → At items place b → a ≡ b
  at-same [] place a b h k = absurd h
  at-same (first ∷ items) zero a b h k = sym h ∙ k
  at-same (first ∷ items) (suc place) a b h k = at-same items place a b h k

  pub at-left : (items more : List A) (place : ℕ) (item : A) → At items place item → At (items ++ more) place item
  at-left [] more place item h = absurd h
  at-left (first ∷ items) more zero item h = h
  at-left (first ∷ items) more (suc place) item h = at-left items more place item h

  pub at-right : (items more : List A) (place after : ℕ) (item : A) → after ≡ length items + place → At more place item → At (items ++ more) after item
  at-right [] more place after item e h = let same : place ≡ after = omega arith in let P : ℕ → Type 0 = λ n. At more n item in subst P same h
  at-right (first ∷ items) more place zero item e h = absurd (omega arith)
  at-right (first ∷ items) more place (suc after) item e h = at-right items more place after item (omega arith) h

  pub at-last : (items : List A) (item : A) → At (items ++ item ∷ []) (length items) item
  at-last items item = at-right items (item ∷ []) 0 (length items) item (omega arith) refl

  pub at-either : (items more : List A) (place : ℕ) (item : A) → At (items ++ more) place item
      → At items place item ⊎ ((after : ℕ) × (place ≡ length items + after) × At more after item)
  at-either [] more place item h = inr (place, omega arith, h)
  at-either (first ∷ items) more zero item h = inl h
  at-either (first ∷ items) more (suc place) item h = by (at-either items more place item h)
    where
      by : (At items place item ⊎ ((after : ℕ) × (place ≡ length items + after) × At more after item))
          → At items place item ⊎ ((after : ℕ) × (suc place ≡ length (first ∷ items) + after) × At more after item)
      by (inl k) = inl k
      by (inr k) = inr (k.0, (let e : place ≡ length items + k.0 = k.1 in omega arith), k.2)

  -- of a list with one more item
  pub at-push : (items : List A) (last : A) (place : ℕ) (item : A) → At (items ++ last ∷ []) place item → At items place item ⊎ ((place ≡ length items) × (last ≡ item))
  at-push items last place item h = by (at-either items (last ∷ []) place item h)
    where
      by : (At items place item ⊎ ((after : ℕ) × (place ≡ length items + after) × At (last ∷ []) after item)) → At items place item ⊎ ((place ≡ length items) × (last ≡ item))
      by (inl k) = inl k
      by (inr (zero, e, k)) = inr (omega arith, k)
      by (inr (suc after, e, k)) = absurd k

  pub at-take : (items : List A) (count place : ℕ) (item : A) → At (take count items) place item → (place < count) × At items place item
  at-take [] zero place item h = absurd h
  at-take [] (suc count) place item h = absurd h
  at-take (first ∷ items) zero place item h = absurd h
  at-take (first ∷ items) (suc count) zero item h = (omega arith, h)
  at-take (first ∷ items) (suc count) (suc place) item h = let k = at-take items count place item h in (omega (arith, k.0), k.1)

  pub at-taken : (items : List A) (count place : ℕ) (item : A) → place < count → At items place item → At (take count items) place item
  at-taken [] count place item e h = absurd h
  at-taken (first ∷ items) zero place item e h = absurd (omega arith)
  at-taken (first ∷ items) (suc count) zero item e h = h
  at-taken (first ∷ items) (suc count) (suc place) item e h = at-taken items count place item (omega arith) h

  pub at-drop : (items : List A) (count place : ℕ) (item : A) → At (drop count items) place item → (after : ℕ) × (count ≤ after) × At items after item
  at-drop [] zero place item h = absurd h
  at-drop [] (suc count) place item h = absurd h
  at-drop (first ∷ items) zero place item h = (place, omega arith, h)
  at-drop (first ∷ items) (suc count) place item h = let k = at-drop items count place item h in (suc k.0, omega (arith, k.1), k.2)

  pub at-dropped : (items : List A) (count place : ℕ) (item : A) → count ≤ place → At items place item → (before : ℕ) × At (drop count items) before item
  at-dropped [] count place item e h = absurd h
  at-dropped (first ∷ items) zero place item e h = (place, h)
  at-dropped (first ∷ items) (suc count) zero item e h = absurd (omega arith)
  at-dropped (first ∷ items) (suc count) (suc place) item e h = at-dropped items count place item (omega arith) h

  pub push-some : (items : List A) (item : A) → items ++ item ∷ [] ≡ [] → ⊥
  push-some [] item e = cc
  push-some (first ∷ items) item e = cc

  pub take-none : (items : List A) → take 0 items ≡ []
  take-none [] = refl
  take-none (first ∷ items) = refl
