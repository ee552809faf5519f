-- The first item that passes a test, and the list without it.
use Rattle.std.proofs.Common.{◌≡◌, ℕ, suc, ◌+◌, ◌<◌, ◌≤◌, Bool, true, false, cond, not, List, [], ◌∷◌, ◌++◌, None, Some, length, refl, ap, subst, sym, ◌∙◌, true≢false, is_some, arith}
use Rattle.std.proofs.lemmas.Bool.{ltb-false, ltb-true}
use Rattle.std.proofs.lemmas.List.Folds.{find_at}
use Rattle.std.proofs.lemmas.Option.{slice_get_past}
use Rattle.std.specs.Prelude.{◌||◌, find, position, remove, slice_get, nat_lt}
use Rattle.std.specs.List.{list_any, position_or_len}
use Rattle.sr_calls.specs.Calls.{without_first}

module _ {A : Type 0} (test : A → Bool) where
  -- the list without its first is the list with the item at that place taken out
  gone : (xs : List A) → without_first test xs ≡ remove xs (position_or_len test xs)
  gone [] = refl
  gone (x ∷ xs) = by (test x) (gone xs)
    where
      by : (b : Bool) → without_first test xs ≡ remove xs (position_or_len test xs) → cond b xs (x ∷ without_first test xs) ≡ remove (x ∷ xs) (cond (not b) (1 + position_or_len test xs) 0)
      by true more = refl
      by false more = let next : 1 + position_or_len test xs ≡ suc (position_or_len test xs) = omega arith in ap (λ ys. x ∷ ys) more ∙ ap (remove (x ∷ xs)) (sym next)

  position-is : (xs : List A) (i : ℕ) → position test xs ≡ Some i → position_or_len test xs ≡ i
  position-is xs i at = by (nat_lt (position_or_len test xs) (length xs)) at
    where
      by : (b : Bool) → cond b (Some (position_or_len test xs)) None ≡ Some i → position_or_len test xs ≡ i
      by true h = cc
      by false h = cc

  no-position : (xs : List A) → position test xs ≡ None → length xs ≤ position_or_len test xs
  no-position xs none = by (nat_lt (position_or_len test xs) (length xs)) refl none
    where
      by : (b : Bool) → nat_lt (position_or_len test xs) (length xs) ≡ b → cond b (Some (position_or_len test xs)) None ≡ None → length xs ≤ position_or_len test xs
      by true is h = cc
      by false is h = ltb-false (position_or_len test xs) (length xs) is

  pub place-within : (xs : List A) (i : ℕ) → position test xs ≡ Some i → i < length xs
  place-within xs i at = by (nat_lt (position_or_len test xs) (length xs)) refl at
    where
      by : (b : Bool) → nat_lt (position_or_len test xs) (length xs) ≡ b → cond b (Some (position_or_len test xs)) None ≡ Some i → i < length xs
      by true is h = let place : position_or_len test xs ≡ i = cc in subst (λ n. n < length xs) place (ltb-true (position_or_len test xs) (length xs) is)
      by false is h = cc

  pub none-found : (xs : List A) → position test xs ≡ None → find test xs ≡ None
  none-found xs none = find_at test xs ∙ slice_get_past xs (position_or_len test xs) (no-position xs none)

  nothing-gone : (xs : List A) → find test xs ≡ None → without_first test xs ≡ xs
  nothing-gone [] none = refl
  nothing-gone (x ∷ xs) none = by (test x) (nothing-gone xs) none
    where
      by : (b : Bool) → (find test xs ≡ None → without_first test xs ≡ xs) → cond b (Some x) (find test xs) ≡ None → cond b xs (x ∷ without_first test xs) ≡ x ∷ xs
      by true more h = absurd (true≢false (ap is_some h))
      by false more h = ap (λ ys. x ∷ ys) (more h)

  pub none-gone : (xs : List A) → position test xs ≡ None → without_first test xs ≡ xs
  none-gone xs none = nothing-gone xs (none-found xs none)

  pub one-found : (xs : List A) (i : ℕ) → position test xs ≡ Some i → find test xs ≡ slice_get xs i
  one-found xs i at = find_at test xs ∙ ap (slice_get xs) (position-is xs i at)

  pub one-gone : (xs : List A) (i : ℕ) → position test xs ≡ Some i → without_first test xs ≡ remove xs i
  one-gone xs i at = gone xs ∙ ap (remove xs) (position-is xs i at)

  -- what is found stays found when an item is added
  pub found-earlier : (xs : List A) (y x : A) → find test xs ≡ Some x → find test (xs ++ y ∷ []) ≡ Some x
  found-earlier [] y x is = absurd (true≢false (sym (ap is_some is)))
  found-earlier (z ∷ xs) y x is = by (test z) (found-earlier xs y x) is
    where
      by : (b : Bool) → (find test xs ≡ Some x → find test (xs ++ y ∷ []) ≡ Some x) → cond b (Some z) (find test xs) ≡ Some x → cond b (Some z) (find test (xs ++ y ∷ [])) ≡ Some x
      by true more h = h
      by false more h = more h

  pub found-last : (xs : List A) (y : A) → find test xs ≡ None → test y ≡ true → find test (xs ++ y ∷ []) ≡ Some y
  found-last [] y none passes = ap (λ b. cond b (Some y) None) passes
  found-last (z ∷ xs) y none passes = by (test z) (λ h. found-last xs y h passes) none
    where
      by : (b : Bool) → (find test xs ≡ None → find test (xs ++ y ∷ []) ≡ Some y) → cond b (Some z) (find test xs) ≡ None → cond b (Some z) (find test (xs ++ y ∷ [])) ≡ Some y
      by true more h = absurd (true≢false (ap is_some h))
      by false more h = more h

-- ---- whether one passes

pub some_found : {A : Type 0} (test : A → Bool) (xs : List A) → is_some (find test xs) ≡ list_any test xs
some_found test [] = refl
some_found test (x ∷ xs) = by (test x) (some_found test xs)
  where
    by : (b : Bool) → is_some (find test xs) ≡ list_any test xs → is_some (cond b (Some x) (find test xs)) ≡ (b || list_any test xs)
    by true more = refl
    by false more = more
