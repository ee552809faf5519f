-- Counts over lists that lose or gain an item.
use Rattle.std.proofs.Common.{◌≡◌, ℕ, ◌+◌, ◌<◌, ◌≤◌, Bool, true, false, cond, List, [], ◌∷◌, ◌++◌, length, get_or, None, Some, refl, ap, sym, ◌∙◌, subst, true≢false, is_some, inl, inr, ◌⊎◌, arith}
use Rattle.std.proofs.lemmas.List.Sums.{sum_by-cons, sum_by-remove, sum_by_push}
use Rattle.std.proofs.lemmas.Option.{get_or_from_slice_get, slice_get_past}
use Rattle.std.proofs.lemmas.Bool.{cases_lt}
use Rattle.std.specs.Prelude.{count_by, filter, find, remove, slice_get}
use Rattle.sr_calls.specs.Calls.{without_first}

-- 1 for what counts
abbrev pub one : Bool → ℕ
one b = cond b 1 0

module _ {A : Type 0} (p : A → Bool) where
  pub count-cons : (x : A) (xs : List A) → count_by p (x ∷ xs) ≡ one (p x) + count_by p xs
  count-cons x xs = sum_by-cons (λ y. one (p y)) x xs

  pub count-push : (xs : List A) (x : A) → count_by p (xs ++ x ∷ []) ≡ count_by p xs + one (p x)
  count-push xs x = sum_by_push (λ y. one (p y)) xs x

  pub count-filter : (q : A → Bool) (xs : List A) → count_by p (filter q xs) ≤ count_by p xs
  count-filter q [] = omega arith
  count-filter q (x ∷ xs) = by (q x) (count-filter q xs)
    where
      by : (b : Bool) → count_by p (filter q xs) ≤ count_by p xs → count_by p (cond b (x ∷ filter q xs) (filter q xs)) ≤ count_by p (x ∷ xs)
      by true more = omega (arith, count-cons x (filter q xs), count-cons x xs, more)
      by false more = omega (arith, count-cons x xs, more)

  -- the first that passes a test is taken out
  pub count-without_first : (t : A → Bool) (xs : List A) (x : A) → find t xs ≡ Some x → count_by p (without_first t xs) + one (p x) ≡ count_by p xs
  count-without_first t [] x is = absurd (true≢false (sym (ap is_some is)))
  count-without_first t (y ∷ ys) x is = by (t y) is (count-without_first t ys x)
    where
      same : (a b : A) → Some a ≡ Some b → one (p b) ≡ one (p a)
      same a b e = cc

      by : (b : Bool) → cond b (Some y) (find t ys) ≡ Some x → (find t ys ≡ Some x → count_by p (without_first t ys) + one (p x) ≡ count_by p ys)
          → count_by p (cond b ys (y ∷ without_first t ys)) + one (p x) ≡ count_by p (y ∷ ys)
      by true h more = let e = same y x h in omega (arith, e, count-cons y ys)
      by false h more = omega (arith, more h, count-cons y ys, count-cons y (without_first t ys))

  -- the item at a place is taken out
  pub count-remove : (xs : List A) (i : ℕ) (x : A) → slice_get xs i ≡ Some x → count_by p (remove xs i) + one (p x) ≡ count_by p xs
  count-remove xs i x is = by (cases_lt i (length xs))
    where
      by : ((i < length xs) ⊎ (length xs ≤ i)) → count_by p (remove xs i) + one (p x) ≡ count_by p xs
      by (inl within) = let at : get_or xs i x ≡ x = get_or_from_slice_get xs i x x is in subst (λ y. count_by p (remove xs i) + one (p y) ≡ count_by p xs) at (sum_by-remove (λ y. one (p y)) xs i x within)
      by (inr past) = absurd (true≢false (ap is_some (sym is ∙ slice_get_past xs i past)))

module _ {A : Type 0} where
  pub nothing-first : (t : A → Bool) (xs : List A) → find t xs ≡ None → without_first t xs ≡ xs
  nothing-first t [] none = refl
  nothing-first t (x ∷ xs) none = by (t x) (nothing-first t xs) none
    where
      by : (b : Bool) → (find t xs ≡ None → without_first t xs ≡ xs) → cond b (Some x) (find t xs) ≡ None → cond b xs (x ∷ without_first t xs) ≡ x ∷ xs
      by true more h = absurd (true≢false (ap is_some h))
      by false more h = ap (λ ys. x ∷ ys) (more h)

  pub find-passes : (t : A → Bool) (xs : List A) (x : A) → find t xs ≡ Some x → t x ≡ true
  find-passes t [] x is = absurd (true≢false (sym (ap is_some is)))
  find-passes t (y ∷ ys) x is = by (t y) refl is (find-passes t ys x)
    where
      by : (b : Bool) → t y ≡ b → cond b (Some y) (find t ys) ≡ Some x → (find t ys ≡ Some x → t x ≡ true) → t x ≡ true
      by true at h more = let e : y ≡ x = cc in ap t (sym e) ∙ at
      by false at h more = more h

  -- what is found counts
  pub count-found : (t : A → Bool) (xs : List A) (x : A) → find t xs ≡ Some x → 1 ≤ count_by t xs
  count-found t xs x is = omega (arith, count-without_first t t xs x is, ap one (find-passes t xs x is))

  pub found-append : (t : A → Bool) (xs ys : List A) → is_some (find t (xs ++ ys)) ≡ false → is_some (find t xs) ≡ false
  found-append t [] ys none = refl
  found-append t (x ∷ xs) ys none = by (t x) none (found-append t xs ys)
    where
      by : (b : Bool) → is_some (cond b (Some x) (find t (xs ++ ys))) ≡ false → (is_some (find t (xs ++ ys)) ≡ false → is_some (find t xs) ≡ false) → is_some (cond b (Some x) (find t xs)) ≡ false
      by true h more = absurd (true≢false h)
      by false h more = more h

  pub found-last : (t : A → Bool) (xs : List A) (y : A) → t y ≡ true → is_some (find t (xs ++ y ∷ [])) ≡ true
  found-last t [] y passes = ap (λ b. is_some (cond b (Some y) None)) passes
  found-last t (x ∷ xs) y passes = by (t x) (found-last t xs y passes)
    where
      by : (b : Bool) → is_some (find t (xs ++ y ∷ [])) ≡ true → is_some (cond b (Some x) (find t (xs ++ y ∷ []))) ≡ true
      by true more = refl
      by false more = more

-- more are no fewer
pub count-grows : (p : ℕ → Bool) (xs ys : List ℕ) → count_by p xs ≤ count_by p (xs ++ ys)
count-grows p [] ys = omega arith
count-grows p (x ∷ xs) ys = omega (arith, count-cons p x xs, count-cons p x (xs ++ ys), count-grows p xs ys)
