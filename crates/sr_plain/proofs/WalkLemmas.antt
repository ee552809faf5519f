-- The walk over the living processes.
use Rattle.std.proofs.Common.{◌≡◌, ℕ, zero, suc, Bool, true, false, not, cond, List, [], ◌∷◌, ◌++◌, take, drop, Some, None, IsSome, refl, sym, ◌&&◌, true≢false}
use Rattle.std.specs.Prelude.{find}
use Rattle.std.specs.List.{list_all}

module _ {X : Type 0} where
  module _ (p : X → Bool) where
    find-first : (xs ys : List X) → IsSome (find p xs) → find p (xs ++ ys) ≡ find p xs
    find-first [] ys some = absurd (true≢false (sym some))
    find-first (x ∷ xs) ys some = by (p x) some (find-first xs ys)
      where
        by : (b : Bool) → IsSome (cond b (Some x) (find p xs)) → (IsSome (find p xs) → find p (xs ++ ys) ≡ find p xs) → cond b (Some x) (find p (xs ++ ys)) ≡ cond b (Some x) (find p xs)
        by true h more = refl
        by false h more = more h

    find-second : (xs ys : List X) → find p xs ≡ None → find p (xs ++ ys) ≡ find p ys
    find-second [] ys none = refl
    find-second (x ∷ xs) ys none = by (p x) none (find-second xs ys)
      where
        by : (b : Bool) → cond b (Some x) (find p xs) ≡ None → (find p xs ≡ None → find p (xs ++ ys) ≡ find p ys) → cond b (Some x) (find p (xs ++ ys)) ≡ find p ys
        by true h more = absurd (cc)
        by false h more = more h

    pub found_first : (xs ys : List X) → IsSome (find p xs) → find p (xs ++ ys) ≡ find p xs
    found_first = find-first

    pub found_second : (xs ys : List X) → find p xs ≡ None → find p (xs ++ ys) ≡ find p ys
    found_second = find-second

    all-fail : (b : X → Bool) (xs : List X) → find (λ x. not (b x)) xs ≡ None → list_all b xs ≡ true
    all-fail b [] none = refl
    all-fail b (x ∷ xs) none = by (b x) none (all-fail b xs)
      where
        by : (c : Bool) → cond (not c) (Some x) (find (λ x. not (b x)) xs) ≡ None → (find (λ x. not (b x)) xs ≡ None → list_all b xs ≡ true) → (c && list_all b xs) ≡ true
        by true h more = more h
        by false h more = absurd (cc)

  -- where none takes a turn all are blocked
  pub all_blocked : (b : X → Bool) (xs : List X) (k : ℕ) → find (λ x. not (b x)) (drop k xs) ≡ None → find (λ x. not (b x)) (take k xs) ≡ None → list_all b xs ≡ true
  all_blocked b xs k after before = all-fail (λ x. not (b x)) b xs (whole xs k after before)
    where
      whole : (ys : List X) (n : ℕ) → find (λ x. not (b x)) (drop n ys) ≡ None → find (λ x. not (b x)) (take n ys) ≡ None → find (λ x. not (b x)) ys ≡ None
      whole [] zero d t = refl
      whole [] (suc n) d t = refl
      whole (y ∷ ys) zero d t = d
      whole (y ∷ ys) (suc n) d t = by (b y) t (whole ys n d)
        where
          by : (c : Bool) → cond (not c) (Some y) (find (λ x. not (b x)) (take n ys)) ≡ None → (find (λ x. not (b x)) (take n ys) ≡ None → find (λ x. not (b x)) ys ≡ None) → cond (not c) (Some y) (find (λ x. not (b x)) ys) ≡ None
          by true h more = more h
          by false h more = absurd (cc)
