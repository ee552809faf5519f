-- Tests over lists.
use Rattle.std.proofs.Common.{◌≡◌, ◌⊎◌, inl, inr, ℕ, ◌<◌, suc, zero, Bool, true, false, not, ◌&&◌, ◌||◌, cond, true≢false, List, [], ◌∷◌, ◌++◌, length, get_or, Some, None, refl, sym, ◌∙◌, ap, arith}
pub use Rattle.std.proofs.lemmas.Bool.{and_from as both, and_parts, or_cases as either, or_left, or_right}
use Rattle.std.specs.List.{filter, list_any, list_all, slice_get}

pub true_or_false : (a : Bool) → (a ≡ true) ⊎ (a ≡ false)
true_or_false true = inl refl
true_or_false false = inr refl

pub not_true : (a : Bool) → not a ≡ true → a ≡ false
not_true true e = absurd (true≢false (sym e))
not_true false e = refl

pub none_some : {A : Type 0} (x : A) → None ≡ Some x → ⊥
none_some x e = cc

module _ {A : Type 0} (p : A → Bool) where
  pub any-left : (xs ys : List A) → list_any p xs ≡ true → list_any p (xs ++ ys) ≡ true
  any-left [] ys e = absurd (true≢false (sym e))
  any-left (x ∷ xs) ys e = by (either (p x) (list_any p xs) e) (λ h. any-left xs ys h)
    where
      by : (p x ≡ true) ⊎ (list_any p xs ≡ true) → (list_any p xs ≡ true → list_any p (xs ++ ys) ≡ true) → (p x || list_any p (xs ++ ys)) ≡ true
      by (inl h) more = or_left _ _ h
      by (inr h) more = or_right (p x) _ (more h)

  pub any-right : (xs ys : List A) → list_any p ys ≡ true → list_any p (xs ++ ys) ≡ true
  any-right [] ys e = e
  any-right (x ∷ xs) ys e = or_right (p x) _ (any-right xs ys e)

  pub any-at : (xs : List A) (i : ℕ) (d : A) → i < length xs → p (get_or xs i d) ≡ true → list_any p xs ≡ true
  any-at [] i d low e = absurd (omega arith)
  any-at (x ∷ xs) zero d low e = or_left _ _ e
  any-at (x ∷ xs) (suc i) d low e = or_right (p x) _ (any-at xs i d (omega arith) e)

  pub any-filter : (q : A → Bool) (xs : List A) (i : ℕ) (x : A) → slice_get xs i ≡ Some x → q x ≡ true → p x ≡ true → list_any p (filter q xs) ≡ true
  any-filter q [] i x is passes holds = absurd (none_some x is)
  any-filter q (y ∷ ys) zero x is passes holds =
      let same : y ≡ x = cc in
      ap (λ b. list_any p (cond b (y ∷ filter q ys) (filter q ys))) (ap q same ∙ passes) ∙ or_left _ _ (ap p same ∙ holds)
  any-filter q (y ∷ ys) (suc i) x is passes holds = by (q y) (any-filter q ys i x is passes holds)
    where
      by : (b : Bool) → list_any p (filter q ys) ≡ true → list_any p (cond b (y ∷ filter q ys) (filter q ys)) ≡ true
      by true h = or_right (p y) _ h
      by false h = h

  pub all-weaker : (q : A → Bool) → ((x : A) → p x ≡ true → q x ≡ true) → (xs : List A) → list_all p xs ≡ true → list_all q xs ≡ true
  all-weaker q weaker [] e = refl
  all-weaker q weaker (x ∷ xs) e = both (q x) _ (weaker x (and_parts (p x) _ e).0) (all-weaker q weaker xs (and_parts (p x) _ e).1)

-- one of those for all of which q holds, for which p fails
pub record Fails {A : Type 0} (p q : A → Bool) (xs : List A) : Type 0 where
  pub one : A
  pub fails : p one ≡ false
  pub holds : q one ≡ true
  pub among : (test : A → Bool) → test one ≡ true → list_any test xs ≡ true

pub one-fails : {A : Type 0} (p q : A → Bool) → (xs : List A) → list_all p xs ≡ false → list_all q xs ≡ true → Fails p q xs
one-fails p q [] fails holds = absurd (true≢false fails)
one-fails p q (x ∷ xs) fails holds = by (true_or_false (p x)) (λ e. one-fails p q xs e (and_parts (q x) _ holds).1)
  where
    by : (p x ≡ true) ⊎ (p x ≡ false) → (list_all p xs ≡ false → Fails p q xs) → Fails p q (x ∷ xs)
    by (inl e) more =
        let rest = more (sym (ap (λ b. b && list_all p xs) e) ∙ fails) in
        record { one = rest.one; fails = rest.fails; holds = rest.holds; among = λ test h. or_right (test x) _ (rest.among test h) }
    by (inr e) more = record { one = x; fails = e; holds = (and_parts (q x) _ holds).0; among = λ test h. or_left _ _ h }
