-- What a part has of a list.
use Rattle.std.proofs.Common.{◌≡◌, ◌≢◌, ℕ, zero, suc, ◌<◌, Bool, true, false, List, [], ◌∷◌, ◌++◌, ◌==◌, length, Some, refl, ap, sym, ◌∙◌, cond, arith, eqb-true, true≢false}
use Rattle.std.proofs.lemmas.Bool.{eq-eqb, ne_eqb}
use Rattle.std.proofs.lemmas.List.Sums.{length-filter}
use Rattle.std.proofs.lemmas.Option.{get_or_from_slice_get}
use Rattle.std.specs.Prelude.{AllPairs, count_by, filter, find, remove, slice_get}
pub use Rattle.std.proofs.lemmas.Bool.{and_parts}
use Rattle.sr_calls.specs.Calls.{without_first}

-- whether two numbers are the same, from either side
pub same_number : (n m : ℕ) (b : Bool) → (n == m) ≡ b → (m == n) ≡ b
same_number n m true is = eq-eqb m n (sym (eqb-true n m is))
same_number n m false is = ne_eqb m n (λ same. true≢false (sym (eq-eqb n m (sym same)) ∙ is))

module _ {A : Type 0} where
  pub filter_in : (g : A → Bool) (xs : List A) (x : A) → g x ≡ true → filter g (xs ++ x ∷ []) ≡ filter g xs ++ x ∷ []
  filter_in g [] x is = ap (λ b. cond b (x ∷ []) []) is
  filter_in g (y ∷ ys) x is = by (g y) (filter_in g ys x is)
    where
      by : (b : Bool) → filter g (ys ++ x ∷ []) ≡ filter g ys ++ x ∷ [] → cond b (y ∷ filter g (ys ++ x ∷ [])) (filter g (ys ++ x ∷ [])) ≡ cond b (y ∷ filter g ys) (filter g ys) ++ x ∷ []
      by true more = ap (λ (l : List A). y ∷ l) more
      by false more = more

  pub filter_out : (g : A → Bool) (xs : List A) (x : A) → g x ≡ false → filter g (xs ++ x ∷ []) ≡ filter g xs
  filter_out g [] x is = ap (λ b. cond b (x ∷ []) []) is
  filter_out g (y ∷ ys) x is = by (g y) (filter_out g ys x is)
    where
      by : (b : Bool) → filter g (ys ++ x ∷ []) ≡ filter g ys → cond b (y ∷ filter g (ys ++ x ∷ [])) (filter g (ys ++ x ∷ [])) ≡ cond b (y ∷ filter g ys) (filter g ys)
      by true more = ap (λ (l : List A). y ∷ l) more
      by false more = more

  -- a test that only those pass that pass another
  pub filter_within : (f g : A → Bool) → ((x : A) → f x ≡ true → g x ≡ true) → (xs : List A) → filter f (filter g xs) ≡ filter f xs
  filter_within f g within [] = refl
  filter_within f g within (x ∷ xs) = by (g x) refl (f x) refl (filter_within f g within xs)
    where
      by : (c : Bool) → g x ≡ c → (b : Bool) → f x ≡ b → filter f (filter g xs) ≡ filter f xs → filter f (cond c (x ∷ filter g xs) (filter g xs)) ≡ cond b (x ∷ filter f xs) (filter f xs)
      by true has b is more = ap (λ (l : List A). cond (f x) (x ∷ l) l) more ∙ ap (λ d. cond d (x ∷ filter f xs) (filter f xs)) is
      by false has true is more = absurd (true≢false (sym (within x is) ∙ has))
      by false has false is more = more

  pub find_within : (f g : A → Bool) → ((x : A) → f x ≡ true → g x ≡ true) → (xs : List A) → find f (filter g xs) ≡ find f xs
  find_within f g within [] = refl
  find_within f g within (x ∷ xs) = by (g x) refl (f x) refl (find_within f g within xs)
    where
      by : (c : Bool) → g x ≡ c → (b : Bool) → f x ≡ b → find f (filter g xs) ≡ find f xs → find f (cond c (x ∷ filter g xs) (filter g xs)) ≡ cond b (Some x) (find f xs)
      by true has b is more = ap (λ d. cond d (Some x) (find f (filter g xs))) is ∙ ap (λ o. cond b (Some x) o) more
      by false has true is more = absurd (true≢false (sym (within x is) ∙ has))
      by false has false is more = more

  pub count_within : (f g : A → Bool) → ((x : A) → f x ≡ true → g x ≡ true) → (xs : List A) → count_by f (filter g xs) ≡ count_by f xs
  count_within f g within xs = sym (length-filter f (filter g xs)) ∙ ap length (filter_within f g within xs) ∙ length-filter f xs

  -- the list without the first that passes a test, in a part where all that pass it stand
  pub without_here : (f g : A → Bool) → ((x : A) → f x ≡ true → g x ≡ true) → (xs : List A) → filter g (without_first f xs) ≡ without_first f (filter g xs)
  without_here f g within [] = refl
  without_here f g within (x ∷ xs) = by (f x) refl (g x) refl (without_here f g within xs)
    where
      by : (b : Bool) → f x ≡ b → (c : Bool) → g x ≡ c → filter g (without_first f xs) ≡ without_first f (filter g xs)
          → filter g (cond b xs (x ∷ without_first f xs)) ≡ without_first f (cond c (x ∷ filter g xs) (filter g xs))
      by true is true has more = sym (ap (λ d. cond d (filter g xs) (x ∷ without_first f (filter g xs))) is)
      by true is false has more = absurd (true≢false (sym (within x is) ∙ has))
      by false is true has more =
          ap (λ d. cond d (x ∷ filter g (without_first f xs)) (filter g (without_first f xs))) has ∙ ap (λ (l : List A). x ∷ l) more
          ∙ sym (ap (λ d. cond d (filter g xs) (x ∷ without_first f (filter g xs))) is)
      by false is false has more = ap (λ d. cond d (x ∷ filter g (without_first f xs)) (filter g (without_first f xs))) has ∙ more

  -- and in a part where none of them stands
  pub without_away : (f g : A → Bool) → ((x : A) → f x ≡ true → g x ≡ false) → (xs : List A) → filter g (without_first f xs) ≡ filter g xs
  without_away f g apart [] = refl
  without_away f g apart (x ∷ xs) = by (f x) refl (without_away f g apart xs)
    where
      by : (b : Bool) → f x ≡ b → filter g (without_first f xs) ≡ filter g xs → filter g (cond b xs (x ∷ without_first f xs)) ≡ cond (g x) (x ∷ filter g xs) (filter g xs)
      by true is more = sym (ap (λ d. cond d (x ∷ filter g xs) (filter g xs)) (apart x is))
      by false is more = ap (λ (l : List A). cond (g x) (x ∷ l) l) more

  slice_below : (xs : List A) (i : ℕ) (x : A) → slice_get xs i ≡ Some x → i < length xs
  slice_below [] i x is = absurd (cc is)
  slice_below (y ∷ ys) zero x is = omega arith
  slice_below (y ∷ ys) (suc i) x is = let less = slice_below ys i x is in omega arith

  -- in a list of different things, one that stands at a place is the first that is it
  pub removed : (key : A → ℕ) (test : A → Bool) (xs : List A) (i : ℕ) (x : A) → AllPairs (λ a b. key a ≢ key b) xs → ((y : A) → key y ≢ key x → test y ≡ false) → test x ≡ true
      → slice_get xs i ≡ Some x → without_first test xs ≡ remove xs i
  removed key test [] i x all other itself is = absurd (cc is)
  removed key test (y ∷ ys) zero x all other itself is =
      let same : y ≡ x = cc is in
      ap (λ d. cond d ys (y ∷ without_first test ys)) (ap test same ∙ itself)
  removed key test (y ∷ ys) (suc i) x all other itself is =
      let less = slice_below ys i x is in
      let apart : key y ≢ key x = λ e. all 0 (suc i) y (omega arith) (omega arith) (e ∙ ap key (sym (get_or_from_slice_get ys i x y is))) in
      ap (λ d. cond d ys (y ∷ without_first test ys)) (other y apart)
      ∙ ap (λ (l : List A). y ∷ l) (removed key test ys i x (λ j k d lt len. all (suc j) (suc k) d (omega arith) (omega arith)) other itself is)
