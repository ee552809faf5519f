-- Places in a list of things of which each stands once.
use Rattle.std.proofs.Common.{◌≡◌, ℕ, ◌+◌, zero, suc, arith, Bool, true, false, List, [], ◌∷◌, ◌++◌, Some, if◌then◌else◌, refl, sym, ap, ◌∙◌, subst, true≢false, slice_get, unwrap_or}
use Rattle.std.specs.List.{AllByRecursion, IsDistinct, list_any, position, position_from}
use Rattle.indexmap.specs.IndexSet.{insert_key}
use Rattle.std.proofs.lemmas.Iterator.Adapters.{position_from-zero}
use Rattle.std.proofs.lemmas.Map.Keys.{IsDistinct-head, IsDistinct-tail}

some-is : {X : Type 0} (x y : X) → Some x ≡ Some y → x ≡ y
some-is x y e = ap (λ o. unwrap_or o x) e

-- what holds of each thing holds of the one at a place
all-at : {X : Type 0} (P : X → Type 0) (xs : List X) (i : ℕ) (x : X) → AllByRecursion P xs → slice_get xs i ≡ Some x → P x
all-at P [] i x a e = cc
all-at P (y ∷ ys) zero x a e = subst P (some-is y x e) a.0
all-at P (y ∷ ys) (suc i) x a e = all-at P ys i x a.1 e

module _ {X : Type 0} (test : X → X → Bool) (itself : (x : X) → test x x ≡ true) where
  -- a thing doesn't stand after itself
  not-after : (x y : X) (ys : List X) (i : ℕ) → IsDistinct test (y ∷ ys) → Some y ≡ Some x → slice_get ys i ≡ Some x → true ≡ false
  not-after x y ys i distinct here there =
      let apart : test y x ≡ false = all-at (λ z. test y z ≡ false) ys i x (IsDistinct-head test y ys distinct) there in
      sym (itself x) ∙ ap (λ z. test z x) (sym (some-is y x here)) ∙ apart

  -- each thing stands at one place
  pub one-place : (xs : List X) (a b : ℕ) (x : X) → IsDistinct test xs → slice_get xs a ≡ Some x → slice_get xs b ≡ Some x → a ≡ b
  one-place [] a b x distinct p q = cc
  one-place (y ∷ ys) zero zero x distinct p q = refl
  one-place (y ∷ ys) zero (suc b) x distinct p q = absurd (true≢false (not-after x y ys b distinct p q))
  one-place (y ∷ ys) (suc a) zero x distinct p q = absurd (true≢false (not-after x y ys a distinct q p))
  one-place (y ∷ ys) (suc a) (suc b) x distinct p q = ap suc (one-place ys a b x (IsDistinct-tail test y ys distinct) p q)

-- a list that goes on has what it had, at the same places
pub slice_get-longer : {X : Type 0} (xs ys : List X) (i : ℕ) (x : X) → slice_get xs i ≡ Some x → slice_get (xs ++ ys) i ≡ Some x
slice_get-longer [] ys i x e = cc
slice_get-longer (y ∷ xs) ys zero x e = e
slice_get-longer (y ∷ xs) ys (suc i) x e = slice_get-longer xs ys i x e

pub insert_key-keeps : {X : Type 0} (test : X → X → Bool) (xs : List X) (k : X) (i : ℕ) (x : X) → slice_get xs i ≡ Some x → slice_get (insert_key test xs k) i ≡ Some x
insert_key-keeps test xs k i x e = by (list_any (test k) xs)
  where
    by : (there : Bool) → slice_get (if there then xs else xs ++ k ∷ []) i ≡ Some x
    by true = e
    by false = slice_get-longer xs (k ∷ []) i x e

-- the first place that passes has what passes
abbrev pub PassesAt : {X : Type 0} → (X → Bool) → List X → ℕ → ℕ → Type 0
PassesAt {X} test xs i n = (k : ℕ) × (x : X) × (n ≡ i + k) × (slice_get xs k ≡ Some x) × (test x ≡ true)

passes-after : {X : Type 0} (test : X → Bool) (y : X) (ys : List X) (i n : ℕ) → PassesAt test ys (i + 1) n → PassesAt test (y ∷ ys) i n
passes-after test y ys i n found =
    let further : (i + 1) + found.0 ≡ i + suc found.0 = omega arith in
    (suc found.0, found.1, found.2 ∙ further, found.3, found.4)

passes-from : {X : Type 0} (test : X → Bool) (xs : List X) (i n : ℕ) → position_from test i xs ≡ Some n → PassesAt test xs i n
passes-from test [] i n e = cc
passes-from test (y ∷ ys) i n e = by (test y) refl e (λ later. passes-from test ys (i + 1) n later)
  where
    by : (passes : Bool) → test y ≡ passes → (if passes then Some i else position_from test (i + 1) ys) ≡ Some n → (position_from test (i + 1) ys ≡ Some n → PassesAt test ys (i + 1) n) → PassesAt test (y ∷ ys) i n
    by true h here later =
        let same : i ≡ i + 0 = omega arith in
        (0, y, sym (some-is i n here) ∙ same, refl, h)
    by false h there later = passes-after test y ys i n (later there)

pub position-passes : {X : Type 0} (test : X → Bool) (xs : List X) (n : ℕ) → position test xs ≡ Some n → (x : X) × (slice_get xs n ≡ Some x) × (test x ≡ true)
position-passes test xs n e =
    let found = passes-from test xs 0 n (sym (position_from-zero test xs) ∙ e) in
    let same : 0 + found.0 ≡ found.0 = omega arith in
    (found.1, ap (slice_get xs) (found.2 ∙ same) ∙ found.3, found.4)
