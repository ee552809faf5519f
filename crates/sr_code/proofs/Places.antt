-- A list beside what a function gives of its items.
use Rattle.std.proofs.Common.{◌≡◌, ℕ, zero, suc, ◌+◌, ◌<◌, Bool, cond, not, ltb, List, [], ◌∷◌, ◌++◌, drop, length, map, take, Option, Some, None, OnSome, refl, sym, ap, ◌∙◌, arith}
use Rattle.std.specs.List.{position, position_or_len, remove, slice_get}
use Rattle.std.proofs.lemmas.List.{drop-map, length-map, map-append, take-map}

same_place : {A B : Type 0} (of : A → B) (test : B → Bool) (items : List A) → position_or_len test (map of items) ≡ position_or_len (λ item. test (of item)) items
same_place of test [] = refl
same_place of test (item ∷ items) = ap (λ n. cond (not (test (of item))) (1 + n) 0) (same_place of test items)

-- the first of those that a test of what it gives lets through
pub position_of : {A B : Type 0} (of : A → B) (test : B → Bool) (items : List A) → position test (map of items) ≡ position (λ item. test (of item)) items
position_of of test items =
    let long : length (map of items) ≡ length items = simp length-map in
    let at : ℕ → ℕ → Option ℕ = λ n m. cond (ltb n m) (Some n) None in
    ap (λ n. at n (length (map of items))) (same_place of test items) ∙ ap (λ m. at (position_or_len (λ item. test (of item)) items) m) long

-- without one
pub remove_of : {A B : Type 0} (of : A → B) (items : List A) (at : ℕ) → remove (map of items) at ≡ map of (remove items at)
remove_of of items at =
    ap (λ front. front ++ drop (suc at) (map of items)) (take-map of at items)
    ∙ ap (λ rest. map of (take at items) ++ rest) (drop-map of (suc at) items)
    ∙ sym (map-append of (take at items) (drop (suc at) items))

stands_nowhere : {A : Type 0} (items : List A) (at : ℕ) → at < length items → None ≡ slice_get items at → ⊥
stands_nowhere [] at within none = absurd (omega (arith, within))
stands_nowhere (x ∷ xs) zero within none = absurd (cc)
stands_nowhere (x ∷ xs) (suc at) within none = stands_nowhere xs at (omega (arith, within)) none

-- what holds where an item stood at a place
pub stood_there : {A : Type 0} {P : Type 0} (items : List A) (at : ℕ) (item : Option A) → at < length items → item ≡ slice_get items at → OnSome item P → P
stood_there items at (Some x) within is holds = holds
stood_there items at None within is holds = absurd (stands_nowhere items at within is)
