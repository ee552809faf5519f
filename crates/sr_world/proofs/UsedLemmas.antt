-- The numbers that were given out, with one more.
use Rattle.std.proofs.Common.{◌≡◌, ◌↔◌, ℕ, ◌+◌, ◌<◌, ◌≤◌, ◌==◌, Bool, true, false, List, [], ◌∷◌, ◌++◌, Result, Ok, Err, IsOk, MatchResult, length, get_or, refl, sym, ◌∙◌, subst, arith, true≢false}
use Rattle.std.specs.Prelude.{◌&&◌, nat_lt, if◌then◌else◌}
use Rattle.std.specs.List.{AllPairs, Contains}
use Rattle.std.specs.List.Sorted.{IsBinarySearchResult}
use Rattle.std.specs.Ordering.{nat_cmp}
use Rattle.std.proofs.lemmas.Bool.{eqb-false, eqb-true, ltb-false, ltb-true}
use Rattle.std.proofs.lemmas.List.{get_or_default}
use Rattle.std.proofs.lemmas.List.Elements.{All-contains, All-push, Contains-append_left, Contains-append_right, Contains-get_or}
use Rattle.std.proofs.lemmas.List.Sorted.{searched}
use Rattle.sr_world.specs.Names.{AreAllUsed, IsGreatest, IsLeastUnused}
use Rattle.sr_world.specs.Parts.{AreUsedBelow, Bounds, greater, next_after}

module _ (names : List ℕ) (name : ℕ) where
  last : Contains (names ++ name ∷ []) name
  last = Contains-append_right names (name ∷ []) name (0, omega arith, refl)

  low_pushed : (next : ℕ) → AreUsedBelow names next → AreUsedBelow (names ++ name ∷ []) (next_after next name)
  low_pushed next low = by (next == name) refl (nat_lt name 4294967295)
    where
      kept : AreUsedBelow (names ++ name ∷ []) next
      kept = record { positive = low.positive; below = λ k p l. Contains-append_left names (name ∷ []) k (low.below k p l) }

      at : next ≡ name → (k : ℕ) → 0 < k → k < name + 1 → (b : Bool) → nat_lt k next ≡ b → Contains (names ++ name ∷ []) k
      at e k p l true is = Contains-append_left names (name ∷ []) k (low.below k p (ltb-true k next is))
      at e k p l false is =
          let past = ltb-false k next is in
          let here : name ≡ k = omega (arith, past) in
          subst (λ x. Contains (names ++ name ∷ []) x) here last

      more : next ≡ name → AreUsedBelow (names ++ name ∷ []) (name + 1)
      more e = record { positive = omega arith; below = λ k p l. at e k p l (nat_lt k next) refl }

      by : (b : Bool) → (next == name) ≡ b → (fits : Bool) → AreUsedBelow (names ++ name ∷ []) (if b && fits then name + 1 else next)
      by true e true = more (eqb-true next name e)
      by true e false = kept
      by false e fits = kept

  high_pushed : (greatest : ℕ) → IsGreatest names greatest → IsGreatest (names ++ name ∷ []) (greater greatest name)
  high_pushed greatest high = by (nat_lt greatest name) refl
    where
      by : (b : Bool) → nat_lt greatest name ≡ b → IsGreatest (names ++ name ∷ []) (if b then name else greatest)
      by true is =
          let above = ltb-true greatest name is in
          record {
            bound = All-push (λ n. n ≤ name) names name (λ k d l. let old = high.bound k d l in omega (arith, old, above)) (omega arith);
            found = λ p. last;
          }
      by false is =
          let within = ltb-false greatest name is in
          record {
            bound = All-push (λ n. n ≤ greatest) names name high.bound (omega (arith, within));
            found = λ p. Contains-append_left names (name ∷ []) greatest (high.found p);
          }

  pub bounds_pushed : (next greatest : ℕ) → Bounds names next greatest → Bounds (names ++ name ∷ []) (next_after next name) (greater greatest name)
  bounds_pushed next greatest bounds = record { low = low_pushed next bounds.low; high = high_pushed greatest bounds.high }

-- a number above all is new, and the least new one where all below it were given out
pub above_all : (names : List ℕ) (next greatest : ℕ) → Bounds names next greatest → greatest < next → IsLeastUnused names next
above_all names next greatest bounds above = record {
  positive = bounds.low.positive;
  unused = λ found. let under = All-contains (λ n. n ≤ greatest) names next bounds.high.bound found in absurd (omega (arith, under));
  least = bounds.low.below;
}

pub is_least : (names : List ℕ) (next : ℕ) → AreUsedBelow names next → ¬ Contains names next → IsLeastUnused names next
is_least names next low new = record { positive = low.positive; unused = new; least = low.below }

pub one_more : (names : List ℕ) (next : ℕ) → AreUsedBelow names next → Contains names next → AreUsedBelow names (next + 1)
one_more names next low here = record { positive = omega arith; below = λ k p l. at k p l (nat_lt k next) refl }
  where
    at : (k : ℕ) → 0 < k → k < next + 1 → (b : Bool) → nat_lt k next ≡ b → Contains names k
    at k p l true is = low.below k p (ltb-true k next is)
    at k p l false is =
        let past = ltb-false k next is in
        let same : next ≡ k = omega (arith, past) in
        subst (λ x. Contains names x) same here

-- ---- the last number

pub all_used : (names : List ℕ) (next : ℕ) → AreUsedBelow names next → 4294967295 ≤ next → Contains names 4294967295 → AreAllUsed names
all_used names next low most here = record { each = λ k p l. at k p l (nat_lt k 4294967295) refl }
  where
    at : (k : ℕ) → 0 < k → k < 4294967296 → (b : Bool) → nat_lt k 4294967295 ≡ b → Contains names k
    at k p l true is = let before = ltb-true k 4294967295 is in low.below k p (omega (arith, before, most))
    at k p l false is =
        let past = ltb-false k 4294967295 is in
        let same : 4294967295 ≡ k = omega (arith, past) in
        subst (λ x. Contains names x) same here

pub last_unused : (names : List ℕ) (next : ℕ) → AreUsedBelow names next → 4294967295 ≤ next → ¬ Contains names 4294967295 → IsLeastUnused names 4294967295
last_unused names next low most new = record { positive = omega arith; unused = new; least = λ k p l. low.below k p (omega (arith, l, most)) }

-- ---- numbers that ascend

-- a search by halves finds a number exactly where it is there
pub search_finds : (names : List ℕ) (name : ℕ) (found : Result ℕ ℕ) → IsBinarySearchResult (λ n. nat_cmp n name) names found → AllPairs (λ a b. a < b) names → IsOk found ↔ Contains names name
search_finds names name found halved ascend = by found (searched names name found halved rise)
  where
    rise : (i j : ℕ) → i ≤ j → j < length names → get_or names i 0 ≤ get_or names j 0
    rise i j order within = at (i == j) refl
      where
        at : (b : Bool) → (i == j) ≡ b → get_or names i 0 ≤ get_or names j 0
        at true is = let same = eqb-true i j is in subst (λ k. get_or names i 0 ≤ get_or names k 0) same (omega arith)
        at false is = let apart = eqb-false i j is in let less = ascend i j 0 (omega (arith, order, apart)) within in omega (arith, less)

    none : (place : ℕ) → ((k : ℕ) → k < place → get_or names k 0 < name) → ((k : ℕ) → place ≤ k → k < length names → name < get_or names k 0) → Contains names name → ⊥
    none place below above (k, within, is) = at (nat_lt k place) refl
      where
        here : get_or names k 0 ≡ name
        here = get_or_default names k 0 name within ∙ is

        at : (b : Bool) → nat_lt k place ≡ b → ⊥
        at true before = let less = below k (ltb-true k place before) in omega (arith, here, less)
        at false past = let more = above k (ltb-false k place past) within in omega (arith, here, more)

    by : (r : Result ℕ ℕ) → MatchResult r (λ i. (i < length names) × (get_or names i 0 ≡ name)) (λ i. (i ≤ length names) × ((k : ℕ) → k < i → get_or names k 0 < name) × ((k : ℕ) → i ≤ k → k < length names → name < get_or names k 0))
        → IsOk r ↔ Contains names name
    by (Ok i) (within, is) = ((λ ok. subst (λ n. Contains names n) is (Contains-get_or names i 0 within)), (λ there. refl))
    by (Err i) (within, below, above) = ((λ ok. absurd (true≢false (sym ok))), (λ there. absurd (none i below above there)))
