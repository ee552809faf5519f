-- Places of a list in order, and what is picked at them.
use Rattle.std.proofs.Common.{◌≡◌, ◌≢◌, ◌⊎◌, inl, inr, ℕ, ◌+◌, ◌-◌, ◌<◌, ◌≤◌, suc, Bool, true, false, ◌||◌, cond, eqb, true≢false, List, [], ◌∷◌, length, get_or, Some, refl, sym, ◌∙◌, ap, subst, arith}
use Rattle.std.specs.List.{filter, filter_map, cons_option, slice_get, dedup, dedup_from}
use Rattle.std.specs.List.Sorted.{IsStrictlySortedBy}
use Rattle.std.specs.Ordering.{nat_cmp}
use Rattle.std.proofs.lemmas.Bool.{eqb-true, eqb-false, eq-eqb}
use Rattle.std.proofs.lemmas.Map.Keys.{sorted_tail, below_from_sorted, sorted_from_strictly_increasing}
use Rattle.sr_check_expr.specs.declared.facts.Facts.{Facts}
use Rattle.sr_check_decl.specs.Inferring.{can_settle}
use Rattle.sr_check_decl.specs.Needers.{has_place}
use Rattle.sr_check_decl.specs.Picked.{if_settling, settling, picked}
use Rattle.sr_check_decl.specs.Waiting.{Waiting}
use Rattle.sr_check_decl.proofs.Tests.{either, true_or_false, any-at}

-- each is above those before it, and the first isn't below a number
abbrev Above : ℕ → List ℕ → Type 0
Above low [] = Unit {0}
Above low (place ∷ places) = (low ≤ place) × Above (suc place) places

rises : (x : ℕ) (xs : List ℕ) → IsStrictlySortedBy nat_cmp (x ∷ xs) → Above (suc x) xs
rises x [] sorted = tt
rises x (y ∷ ys) sorted =
    let below : x < y = below_from_sorted (x ∷ y ∷ ys) 0 1 0 sorted (omega arith) (omega arith) in
    (omega (arith, below), rises y ys (sorted_tail nat_cmp x (y ∷ ys) sorted))

above_from_sorted : (xs : List ℕ) → IsStrictlySortedBy nat_cmp xs → Above 0 xs
above_from_sorted [] sorted = tt
above_from_sorted (x ∷ xs) sorted = (omega arith, rises x xs sorted)

none_below : (low place : ℕ) (places : List ℕ) → place < low → Above low places → has_place places place ≡ false
none_below low place [] below above = refl
none_below low place (first ∷ places) below above =
    let lower : place < suc first = omega (arith, above.0) in
    by (true_or_false (eqb place first)) (none_below (suc first) place places lower above.1)
  where
    by : (eqb place first ≡ true) ⊎ (eqb place first ≡ false) → has_place places place ≡ false → (eqb place first || has_place places place) ≡ false
    by (inl e) none = let same : place ≡ first = eqb-true place first e in absurd (omega (arith, above.0))
    by (inr e) none = ap (λ b. b || has_place places place) e ∙ none

picked_from : Facts → ℕ → List Waiting → List ℕ → List Waiting
picked_from facts low waiting places = filter_map (λ place. settling facts (slice_get waiting (place - low))) places

none_picked : (facts : Facts) (low : ℕ) (places : List ℕ) → picked_from facts low [] places ≡ []
unfolding picked_from
none_picked facts low [] = refl
none_picked facts low (place ∷ places) = none_picked facts low places

-- of the places above the first the first tells nothing
picked_after : (facts : Facts) (low : ℕ) (w : Waiting) (waiting : List Waiting) (top : ℕ) (places : List ℕ) → suc low ≤ top → Above top places
    → picked_from facts low (w ∷ waiting) places ≡ picked_from facts (suc low) waiting places
unfolding picked_from
picked_after facts low w waiting top [] fits above = refl
picked_after facts low w waiting top (place ∷ places) fits above =
    let low_place : suc low ≤ place = omega (arith, above.0) in
    let one_more : place - low ≡ suc (place - suc low) = omega arith in
    let higher : suc low ≤ suc place = omega arith in
    ap (λ n. cons_option (settling facts (slice_get (w ∷ waiting) n)) (picked_from facts low (w ∷ waiting) places)) one_more
    ∙ ap (λ rest. cons_option (settling facts (slice_get waiting (place - suc low))) rest) (picked_after facts low w waiting (suc place) places higher above.1)

Covers : Facts → ℕ → List Waiting → List ℕ → Type 0
Covers facts low waiting places = (i : ℕ) (w : Waiting) → slice_get waiting i ≡ Some w → can_settle facts w ≡ true → has_place places (low + i) ≡ true

-- what is picked at all places of those that can have their types are those
picks_all : (facts : Facts) (low : ℕ) (waiting : List Waiting) (places : List ℕ) → Above low places → Covers facts low waiting places → picked_from facts low waiting places ≡ filter (can_settle facts) waiting
unfolding picked_from Covers
picks_all facts low [] places above covers = none_picked facts low places
picks_all facts low (w ∷ waiting) [] above covers =
    by (true_or_false (can_settle facts w)) (picks_all facts (suc low) waiting [] tt (λ i v is can. covers (suc i) v is can))
  where
    by : (can_settle facts w ≡ true) ⊎ (can_settle facts w ≡ false) → [] ≡ filter (can_settle facts) waiting → [] ≡ cond (can_settle facts w) (w ∷ filter (can_settle facts) waiting) (filter (can_settle facts) waiting)
    by (inl e) more = absurd (true≢false (sym (covers 0 w refl e)))
    by (inr e) more = more ∙ sym (ap (λ b. cond b (w ∷ filter (can_settle facts) waiting) (filter (can_settle facts) waiting)) e)
picks_all facts low (w ∷ waiting) (place ∷ places) above covers =
    by (true_or_false (eqb low place)) (λ top aboves more. picks_all facts (suc low) waiting top aboves more)
  where
    later : (i : ℕ) (v : Waiting) → slice_get waiting i ≡ Some v → can_settle facts v ≡ true → has_place (place ∷ places) (suc low + i) ≡ true
    later i v is can =
        let same : low + suc i ≡ suc low + i = omega arith in
        ap (λ n. has_place (place ∷ places) n) (sym same) ∙ covers (suc i) v is can

    -- after the place itself
    others : low ≡ place → Covers facts (suc low) waiting places
    others same i v is can = of (either _ _ (later i v is can))
      where
        of : (eqb (suc low + i) place ≡ true) ⊎ (has_place places (suc low + i) ≡ true) → has_place places (suc low + i) ≡ true
        of (inl e) = let equal : suc low + i ≡ place = eqb-true (suc low + i) place e in absurd (omega (arith, same, equal))
        of (inr k) = k

    one : (b : Bool) (rest : List Waiting) → rest ≡ filter (can_settle facts) waiting → cons_option (if_settling b w) rest ≡ cond b (w ∷ filter (can_settle facts) waiting) (filter (can_settle facts) waiting)
    one true rest e = ap (λ r. w ∷ r) e
    one false rest e = e

    skipped : has_place (place ∷ places) low ≡ false → can_settle facts w ≡ false
    skipped none = of (true_or_false (can_settle facts w))
      where
        of : (can_settle facts w ≡ true) ⊎ (can_settle facts w ≡ false) → can_settle facts w ≡ false
        of (inl e) =
            let same : low + 0 ≡ low = omega arith in
            absurd (true≢false (sym (covers 0 w refl e) ∙ ap (λ n. has_place (place ∷ places) n) same ∙ none))
        of (inr e) = e

    by : (eqb low place ≡ true) ⊎ (eqb low place ≡ false)
        → ((top : List ℕ) → Above (suc low) top → Covers facts (suc low) waiting top → picked_from facts (suc low) waiting top ≡ filter (can_settle facts) waiting)
        → cons_option (settling facts (slice_get (w ∷ waiting) (place - low))) (picked_from facts low (w ∷ waiting) places)
        ≡ cond (can_settle facts w) (w ∷ filter (can_settle facts) waiting) (filter (can_settle facts) waiting)
    by (inl e) more =
        let same : low ≡ place = eqb-true low place e in
        let none_more : place - low ≡ 0 = omega (arith, same) in
        let aboves : Above (suc low) places = subst (λ n. Above (suc n) places) (sym same) above.1 in
        let rest : picked_from facts low (w ∷ waiting) places ≡ filter (can_settle facts) waiting =
        picked_after facts low w waiting (suc low) places (omega arith) aboves ∙ more places aboves (others same) in
        ap (λ n. cons_option (settling facts (slice_get (w ∷ waiting) n)) (picked_from facts low (w ∷ waiting) places)) none_more
        ∙ one (can_settle facts w) (picked_from facts low (w ∷ waiting) places) rest
    by (inr e) more =
        let apart : low ≢ place = eqb-false low place e in
        let higher : suc low ≤ place = omega (arith, above.0, apart) in
        let aboves : Above (suc low) (place ∷ places) = (higher, above.1) in
        let none : has_place (place ∷ places) low ≡ false = none_below (suc low) low (place ∷ places) (omega arith) aboves in
        picked_after facts low w waiting (suc low) (place ∷ places) (omega arith) aboves
        ∙ more (place ∷ places) aboves later
        ∙ sym (ap (λ b. cond b (w ∷ filter (can_settle facts) waiting) (filter (can_settle facts) waiting)) (skipped none))

-- places in order that have all at which something can have its type pick all that can
pub picks-all : (facts : Facts) (waiting : List Waiting) (places : List ℕ) → IsStrictlySortedBy nat_cmp places
    → ((i : ℕ) (w : Waiting) → slice_get waiting i ≡ Some w → can_settle facts w ≡ true → has_place places i ≡ true) → picked facts waiting places ≡ filter (can_settle facts) waiting
unfolding picked_from Covers
picks-all facts waiting places sorted covers =
    same places ∙ picks_all facts 0 waiting places (above_from_sorted places sorted)
    (λ i w is can. let none_more : 0 + i ≡ i = omega arith in ap (λ n. has_place places n) none_more ∙ covers i w is can)
  where
    same : (ps : List ℕ) → picked facts waiting ps ≡ picked_from facts 0 waiting ps
    same [] = refl
    same (p ∷ ps) =
        let none_less : p ≡ p - 0 = omega arith in
        ap (λ n. cons_option (settling facts (slice_get waiting n)) (picked facts waiting ps)) none_less ∙ ap (λ rest. cons_option (settling facts (slice_get waiting (p - 0))) rest) (same ps)

-- ---- in order, each once

has-dedup_from : (place first : ℕ) (places : List ℕ) → has_place (dedup_from eqb first places) place ≡ has_place (first ∷ places) place
has-dedup_from place first [] = refl
has-dedup_from place first (next ∷ places) = by (true_or_false (eqb next first)) (has-dedup_from place first places) (has-dedup_from place next places)
  where
    twice : (a b : Bool) → (a || b) ≡ (a || (a || b))
    twice true b = refl
    twice false b = refl

    by : (eqb next first ≡ true) ⊎ (eqb next first ≡ false) → has_place (dedup_from eqb first places) place ≡ (eqb place first || has_place places place)
        → has_place (dedup_from eqb next places) place ≡ (eqb place next || has_place places place)
        → has_place (cond (eqb next first) (dedup_from eqb first places) (first ∷ dedup_from eqb next places)) place ≡ (eqb place first || (eqb place next || has_place places place))
    by (inl e) one other =
        ap (λ b. has_place (cond b (dedup_from eqb first places) (first ∷ dedup_from eqb next places)) place) e
        ∙ one ∙ twice (eqb place first) (has_place places place) ∙ ap (λ n. eqb place first || (eqb place n || has_place places place)) (sym (eqb-true next first e))
    by (inr e) one other =
        ap (λ b. has_place (cond b (dedup_from eqb first places) (first ∷ dedup_from eqb next places)) place) e ∙ ap (λ b. eqb place first || b) other

pub has-dedup : (place : ℕ) (places : List ℕ) → has_place (dedup eqb places) place ≡ has_place places place
has-dedup place [] = refl
has-dedup place (first ∷ places) = has-dedup_from place first places

-- ---- all places of a list

pub sorted-below : (places : List ℕ) → ((k : ℕ) → k < length places → get_or places k 0 ≡ k) → IsStrictlySortedBy nat_cmp places
sorted-below places each =
    sorted_from_strictly_increasing places
    (λ k low. let here : k < length places = omega arith in let this = each k here in let next = each (k + 1) low in omega (arith, this, next))

pub has-below : (places : List ℕ) → ((k : ℕ) → k < length places → get_or places k 0 ≡ k) → (place : ℕ) → place < length places → has_place places place ≡ true
has-below places each place low = any-at (λ other. eqb place other) places place 0 low (eq-eqb place (get_or places place 0) (sym (each place low)))
