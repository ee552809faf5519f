-- Different steps lead to different places.
use Rattle.std.proofs.Common.{◌≡◌, ◌≢◌, ℕ, ◌+◌, ◌*◌, ◌<◌, Bool, true, false, ◌&&◌, cond, nat_eq, eq-eqb, true≢false, ◌⊎◌, inl, inr, Option, Some, None, refl, ap, sym, ◌∙◌, arith, ℤ, pos, negsuc, ◌+ℤ◌, ◌-ℤ◌, ◌≤ℤ◌, unsigned_abs, nat_lt, List, length}
use Rattle.std.specs.Prelude.{int_lt}
use Rattle.std.specs.Ordering.{int_cmp, is_le}
use Rattle.std.specs.declared.cmp.Ordering.{Ordering}
use Rattle.std.specs.declared.cmp.Ordering.TheVariants.{Less, Equal, Greater}
use Rattle.std.proofs.lemmas.Bool.{eqb-true, ltb-false, ltb-true}
use Rattle.std.proofs.lemmas.Cmp.{int_ranked}
use Rattle.std.proofs.lemmas.Int.{ints}
use Rattle.std.proofs.lemmas.Nat.{mul-add-lt}
use Rattle.sr_value.specs.declared.shape.Dims.{Dims}
use Rattle.sr_value.specs.declared.shape.Dims.TheVariants.{One, Two}
use Rattle.sr_value.specs.declared.shape.Sel.{Sel}
use Rattle.sr_value.specs.declared.shape.Sel.TheVariants.{At, At2, Field}
use Rattle.sr_value.specs.Parts.{byte_place, field_place, in_row, item_place, place_of}
use Rattle.sr_value.specs.Shapes.{extent}
use borrow.Author.Differences.{up, down}

abs-parts : (z : ℤ) → unsigned_abs z ≡ up z + down z
abs-parts (pos n) = omega arith
abs-parts (negsuc n) = omega arith

le-known : (a b : ℤ) → is_le (int_cmp a b) ≡ true → a ≤ℤ b
le-known a b is = by (int_cmp a b) refl is
  where
    by : (r : Ordering) → r ≡ int_cmp a b → is_le r ≡ true → a ≤ℤ b
    by Less is h = let below = int_ranked a b Less is in omega (arith, ints, below)
    by Equal is h = let same = int_ranked a b Equal is in omega (arith, ints, same)
    by Greater is h = cc

-- an index is the lowest and its place, which is one of the places
record Placed (lo hi index : ℤ) (at : ℕ) : Type 0 where
  index-is : index ≡ lo +ℤ pos at
  within : at < extent lo hi

distance : (lo hi index : ℤ) → lo ≤ℤ index → index ≤ℤ hi → Placed lo hi index (unsigned_abs (index -ℤ lo))
distance lo hi index low high = record {
  index-is = let parts = abs-parts (index -ℤ lo) in omega (arith, ints, parts, low);
  within = by (int_lt hi lo) refl;
}
  where
    by : (b : Bool) → int_lt hi lo ≡ b → unsigned_abs (index -ℤ lo) < cond b 0 (unsigned_abs (hi -ℤ lo) + 1)
    by true is = absurd (omega (arith, ints, low, high))
    by false is = let parts = abs-parts (index -ℤ lo) in let all = abs-parts (hi -ℤ lo) in omega (arith, ints, parts, all, low, high)

placed : (lo hi index : ℤ) (at : ℕ) → place_of lo hi index ≡ Some at → Placed lo hi index at
placed lo hi index at is = by (is_le (int_cmp lo index)) (is_le (int_cmp index hi)) refl refl is
  where
    by : (b c : Bool) → is_le (int_cmp lo index) ≡ b → is_le (int_cmp index hi) ≡ c → cond (b && c) (Some (unsigned_abs (index -ℤ lo))) None ≡ Some at → Placed lo hi index at
    by true true low high is = let same : unsigned_abs (index -ℤ lo) ≡ at = cc in let found = distance lo hi index (le-known lo index low) (le-known index hi high) in rw (sym same) found
    by true false low high is = cc
    by false true low high is = cc
    by false false low high is = cc

same-index : (lo hi a b : ℤ) (at : ℕ) → place_of lo hi a ≡ Some at → place_of lo hi b ≡ Some at → a ≡ b
same-index lo hi a b at first second = (placed lo hi a at first).index-is ∙ sym ((placed lo hi b at second).index-is)

-- a row and a column are told from their place
same-row : (width a c b d : ℕ) → c < width → d < width → a * width + c ≡ b * width + d → a ≡ b
same-row width a c b d c-in d-in same = by (nat_lt a b) (nat_lt b a) refl refl
  where
    by : (below above : Bool) → nat_lt a b ≡ below → nat_lt b a ≡ above → a ≡ b
    by true above less other = let past = mul-add-lt a width c b (ltb-true a b less) c-in in absurd (omega (arith, past))
    by false true other less = let past = mul-add-lt b width d a (ltb-true b a less) d-in in absurd (omega (arith, past))
    by false false above below = omega (arith, ltb-false a b above, ltb-false b a below)

same-cell : (lo hi lo2 hi2 a c b d : ℤ) (at : ℕ) → in_row (extent lo2 hi2) (place_of lo hi a) (place_of lo2 hi2 c) ≡ Some at → in_row (extent lo2 hi2) (place_of lo hi b) (place_of lo2 hi2 d) ≡ Some at
    → (a ≡ b) × (c ≡ d)
same-cell lo hi lo2 hi2 a c b d at first second = by (place_of lo hi a) (place_of lo2 hi2 c) (place_of lo hi b) (place_of lo2 hi2 d) refl refl refl refl first second
  where
    by : (i j k l : Option ℕ) → place_of lo hi a ≡ i → place_of lo2 hi2 c ≡ j → place_of lo hi b ≡ k → place_of lo2 hi2 d ≡ l
        → in_row (extent lo2 hi2) i j ≡ Some at → in_row (extent lo2 hi2) k l ≡ Some at → (a ≡ b) × (c ≡ d)
    by (Some i) (Some j) (Some k) (Some l) a-at c-at b-at d-at first second =
        let place : i * extent lo2 hi2 + j ≡ at = cc in
        let place' : k * extent lo2 hi2 + l ≡ at = cc in
        let rows : i ≡ k = same-row (extent lo2 hi2) i j k l (placed lo2 hi2 c j c-at).within (placed lo2 hi2 d l d-at).within (place ∙ sym place') in
        let columns : j ≡ l = same-column i j k l (place ∙ sym place') rows in
        (same-index lo hi a b i a-at (b-at ∙ ap (λ n. Some n) (sym rows)), same-index lo2 hi2 c d j c-at (d-at ∙ ap (λ n. Some n) (sym columns)))
      where
        same-column : (i j k l : ℕ) → i * extent lo2 hi2 + j ≡ k * extent lo2 hi2 + l → i ≡ k → j ≡ l
        same-column i j k l same rows = let same' : i * extent lo2 hi2 + j ≡ i * extent lo2 hi2 + l = same ∙ ap (λ r. r * extent lo2 hi2 + l) (sym rows) in omega arith
    by (Some i) None k l a-at c-at b-at d-at first second = cc
    by None j k l a-at c-at b-at d-at first second = cc
    by (Some i) (Some j) (Some k) None a-at c-at b-at d-at first second = cc
    by (Some i) (Some j) None l a-at c-at b-at d-at first second = cc

-- ---- steps

same-int : (a b : ℤ) → (a ≡ b) ⊎ (a ≢ b)
same-int a b = by (int_cmp a b) refl
  where
    by : (r : Ordering) → r ≡ int_cmp a b → (a ≡ b) ⊎ (a ≢ b)
    by Less is = let below = int_ranked a b Less is in inr (λ e. omega (arith, ints, below, e))
    by Equal is = inl (int_ranked a b Equal is)
    by Greater is = let above = int_ranked a b Greater is in inr (λ e. omega (arith, ints, above, e))

same-nat : (a b : ℕ) → (a ≡ b) ⊎ (a ≢ b)
same-nat a b = by (nat_eq a b) refl
  where
    by : (r : Bool) → nat_eq a b ≡ r → (a ≡ b) ⊎ (a ≢ b)
    by true is = inl (eqb-true a b is)
    by false is = inr (λ e. true≢false (sym (eq-eqb a b e) ∙ is))

pub same-step : (a b : Sel) → (a ≡ b) ⊎ (a ≢ b)
same-step (At i) (At j) = elim (same-int i j) [ inl same ↦ inl (ap At same) | inr ne ↦ inr (λ e. ne cc) ]
same-step (At2 i k) (At2 j l) =
    elim (same-int i j) [
      | inl rows ↦ elim (same-int k l) [ inl columns ↦ inl (ap (λ r. At2 r k) rows ∙ ap (At2 j) columns) | inr ne ↦ inr (λ e. ne cc) ]
      | inr ne ↦ inr (λ e. ne cc)
    ]
same-step (Field i) (Field j) = elim (same-nat i j) [ inl same ↦ inl (ap Field same) | inr ne ↦ inr (λ e. ne cc) ]
same-step (At i) (At2 j l) = inr (λ e. cc)
same-step (At i) (Field j) = inr (λ e. cc)
same-step (At2 i k) (At j) = inr (λ e. cc)
same-step (At2 i k) (Field j) = inr (λ e. cc)
same-step (Field i) (At j) = inr (λ e. cc)
same-step (Field i) (At2 j l) = inr (λ e. cc)

pub same-item : (dims : Dims) (a b : Sel) (at : ℕ) → item_place dims a ≡ Some at → item_place dims b ≡ Some at → a ≡ b
same-item (One lo hi) (At i) (At j) at first second = ap At (same-index lo hi i j at first second)
same-item (Two lo hi lo2 hi2) (At2 i k) (At2 j l) at first second =
    let same = same-cell lo hi lo2 hi2 i k j l at first second in ap (λ r. At2 r k) same.0 ∙ ap (At2 j) same.1
same-item (One lo hi) (At i) (At2 j l) at first second = cc
same-item (One lo hi) (At i) (Field j) at first second = cc
same-item (One lo hi) (At2 i k) b at first second = cc
same-item (One lo hi) (Field i) b at first second = cc
same-item (Two lo hi lo2 hi2) (At2 i k) (At j) at first second = cc
same-item (Two lo hi lo2 hi2) (At2 i k) (Field j) at first second = cc
same-item (Two lo hi lo2 hi2) (At i) b at first second = cc
same-item (Two lo hi lo2 hi2) (Field i) b at first second = cc

pub same-byte : (bytes : List ℕ) (a b : Sel) (at : ℕ) → byte_place bytes a ≡ Some at → byte_place bytes b ≡ Some at → a ≡ b
same-byte bytes (At i) (At j) at first second = ap At (same-index (pos 1) (pos (length bytes)) i j at first second)
same-byte bytes (At i) (At2 j l) at first second = cc
same-byte bytes (At i) (Field j) at first second = cc
same-byte bytes (At2 i k) b at first second = cc
same-byte bytes (Field i) b at first second = cc

pub same-field : (a b : Sel) (at : ℕ) → field_place a ≡ Some at → field_place b ≡ Some at → a ≡ b
same-field (Field i) (Field j) at first second = let same : i ≡ j = cc in ap Field same
same-field (Field i) (At j) at first second = cc
same-field (Field i) (At2 j l) at first second = cc
same-field (At i) b at first second = cc
same-field (At2 i k) b at first second = cc
