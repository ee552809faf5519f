-- One pair of items more, and races by their first items.
use Rattle.std.proofs.Common.{◌≡◌, ◌==◌, ◌&&◌, ◌<◌, ◌≤◌, ◌+◌, ◌-◌, ◌⊎◌, inl, inr, ⊎_elim, ℕ, zero, suc, Bool, true, false, cond, List, [], ◌∷◌, ◌++◌, get_or, length, refl, ap, sym, ◌∙◌, subst, arith, eq-eqb, true≢false}
use Rattle.std.proofs.lemmas.Bool.{and_from, and_left, and_right, cases_eq, cases_order, le-ltb, ne_eqb}
use Rattle.std.proofs.lemmas.List.Elements.{All-append, Contains-append_left, Contains-append_right}
use Rattle.std.proofs.lemmas.List.Quantifiers.{all_pairs_push}
use Rattle.std.proofs.lemmas.List.Sorted.{All-permutation, Contains-permutation, ties_still_rise}
use Rattle.std.proofs.lemmas.Map.Keys.{IsDistinct-IsPermutation, IsDistinct-from_apart, apart_from_distinct}
use Rattle.std.specs.List.{IsDistinct}
use Rattle.std.specs.List.Sorted.{IsNonDecreasingBy, IsPermutation, IsSortedByKey, IsStableByKey}
use Rattle.std.specs.Ordering.{is_lt, nat_cmp}
use Rattle.std.specs.Prelude.{All, Contains, nat_lt}
use Rattle.std.specs.declared.cmp.Ordering.TheVariants.{Less, Equal, Greater}
use Rattle.sr_races.specs.Items.{Run}
use Rattle.sr_races.specs.Races.{AreAllRaces, AreRaces, ComesFirst, IsRace, Tells}
use Rattle.sr_races.specs.Searches.{AreFound, AreRacesBefore, IsEarlier, IsFoundFirst, Precedes, first_of}
use Rattle.sr_races.specs.declared.race.Race.{Race}

one-of : (P : Race → Type 0) (race : Race) → P race → All P (race ∷ [])
one-of P race holds zero d less = holds
one-of P race holds (suc k) d less = absurd (omega arith)

all-map : (P Q : Race → Type 0) (races : List Race) → ((race : Race) → P race → Q race) → All P races → All Q races
all-map P Q races f all = λ k d less. f _ (all k d less)

later-too : (i i' j : ℕ) (race : Race) → i ≤ i' → IsEarlier i j race → IsEarlier i' j race
later-too i i' j race more (inl less) = inl less
later-too i i' j race more (inr (same, less)) = inr (same, omega arith)

pub none-found : (r : Run) → AreRacesBefore r 0 0 []
none-found r = record {
  each = record { sorted = λ i j d less within. absurd (omega arith); true_ones = λ k d less. absurd (omega arith) };
  earlier = λ k d less. absurd (omega arith);
  complete = λ a b before race. absurd (⊎_elim (λ less. omega arith) (λ both. omega (arith, both.1)) before);
}

module _ (r : Run) (i j : ℕ) (races : List Race) (found : AreRacesBefore r i j races) where
  up-to : (a b : ℕ) → Precedes a b (i + 1) j → Precedes a b i j ⊎ ((b ≡ j) × (a ≡ i))
  up-to a b (inl less) = inl (inl less)
  up-to a b (inr (same, less)) = ⊎_elim (λ e. inr (same, e)) (⊎_elim (λ l. inl (inr (same, l))) (λ l. absurd (omega arith))) (cases_order a i)

  -- they are a race
  pub one-found : (race : Race) → Tells r race → race.first ≡ i + 1 → race.second ≡ j + 1 → AreRacesBefore r (i + 1) j (races ++ race ∷ [])
  one-found race tells first second = record {
    each = record {
      sorted = all_pairs_push IsFoundFirst races race found.each.sorted (λ k d less. comes-first (get_or races k d) (found.earlier k d less));
      true_ones = All-append (Tells r) races (race ∷ []) found.each.true_ones (one-of (Tells r) race tells);
    };
    earlier = All-append (IsEarlier (i + 1) j) races (race ∷ []) (all-map (IsEarlier i j) (IsEarlier (i + 1) j) races (λ x before. later-too i (i + 1) j x (omega arith) before) found.earlier)
        (one-of (IsEarlier (i + 1) j) race (inr (second, omega arith)));
    complete = λ a b before is. ⊎_elim
        (λ old. let known = found.complete a b old is in (known.0, Contains-append_left races (race ∷ []) known.0 known.1, known.2, known.3))
        (λ new. (race, Contains-append_right races (race ∷ []) race (0, omega arith, refl), first ∙ ap (λ n. n + 1) (sym new.1), second ∙ ap (λ n. n + 1) (sym new.0)))
        (up-to a b before);
  }
    where
      comes-first : (x : Race) → IsEarlier i j x → IsFoundFirst x race
      comes-first x (inl less) = inl (omega arith)
      comes-first x (inr (same, less)) = inr (same ∙ sym second, omega arith)

  -- none of the next ones, up to a first item, is one
  pub some-passed : (k : ℕ) → i ≤ k → ((a : ℕ) → i ≤ a → a < k → IsRace r a j → ⊥) → AreRacesBefore r k j races
  some-passed k more none = record {
    each = found.each;
    earlier = all-map (IsEarlier i j) (IsEarlier k j) races (λ x before. later-too i k j x more before) found.earlier;
    complete = known;
  }
    where
      in-row : (a b : ℕ) → b ≡ j → a < k → IsRace r a b → (race : Race) × Contains races race × (race.first ≡ a + 1) × (race.second ≡ b + 1)
      in-row a b same less is = ⊎_elim (λ e. absurd (none a (omega arith) less (subst (λ n. IsRace r a n) same is)))
          (⊎_elim (λ l. found.complete a b (inr (same, l)) is) (λ l. absurd (none a (omega arith) less (subst (λ n. IsRace r a n) same is)))) (cases_order a i)

      known : (a b : ℕ) → Precedes a b k j → IsRace r a b → (race : Race) × Contains races race × (race.first ≡ a + 1) × (race.second ≡ b + 1)
      known a b (inl less) is = found.complete a b (inl less) is
      known a b (inr (same, less)) is = in-row a b same less is

  -- the next second item, where no race has a first from here on
  pub next-second : ((a : ℕ) → i ≤ a → IsRace r a j → ⊥) → AreRacesBefore r 0 (j + 1) races
  next-second none-later = record {
    each = found.each;
    earlier = all-map (IsEarlier i j) (IsEarlier 0 (j + 1)) races advance found.earlier;
    complete = λ a b before is. ⊎_elim (λ less. old a b is (at-most b less)) (λ new. absurd (omega (arith, new.1))) before;
  }
    where
      advance : (x : Race) → IsEarlier i j x → IsEarlier 0 (j + 1) x
      advance x (inl less) = inl (omega arith)
      advance x (inr (same, less)) = inl (omega arith)

      at-most : (b : ℕ) → b < j + 1 → (b < j) ⊎ (b ≡ j)
      at-most b less = ⊎_elim (λ e. inr e) (⊎_elim (λ l. inl l) (λ l. absurd (omega arith))) (cases_order b j)

      old : (a b : ℕ) → IsRace r a b → (b < j) ⊎ (b ≡ j) → (race : Race) × Contains races race × (race.first ≡ a + 1) × (race.second ≡ b + 1)
      old a b is (inl less) = found.complete a b (inl less) is
      old a b is (inr same) = ⊎_elim (λ e. absurd (none-later a (omega arith) (subst (λ n. IsRace r a n) same is)))
          (⊎_elim (λ l. found.complete a b (inr (same, l)) is) (λ l. absurd (none-later a (omega arith) (subst (λ n. IsRace r a n) same is)))) (cases_order a i)

-- ---- by first items

same-pair : Race → Race → Bool
same-pair one other = (one.first == other.first) && (one.second == other.second)

eq-turned : (a b : ℕ) → (a == b) ≡ (b == a)
eq-turned a b = ⊎_elim (λ e. eq-eqb a b e ∙ sym (eq-eqb b a (sym e))) (λ ne. ne_eqb a b ne ∙ sym (ne_eqb b a (λ e. ne (sym e)))) (cases_eq a b)

same-turned : (one other : Race) → same-pair one other ≡ same-pair other one
unfolding same-pair
same-turned one other = ap (λ t. t && (one.second == other.second)) (eq-turned one.first other.first) ∙ ap (λ t. (other.first == one.first) && t) (eq-turned one.second other.second)

apart : (one other : Race) → IsFoundFirst one other → same-pair one other ≡ false
unfolding same-pair
apart one other (inl less) = and_right (one.first == other.first) (one.second == other.second) (ne_eqb one.second other.second (λ e. omega (arith, e, less)))
apart one other (inr both) = and_left (one.first == other.first) (one.second == other.second) (ne_eqb one.first other.first (λ e. omega (arith, e, both.1)))

differ-so : (one other : Race) → same-pair one other ≡ false → one.first ≡ other.first → one.second ≡ other.second → ⊥
unfolding same-pair
differ-so one other not first second =
    true≢false (sym (and_from (one.first == other.first) (one.second == other.second) (eq-eqb one.first other.first first) (eq-eqb one.second other.second second)) ∙ not)

comes-on : (one two three : Race) → ComesFirst one two → ComesFirst two three → ComesFirst one three
comes-on one two three (inl less) (inl more) = inl (omega arith)
comes-on one two three (inl less) (inr both) = inl (omega (arith, both.0))
comes-on one two three (inr both) (inl more) = inl (omega (arith, both.0))
comes-on one two three (inr both) (inr more) = inr (both.0 ∙ more.0, omega (arith, both.1, more.1))

not-less : (x y : ℕ) → y ≤ x → is_lt (nat_cmp x y) ≡ false
not-less x y most = by (nat_lt x y) (x == y) (le-ltb x y most)
  where
    by : (t u : Bool) → t ≡ false → is_lt (cond t Less (cond u Equal Greater)) ≡ false
    by true u off = absurd (true≢false off)
    by false true off = refl
    by false false off = refl

module _ (r : Run) (races sorted : List Race) (found : AreFound r races) (moved : IsPermutation races sorted)
    (rising : IsNonDecreasingBy first_of sorted) (stable : IsStableByKey first_of nat_cmp races sorted) where
  seconds-rise : IsSortedByKey (λ (race : Race). race.second) nat_cmp races
  seconds-rise k d least less =
      not-less (get_or races (k + 1) d).second (get_or races k d).second
      (⊎_elim (λ l. omega arith) (λ both. omega (arith, both.0)) (found.sorted k (k + 1) d (omega arith) less))

  all-apart : IsDistinct same-pair sorted
  all-apart = IsDistinct-IsPermutation same-pair same-turned races sorted moved
      (IsDistinct-from_apart same-pair races (λ i j d less within. apart (get_or races i d) (get_or races j d) (found.sorted i j d less within)))

  adjacent : (k : ℕ) (d : Race) → k + 1 < length sorted → ComesFirst (get_or sorted k d) (get_or sorted (k + 1) d)
  adjacent k d less = ⊎_elim (λ e. inr (e, tied e)) (⊎_elim (λ l. inl l) (λ l. absurd (omega (arith, l, most)))) (cases_order (get_or sorted k d).first (get_or sorted (k + 1) d).first)
    where
      most : (get_or sorted k d).first ≤ (get_or sorted (k + 1) d).first
      most = rising k (k + 1) d (omega arith) less

      tied : (get_or sorted k d).first ≡ (get_or sorted (k + 1) d).first → (get_or sorted k d).second < (get_or sorted (k + 1) d).second
      tied e =
          let up = ties_still_rise (λ (race : Race). race.second) first_of races sorted seconds-rise stable k d less e in
          let not = apart_from_distinct same-pair sorted k (k + 1) d all-apart (omega arith) less in
          ⊎_elim (λ same. absurd (differ-so (get_or sorted k d) (get_or sorted (k + 1) d) not e same)) (⊎_elim (λ l. l) (λ l. absurd (omega (arith, l, up))))
          (cases_order (get_or sorted k d).second (get_or sorted (k + 1) d).second)

  far : (n i j : ℕ) (d : Race) → i + n + 1 ≡ j → j < length sorted → ComesFirst (get_or sorted i d) (get_or sorted j d)
  far zero i j d is less = let next : i + 1 ≡ j = omega arith in subst (λ k. ComesFirst (get_or sorted i d) (get_or sorted k d)) next (adjacent i d (omega arith))
  far (suc n) i j d is less =
      let next : i + n + 1 + 1 ≡ j = omega arith in
      comes-on (get_or sorted i d) (get_or sorted (i + n + 1) d) (get_or sorted j d) (far n i (i + n + 1) d refl (omega arith))
      (subst (λ k. ComesFirst (get_or sorted (i + n + 1) d) (get_or sorted k d)) next (adjacent (i + n + 1) d (omega arith)))

  pub by-first : AreRaces r sorted
  by-first = record {
    sorted = λ i j d less within. far (j - i - 1) i j d (omega arith) within;
    true_ones = All-permutation (Tells r) races sorted moved found.true_ones;
  }

-- all second items were looked at
pub all-found : (r : Run) (n : ℕ) (races sorted : List Race) → AreRacesBefore r 0 n races → ((a b : ℕ) → IsRace r a b → b < n) → IsPermutation races sorted → AreRaces r sorted → AreAllRaces r sorted
all-found r n races sorted found within moved each = record {
  each = each;
  complete = λ a b is. let known = found.complete a b (inl (within a b is)) is in (known.0, Contains-permutation races sorted known.0 moved known.1, known.2, known.3);
}
