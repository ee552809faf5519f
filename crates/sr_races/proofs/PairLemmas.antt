-- Two items that are looked at.
use Rattle.std.proofs.Common.{◌≡◌, ◌<◌, ◌≤◌, ◌+◌, ⊎_elim, ℕ, zero, suc, true, false, List, [], ◌∷◌, ◌++◌, get_or, length, ap, sym, ◌∙◌, subst, arith}
use Rattle.std.proofs.lemmas.Bool.{cases_order}
use Rattle.std.proofs.lemmas.List.Elements.{Contains-get_or}
use Rattle.std.proofs.lemmas.List.Kept.{AllPairs-from_increasing}
use Rattle.std.proofs.lemmas.List.Sorted.{length_permutation}
use Rattle.std.proofs.lemmas.Option.{get_or_from_slice_get}
use Rattle.std.specs.List.Sorted.{IsNonDecreasingBy, IsPermutation, IsStableByKey}
use Rattle.std.specs.Ordering.{nat_cmp}
use Rattle.std.specs.Prelude.{Contains, Some, None, slice_get, slice_index}
use Rattle.sr_clock_rows.specs.Columns.{column_in}
use Rattle.sr_clock_rows.specs.declared.clocks.Clocks.{Clocks}
use Rattle.sr_races.specs.Accesses.{SomeConflict, accesses_at}
use Rattle.sr_races.specs.Items.{Run, actor_at}
use Rattle.sr_races.specs.Kept.{HasRows}
use Rattle.sr_races.specs.Races.{IsRace, Tells}
use Rattle.sr_races.specs.Searches.{AreFirsts, AreRacesBefore, HasCome, HasFound, HasSearched, IsRead, LooksRaced, first_of}
use Rattle.sr_races.specs.Walks.{IsEntry}
use Rattle.sr_races.specs.declared.race.Race.{Race}
use Rattle.sr_races.specs.declared.race.Raced.TheVariants as raced
use Rattle.sr_races.specs.declared.walk.Entry.{Entry}
use Rattle.sr_races.proofs.ActorLemmas.{acting, race-tells, race-told}
use Rattle.sr_races.proofs.PathLemmas.{got-at}
use Rattle.sr_races.proofs.LinkLemmas.{within as owner-within}
use Rattle.sr_races.proofs.SearchLemmas.{all-found, by-first, next-second, none-found, one-found, some-passed}

some-among : {A : Type 0} (xs : List A) (x : A) → Contains xs x → 0 < length xs
some-among xs x (k, less, is) = omega arith

pub no-entry : (entries : List Entry) (i : ℕ) → i < length entries → slice_get entries i ≡ None → ⊥
no-entry [] i less none = omega arith
no-entry (entry ∷ entries) zero less none = cc
no-entry (entry ∷ entries) (suc i) less none = no-entry entries i (omega arith) none

-- ---- races are among the items

pub second-within : (r : Run) (i j : ℕ) → IsRace r i j → j < length r.items
second-within r i j race = owner-within r.items j (acting r j race.conflicts.conflict.other race.conflicts.conflict.among)

-- ---- one pair

module _ (r : Run) (count : ℕ) (clocks : Clocks) (has : HasRows r count clocks) (i j : ℕ) (one other : Entry) (is-one : IsEntry r clocks i one) (is-other : IsEntry r clocks j other) (less : i < j) (within : j < count) where
  as-accesses : SomeConflict one.accesses other.accesses → SomeConflict (accesses_at r i) (accesses_at r j)
  as-accesses conflicts = subst (λ xs. SomeConflict xs (accesses_at r j)) is-one.accesses (subst (λ xs. SomeConflict one.accesses xs) is-other.accesses conflicts)

  as-entries : SomeConflict (accesses_at r i) (accesses_at r j) → SomeConflict one.accesses other.accesses
  as-entries conflicts = subst (λ xs. SomeConflict one.accesses xs) (sym is-other.accesses) (subst (λ xs. SomeConflict xs (accesses_at r j)) (sym is-one.accesses) conflicts)

  module _ (conflicts : SomeConflict (accesses_at r i) (accesses_at r j)) where
    some : 0 < actor_at r i
    some = acting r i conflicts.one conflicts.among

    column-is : column_in clocks.columns (actor_at r i) ≡ Some one.column
    column-is = subst (λ p. column_in clocks.columns p ≡ Some one.column) is-one.process (is-one.column (subst (λ p. 0 < p) (sym is-one.process) some))

  pub looks-race : LooksRaced clocks one other i j → IsRace r i j
  looks-race looks =
      let conflicts = as-accesses looks.conflicts in
      race-told r count clocks has i j one.column (some conflicts) less within (column-is conflicts) (λ same. looks.processes (is-one.process ∙ same ∙ sym is-other.process)) conflicts looks.fewer

  pub race-looks : IsRace r i j → LooksRaced clocks one other i j
  race-looks race = record {
    processes = λ same. race.processes (sym is-one.process ∙ same ∙ is-other.process);
    fewer = race-tells r count clocks has i j one.column (some race.conflicts) less within (column-is race.conflicts) race;
    conflicts = as-entries race.conflicts;
  }

  tells-pair : (race : Race) → LooksRaced clocks one other i j → race.first ≡ i + 1 → race.second ≡ j + 1 → race.one ≡ one.place → race.other ≡ other.place → Tells r race
  tells-pair race looks first second at other-at = record {
    i = i;
    j = j;
    is = looks-race looks;
    first = first;
    second = second;
    one = is-one.place (some-among one.accesses looks.conflicts.one looks.conflicts.among) ∙ ap Some (sym at);
    other = is-other.place (some-among other.accesses looks.conflicts.conflict.other looks.conflicts.conflict.among) ∙ ap Some (sym other-at);
  }

  pub pair-found : (races : List Race) → AreRacesBefore r i j races → LooksRaced clocks one other i j → (race : Race) → race.first ≡ i + 1 → race.second ≡ j + 1 → race.one ≡ one.place → race.other ≡ other.place
      → AreRacesBefore r (i + 1) j (races ++ race ∷ [])
  pair-found races found looks race first second at other-at = one-found r i j races found race (tells-pair race looks first second at other-at) first second

  pub pair-passed : (races : List Race) → AreRacesBefore r i j races → (LooksRaced clocks one other i j → ⊥) → AreRacesBefore r (i + 1) j races
  pair-passed races found not = some-passed r i j races found (i + 1) (omega arith) (λ a more short race. none a (omega arith) race)
    where
      none : (a : ℕ) → a ≡ i → IsRace r a j → ⊥
      none a same race = not (race-looks (subst (λ k. IsRace r k j) same race))

-- ---- all pairs of a second item

module _ (r : Run) (second : ℕ) (firsts : List ℕ) (are : AreFirsts r second firsts) where
  at-place : (item : ℕ) → Contains firsts item → (k : ℕ) × (k < length firsts) × (slice_index firsts k ≡ item)
  at-place item (k, less, is) = (k, less, get_or_from_slice_get firsts k item 0 (got-at firsts k item less ∙ ap Some is))

  rise : (i j : ℕ) → i < j → j < length firsts → slice_index firsts i < slice_index firsts j
  rise i j less within = AllPairs-from_increasing firsts are.rising i j 0 less within

  pub first-below : (k : ℕ) → k < length firsts → slice_index firsts k < second
  first-below k within = are.below (slice_index firsts k) (Contains-get_or firsts k 0 within)

  pub come-none : (races : List Race) → AreRacesBefore r 0 second races → HasCome r second firsts 0 races
  come-none races found = record { up_to = 0; earlier = λ k less. absurd (omega arith); later = λ k most less. omega arith; found = found }

  -- up to the next of them there is none
  pub come-to : (k : ℕ) (races : List Race) → HasCome r second firsts k races → k < length firsts → AreRacesBefore r (slice_index firsts k) second races
  come-to k races come within = some-passed r come.up_to second races come.found (slice_index firsts k) (come.later k (omega arith) within) none
    where
      none : (a : ℕ) → come.up_to ≤ a → a < slice_index firsts k → IsRace r a second → ⊥
      none a more short race =
          let place = at-place a (are.complete a race) in
          ⊎_elim (λ same. let is : slice_index firsts place.0 ≡ slice_index firsts k = ap (slice_index firsts) same in omega (arith, is, place.2, short))
          (⊎_elim (λ less. omega (arith, come.earlier place.0 less, place.2, more)) (λ less. omega (arith, rise k place.0 less place.1, place.2, short))) (cases_order place.0 k)

  pub come-on : (k : ℕ) (races : List Race) → k < length firsts → AreRacesBefore r (slice_index firsts k + 1) second races → HasCome r second firsts (k + 1) races
  come-on k races within found = record {
    up_to = slice_index firsts k + 1;
    earlier = λ i less. ⊎_elim (λ same. let is : slice_index firsts i ≡ slice_index firsts k = ap (slice_index firsts) same in omega (arith, is))
        (⊎_elim (λ before. omega (arith, rise i k before within)) (λ after. absurd (omega (arith, after, less)))) (cases_order i k);
    later = λ i most less. omega (arith, rise k i (omega (arith, most)) less);
    found = found;
  }

  pub come-all : (k : ℕ) (races : List Race) → length firsts ≤ k → HasCome r second firsts k races → AreRacesBefore r 0 (second + 1) races
  come-all k races all come = next-second r come.up_to second races come.found none
    where
      none : (a : ℕ) → come.up_to ≤ a → IsRace r a second → ⊥
      none a more race = let place = at-place a (are.complete a race) in omega (arith, come.earlier place.0 (omega (arith, place.1, all)), place.2, more)

-- ---- all pairs

module _ (r : Run) (clocks : Clocks) (entries : List Entry) (read : IsRead r clocks entries) where
  pub entry-at : (i : ℕ) (d : Entry) → i < length entries → IsEntry r clocks i (get_or entries i d)
  entry-at i d within = read.each.each i (get_or entries i d) (got-at entries i d within)

  pub begin-all : (races : List Race) → races ≡ [] → AreRacesBefore r 0 0 races
  begin-all races none = subst (λ xs. AreRacesBefore r 0 0 xs) (sym none) (none-found r)

  module _ (races sorted : List Race) (moved : IsPermutation races sorted) (rising : IsNonDecreasingBy first_of sorted)
      (stable : IsStableByKey first_of nat_cmp races sorted) where
    pub has-found : HasSearched r (length entries) true races → HasFound r (raced.Found sorted)
    has-found searched = (
      all-found r (length entries) races sorted searched.0 (λ a b race. let inside : b < length r.items = second-within r a b race in omega (arith, inside, read.all)) moved
          (by-first r races sorted searched.0.each moved rising stable),
      omega (arith, searched.1, length_permutation races sorted moved),
    )

    pub has-too-many : HasSearched r (length entries) false races → HasFound r raced.TooMany
    has-too-many searched = record { some = sorted; races = by-first r races sorted searched.0 moved rising stable; more = omega (arith, searched.1, length_permutation races sorted moved) }
