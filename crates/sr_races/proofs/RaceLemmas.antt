-- What tells a race by the rows of its items.
use Rattle.std.proofs.Common.{◌≡◌, ◌≢◌, ◌+◌, ◌<◌, ◌≤◌, ℕ, ⊎_elim, arith}
use Rattle.std.specs.Prelude.{slice_index}
use Rattle.sr_clocks.proofs.ClockLemmas.{first_part, order}
use Rattle.sr_clocks.specs.Clocks.{AreRows, Rows, made}
use Rattle.sr_races.proofs.LinkLemmas.{before_is_earlier, in_line}
use Rattle.sr_races.proofs.KeptLemmas.{kept_clocks_tell}
use Rattle.sr_races.specs.Accesses.{SomeConflict, accesses_at}
use Rattle.sr_races.specs.Items.{Run, actors}
use Rattle.sr_races.specs.Kept.{IsKept}
use Rattle.sr_races.specs.Links.{IsBefore, Linked}
use Rattle.sr_races.specs.Races.{IsRace}

pub not_after : (r : Run) (i j : ℕ) → i < j → ¬ IsBefore r j i
not_after r i j less before = omega (arith, before_is_earlier r j i before)

-- A race: two items of different processes whose accesses conflict, where the row of the later one has less than the place of
-- the earlier one among the items of its process.
pub race_by_rows : (r : Run) (count : ℕ) (row : Rows) → AreRows (IsKept r) (actors r) count row → (i j : ℕ) → 0 < slice_index (actors r) i → i < j → j < count
    → slice_index (actors r) i ≢ slice_index (actors r) j → SomeConflict (accesses_at r i) (accesses_at r j)
    → row j (slice_index (actors r) i) < made (actors r) (slice_index (actors r) i) (i + 1) → IsRace r i j
race_by_rows r count row rows i j some less inside differ conflicts short = record {
  earlier = less;
  processes = differ;
  conflicts = conflicts;
  not_before = λ before. omega (arith, (kept_clocks_tell r count row rows i j some less inside).0 before);
  not_after = not_after r i j less;
}

-- and no other two items are one
pub rows_of_race : (r : Run) (count : ℕ) (row : Rows) → AreRows (IsKept r) (actors r) count row → (i j : ℕ) → 0 < slice_index (actors r) i → j < count
    → IsRace r i j → row j (slice_index (actors r) i) < made (actors r) (slice_index (actors r) i) (i + 1)
rows_of_race r count row rows i j some inside race =
    ⊎_elim (λ less. less) (⊎_elim (λ same. absurd (race.not_before (tells (omega arith)))) (λ more. absurd (race.not_before (tells (omega arith)))))
    (order (row j (slice_index (actors r) i)) (made (actors r) (slice_index (actors r) i) (i + 1)))
  where
    tells : made (actors r) (slice_index (actors r) i) (i + 1) ≤ row j (slice_index (actors r) i) → IsBefore r i j
    tells within = (kept_clocks_tell r count row rows i j some race.earlier inside).1 within

-- Where an item is before another, so are all earlier ones of its process: a search that goes back along the items of a
-- process may end there.
pub earlier_too : (r : Run) (i k j : ℕ) → 0 < slice_index (actors r) k → slice_index (actors r) i ≡ slice_index (actors r) k → i < k
    → IsBefore r k j → IsBefore r i j
earlier_too r i k j some same less before = first_part (Linked r) (actors r) (in_line r) i k j some same less before
