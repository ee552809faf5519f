-- How far the search for races has come: all pairs are looked at by their second, and then by their first items.
use Rattle.std.specs.Prelude.{◌≡◌, ◌≢◌, ◌+◌, ◌<◌, ◌≤◌, ◌⊎◌, ℕ, Bool, true, false, All, AllPairs, Contains, List, length, slice_index}
use Rattle.std.specs.List.Sorted.{IsStrictlyIncreasing}
use Rattle.sr_clock_rows.specs.Rows.{count_at}
use Rattle.sr_clock_rows.specs.declared.clocks.Clocks.{Clocks}
use Rattle.sr_races.specs.Accesses.{SomeConflict}
use Rattle.sr_races.specs.Items.{Run}
use Rattle.sr_races.specs.Kept.{HasRows}
use Rattle.sr_races.specs.Races.{AreAllRaces, AreTooMany, IsRace, Tells}
use Rattle.sr_races.specs.Walks.{AreEntries}
use Rattle.sr_races.specs.declared.race.Race.{Race}
use Rattle.sr_races.specs.declared.race.Raced.{Raced}
use Rattle.sr_races.specs.declared.race.Raced.TheVariants as raced
use Rattle.sr_races.specs.declared.walk.Entry.{Entry}

-- one pair of items comes before another
abbrev pub Precedes : ℕ → ℕ → ℕ → ℕ → Type 0
Precedes a b i j = (b < j) ⊎ ((b ≡ j) × (a < i))

-- a race whose items, from 1, come before these, from 0
abbrev pub IsEarlier : ℕ → ℕ → Race → Type 0
IsEarlier i j race = Precedes race.first race.second (i + 1) (j + 1)

-- by the second item, and then by the first
abbrev pub IsFoundFirst : Race → Race → Type 0
IsFoundFirst race later = (race.second < later.second) ⊎ ((race.second ≡ later.second) × (race.first < later.first))

-- the number of its first item
abbrev pub first_of : Race → ℕ
first_of race = race.first

-- races in the order in which they are found, each once
pub record AreFound (r : Run) (races : List Race) : Type 0 where
  pub sorted : AllPairs IsFoundFirst races
  pub true_ones : All (Tells r) races

-- these are the races before a pair of items
pub record AreRacesBefore (r : Run) (i j : ℕ) (races : List Race) : Type 0 where
  pub each : AreFound r races
  pub earlier : All (IsEarlier i j) races
  pub complete : (a b : ℕ) → Precedes a b i j → IsRace r a b → (race : Race) × Contains races race × (race.first ≡ a + 1) × (race.second ≡ b + 1)

-- all pairs were looked at, or there are too many races
abbrev pub HasSearched : Run → ℕ → Bool → List Race → Type 0
HasSearched r count true races = AreRacesBefore r 0 count races × (length races ≤ 65536)
HasSearched r count false races = AreFound r races × (65536 < length races)

-- earlier items, in order, among which all are that are in a race with an item
pub record AreFirsts (r : Run) (second : ℕ) (firsts : List ℕ) : Type 0 where
  pub rising : IsStrictlyIncreasing firsts
  pub below : (item : ℕ) → Contains firsts item → item < second
  pub complete : (item : ℕ) → IsRace r item second → Contains firsts item

-- the first of them, so many, were looked at
pub record HasCome (r : Run) (second : ℕ) (firsts : List ℕ) (count : ℕ) (races : List Race) : Type 0 where
  pub up_to : ℕ
  pub earlier : (k : ℕ) → k < count → slice_index firsts k < up_to
  pub later : (k : ℕ) → count ≤ k → k < length firsts → up_to ≤ slice_index firsts k
  pub found : AreRacesBefore r up_to second races

-- ---- what is looked at

-- all items of a run have rows and entries
pub record IsRead (r : Run) (clocks : Clocks) (entries : List Entry) : Type 0 where
  pub all : length r.items ≡ length entries
  pub rows : HasRows r (length entries) clocks
  pub each : AreEntries r clocks (length entries) entries

-- What tells that two items are a race: another process, accesses that conflict, and in the later one's row less than in the
-- earlier one's own.
pub record LooksRaced (clocks : Clocks) (one other : Entry) (first second : ℕ) : Type 0 where
  pub processes : one.process ≢ other.process
  pub fewer : count_at clocks.rows second one.column < count_at clocks.rows first one.column
  pub conflicts : SomeConflict one.accesses other.accesses

-- all races, or that they are too many
abbrev pub HasFound : Run → Raced → Type 0
HasFound r (raced.Found races) = AreAllRaces r races × (length races ≤ 65536)
HasFound r raced.TooMany = AreTooMany r
HasFound r _ = ⊥
