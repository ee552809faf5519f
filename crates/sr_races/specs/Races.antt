-- Races: two accesses that conflict, and neither is before the other.
use Rattle.std.specs.Prelude.{◌≡◌, ◌≢◌, ◌||◌, ◌+◌, ◌<◌, ◌≤◌, ◌⊎◌, ℕ, Bool, true, false, List, All, AllPairs, Contains, length, map, nat_lt, slice_index, Option, Some, None}
use Rattle.std.specs.Option.{option_map}
use Rattle.sr_ask.specs.Items.{actor_of}
use Rattle.sr_ask.specs.declared.item.Item.{Item}
use Rattle.sr_replay.specs.Replays.{IsFirstIllegal}
use Rattle.sr_world.specs.Runs.{is_legal, run}
use Rattle.sr_clock_rows.specs.Columns.{AreColumns, different}
use Rattle.sr_clock_rows.specs.declared.columns.Columns.{Columns}
use Rattle.sr_races.specs.Accesses.{SomeConflict, accesses_at}
use Rattle.sr_races.specs.Items.{Run, actors, asked_at}
use Rattle.sr_races.specs.Links.{IsBefore}
use Rattle.sr_races.specs.declared.race.Race.{Race}
use Rattle.sr_races.specs.declared.race.Raced.{Raced}
use Rattle.sr_races.specs.declared.race.Raced.TheVariants as raced

-- ---- a race

pub record IsRace (r : Run) (i j : ℕ) : Type 0 where
  pub earlier : i < j
  pub processes : slice_index (actors r) i ≢ slice_index (actors r) j
  pub conflicts : SomeConflict (accesses_at r i) (accesses_at r j)
  pub not_before : ¬ IsBefore r i j
  pub not_after : ¬ IsBefore r j i

-- ---- what is reported

-- a race with the numbers of its items, from 1, and the places of what they ask
pub record Tells (r : Run) (race : Race) : Type 0 where
  pub i : ℕ
  pub j : ℕ
  pub is : IsRace r i j
  pub first : race.first ≡ i + 1
  pub second : race.second ≡ j + 1
  pub one : option_map (λ ask. ask.place) (asked_at r i) ≡ Some race.one
  pub other : option_map (λ ask. ask.place) (asked_at r j) ≡ Some race.other

-- by the first item, and then by the second
abbrev pub ComesFirst : Race → Race → Type 0
ComesFirst race later = (race.first < later.first) ⊎ ((race.first ≡ later.first) × (race.second < later.second))

-- races in order, each once
pub record AreRaces (r : Run) (races : List Race) : Type 0 where
  pub sorted : AllPairs ComesFirst races
  pub true_ones : All (Tells r) races

-- and no race is left out
pub record AreAllRaces (r : Run) (races : List Race) : Type 0 where
  pub each : AreRaces r races
  pub complete : (i j : ℕ) → IsRace r i j → (race : Race) × Contains races race × (race.first ≡ i + 1) × (race.second ≡ j + 1)

-- ---- limits

-- more than 65,536 items, or items of more than 1,024 processes
abbrev pub is_too_long : List Item → Bool
is_too_long items = nat_lt 65536 (length items) || nat_lt 1024 (different (map actor_of items))

-- columns for the processes that make items, or there are too many of these
abbrev pub HasColumns : List Item → Option Columns → Type 0
HasColumns items None = is_too_long items ≡ true
HasColumns items (Some columns) = (is_too_long items ≡ false) × AreColumns (map actor_of items) columns

-- there are more than 65,536 races
pub record AreTooMany (r : Run) : Type 0 where
  pub some : List Race
  pub races : AreRaces r some
  pub more : 65536 < length some

-- ---- what the search comes to

-- no more items than a run may have, and all are a run
abbrev pub IsRun : ℕ → Run → Type 0
IsRun steps r = (length r.items ≤ steps) × (is_legal (run r.core r.limit r.input r.items) ≡ true)

-- Too many items are told before one that is no step, and that before too many races.
abbrev pub Races : ℕ → Run → Raced → Type 0
Races steps r raced.TooLong = is_too_long r.items ≡ true
Races steps r (raced.Illegal at) = (is_too_long r.items ≡ false) × IsFirstIllegal r.core steps r.limit r.input r.items (length r.items) at
Races steps r raced.TooMany = (is_too_long r.items ≡ false) × IsRun steps r × AreTooMany r
Races steps r (raced.Found races) = (is_too_long r.items ≡ false) × IsRun steps r × AreAllRaces r races × (length races ≤ 65536)
