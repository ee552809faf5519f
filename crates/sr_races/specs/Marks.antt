-- Items that access something, by the spots at which their accesses are noted.
use Rattle.std.specs.Prelude.{◌≡◌, ◌⊎◌, ◌+◌, ◌<◌, ◌≤◌, ℕ, Contains, List, [], ◌∷◌, ◌++◌, length, slice_get, slice_set, Some}
use Rattle.sr_clock_rows.specs.Columns.{column_in}
use Rattle.sr_clock_rows.specs.Rows.{count_at}
use Rattle.sr_clock_rows.specs.declared.clocks.Clocks.{Clocks}
use Rattle.sr_races.specs.Accesses.{accesses_at}
use Rattle.sr_races.specs.Items.{Run, actor_at}
use Rattle.sr_races.specs.Kept.{HasRows}
use Rattle.sr_races.specs.Spots.{looked_at, noted_at}
use Rattle.sr_races.specs.declared.access.Access.{Access}
use Rattle.sr_races.specs.declared.marks.Line.{Line}
use Rattle.sr_races.specs.declared.marks.Mark.{Mark}

-- ---- where an item is marked

pub record HasItem (marks : List Mark) (item : ℕ) : Type 0 where
  pub at : ℕ
  pub mark : Mark
  pub here : slice_get marks at ≡ Some mark
  pub is : mark.item ≡ item

-- in one of these lines
pub record IsMarked (lines : List Line) (item : ℕ) : Type 0 where
  pub at : ℕ
  pub line : Line
  pub here : slice_get lines at ≡ Some line
  pub has : HasItem line.marks item

-- at a spot
pub record IsMarkedAt (spots : List (List Line)) (spot item : ℕ) : Type 0 where
  pub lines : List Line
  pub here : slice_get spots spot ≡ Some lines
  pub marked : IsMarked lines item

-- at some spot
pub record IsMarkedSomewhere (spots : List (List Line)) (item : ℕ) : Type 0 where
  pub spot : ℕ
  pub marked : IsMarkedAt spots spot item

pub record HasColumn (lines : List Line) (column place : ℕ) : Type 0 where
  pub line : Line
  pub here : slice_get lines place ≡ Some line
  pub same : line.column ≡ column

-- ---- what is true of marks

-- It is one of the first items, so many, of the process of the column of this number, and has its place among the items of that.
pub record IsMark (r : Run) (clocks : Clocks) (count number : ℕ) (mark : Mark) : Type 0 where
  pub earlier : mark.item < count
  pub some : 0 < actor_at r mark.item
  pub column : column_in clocks.columns (actor_at r mark.item) ≡ Some number
  pub place : mark.count ≡ count_at clocks.rows mark.item number

-- places don't fall
pub record AreRising (marks : List Mark) : Type 0 where
  pub each : (i j : ℕ) (one other : Mark) → slice_get marks i ≡ Some one → slice_get marks j ≡ Some other → i ≤ j → one.count ≤ other.count

pub record IsLine (r : Run) (clocks : Clocks) (count : ℕ) (line : Line) : Type 0 where
  pub each : (i : ℕ) (mark : Mark) → slice_get line.marks i ≡ Some mark → IsMark r clocks count line.column mark
  pub rising : AreRising line.marks

pub record AreLines (r : Run) (clocks : Clocks) (count : ℕ) (lines : List Line) : Type 0 where
  pub each : (i : ℕ) (line : Line) → slice_get lines i ≡ Some line → IsLine r clocks count line

pub record AreSpots (r : Run) (clocks : Clocks) (count : ℕ) (spots : List (List Line)) : Type 0 where
  pub each : (i : ℕ) (lines : List Line) → slice_get spots i ≡ Some lines → AreLines r clocks count lines

-- each access of the first items, so many, is noted at spots, of so many
pub record AreNoted (r : Run) (clocks : Clocks) (size count : ℕ) (spots : List (List Line)) : Type 0 where
  pub sound : AreSpots r clocks count spots
  pub each : (item : ℕ) → item < count → (access : Access) → Contains (accesses_at r item) access → (spot : ℕ) → Contains (noted_at size access) spot → IsMarkedAt spots spot item

-- ---- one item more

-- in a line: it is marked last, or was already
pub record AddsMark (mark : Mark) (old new : Line) : Type 0 where
  pub column : new.column ≡ old.column
  pub marks : (new.marks ≡ old.marks ++ mark ∷ []) ⊎ ((new.marks ≡ old.marks) × HasItem old.marks mark.item)

pub record GrowsLine (column : ℕ) (mark : Mark) (old new : List Line) : Type 0 where
  pub at : ℕ
  pub line : Line
  pub longer : Line
  pub here : slice_get old at ≡ Some line
  pub same : line.column ≡ column
  pub adds : AddsMark mark line longer
  pub is : new ≡ slice_set old at longer

-- among the lines of a spot: in that of its process, or in a new one
abbrev pub AddsAmong : ℕ → Mark → List Line → List Line → Type 0
AddsAmong column mark old new = GrowsLine column mark old new ⊎ (new ≡ old ++ record { column = column; marks = mark ∷ [] } ∷ [])

pub record AddsAt (spot column : ℕ) (mark : Mark) (old new : List (List Line)) : Type 0 where
  pub lines : List Line
  pub longer : List Line
  pub here : slice_get old spot ≡ Some lines
  pub adds : AddsAmong column mark lines longer
  pub is : new ≡ slice_set old spot longer

-- at these spots; what was marked still is
pub record AddsAll (at : List ℕ) (column : ℕ) (mark : Mark) (old new : List (List Line)) : Type 0 where
  pub size : length new ≡ length old
  pub stays : (spot item : ℕ) → IsMarkedAt old spot item → IsMarkedAt new spot item
  pub marked : (spot : ℕ) → Contains at spot → IsMarkedAt new spot mark.item
  pub sound : (r : Run) (clocks : Clocks) (rows : ℕ) → HasRows r rows clocks → mark.item < rows → IsMark r clocks (mark.item + 1) column mark
      → AreSpots r clocks (mark.item + 1) old → AreSpots r clocks (mark.item + 1) new

abbrev pub all_noted_at : ℕ → List Access → List ℕ
all_noted_at size [] = []
all_noted_at size (access ∷ accesses) = noted_at size access ++ all_noted_at size accesses

-- ---- what is found

-- The items of a line whose places are more than a count, where its places don't fall. What was found still is.
pub record LooksAlong (count : ℕ) (marks : List Mark) (old new : List ℕ) : Type 0 where
  pub stays : (item : ℕ) → Contains old item → Contains new item
  pub from : (item : ℕ) → Contains new item → Contains old item ⊎ HasItem marks item
  pub finds : AreRising marks → (i : ℕ) (mark : Mark) → slice_get marks i ≡ Some mark → count < mark.count → Contains new mark.item

-- Of lines, those whose places are more than the row of an item has of their process.
pub record LooksAmong (clocks : Clocks) (second : ℕ) (lines : List Line) (old new : List ℕ) : Type 0 where
  pub stays : (item : ℕ) → Contains old item → Contains new item
  pub from : (item : ℕ) → Contains new item → Contains old item ⊎ IsMarked lines item
  pub finds : (i : ℕ) (line : Line) → slice_get lines i ≡ Some line → AreRising line.marks
      → (j : ℕ) (mark : Mark) → slice_get line.marks j ≡ Some mark → count_at clocks.rows second line.column < mark.count → Contains new mark.item

-- at these spots
pub record LooksAt (clocks : Clocks) (second : ℕ) (spots : List (List Line)) (at : List ℕ) (old new : List ℕ) : Type 0 where
  pub stays : (item : ℕ) → Contains old item → Contains new item
  pub from : (item : ℕ) → Contains new item → Contains old item ⊎ IsMarkedSomewhere spots item
  pub finds : (spot : ℕ) → Contains at spot → (lines : List Line) → slice_get spots spot ≡ Some lines → (i : ℕ) (line : Line) → slice_get lines i ≡ Some line → AreRising line.marks
      → (j : ℕ) (mark : Mark) → slice_get line.marks j ≡ Some mark → count_at clocks.rows second line.column < mark.count → Contains new mark.item

abbrev pub all_looked_at : ℕ → List Access → List ℕ
all_looked_at size [] = []
all_looked_at size (access ∷ accesses) = looked_at size access ++ all_looked_at size accesses
