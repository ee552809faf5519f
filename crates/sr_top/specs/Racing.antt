-- The lines of races.
use Rattle.std.specs.Prelude.{ℕ, List, [], ◌∷◌, ◌++◌, codes, flat_map, length}
use Rattle.std.specs.Fmt.{decimal}
use Rattle.sr_races.specs.declared.race.Race.{Race}
use Rattle.sr_value.specs.declared.place.Place.{Place}
use Rattle.sr_top.specs.Report.{file_name}

-- `FILE:LINE`
abbrev pub at_place : List (List ℕ) → Place → List ℕ
at_place names place = file_name names place.file ++ codes ":" ++ decimal place.line

-- `race I J FILE:LINE FILE:LINE`
abbrev pub race_line : List (List ℕ) → Race → List ℕ
race_line names race =
    codes "race " ++ decimal race.first ++ codes " " ++ decimal race.second ++ codes " " ++ at_place names race.one ++ codes " " ++ at_place names race.other ++ 10 ∷ []

-- a line for each race, and how many there are
abbrev pub races_text : List (List ℕ) → List Race → List ℕ
races_text names races = flat_map (race_line names) races ++ codes "races " ++ decimal (length races) ++ 10 ∷ []
