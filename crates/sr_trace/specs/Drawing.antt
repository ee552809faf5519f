-- Where the parts of a picture stand, and how each is drawn.
use Rattle.std.specs.Prelude.{ℕ, Bool, true, false, ◌+◌, ◌-◌, ◌*◌, ◌/◌, ◌==◌, ◌++◌, ◌∷◌, [], List, Option, Some, None, codes, find, flat_map, if◌then◌else◌, position, unwrap_or}
use Rattle.std.specs.Fmt.{decimal}
use Rattle.sr_core.specs.declared.component.Core.{Core}
use Rattle.sr_trace.specs.Lines.{line_words}
use Rattle.sr_trace.specs.Words.{deed_words, runs_words}
use Rattle.sr_trace.specs.declared.shown.Arrow.{Arrow}
use Rattle.sr_trace.specs.declared.shown.Column.{Column}
use Rattle.sr_trace.specs.declared.spot.Spot.{Spot}
use Rattle.sr_trace.specs.declared.traced.Runs.{Runs}
use Rattle.sr_trace.specs.declared.traced.Traced.{Traced}

-- ---- where

abbrev pub process_in : Option Traced → ℕ
process_in None = 0
process_in (Some row) = row.process

abbrev pub process_of : List Traced → ℕ → ℕ
process_of rows item = process_in (find (λ (row : Traced). row.item == item) rows)

-- columns stand 200 apart
abbrev pub x_of : List Column → ℕ → ℕ
x_of columns process = 70 + 200 * unwrap_or (position (λ (column : Column). column.process == process) columns) 0

-- rows stand 28 apart
abbrev pub y_of : List Traced → ℕ → ℕ
y_of rows item = 100 + 28 * unwrap_or (position (λ (row : Traced). row.item == item) rows) 0

-- an item stands in the column of its process and in its own row
abbrev pub spot_of : List Column → List Traced → ℕ → Spot
spot_of columns rows item = record { x = x_of columns (process_of rows item); y = y_of rows item }

-- a link within a column goes round the items between; any other comes to its end along the row of that
abbrev pub bend_of : Spot → Spot → Spot
bend_of from to =
    if from.x == to.x
    then record { x = from.x - 50; y = (from.y + to.y) / 2 }
    else record { x = (from.x + to.x) / 2; y = to.y }

abbrev pub width_of : ℕ → ℕ
width_of columns = 20 + 200 * columns

abbrev pub height_of : ℕ → ℕ
height_of rows = 100 + 28 * rows

-- ---- texts

-- the signs that have a meaning in a picture are written by their names
abbrev pub escaped_byte : ℕ → List ℕ
escaped_byte byte =
    if byte == 38 then codes "&amp;" else (if byte == 60 then codes "&lt;" else (if byte == 62 then codes "&gt;" else byte ∷ []))

abbrev pub escaped : List ℕ → List ℕ
escaped text = flat_map escaped_byte text

-- the words of a text, and its end
unfoldable pub ended : List ℕ → List ℕ
ended words = escaped words ++ (codes "</text>" ++ 10 ∷ [])

-- a number after bytes, as that of an attribute
unfoldable pub numbered : List ℕ → ℕ → List ℕ
numbered before number = before ++ decimal number

-- a number after bytes, as the last of a tag
unfoldable pub closed : List ℕ → ℕ → List ℕ
closed before number = numbered before number ++ codes "'/>"

-- ---- a process

unfoldable pub life_text : ℕ → ℕ → List ℕ
life_text height x = numbered (codes "<path class='life' d='M") x ++ closed (codes " 60V") height

unfoldable pub head_text : ℕ → ℕ → List ℕ
head_text x process = numbered (codes "<text class='head' y='28' x='") x ++ numbered (codes "'>") process ++ codes "</text>"

unfoldable pub runs_text : Core → ℕ → Runs → List ℕ
runs_text core x runs = numbered (codes "<text class='runs' y='48' x='") x ++ codes "'>" ++ ended (runs_words core runs)

-- its line, its number, and what it runs
abbrev pub column_at : Core → ℕ → ℕ → Column → List ℕ
column_at core height x column = life_text height x ++ head_text x column.process ++ runs_text core x column.runs

unfoldable pub column_text : Core → ℕ → List Column → Column → List ℕ
column_text core height columns column = column_at core height (x_of columns column.process) column

-- ---- a link

abbrev pub arrow_class : Bool → List ℕ
arrow_class true = codes "made"
arrow_class false = codes "after"

unfoldable pub spot_words : List ℕ → Spot → List ℕ
spot_words before spot = numbered before spot.x ++ numbered (codes " ") spot.y

unfoldable pub path_words : Spot → Spot → List ℕ
path_words from to = spot_words (codes "M") from ++ spot_words (codes "Q") (bend_of from to) ++ spot_words (codes " ") to

unfoldable pub arrow_at : Bool → Spot → Spot → List ℕ
arrow_at begins from to = codes "<path class='" ++ arrow_class begins ++ codes "' d='" ++ path_words from to ++ codes "'/>" ++ 10 ∷ []

unfoldable pub arrow_text : List Column → List Traced → Arrow → List ℕ
arrow_text columns rows arrow = arrow_at arrow.begins (spot_of columns rows arrow.from) (spot_of columns rows arrow.to)

-- ---- an item

unfoldable pub circle_text : ℕ → ℕ → List ℕ
circle_text x y = numbered (codes "<circle r='4' cx='") x ++ closed (codes "' cy='") y

-- its number, from 1, and what it does
unfoldable pub label_text : Core → Spot → Traced → List ℕ
label_text core spot row =
    numbered (codes "<text class='act' x='") (spot.x + 6) ++ numbered (codes "' y='") (spot.y - 6) ++ numbered (codes "'><tspan>") (row.item + 1)
    ++ codes "</tspan> " ++ ended (deed_words core row.act row.subject)

-- the words of a title, and its end
unfoldable pub titled : List ℕ → List ℕ
titled words = escaped words ++ codes "</title>"

-- its line of the trace, which is shown where one points at it
unfoldable pub title_text : Core → List (List ℕ) → Traced → List ℕ
title_text core names row = codes "<g><title>" ++ titled (line_words core names row)

unfoldable pub mark_at : Core → List (List ℕ) → Spot → Traced → List ℕ
mark_at core names spot row = title_text core names row ++ circle_text spot.x spot.y ++ label_text core spot row ++ codes "</g>" ++ 10 ∷ []

unfoldable pub mark_text : Core → List (List ℕ) → List Column → List Traced → Traced → List ℕ
mark_text core names columns rows row = mark_at core names (spot_of columns rows row.item) row
