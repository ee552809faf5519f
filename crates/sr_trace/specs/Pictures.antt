-- The picture of a trace.
use Rattle.std.specs.Prelude.{ℕ, Bool, ◌||◌, ◌++◌, ◌∷◌, [], List, Option, Some, None, codes, flat_map, if◌then◌else◌, length, nat_lt}
use Rattle.sr_core.specs.declared.component.Core.{Core}
use Rattle.sr_trace.specs.Drawing.{arrow_text, column_text, height_of, mark_text, numbered, width_of}
use Rattle.sr_trace.specs.Shown.{arrows, columns_of, shown}
use Rattle.sr_trace.specs.declared.spot.TheConstants.{MOST_COLUMNS, MOST_ROWS}
use Rattle.sr_trace.specs.declared.shown.Arrow.{Arrow}
use Rattle.sr_trace.specs.declared.shown.Column.{Column}
use Rattle.sr_trace.specs.declared.traced.Traced.{Traced}

-- how the parts look, and the tip of an arrow
unfoldable pub style_text : List ℕ
style_text =
    codes "<style>" ++ 10 ∷
    codes "rect{fill:#fff}" ++ 10 ∷
    codes ".life{stroke:#bbb;stroke-dasharray:4 3}" ++ 10 ∷
    codes ".head{font-size:14px;font-weight:bold;text-anchor:middle}" ++ 10 ∷
    codes ".runs{text-anchor:middle}" ++ 10 ∷
    codes ".made,.after{fill:none;stroke:#b5452c;stroke-width:1.4;marker-end:url(#tip)}" ++ 10 ∷
    codes ".made{stroke:#4a7a3a;stroke-dasharray:6 3}" ++ 10 ∷
    codes "circle{fill:#2c5f8a}" ++ 10 ∷
    codes ".act{stroke:#fff;stroke-width:3;paint-order:stroke}" ++ 10 ∷
    codes ".act tspan{fill:#777}" ++ 10 ∷
    codes "</style>" ++ 10 ∷
    codes "<marker id='tip' viewBox='0 0 10 10' refX='14' refY='5' markerUnits='userSpaceOnUse' markerWidth='10' markerHeight='10' orient='auto'>" ++ 10 ∷
    codes "<path d='M0 1L10 5L0 9z' fill='#444'/></marker>" ++ 10 ∷
    codes "<rect width='100%' height='100%'/>" ++ 10 ∷ []

unfoldable pub size_text : ℕ → ℕ → List ℕ
size_text width height = numbered (codes "<svg xmlns='http://www.w3.org/2000/svg' width='") width ++ numbered (codes "' height='") height

unfoldable pub box_text : ℕ → ℕ → List ℕ
box_text width height = numbered (codes "' viewBox='0 0 ") width ++ numbered (codes " ") height

unfoldable pub sheet_text : ℕ → ℕ → List ℕ
sheet_text width height =
    size_text width height ++ box_text width height ++ (codes "' font-family='sans-serif' font-size='12'>" ++ 10 ∷ []) ++ style_text

-- columns, arrows and items on a sheet
unfoldable pub drawn_with : Core → List (List ℕ) → List Column → List Traced → List Arrow → List ℕ
drawn_with core names columns rows links =
    sheet_text (width_of (length columns)) (height_of (length rows)) ++ flat_map (column_text core (height_of (length rows)) columns) columns
    ++ flat_map (arrow_text columns rows) links ++ flat_map (mark_text core names columns rows) rows ++ codes "</svg>" ++ 10 ∷ []

unfoldable pub picture_on : Core → List (List ℕ) → List Column → List Traced → Option (List ℕ)
picture_on core names columns rows = if nat_lt MOST_COLUMNS (length columns) then None else Some (drawn_with core names columns rows (arrows rows))

-- no picture has more rows than these, or more columns
abbrev pub is_too_large : List Traced → Bool
is_too_large rows = nat_lt MOST_ROWS (length rows) || nat_lt MOST_COLUMNS (length (columns_of rows))

unfoldable pub picture_within : Core → List (List ℕ) → List Traced → Option (List ℕ)
picture_within core names rows = if nat_lt MOST_ROWS (length rows) then None else picture_on core names (columns_of rows) rows

-- the rows that are an end of a link, unless they are too many for a picture
abbrev pub picture_of : Core → List (List ℕ) → List Traced → Option (List ℕ)
picture_of core names rows = picture_within core names (shown rows)
