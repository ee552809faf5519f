-- The lines of a trace: for each item its number, its process and what that runs, what it does, from which items it is
-- linked, and where its process asks. Items are counted from 0, and shown from 1.
use Rattle.std.specs.Prelude.{ℕ, List, [], ◌∷◌, ◌++◌, ◌+◌, codes, flat_map, Option, Some, None, slice_index_or}
use Rattle.std.specs.Fmt.{decimal}
use Rattle.sr_core.specs.declared.component.Core.{Core}
use Rattle.sr_value.specs.declared.place.Place.{Place}
use Rattle.sr_trace.specs.Words.{deed_words, runs_words}
use Rattle.sr_trace.specs.declared.traced.Runs.{Runs}
use Rattle.sr_trace.specs.declared.traced.Traced.{Traced}

unfoldable pub runner_words : Core → ℕ → ℕ → Runs → List ℕ
runner_words core item process runs = decimal (item + 1) ++ 32 ∷ decimal process ++ 32 ∷ runs_words core runs ++ 32 ∷ []

abbrev pub link_words : List ℕ → Option ℕ → List ℕ
link_words name None = []
link_words name (Some item) = name ++ decimal (item + 1)

abbrev pub file_name : List (List ℕ) → ℕ → List ℕ
file_name names file = slice_index_or names file []

abbrev pub place_words : List (List ℕ) → Option Place → List ℕ
place_words names None = []
place_words names (Some place) = codes " at " ++ file_name names place.file ++ 58 ∷ decimal place.line

unfoldable pub line_words : Core → List (List ℕ) → Traced → List ℕ
line_words core names row =
    runner_words core row.item row.process row.runs ++ deed_words core row.act row.subject ++ link_words (codes " begun by ") row.begun_by
    ++ link_words (codes " after ") row.after ++ place_words names row.place

unfoldable pub trace_line : Core → List (List ℕ) → Traced → List ℕ
trace_line core names row = line_words core names row ++ 10 ∷ []

abbrev pub trace_text : Core → List (List ℕ) → List Traced → List ℕ
trace_text core names rows = flat_map (trace_line core names) rows
