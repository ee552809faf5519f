-- The lines of a text.
use Rattle.std.specs.Prelude.{ℕ, ◌+◌, ◌==◌, List, [], count_by, take, slice_index_or}

-- the content of a file, by its number
abbrev pub content_of : List (List ℕ) → ℕ → List ℕ
content_of contents file = slice_index_or contents file []

-- the line of a place is one more than the newlines before it
abbrev pub line_at : List ℕ → ℕ → ℕ
line_at content at = count_by (λ byte. byte == 10) (take at content) + 1
