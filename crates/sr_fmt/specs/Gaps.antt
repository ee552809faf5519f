-- The blanks, newlines and comments between tokens.
use Rattle.std.specs.Prelude.{ℕ, ◌+◌, ◌==◌, nat_eq, Bool, true, false, ◌||◌, not, if◌then◌else◌, List, [], ◌∷◌, ◌++◌, drop, slice_index, Option, Some, None, codes}
use Rattle.std.specs.List.{starts_with}
use Rattle.sr_lexer.specs.Bytes.{is_blank}
use Rattle.sr_lexer.specs.Pieces.{run_len, close_of}
use Rattle.sr_fmt.specs.declared.gap.Gap.{Gap}
use Rattle.sr_fmt.specs.declared.pen.Pen.{Pen}

abbrev pub gap : Bool → ℕ → Option Gap
gap is_comment len = Some (record { is_comment = is_comment; len = len })

-- a comment up to the first `*/`, of which these are the bytes after `/*`
abbrev pub closed_gap : Option ℕ → Option Gap
closed_gap None = None
closed_gap (Some at) = gap true (at + 4)

-- a comment up to the end of the line, or one up to `*/`
abbrev pub comment_at : List ℕ → Option Gap
comment_at bytes =
    if slice_index bytes 0 == 35 then gap true (run_len (λ byte. not (byte == 10)) (drop 1 bytes) + 1)
    else (if starts_with nat_eq bytes (codes "/*") then closed_gap (close_of (drop 2 bytes)) else None)

-- a blank, a newline or a comment
abbrev pub gap_at : List ℕ → Option Gap
gap_at bytes = if is_blank (slice_index bytes 0) || slice_index bytes 0 == 10 then gap false 1 else comment_at bytes

-- after a gap: a comment waits until a line begins
abbrev pub pen_past : Bool → Pen → List ℕ → Pen
pen_past true pen text = record pen { held = pen.held ++ text ++ 10 ∷ [] }
pen_past false pen text = pen
