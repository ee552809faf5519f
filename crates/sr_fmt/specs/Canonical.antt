-- The canonical text of a file.
use Rattle.std.specs.Prelude.{◌≡◌, ℕ, ◌==◌, Bool, List, length}
use Rattle.std.specs.List.{list_any}
use Rattle.sr_value.specs.declared.place.Span.{Span}
use Rattle.sr_tree.specs.declared.component.File.{File}
use Rattle.sr_order.specs.Spans.{statement_spans}
use Rattle.sr_lexer.specs.Separators.{Placed}
use Rattle.sr_lexer.specs.Tokens.{Chain}
use Rattle.sr_fmt.specs.Layout.{layout, first_pen}

-- whether a statement begins at the byte, where these are the first tokens of all statements
abbrev pub begins_at : List Span → ℕ → Bool
begins_at spans at = list_any (λ span. span.from == at) spans

-- the canonical text of pieces, where these are the first tokens of all statements
abbrev pub canonical_text : List Span → List Placed → List ℕ
canonical_text spans pieces = layout (begins_at spans) first_pen pieces

-- the source is a chain of pieces, and the text is theirs
pub record IsCanonical (source : List ℕ) (tree : File) (text : List ℕ) : Type 0 where
  pub pieces : List Placed
  pub chain : Chain 0 source 0 pieces (length source)
  pub told : text ≡ canonical_text (statement_spans tree) pieces
