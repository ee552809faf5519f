-- What the walk over a source is given, and what it writes.
use Rattle.std.specs.Prelude.{◌≡◌, ℕ, Bool, List, ◌++◌, length}
use Rattle.sr_lexer.specs.Separators.{Placed}
use Rattle.sr_lexer.specs.Tokens.{Chain}
use Rattle.sr_fmt.specs.declared.printer.Printer.{Printer}
use Rattle.sr_fmt.specs.declared.told.Told.{Told}
use Rattle.sr_fmt.specs.Layout.{layout, line_end, first_pen}
use Rattle.sr_fmt.specs.Marks.{marked}
use Rattle.sr_fmt.specs.Told.{told_in}

-- the source is a chain of pieces, and these are the tokens among them
pub record IsToldOf (source : List ℕ) (told : List Told) : Type 0 where
  pub pieces : List Placed
  pub chain : Chain 0 source 0 pieces (length source)
  pub all : told ≡ told_in pieces

-- the source is a chain of pieces, and what is written ends as their text
pub record Prints (source : List ℕ) (marks : List Bool) (printer : Printer) : Type 0 where
  pub pieces : List Placed
  pub chain : Chain 0 source 0 pieces (length source)
  pub text : printer.text ++ (line_end printer.pen.last ++ printer.pen.held) ≡ layout (marked marks) first_pen pieces
