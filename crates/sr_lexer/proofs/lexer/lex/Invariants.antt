-- The pieces so far are a chain up to the present byte, and the reader has read them.
use Rattle.std.proofs.Common.{◌≡◌, ◌-◌, ◌≤◌, List, length}
use Rattle.sr_text.specs.Lines.{line_at}
use Rattle.sr_lexer.specs.Separators.{Placed}
use Rattle.sr_lexer.specs.Reading.{Tracks}
use Rattle.sr_lexer.specs.Tokens.{Chain}
use Rattle.sr_lexer.proofs.lexer.lex.Given as goal

abbrev pub decreases-loop-at : goal.decreases-loop-at
decreases-loop-at l = length l.bytes - l.at

abbrev pub invariant-loop-at : goal.invariant-loop-at
invariant-loop-at l = record {
  pieces : List Placed;
  chain : Chain l.file l.bytes 0 pieces l.at;
  tracks : Tracks pieces l.reader;
  within : l.at ≤ length l.bytes;
  line : l.line ≡ line_at l.bytes l.at;
  shallow : l.reader.depth ≤ l.at;
}
