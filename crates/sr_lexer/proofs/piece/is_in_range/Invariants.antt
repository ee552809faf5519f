-- The number so far is that of the digits so far, and not over the greatest.
use Rattle.std.proofs.Common.{◌≡◌, ◌≤◌, take}
use Rattle.sr_lexer.specs.Pieces.{number_of}
use Rattle.sr_lexer.proofs.piece.is_in_range.Given as goal

abbrev pub invariant-loop-digit : goal.invariant-loop-digit
invariant-loop-digit l = (l.number ≡ number_of (take l.digit-index l.digits)) × (l.number ≤ 2147483647)
