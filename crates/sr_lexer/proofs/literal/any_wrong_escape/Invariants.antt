-- A wrong escape of all is one of what is left.
use Rattle.std.proofs.Common.{◌≡◌, false, drop}
use Rattle.std.specs.List.{list_any}
use Rattle.sr_lexer.specs.Literals.{marked, is_wrong_escape}
use Rattle.sr_lexer.proofs.literal.any_wrong_escape.Given as goal

abbrev pub invariant-loop-byte : goal.invariant-loop-byte
invariant-loop-byte l = list_any is_wrong_escape (marked l.escaped (drop l.byte-index l.inner)) ≡ list_any is_wrong_escape (marked false l.inner)
