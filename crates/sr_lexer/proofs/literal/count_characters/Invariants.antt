-- The characters so far and those of what is left are all of them.
use Rattle.std.proofs.Common.{◌≡◌, ◌+◌, ◌≤◌, false, drop, length}
use Rattle.std.proofs.Common.{filter}
use Rattle.sr_lexer.specs.Literals.{marked, begins_character}
use Rattle.sr_lexer.proofs.literal.count_characters.Given as goal

abbrev pub invariant-loop-byte : goal.invariant-loop-byte
invariant-loop-byte l = (l.count ≤ l.byte-index) × (l.count + length (filter begins_character (marked l.escaped (drop l.byte-index l.inner))) ≡ length (filter begins_character (marked false l.inner)))
