-- The bytes before and what is left of the quoted ones are all of them.
use Rattle.std.proofs.Common.{◌≡◌, ◌+◌, false, drop}
use Rattle.std.specs.List.{prefix_len}
use Rattle.sr_lexer.specs.Literals.{is_inside, marked}
use Rattle.sr_lexer.proofs.literal.len_of_quoted.Given as goal

abbrev pub invariant-loop-at : goal.invariant-loop-at
invariant-loop-at l = l.at + prefix_len (is_inside l.quote) (marked l.escaped (drop l.at l.rest)) ≡ prefix_len (is_inside l.quote) (marked false l.rest)
