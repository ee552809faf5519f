-- The digits so far make the number so far, and the others go on from it.
use Rattle.std.proofs.Common.{◌≡◌, ◌<◌, ◌^◌, drop}
use Rattle.sr_literal.specs.Literals.{with_digits}
use Rattle.sr_literal.proofs.number.number_of.Given as goal

abbrev pub invariant-loop-byte : goal.invariant-loop-byte
invariant-loop-byte l = (l.number < 2 ^ 31) × (with_digits l.number (drop l.byte-index l.digits) ≡ with_digits 0 l.digits)
