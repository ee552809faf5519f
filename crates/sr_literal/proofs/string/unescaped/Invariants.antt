-- The text so far and what the other bytes mean are what all of them mean.
use Rattle.std.proofs.Common.{◌≡◌, ◌++◌, drop, false}
use Rattle.sr_literal.specs.Literals.{meant}
use Rattle.sr_literal.proofs.string.unescaped.Given as goal

abbrev pub invariant-loop-byte : goal.invariant-loop-byte
invariant-loop-byte l = l.text ++ meant l.escaped (drop l.byte-index l.bytes) ≡ meant false l.bytes
