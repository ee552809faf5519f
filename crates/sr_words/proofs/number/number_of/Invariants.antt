-- The digits so far make the number so far, and the others go on from it.
use Rattle.std.proofs.Common.{◌≡◌, ◌<◌, ◌^◌, drop}
use Rattle.sr_words.proofs.Digits.{number_from}
use Rattle.sr_words.proofs.number.number_of.Given as goal

abbrev pub invariant-loop-byte : goal.invariant-loop-byte
invariant-loop-byte l = (l.number < 10 ^ l.byte-index) × (number_from l.number (drop l.byte-index l.word) ≡ number_from 0 l.word)
