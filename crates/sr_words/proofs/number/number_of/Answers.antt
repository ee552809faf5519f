-- The number that the loop made is that of all digits.
use Rattle.std.proofs.Common.{arith}
use Rattle.std.proofs.lemmas.Grind.{common_steps}
use Rattle.sr_words.proofs.Digits.{all_digits}
use Rattle.sr_words.proofs.number.number_of.Goals as goal

pub returns : goal.returns
returns c = let all = all_digits c.args.word.now in grind (arith, common_steps, all, c.loop-byte.invariant)
