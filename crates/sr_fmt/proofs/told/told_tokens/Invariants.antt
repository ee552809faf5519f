-- The tokens so far and those of the rest are those of all.
use Rattle.std.proofs.Common.{◌≡◌, ◌++◌, drop}
use Rattle.sr_fmt.specs.Told.{all_told}
use Rattle.sr_fmt.proofs.told.told_tokens.Given as goal

abbrev pub invariant-loop-token : goal.invariant-loop-token
invariant-loop-token l = l.told.items ++ all_told (drop l.token-index l.tokens) ≡ all_told l.tokens
