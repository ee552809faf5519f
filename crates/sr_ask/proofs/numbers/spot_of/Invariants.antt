use Rattle.std.proofs.Common.{◌≡◌, ◌+◌, length, take}
use Rattle.sr_ask.specs.Numbers.{joined}
use Rattle.sr_ask.proofs.numbers.spot_of.Given as goal

abbrev pub invariant-loop-block : goal.invariant-loop-block
invariant-loop-block l = length (joined (take l.block l.blocks)) + l.left ≡ l.at
