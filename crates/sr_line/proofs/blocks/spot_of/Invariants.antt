use Rattle.std.proofs.Common.{◌≡◌, ◌+◌, length, take}
use Rattle.sr_line.specs.Lines.{joined}
use Rattle.sr_line.proofs.blocks.spot_of.Given as goal

abbrev pub invariant-loop-block : goal.invariant-loop-block
invariant-loop-block g l = length (joined (take l.block l.blocks.items)) + l.left ≡ l.place
