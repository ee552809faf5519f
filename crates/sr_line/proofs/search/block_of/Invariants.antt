use Rattle.std.proofs.Common.{◌≡◌, length, take}
use Rattle.sr_line.specs.Lines.{AllLesser, joined}
use Rattle.sr_line.proofs.search.block_of.Given as goal

abbrev pub invariant-loop-block : goal.invariant-loop-block
invariant-loop-block g l = (length (joined (take l.block l.blocks.items)) ≡ l.before) × AllLesser g.T.HasNumber.number_of (joined l.blocks.items) l.before l.number
