-- The lines so far were looked along.
use Rattle.std.proofs.Common.{take}
use Rattle.sr_races.specs.Marks.{LooksAmong}
use Rattle.sr_races.proofs.marks.look_among.Given as goal

abbrev pub invariant-loop-line : goal.invariant-loop-line
invariant-loop-line l = LooksAmong l.clocks l.second (take l.line-index l.lines) l.fn.found l.found
