-- it is the first of the crowds so far
use Rattle.std.proofs.Common.{take}
use Rattle.sr_plain.specs.Waiting.{IsFirst, is_open}
use Rattle.sr_plain.proofs.crowd.first_open.Given as goal

abbrev pub invariant-loop-crowd : goal.invariant-loop-crowd
invariant-loop-crowd l = IsFirst (is_open (take l.crowd-index l.crowds)) l.least
