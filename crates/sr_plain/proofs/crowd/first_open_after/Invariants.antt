-- it is the first of the crowds so far
use Rattle.std.proofs.Common.{◌&&◌, take}
use Rattle.std.specs.Prelude.{nat_lt}
use Rattle.sr_plain.specs.Waiting.{IsFirst, is_open}
use Rattle.sr_plain.proofs.crowd.first_open_after.Given as goal

abbrev pub invariant-loop-crowd : goal.invariant-loop-crowd
invariant-loop-crowd l = IsFirst (λ q. nat_lt l.last q && is_open (take l.crowd-index l.crowds) q) l.least
